-- Member by member.
use Rattle.std.proofs.Common.{rules, ◌≡◌, sym, ◌∙◌, ap, ap₂, ℕ, ◌<◌, ◌++◌, List, [], length, arith}
use Rattle.irr_algebra.specs.Fin.{to_nat}
use Rattle.irr_rep.specs.Twisted.{phase_table}
use Rattle.irr_compat.specs.Parts.{part_of}
use Rattle.irr_compat.specs.declared.table.LinePart.{LinePart}
use Rattle.irr_compat.proofs.Gathering.{gathered_none, gathered_step, gathered_all}
use Rattle.irr_compat.proofs.LineParts.{member, member-number, place_few, size_here, characters_here, mult_here}
use Rattle.irr_compat.proofs.line.line_parts.Goals as goal

part_same : (a b c a' b' c' : ℕ) → a ≡ a' → b ≡ b' → c ≡ c' → part_of a b c ≡ part_of a' b' c'
part_same a b c a' b' c' d e f = ap₂ (λ x y. part_of x y c) d e ∙ ap (λ z. part_of a' b' z) f

pub loop-j-init : goal.loop-j-init
loop-j-init g c = λ L are d A few r q dimension. c.new-parts.ensures.items ∙ gathered_none [] (λ j. part_of (to_nat j) (q j) (L.size j))

pub multiplicity-requires : goal.multiplicity-requires
multiplicity-requires g c =
    let r = c.requires in
    let l : c.loop-j.j < length c.args.members.now = search rules in
    characters_here g.S.Scalar.order_of g.S.Scalar.value (phase_table c.args.line.now) r.0 c.args.members.now r.1 c.loop-j.j l c.index-members-j.result c.index-members-j.is
    r.2 r.3 r.4 c.args.row.now r.5 c.as_slice.result.now c.as_slice.ensures.value

pub push_part-requires : goal.push_part-requires
push_part-requires g c =
    let r = c.requires in
    let l : c.loop-j.j < length c.args.members.now = search rules in
    place_few g.S.Scalar.order_of g.S.Scalar.value (phase_table c.args.line.now) r.0 c.args.members.now r.1 c.loop-j.j l c.index-members-j.result c.index-members-j.is

pub loop-j-preserved : goal.loop-j-preserved
loop-j-preserved g c = λ L are d A few r q dimension.
    let order = g.S.Scalar.order_of in
    let value = g.S.Scalar.value in
    let T = phase_table c.args.line.now in
    let l : c.loop-j.j < length c.args.members.now = search rules in
    let x = c.index-members-j.result in
    let is = c.index-members-j.is in
    let own = member order value T L c.args.members.now are c.loop-j.j l x is in
    let number = member-number order value T L c.args.members.now are c.loop-j.j l x is in
    c.in_ok-push_part.ensures
    ∙ ap (λ (ps : List LinePart). c.loop-j.parts.items ++ ps) (part_same c.loop-j.j c.in_ok-mult.mult x.dim (to_nat own) (q own) (L.size own) (sym number)
    (mult_here order value T L c.args.members.now are c.loop-j.j l x is d A few c.args.row.now r c.as_slice.result.now c.as_slice.ensures.value c.in_ok-mult.mult (q own)
    (c.in_ok-mult.ensures (characters_here order value T L c.args.members.now are c.loop-j.j l x is d A few c.args.row.now r c.as_slice.result.now c.as_slice.ensures.value)) (dimension own))
    (size_here order value T L c.args.members.now are c.loop-j.j l x is))
    ∙ gathered_step [] (λ j. part_of (to_nat j) (q j) (L.size j)) c.loop-j.parts.items c.loop-j.j own number (c.loop-j.invariant L are d A few r q dimension)

pub returns : goal.returns
returns g c = λ L are d A few r q dimension.
    let done : c.loop-j.j ≡ length c.args.members.now = search rules in
    gathered_all [] (λ j. part_of (to_nat j) (q j) (L.size j)) c.loop-j.parts.items c.loop-j.j (let s = are.count in omega (arith, done, s)) (c.loop-j.invariant L are d A few r q dimension)
