-- Family by family.
use Rattle.std.proofs.Common.{◌≡◌, sym, ◌∙◌, ap, subst, refl, ℕ, [], ◌∷◌, ◌+◌, ◌*◌, ◌<◌, ◌≤◌, length, length-append, get_or, map, rules, arith}
use Rattle.irr_algebra.specs.Fin.{Fin, to_nat}
use Rattle.irr_algebra.proofs.Indices.{to_nat-lt}
use Rattle.irr_mult.proofs.StarFacts.{pushed}
use Rattle.irr_rep.specs.Twisted.{phase_table}
use Rattle.irr_site.specs.Families.{AreFamilyParts}
use Rattle.irr_site.specs.FamilyParts.{IsInducedPart}
use Rattle.irr_site.specs.Traces.{AreSumsOf}
use Rattle.irr_site.specs.declared.part.SiteParts.{SiteParts}
use Rattle.irr_site.proofs.FrameCalls.{asked_family, asked_fit, asked_row, few_rows_here, made_part, parts_so_far}
use Rattle.irr_site.proofs.Parts.{label_below}
use Rattle.irr_site.proofs.listing.induced_parts.Goals as goal

pub traces-requires-clause-row : goal.traces-requires-clause-row
traces-requires-clause-row g c =
    let l : c.loop-i.i < length c.args.characters.now = search rules in
    asked_row c.requires.frame.3 c.loop-i.i l c.index-characters-i.result c.index-characters-i.is c.as_slice.result.now c.as_slice.ensures.value

pub traces-requires-clause-fit : goal.traces-requires-clause-fit
traces-requires-clause-fit g c =
    let l : c.loop-i.i < length c.args.characters.now = search rules in
    asked_fit c.requires.frame.3 c.loop-i.i l c.index-characters-i.result c.index-characters-i.is c.as_slice.result.now c.as_slice.ensures.value

pub parts_of-requires : goal.parts_of-requires
parts_of-requires g c =
    let l : c.loop-i.i < length c.args.characters.now = search rules in
    let f = c.requires.frame.3 in
    let n = c.args.order.now.n in
    let value = g.S.Scalar.value in
    asked_family f c.loop-i.i l c.index-characters-i.result c.index-characters-i.is c.as_slice.result.now c.as_slice.ensures.value
    c.as_slice-in-loop-i.result.now
    (subst (AreSumsOf g.S.Scalar.order_of value n (λ j. map (value n) c.as_slice.result.now) c.args.rows.now)
    (sym c.as_slice-in-loop-i.ensures.value) c.in_ok-traces.ensures)

pub overflow_mul-dim : goal.overflow_mul-dim
overflow_mul-dim g c =
    let l : c.loop-i.i < length c.args.characters.now = search rules in
    let r = few_rows_here c.requires.frame.3 c.loop-i.i l c.index-characters-i.result c.index-characters-i.is
    c.as_slice.result.now c.as_slice.ensures.value in
    omega (arith, r)

pub loop-i-preserved : goal.loop-i-preserved
loop-i-preserved g c =
    let n = c.args.order.now.n in
    let value = g.S.Scalar.value in
    let i = c.loop-i.i in
    let l : c.loop-i.i < length c.args.characters.now = search rules in
    let y = c.index-characters-i.result in
    let row = c.as_slice.result.now in
    let xs = c.as_slice-in-loop-i.result.now in (
      ap length c.in_ok-push.ensures.items ∙ length-append c.loop-i.induced.items (_ ∷ []) ∙ ap (λ m. m + 1) c.loop-i.invariant.0,
      λ group x k f. parts_so_far f c.loop-i.induced.items c.push.new.self.items _ i c.loop-i.invariant.0 c.in_ok-push.ensures.items
          (c.loop-i.invariant.1 group x k f)
          (made_part f i l y c.index-characters-i.is row c.as_slice.ensures.value xs
          (subst (AreSumsOf g.S.Scalar.order_of value n (λ j. map (value n) row) c.args.rows.now)
          (sym c.as_slice-in-loop-i.ensures.value) c.in_ok-traces.ensures) _ refl refl c.in_ok-parts.ensures),
    )

pub returns : goal.returns
returns g c group x k f =
    let done : c.loop-i.i ≡ length c.args.characters.now = search rules in
    let all = done ∙ f.characters.count in
    record {
      count = c.loop-i.invariant.0 ∙ all;
      each = λ m e. c.loop-i.invariant.1 group x k f m e (subst (λ j. to_nat m < j) (sym all) (to_nat-lt m));
    }
