-- The traces are a character.
use Rattle.std.proofs.Common.{sym, subst, ◌/◌}
use Rattle.std.proofs.lemmas.Result.{IfOk-weaker}
use Rattle.irr_algebra.specs.Matrix.{trace}
use Rattle.irr_number.specs.Number.{root_power}
use Rattle.irr_char.specs.Characters.{IsRowOf}
use Rattle.irr_rep.specs.Family.{matrix_at}
use Rattle.irr_rep.specs.Twisted.{phase_table, place_count}
use Rattle.irr_root.proofs.FamilyCharacters.{family-character, family-exponents}
use Rattle.irr_root.proofs.eigenvalues.eigen_exponents.Goals as goal

pub exponents_at-requires-clause-character : goal.exponents_at-requires-clause-character
exponents_at-requires-clause-character g c =
    let r = c.requires.representation in
    let d = c.args.f.now.dim in
    let mats = c.args.f.now.mats.items in
    family-character (phase_table c.args.t.now) r.0 r.1 d mats c.requires.few r.3 c.as_slice.result.now
    (subst (IsRowOf {h = place_count c.args.t.now} g.S.Scalar.order_of g.S.Scalar.value r.0 (λ i. trace (matrix_at r.0 d mats i))) (sym c.as_slice.ensures.value)
    (c.in_ok-traces.ensures r.0 (place_count c.args.t.now) r.2))

pub returns : goal.returns
returns g c n v shape rep p e =
    let T = phase_table c.args.t.now in
    let d = c.args.f.now.dim in
    let mats = c.args.f.now.mats.items in
    IfOk-weaker c.exponents_at.result _ _ (λ es k. family-exponents T n v d mats rep T.order (root_power n (n / T.order)) p es.items k)
    (c.exponents_at.ensures (family-character T n v d mats c.requires.few rep c.as_slice.result.now
    (subst (IsRowOf {h = place_count c.args.t.now} g.S.Scalar.order_of g.S.Scalar.value n (λ i. trace (matrix_at n d mats i))) (sym c.as_slice.ensures.value)
    (c.in_ok-traces.ensures n (place_count c.args.t.now) shape))) p e)
