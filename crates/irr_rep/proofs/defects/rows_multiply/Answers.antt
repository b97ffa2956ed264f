-- One row more.
use Rattle.std.proofs.Common.{◌≡◌, ◌<◌, sym, ◌∙◌, ap, subst, inl, inr, false, true, get_or, slice_index, length, Contains}
use Rattle.std.proofs.lemmas.List.{get_or_default}
use Rattle.std.proofs.lemmas.List.Elements.{All-get_or}
use Rattle.irr_algebra.specs.Fin.{Fin, to_nat}
use Rattle.irr_algebra.proofs.Indices.{from_nat, to_nat-from_nat}
use Rattle.irr_rep.specs.Defects.{MultipliesBy}
use Rattle.irr_rep.specs.Twisted.{place_count, phase_table}
use Rattle.irr_rep.proofs.WrongPairs.{before_next, failed, passed}
use Rattle.irr_rep.proofs.defects.rows_multiply.Goals as goal

pub returns-then-is_some : goal.returns-then-is_some
returns-then-is_some g c p =
    let f = c.args.f.now in
    let T = phase_table c.args.t.now in
    let h = place_count c.args.t.now in
    let places = c.args.places.now in
    let k = c.loop-i.i-index in
    let within : k < length places = c.loop-i-test.true in
    let below : slice_index places k < h = All-get_or (λ i. i < h) places k 0 within c.requires.below in
    let a : Fin h = from_nat h (slice_index places k) below in
    let at : to_nat a ≡ slice_index places k = to_nat-from_nat h (slice_index places k) below in
    let inside : Contains places (to_nat a) =
    subst (Contains places) (sym at) (k, within, get_or_default places k (slice_index places k) 0 within) in (
      λ t. absurd (let e : false ≡ true = t in cc),
      λ all. absurd (failed (MultipliesBy T p.n p.divides f.dim f.mats.items c.args.number a) c.in_ok-first_wrong.field-0 c.if-is_some.ensures
          (c.in_ok-first_wrong.ensures p a at) (λ b. all a b inside)),
    )

pub loop-i-preserved : goal.loop-i-preserved
loop-i-preserved g c p a b k l e =
    let f = c.args.f.now in
    elim (before_next k c.loop-i.i-index l) [
      | inl less ↦ c.loop-i.invariant p a b k less e
      | inr same ↦ passed (MultipliesBy (phase_table c.args.t.now) p.n p.divides f.dim f.mats.items c.args.number a) c.in_ok-first_wrong.field-0
          c.if-is_some.ensures
          (c.in_ok-first_wrong.ensures p a (e ∙ ap (λ v. get_or c.args.places.now v 0) same)) b
    ]
