-- What is wrong first in a representation.
use Rattle.std.proofs.Common.{rules, sym, ◌≡◌, subst, ℕ, Some, None, Option}
use Rattle.irr_algebra.specs.Action.{HasDimension}
use Rattle.irr_algebra.specs.Fin.{Fin, to_nat}
use Rattle.irr_number.proofs.NumberField.{number_field}
use Rattle.irr_rep.specs.declared.family.Defect.{Defect}
use Rattle.irr_rep.specs.Defects.{IsFirstDefect, IsFirstFailure}
use Rattle.irr_algebra.specs.Matrix.{trace}
use Rattle.irr_rep.specs.Family.{matrix_at}
use Rattle.irr_report.specs.Content.{number_at}
use Rattle.irr_rep.specs.Twisted.{phase_table, place_count}
use Rattle.irr_char.specs.Characters.{IsRowOf, IsSmallRow}
use Rattle.irr_cyc.specs.declared.scalars.Scalar.{Ghosts}
use Rattle.irr_report.specs.declared.report.RepText.{RepText}
use Rattle.irr_space.specs.PhaseTable.{PhaseTable}
use Rattle.irr_check.specs.Faults.{HasTrace, IsFirstFault, IsSmall, own}
use Rattle.irr_report.specs.Limits.{IsLimitedRow}
use Rattle.irr_check.specs.declared.fault.Fault.TheVariants.{Defect as not_small}
use Rattle.irr_check.proofs.FamilyFacts.{characters_of, checkable, dimension_unique, family_of, own_row, own_shape, small_traces, traces_fit}
use Rattle.irr_check.proofs.fault.first_fault.Goals as goal

-- no defect
small_of : {S : Type 0} {G : Ghosts S} {h : ℕ} (T : PhaseTable h) (t : RepText S G) (r : Option Defect) → r ≡ None
    → IsFirstDefect T T.order (own T) t.family.dim t.family.mats.items r → IsSmall T t
unfolding IsFirstDefect
small_of T t r e d = subst (IsFirstDefect T T.order (own T) t.family.dim t.family.mats.items) e d

-- some defect
defect_of : {S : Type 0} {G : Ghosts S} {h : ℕ} (T : PhaseTable h) (t : RepText S G) (r : Option Defect) (d : Defect) → r ≡ Some d
    → IsFirstDefect T T.order (own T) t.family.dim t.family.mats.items r → IsFirstFault T t (Some (not_small d))
unfolding IsFirstFault
defect_of T t r d e p = subst (IsFirstDefect T T.order (own T) t.family.dim t.family.mats.items) e p

-- all characters are traces
traces_of : {h : ℕ} (P : Fin h → Type 0) (r : Option ℕ) → r ≡ None → IsFirstFailure P r → (i : Fin h) → P i
unfolding IsFirstFailure
traces_of P r e f = subst (IsFirstFailure P) e f

pub first_defect-requires : goal.first_defect-requires
first_defect-requires g c = checkable (phase_table c.args.t.now) c.args.rep.now c.requires.checked

pub returns-in-Some : goal.returns-in-Some
returns-in-Some g c = defect_of (phase_table c.args.t.now) c.args.rep.now c.in_ok-defect.field-0 c.in-Some.defect c.in-Some.is
    (c.in_ok-defect.ensures (checkable (phase_table c.args.t.now) c.args.rep.now c.requires.checked))

pub character-requires-clause-shape : goal.character-requires-clause-shape
character-requires-clause-shape g c = ((phase_table c.args.t.now).order, own_shape (phase_table c.args.t.now) c.args.rep.now c.requires.checked)

pub character-requires-clause-sizes : goal.character-requires-clause-sizes
character-requires-clause-sizes g c n h shape i = traces_fit (phase_table c.args.t.now) c.args.rep.now c.requires.checked c.requires.within n h shape i

pub first_difference-requires : goal.first_difference-requires
first_difference-requires g c =
    let T = phase_table c.args.t.now in
    let t = c.args.rep.now in
    let order = g.S.Scalar.order_of in
    let value = g.S.Scalar.value in
    let small = small_of T t c.in_ok-defect.field-0 c.in_default.is (c.in_ok-defect.ensures (checkable T t c.requires.checked)) in
    let row = c.in_ok-traces.ensures T.order (place_count c.args.t.now) c.requires.checked.family.shape in (
      T.order,
      place_count c.args.t.now,
      c.requires.checked.denominator,
      subst (IsSmallRow order value T.order (place_count c.args.t.now)) (sym c.deref.ensures.value)
          (small_traces T t c.requires.checked small c.in_ok-traces.traces.items row),
      subst (IsLimitedRow order value T.order (place_count c.args.t.now) c.requires.checked.denominator) (sym c.deref-2.ensures.value) c.requires.checked.row,
      c.requires.checked.family.limited,
      c.args.t.now.places_within,
    )

pub returns-in-Some-first_difference : goal.returns-in-Some-first_difference
unfolding IsFirstFault
returns-in-Some-first_difference g c =
    let T = phase_table c.args.t.now in
    let t = c.args.rep.now in
    let h = place_count c.args.t.now in
    let order = g.S.Scalar.order_of in
    let value = g.S.Scalar.value in
    let row = c.in_ok-traces.ensures T.order h c.requires.checked.family.shape in (
      small_of T t c.in_ok-defect.field-0 c.in_default.is (c.in_ok-defect.ensures (checkable T t c.requires.checked)),
      subst (IsFirstFailure (HasTrace T t)) c.in-Some-first_difference.is
          (c.first_difference.ensures T.order h (λ (i : Fin h). trace (matrix_at T.order t.family.dim t.family.mats.items i))
          (λ (i : Fin h). number_at value T.order t.chars.items (to_nat i))
          (subst (IsRowOf order value T.order (λ (i : Fin h). trace (matrix_at T.order t.family.dim t.family.mats.items i))) (sym c.deref.ensures.value) row)
          (subst (IsRowOf order value T.order (λ (i : Fin h). number_at value T.order t.chars.items (to_nat i))) (sym c.deref-2.ensures.value)
          (own_row T t c.requires.checked))),
    )

pub average-requires : goal.average-requires
average-requires g c =
    let T = phase_table c.args.t.now in
    let t = c.args.rep.now in
    let h = place_count c.args.t.now in
    let order = g.S.Scalar.order_of in
    let value = g.S.Scalar.value in
    let row = c.in_ok-traces.ensures T.order h c.requires.checked.family.shape in
    let small = small_of T t c.in_ok-defect.field-0 c.in_default.is (c.in_ok-defect.ensures (checkable T t c.requires.checked)) in
    let traces : (i : Fin h) → HasTrace T t i = traces_of (HasTrace T t) c.first_difference.result c.in_default-first_difference.is
    (c.first_difference.ensures T.order h (λ (i : Fin h). trace (matrix_at T.order t.family.dim t.family.mats.items i))
    (λ (i : Fin h). number_at value T.order t.chars.items (to_nat i))
    (subst (IsRowOf order value T.order (λ (i : Fin h). trace (matrix_at T.order t.family.dim t.family.mats.items i))) (sym c.deref.ensures.value) row)
    (subst (IsRowOf order value T.order (λ (i : Fin h). number_at value T.order t.chars.items (to_nat i))) (sym c.deref-2.ensures.value)
    (own_row T t c.requires.checked))) in
    characters_of T t t c.requires.checked c.requires.checked small small traces traces c.deref-3.result.now c.deref-4.result.now
    c.deref-3.ensures.value c.deref-4.ensures.value

pub returns-then-branch-ne1 : goal.returns-then-branch-ne1
unfolding IsFirstFault
returns-then-branch-ne1 g c =
    let T = phase_table c.args.t.now in
    let t = c.args.rep.now in
    let h = place_count c.args.t.now in
    let order = g.S.Scalar.order_of in
    let value = g.S.Scalar.value in
    let row = c.in_ok-traces.ensures T.order h c.requires.checked.family.shape in
    let small = small_of T t c.in_ok-defect.field-0 c.in_default.is (c.in_ok-defect.ensures (checkable T t c.requires.checked)) in
    let traces : (i : Fin h) → HasTrace T t i = traces_of (HasTrace T t) c.first_difference.result c.in_default-first_difference.is
    (c.first_difference.ensures T.order h (λ (i : Fin h). trace (matrix_at T.order t.family.dim t.family.mats.items i))
    (λ (i : Fin h). number_at value T.order t.chars.items (to_nat i))
    (subst (IsRowOf order value T.order (λ (i : Fin h). trace (matrix_at T.order t.family.dim t.family.mats.items i))) (sym c.deref.ensures.value) row)
    (subst (IsRowOf order value T.order (λ (i : Fin h). number_at value T.order t.chars.items (to_nat i))) (sym c.deref-2.ensures.value)
    (own_row T t c.requires.checked))) in
    let d = c.in_ok-average.ensures (characters_of T t t c.requires.checked c.requires.checked small small traces traces c.deref-3.result.now c.deref-4.result.now
    c.deref-3.ensures.value c.deref-4.ensures.value) in
    let other : ¬ (c.in_ok-average.field-0 ≡ 1) = search rules in (
      small,
      traces,
      λ s. other (dimension_unique (number_field T.order T.order_positive) (family_of T t small) (family_of T t small) c.in_ok-average.field-0 1 d s),
    )

pub returns : goal.returns
unfolding IsFirstFault
returns g c =
    let T = phase_table c.args.t.now in
    let t = c.args.rep.now in
    let h = place_count c.args.t.now in
    let order = g.S.Scalar.order_of in
    let value = g.S.Scalar.value in
    let row = c.in_ok-traces.ensures T.order h c.requires.checked.family.shape in
    let small = small_of T t c.in_ok-defect.field-0 c.in_default.is (c.in_ok-defect.ensures (checkable T t c.requires.checked)) in
    let traces : (i : Fin h) → HasTrace T t i = traces_of (HasTrace T t) c.first_difference.result c.in_default-first_difference.is
    (c.first_difference.ensures T.order h (λ (i : Fin h). trace (matrix_at T.order t.family.dim t.family.mats.items i))
    (λ (i : Fin h). number_at value T.order t.chars.items (to_nat i))
    (subst (IsRowOf order value T.order (λ (i : Fin h). trace (matrix_at T.order t.family.dim t.family.mats.items i))) (sym c.deref.ensures.value) row)
    (subst (IsRowOf order value T.order (λ (i : Fin h). number_at value T.order t.chars.items (to_nat i))) (sym c.deref-2.ensures.value)
    (own_row T t c.requires.checked))) in
    let d = c.in_ok-average.ensures (characters_of T t t c.requires.checked c.requires.checked small small traces traces c.deref-3.result.now c.deref-4.result.now
    c.deref-3.ensures.value c.deref-4.ensures.value) in
    let one : c.in_ok-average.field-0 ≡ 1 = search rules in
    record {
      small = small;
      traces = traces;
      simple = subst (HasDimension (λ (i : Fin h). matrix_at T.order t.family.dim t.family.mats.items i)
          (λ (i : Fin h). matrix_at T.order t.family.dim t.family.mats.items i)) one d;
    }
