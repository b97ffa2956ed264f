-- The place, and the phase.
use Rattle.std.proofs.Common.{◌≡◌, sym, ◌∙◌, subst, subst₂, ℕ, ◌<◌, ◌≤◌, ◌^◌, pos, List, length, slice_index, Contains, unsigned_abs, arith}
use Rattle.irr_algebra.specs.Matrix.{◌⊖◌}
use Rattle.irr_rational.specs.Integer.{integer}
use Rattle.irr_rational.specs.Rational.{rationals, IsWhole}
use Rattle.irr_rational.specs.Ratio.{entry}
use Rattle.irr_space.specs.Operation.{dot}
use Rattle.irr_space.specs.Reciprocal.{IsPhase}
use Rattle.irr_seitz.specs.OperationMeaning.{AreWithin}
use Rattle.irr_seitz.specs.PhaseMeaning.{sign_of}
use Rattle.irr_seitz.specs.declared.op.Op.{Op}
use Rattle.irr_rep.specs.Twisted.{operation_places}
use Rattle.irr_kvec.specs.WaveMeaning.{wave_vector}
use Rattle.irr_close.proofs.Denominators.{small_numerators}
use Rattle.irr_little.specs.Steps.{IsWholeMultiple}
use Rattle.irr_little.proofs.Shifts.{cell_of, denominator_at}
use Rattle.irr_mult.proofs.StarFacts.{some_operation}
use Rattle.irr_compat.proofs.TurnedPlaces.{multiple_of_point, multiple_of_first, number_of, stands_of, whole_of, read_vector}
use Rattle.irr_compat.proofs.turns.turn_at.Goals as goal

-- a number of an operation, as the program reads it
below_of : (p n : ℕ) (ops items : List Op) → p ≡ n → ops ≡ items → n < length items → p < length ops
below_of p n ops items e f l = subst₂ (λ m (xs : List Op). m < length xs) (sym e) (sym f) l

pub bounds-ops-number : goal.bounds-ops-number
bounds-ops-number c = below_of c.place-number.result (slice_index (operation_places c.args.line.now) c.args.a) c.ops-ops.result.now c.args.group.now.ops.items
    c.place-number.ensures c.ops-ops.ensures.list
    (number_of c.args.group.now c.args.line.now c.args.table.now (wave_vector c.args.first.now) (wave_vector c.args.point.now) c.requires.point (some_operation c.args.group.now) c.args.a c.requires.place)

pub position-place-requires : goal.position-place-requires
position-place-requires c = subst (Contains (operation_places c.args.table.now)) (sym c.place-number.ensures)
    (stands_of c.args.group.now c.args.line.now c.args.table.now (wave_vector c.args.first.now) (wave_vector c.args.point.now) c.requires.point c.index-ops-number.result c.args.a c.requires.place)

pub step_phase-exponent-requires-clause-multiple : goal.step_phase-exponent-requires-clause-multiple
step_phase-exponent-requires-clause-multiple c = subst (λ m. IsWholeMultiple m (wave_vector c.args.point.now)) (sym c.order.ensures.order)
    (multiple_of_point c.args.group.now c.args.line.now c.args.table.now (wave_vector c.args.first.now) (wave_vector c.args.point.now) c.requires.point c.index-ops-number.result)

pub step_phase-exponent-requires-clause-first_multiple : goal.step_phase-exponent-requires-clause-first_multiple
step_phase-exponent-requires-clause-first_multiple c = subst (λ m. IsWholeMultiple m (wave_vector c.args.first.now)) (sym c.order.ensures.order)
    (multiple_of_first c.args.group.now c.args.line.now c.args.table.now (wave_vector c.args.first.now) (wave_vector c.args.point.now) c.requires.point c.index-ops-number.result)

pub step_phase-exponent-requires-clause-whole : goal.step_phase-exponent-requires-clause-whole
step_phase-exponent-requires-clause-whole c = subst₂ (λ m v. IsWhole (rationals.mul (integer rationals (pos m)) (dot (wave_vector c.args.first.now ⊖ wave_vector c.args.point.now) v)))
    (sym c.order.ensures.order)
    (sym (read_vector c.ops-ops.result.now c.args.group.now.ops.items c.place-number.result (slice_index (operation_places c.args.line.now) c.args.a) c.index-ops-number.result
    c.index-ops-number.result c.shift-shift.result
    (subst (λ m. m < length c.args.group.now.ops.items) (sym c.place-number.ensures) (number_of c.args.group.now c.args.line.now c.args.table.now (wave_vector c.args.first.now)
    (wave_vector c.args.point.now) c.requires.point c.index-ops-number.result c.args.a c.requires.place))
    c.ops-ops.ensures.list c.place-number.ensures c.index-ops-number.is c.shift-shift.ensures.num c.shift-shift.ensures.den))
    (whole_of c.args.group.now c.args.line.now c.args.table.now (wave_vector c.args.first.now) (wave_vector c.args.point.now) c.requires.point c.index-ops-number.result c.args.a c.requires.place)

pub step_phase-exponent-requires-clause-numerators : goal.step_phase-exponent-requires-clause-numerators
step_phase-exponent-requires-clause-numerators c = subst (AreWithin (10 ^ 12)) (sym c.shift-shift.ensures.num) (λ i.
    let below = below_of c.place-number.result (slice_index (operation_places c.args.line.now) c.args.a) c.ops-ops.result.now c.args.group.now.ops.items
    c.place-number.ensures c.ops-ops.ensures.list
    (number_of c.args.group.now c.args.line.now c.args.table.now (wave_vector c.args.first.now) (wave_vector c.args.point.now) c.requires.point c.index-ops-number.result c.args.a c.requires.place) in
    let cell = cell_of c.ops-ops.result.now c.args.group.now.centrings.items c.ops-ops.ensures.canonical c.place-number.result c.index-ops-number.result below c.index-ops-number.is in
    let d : c.index-ops-number.result.den ≤ 100000 = denominator_at c.ops-ops.result.now c.args.group.now.centrings.items c.ops-ops.ensures.canonical c.place-number.result c.index-ops-number.result below
    c.index-ops-number.is in
    let s : unsigned_abs (entry c.index-ops-number.result.num i) ≤ c.index-ops-number.result.den = small_numerators c.index-ops-number.result.num c.index-ops-number.result.den
    c.index-ops-number.result.lowest.positive cell i in
    omega (arith, d, s))

pub returns : goal.returns
returns c = record {
  below = c.position-place.ensures.within;
  same = c.position-place.ensures.value ∙ c.place-number.ensures;
  is_phase = λ d. subst₂ (λ m v. IsPhase (sign_of c.args.group.now.phase) m (wave_vector c.args.first.now ⊖ wave_vector c.args.point.now) v c.step_phase-exponent.result)
      c.order.ensures.order
      (read_vector c.ops-ops.result.now c.args.group.now.ops.items c.place-number.result (slice_index (operation_places c.args.line.now) c.args.a) c.index-ops-number.result
      d c.shift-shift.result
      (subst (λ m. m < length c.args.group.now.ops.items) (sym c.place-number.ensures) (number_of c.args.group.now c.args.line.now c.args.table.now (wave_vector c.args.first.now)
      (wave_vector c.args.point.now) c.requires.point d c.args.a c.requires.place))
      c.ops-ops.ensures.list c.place-number.ensures c.index-ops-number.is c.shift-shift.ensures.num c.shift-shift.ensures.den)
      c.step_phase-exponent.ensures;
}
