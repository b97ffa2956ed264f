-- Powers of a rotation, one after the other.
--   power-one, power-suc      the first power, and the next
--   unit_rotation             the unit as nine numbers
--   first_unit                the first power that is the unit
--   none_more                 no power up to n is the unit
use Rattle.std.proofs.Common.{◌≡◌, sym, refl, ◌∙◌, ap, ℕ, suc, ◌+◌, ◌<◌, inl, inr, [], ◌∷◌, pos, arith}
use Rattle.std.proofs.lemmas.Bool.{cases_lt}
use Rattle.irr_algebra.specs.Sum.{delta}
use Rattle.irr_algebra.specs.Matrix.{◌·◌, unit}
use Rattle.irr_algebra.proofs.Matrices.{mul-unit}
use Rattle.irr_number.specs.Integers.{integers}
use Rattle.irr_theory.specs.Extension.{matrix_power}
use Rattle.irr_space.specs.Operation.{Rotation}
use Rattle.irr_seitz.specs.Rotation.{rotation_of}
use Rattle.irr_seitz.specs.FiniteOrder.{IsFiniteOrder}
use Rattle.irr_seitz.proofs.Rotations.{rotation_of-list}

pub power-one : (R : Rotation) → matrix_power R 1 ≡ R
unfolding matrix_power
power-one R = mul-unit R

pub power-suc : (R : Rotation) (n : ℕ) → matrix_power R (n + 1) ≡ R · matrix_power R n
unfolding matrix_power
power-suc R n = let e : n + 1 ≡ suc n = omega arith in ap (matrix_power R) e

pub unit_rotation : rotation_of ((pos 1 ∷ pos 0 ∷ pos 0 ∷ []) ∷ (pos 0 ∷ pos 1 ∷ pos 0 ∷ []) ∷ (pos 0 ∷ pos 0 ∷ pos 1 ∷ []) ∷ []) ≡ unit integers 3
unfolding unit delta
unit_rotation = rotation_of-list ((pos 1 ∷ pos 0 ∷ pos 0 ∷ []) ∷ (pos 0 ∷ pos 1 ∷ pos 0 ∷ []) ∷ (pos 0 ∷ pos 0 ∷ pos 1 ∷ []) ∷ []) (unit integers 3) refl refl refl refl refl refl refl refl refl

pub first_unit : (R S : Rotation) (n : ℕ) → 0 < n → S ≡ matrix_power R n → S ≡ unit integers 3 → ((k : ℕ) → 0 < k → k < n → ¬ (matrix_power R k ≡ unit integers 3)) → IsFiniteOrder R n
first_unit R S n h e f none = record { positive = h; power = sym e ∙ f; least = none }

pub none_more : (R S : Rotation) (n : ℕ) → S ≡ matrix_power R n → ¬ (S ≡ unit integers 3) → ((k : ℕ) → 0 < k → k < n → ¬ (matrix_power R k ≡ unit integers 3))
    → (k : ℕ) → 0 < k → k < n + 1 → ¬ (matrix_power R k ≡ unit integers 3)
none_more R S n e g none k p l u = elim (cases_lt k n) [
  | inl less ↦ none k p less u
  | inr ge ↦ (let same : n ≡ k = omega arith in g (e ∙ ap (matrix_power R) same ∙ u))
]
