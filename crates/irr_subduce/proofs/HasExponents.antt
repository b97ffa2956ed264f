-- The exponent of a group of the program.
--   decide_return     whether the powers of all rotations of a list are the unit
--   has_exponent      there is one
use Rattle.std.proofs.Common.{◌≡◌, subst, ◌⊎◌, inl, inr, ℕ, List, length, get_or, ◌<◌}
use Rattle.std.proofs.lemmas.List.Elements.{Contains-get_or}
use Rattle.irr_algebra.specs.Matrix.{unit}
use Rattle.irr_number.specs.Integers.{integers}
use Rattle.irr_theory.specs.Extension.{matrix_power}
use Rattle.irr_space.specs.SpaceGroup.{IsExponent}
use Rattle.irr_seitz.specs.OperationMeaning.{operation}
use Rattle.irr_seitz.specs.declared.op.Op.{Op}
use Rattle.irr_close.specs.Exponent.{Return}
use Rattle.irr_close.specs.StandsFor.{stands_for}
use Rattle.irr_close.specs.declared.group.Group.{Group}
use Rattle.irr_close.proofs.Exponents.{exponent_of, some_return}
use Rattle.irr_close.proofs.Untruncated.{same_or_not}
use Rattle.irr_little.proofs.Spaces.{form_of}
use Rattle.irr_subduce.proofs.Periods.{least_number}
use Rattle.irr_subduce.proofs.ReciprocalTests.{decide_listed}

decide_return : (ops : List Op) → 0 < length ops → (n : ℕ) → Return ops n ⊎ (Return ops n → ⊥)
decide_return ops some n = elim (decide_listed (λ (g : Op). matrix_power (operation g).rotation n ≡ unit integers 3) ops some
    (λ g. same_or_not (matrix_power (operation g).rotation n) (unit integers 3))) [
      | inl all ↦ inl (λ i d l. all (get_or ops i d) (Contains-get_or ops i d l))
      | inr one ↦ inr (λ h. one.2 (subst (λ (g : Op). matrix_power (operation g).rotation n ≡ unit integers 3) one.1.2
          (h one.1.0 one.0 one.1.1)))
    ]

pub has_exponent : (group : Group) → (e : ℕ) × IsExponent (stands_for group) e
unfolding stands_for
has_exponent group =
    let form = form_of group in
    let some = some_return group.ops.items group.centrings.items form in
    let t = least_number (Return group.ops.items) (decide_return group.ops.items form.nonempty) some.0 some.1 some.3 in (
      t.0,
      exponent_of group.ops.items group.centrings.items form t.0 (record { positive = t.1; power = t.2; least = t.3 }),
    )
