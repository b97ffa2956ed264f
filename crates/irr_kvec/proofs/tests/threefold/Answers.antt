use Rattle.std.proofs.Common.{arith, refl, unsigned_abs, ◌≤◌, ℤ, pos, List, [], ◌∷◌, lit≤}
use native.Mathlib.Nat as Nat
use Rattle.irr_algebra.specs.Fin.{Fin, to_nat}
use Rattle.irr_algebra.specs.Fin.Fin.{first, next}
use Rattle.irr_rat.proofs.Vectors.{each_of_three}
use Rattle.irr_seitz.specs.Rotation.{determinant, rotation_of}
use Rattle.irr_kvec.proofs.tests.threefold.Goals as goal

pub invariant_of-result : goal.invariant_of-result
invariant_of-result c = record { lowest = record { positive = omega arith; lowest = λ d v w. Nat.eq-one_of_dvd-one v } }

abbrev rows : List (List ℤ)
rows = (pos 0 ∷ pos 0 ∷ pos 1 ∷ []) ∷ (pos 1 ∷ pos 0 ∷ pos 0 ∷ []) ∷ (pos 0 ∷ pos 1 ∷ pos 0 ∷ []) ∷ []

row_within : (i : Fin 3) → unsigned_abs ((rotation_of rows).at i first) ≤ 9 → unsigned_abs ((rotation_of rows).at i (next first)) ≤ 9 → unsigned_abs ((rotation_of rows).at i (next (next first))) ≤ 9
    → (j : Fin 3) → unsigned_abs ((rotation_of rows).at i j) ≤ 9
row_within i a b c = each_of_three (λ j. unsigned_abs ((rotation_of rows).at i j) ≤ 9) a b c

pub returns-clause-entries : goal.returns-clause-entries
unfolding rotation_of to_nat
returns-clause-entries c = each_of_three (λ i. (j : Fin 3) → unsigned_abs ((rotation_of rows).at i j) ≤ 9)
    (row_within first (lit≤ tt) (lit≤ tt) (lit≤ tt)) (row_within (next first) (lit≤ tt) (lit≤ tt) (lit≤ tt)) (row_within (next (next first)) (lit≤ tt) (lit≤ tt) (lit≤ tt))

pub returns-clause-unimodular : goal.returns-clause-unimodular
unfolding determinant rotation_of to_nat
returns-clause-unimodular c = refl
