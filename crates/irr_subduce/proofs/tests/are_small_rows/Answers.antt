-- The rows, one by one.
use Rattle.std.proofs.Common.{List, [], ℤ, ℕ, ◌≤◌, ◌^◌, get_or, unsigned_abs}
use Rattle.irr_algebra.specs.Fin.{Fin, to_nat}
use Rattle.irr_rat.proofs.Vectors.{each_of_three}
use Rattle.irr_seitz.specs.OperationMeaning.{AreWithin}
use Rattle.irr_seitz.specs.Rotation.{IsWithin, rotation_of}
use Rattle.irr_subduce.proofs.tests.are_small_rows.Goals as goal

rows_within : (n : ℕ) (rows : List (List ℤ)) → AreWithin n (get_or rows 0 []) → AreWithin n (get_or rows 1 []) → AreWithin n (get_or rows 2 [])
    → IsWithin n (rotation_of rows)
unfolding rotation_of to_nat
rows_within n rows x y z = each_of_three (λ i. (j : Fin 3) → unsigned_abs ((rotation_of rows).at i j) ≤ n) x y z

pub returns : goal.returns
returns c = λ t. rows_within (10 ^ 4) c.args.rows.now (c.are_within.ensures c.if-not-are_within.false)
    (c.are_within-2.ensures c.if-not-are_within-2.false) (c.are_within-3.ensures t)
