-- Rotations from lists, entry by entry.
--   rotation_of-at        an entry
--   within_at             the bound of an entry by the numbers of its row and place
--   rotation_of-list      nine entries make a matrix
--   product-at            an entry of a product
use Rattle.std.proofs.Common.{◌≡◌, sym, refl, ◌∙◌, ap, subst, subst₂, ℕ, ◌<◌, ◌≤◌, List, [], get_or, ℤ, pos, ◌+ℤ◌, ◌*ℤ◌, unsigned_abs}
use Rattle.irr_algebra.specs.Fin.{Fin, to_nat}
use Rattle.irr_algebra.specs.Fin.Fin.{first, next}
use Rattle.irr_algebra.specs.Sum.{sum}
use Rattle.irr_algebra.specs.Matrix.{◌·◌}
use Rattle.irr_algebra.proofs.Indices.{from_nat, to_nat-from_nat}
use Rattle.irr_algebra.proofs.Matrices.{matrix-ext}
use Rattle.irr_number.specs.Integers.{+ℤ-zero}
use Rattle.irr_space.specs.Operation.{Rotation}
use Rattle.irr_rat.proofs.Vectors.{each_of_three}
use Rattle.irr_seitz.specs.Rotation.{rotation_of, IsWithin}
use lib.IntN.{+ℤ_assoc}

pub rotation_of-at : (rot : List (List ℤ)) (i j : Fin 3) → (rotation_of rot).at i j ≡ get_or (get_or rot (to_nat i) []) (to_nat j) (pos 0)
unfolding rotation_of
rotation_of-at rot i j = refl

pub within_at : (b : ℕ) (rot : List (List ℤ)) → IsWithin b (rotation_of rot) → (i j : ℕ) → i < 3 → j < 3 → unsigned_abs (get_or (get_or rot i []) j (pos 0)) ≤ b
within_at b rot h i j hi hj = subst₂ (λ m n. unsigned_abs (get_or (get_or rot m []) n (pos 0)) ≤ b) (to_nat-from_nat 3 i hi) (to_nat-from_nat 3 j hj)
    (subst (λ a. unsigned_abs a ≤ b) (rotation_of-at rot (from_nat 3 i hi) (from_nat 3 j hj)) (h (from_nat 3 i hi) (from_nat 3 j hj)))

-- nine entries
pub rotation_of-list : (rot : List (List ℤ)) (M : Rotation)
    → get_or (get_or rot 0 []) 0 (pos 0) ≡ M.at first first → get_or (get_or rot 0 []) 1 (pos 0) ≡ M.at first (next first) → get_or (get_or rot 0 []) 2 (pos 0) ≡ M.at first (next (next first))
    → get_or (get_or rot 1 []) 0 (pos 0) ≡ M.at (next first) first → get_or (get_or rot 1 []) 1 (pos 0) ≡ M.at (next first) (next first) → get_or (get_or rot 1 []) 2 (pos 0) ≡ M.at (next first) (next (next first))
    → get_or (get_or rot 2 []) 0 (pos 0) ≡ M.at (next (next first)) first → get_or (get_or rot 2 []) 1 (pos 0) ≡ M.at (next (next first)) (next first) → get_or (get_or rot 2 []) 2 (pos 0) ≡ M.at (next (next first)) (next (next first))
    → rotation_of rot ≡ M
unfolding rotation_of to_nat
rotation_of-list rot M a b c d e f g h k = matrix-ext (each_of_three (λ i. (j : Fin 3) → (rotation_of rot).at i j ≡ M.at i j)
    (each_of_three (λ j. (rotation_of rot).at first j ≡ M.at first j) a b c)
    (each_of_three (λ j. (rotation_of rot).at (next first) j ≡ M.at (next first) j) d e f)
    (each_of_three (λ j. (rotation_of rot).at (next (next first)) j ≡ M.at (next (next first)) j) g h k))

pub three_sum : (x y z : ℤ) → (x +ℤ y) +ℤ z ≡ x +ℤ (y +ℤ (z +ℤ pos 0))
three_sum x y z = +ℤ_assoc x y z ∙ ap (λ w. x +ℤ (y +ℤ w)) (sym (+ℤ-zero z))

pub product-at : (a b : List (List ℤ)) (i j : Fin 3) (m n : ℕ) → to_nat i ≡ m → to_nat j ≡ n
    → ((get_or (get_or a m []) 0 (pos 0) *ℤ get_or (get_or b 0 []) n (pos 0)) +ℤ (get_or (get_or a m []) 1 (pos 0) *ℤ get_or (get_or b 1 []) n (pos 0)))
    +ℤ (get_or (get_or a m []) 2 (pos 0) *ℤ get_or (get_or b 2 []) n (pos 0)) ≡ (rotation_of a · rotation_of b).at i j
unfolding rotation_of to_nat ◌·◌ sum
product-at a b i j m n em en = three_sum (get_or (get_or a m []) 0 (pos 0) *ℤ get_or (get_or b 0 []) n (pos 0)) (get_or (get_or a m []) 1 (pos 0) *ℤ get_or (get_or b 1 []) n (pos 0)) (get_or (get_or a m []) 2 (pos 0) *ℤ get_or (get_or b 2 []) n (pos 0)) ∙ subst₂ (λ u v. (get_or (get_or a u []) 0 (pos 0) *ℤ get_or (get_or b 0 []) v (pos 0)) +ℤ ((get_or (get_or a u []) 1 (pos 0) *ℤ get_or (get_or b 1 []) v (pos 0))
    +ℤ ((get_or (get_or a u []) 2 (pos 0) *ℤ get_or (get_or b 2 []) v (pos 0)) +ℤ pos 0)) ≡ (rotation_of a · rotation_of b).at i j) em en refl
