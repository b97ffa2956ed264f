-- Rotations that permute the axes, with or without signs: each row has at most one entry that is not 0, of size 1.
--   small_entries       entries of such a rotation are small
--   row-product         products of such rotations are such
--   rows_signed         three axes make one
use Rattle.std.proofs.Common.{◌≡◌, sym, ◌∙◌, ap, subst, ℕ, ◌+◌, ◌*◌, ◌≤◌, List, [], ◌∷◌, ℤ, pos, slice_index_or, ◌+ℤ◌, ◌*ℤ◌, unsigned_abs, arith, mul-add, mul-le-mul}
use Rattle.irr_algebra.specs.Fin.{Fin, to_nat}
use Rattle.irr_algebra.specs.Fin.Fin.{first, next}
use Rattle.irr_algebra.specs.Sum.{sum}
use Rattle.irr_algebra.specs.Matrix.{◌·◌}
use Rattle.irr_space.specs.Operation.{Rotation}
use Rattle.irr_rat.proofs.Vectors.{each_of_three}
use Rattle.irr_seitz.specs.Rotation.{rotation_of, IsWithin}
use Rattle.irr_seitz.proofs.Rotations.{three_sum}
use Rattle.irr_seitz.proofs.Sizes.{abs-add, abs-mul}
use Rattle.irr_gen.specs.declared.symmetry.Axis.{Axis}
use Rattle.irr_gen.specs.declared.symmetry.Axis.TheVariants.{X, Y, Z, MinusX, MinusY, MinusZ}
use Rattle.irr_gen.specs.Symmetry.{row}
use Rattle.irr_gen.specs.Signed.{row_size}

pub small_entries : (R : Rotation) → ((i : Fin 3) → row_size R i ≤ 1) → IsWithin 9 R
small_entries R h i = let s : row_size R i ≤ 1 = h i in
    each_of_three (λ j. unsigned_abs (R.at i j) ≤ 9) (omega arith) (omega arith) (omega arith)

itself : (n : ℕ) → n ≤ n
itself n = omega arith

-- three products
sum_size : (a b c x y z : ℤ) → unsigned_abs (((a *ℤ x) +ℤ (b *ℤ y)) +ℤ (c *ℤ z))
    ≤ (unsigned_abs a * unsigned_abs x + unsigned_abs b * unsigned_abs y) + unsigned_abs c * unsigned_abs z
sum_size a b c x y z = abs-add ((a *ℤ x) +ℤ (b *ℤ y)) (c *ℤ z) (unsigned_abs a * unsigned_abs x + unsigned_abs b * unsigned_abs y)
    (unsigned_abs c * unsigned_abs z)
    (abs-add (a *ℤ x) (b *ℤ y) (unsigned_abs a * unsigned_abs x) (unsigned_abs b * unsigned_abs y) (one a x) (one b y)) (one c z)
  where
    one : (a x : ℤ) → unsigned_abs (a *ℤ x) ≤ unsigned_abs a * unsigned_abs x
    one a x = abs-mul a x (unsigned_abs a) (unsigned_abs x) (itself (unsigned_abs a)) (itself (unsigned_abs x))

-- an entry of a product is at most the sum of the products of sizes
entry_size : (R S : Rotation) (i j : Fin 3) → unsigned_abs ((R · S).at i j)
    ≤ (unsigned_abs (R.at i first) * unsigned_abs (S.at first j) + unsigned_abs (R.at i (next first)) * unsigned_abs (S.at (next first) j))
    + unsigned_abs (R.at i (next (next first))) * unsigned_abs (S.at (next (next first)) j)
unfolding ◌·◌ sum
entry_size R S i j = subst (λ x. unsigned_abs x ≤ (unsigned_abs (R.at i first) * unsigned_abs (S.at first j)
    + unsigned_abs (R.at i (next first)) * unsigned_abs (S.at (next first) j))
    + unsigned_abs (R.at i (next (next first))) * unsigned_abs (S.at (next (next first)) j))
    (three_sum (R.at i first *ℤ S.at first j) (R.at i (next first) *ℤ S.at (next first) j) (R.at i (next (next first)) *ℤ S.at (next (next first)) j))
    (sum_size (R.at i first) (R.at i (next first)) (R.at i (next (next first))) (S.at first j) (S.at (next first) j) (S.at (next (next first)) j))

-- weights of at most 1 in all, of rows of at most 1
weighed : (a p q r : ℕ) → (p + q) + r ≤ 1 → (a * p + a * q) + a * r ≤ a
weighed a p q r h = let m : a * ((p + q) + r) ≤ a * 1 = mul-le-mul (itself a) h in
    let e : a * ((p + q) + r) ≡ (a * p + a * q) + a * r = mul-add a (p + q) r ∙ ap (λ n. n + a * r) (mul-add a p q) in omega arith

pub row-product : (R S : Rotation) → ((i : Fin 3) → row_size R i ≤ 1) → ((i : Fin 3) → row_size S i ≤ 1) → (i : Fin 3) → row_size (R · S) i ≤ 1
row-product R S h k i =
    let t : row_size R i ≤ 1 = h i in
    let x = entry_size R S i first in
    let y = entry_size R S i (next first) in
    let z = entry_size R S i (next (next first)) in
    let l = weighed (unsigned_abs (R.at i first)) (unsigned_abs (S.at first first)) (unsigned_abs (S.at first (next first))) (unsigned_abs (S.at first (next (next first)))) (k first) in
    let m = weighed (unsigned_abs (R.at i (next first))) (unsigned_abs (S.at (next first) first)) (unsigned_abs (S.at (next first) (next first))) (unsigned_abs (S.at (next first) (next (next first)))) (k (next first)) in
    let n = weighed (unsigned_abs (R.at i (next (next first)))) (unsigned_abs (S.at (next (next first)) first)) (unsigned_abs (S.at (next (next first)) (next first))) (unsigned_abs (S.at (next (next first)) (next (next first)))) (k (next (next first))) in
    omega arith

-- three axes
axes_signed : (a b c : Axis) (i : Fin 3) → row_size (rotation_of (row a ∷ row b ∷ row c ∷ [])) i ≤ 1
unfolding rotation_of to_nat
axes_signed a b c = each_of_three (λ i. row_size (rotation_of (row a ∷ row b ∷ row c ∷ [])) i ≤ 1) (each a) (each b) (each c)
  where
    size : List ℤ → ℕ
    size r = (unsigned_abs (slice_index_or r 0 (pos 0)) + unsigned_abs (slice_index_or r 1 (pos 0))) + unsigned_abs (slice_index_or r 2 (pos 0))

    each : (a : Axis) → size (row a) ≤ 1
    each X = omega arith
    each Y = omega arith
    each Z = omega arith
    each MinusX = omega arith
    each MinusY = omega arith
    each MinusZ = omega arith

pub rows_signed : (a b c : Axis) (r s t : List ℤ) → r ≡ row a → s ≡ row b → t ≡ row c → (i : Fin 3) → row_size (rotation_of (r ∷ s ∷ t ∷ [])) i ≤ 1
rows_signed a b c r s t e f g = subst (λ rot. (i : Fin 3) → row_size (rotation_of rot) i ≤ 1) (sym (λ j. e j ∷ f j ∷ g j ∷ [])) (axes_signed a b c)
