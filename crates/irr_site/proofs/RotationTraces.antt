-- The trace of a rotation as a number.
--   integer_few        a small whole number is a sum of few roots of unity
--   trace_integer      the trace of a rotation is the sum of its diagonal
--   scaled_value       the number 1 so many times
--   trace_room         its size
--   row_more           the numbers so far
--   sum_value, sum_small   the program's sum of three small numbers
--   read_small, diagonal_is, diagonal_small   the diagonal of a rotation of the program
use Rattle.std.proofs.Common.{to_z, of_z, get_or, ◌≡◌, sym, ◌∙◌, ap, ap₂, subst, refl, ℕ, suc, ◌+◌, ◌*◌, ◌<◌, ◌≤◌, ◌^◌, ◌++◌, ◌∷◌, [], List, length, map, ℤ, pos, negsuc, unsigned_abs, arith}
use Rattle.std.specs.Prelude.{◌+ℤ◌}
use Rattle.std.specs.Int.{w64}
use Rattle.std.proofs.lemmas.Int.{fits_signed_from_abs, to_z-of_z}
use native.Mathlib.Nat as Nat
use Rattle.irr_algebra.specs.Fin.{Fin, to_nat}
use Rattle.irr_algebra.specs.Fin.Fin.{first, next}
use Rattle.irr_algebra.specs.Matrix.{trace}
use Rattle.irr_algebra.specs.Ring.{Ring, whole}
use Rattle.irr_algebra.specs.Sum.{sum}
use Rattle.irr_algebra.proofs.Rings.{one-mul, ring_laws}
use Rattle.irr_algebra.proofs.Whole.{whole-one}
use Rattle.irr_number.specs.Number.{Number, numbers}
use Rattle.irr_rational.specs.Integer.{integer, whole_matrix}
use Rattle.irr_rational.proofs.Integers.{integer-add}
use Rattle.irr_canonical.specs.RootSum.{IsRootSum}
use Rattle.irr_canonical.proofs.RootSums.{IsRootSum-more, IsRootSum-neg}
use Rattle.irr_space.specs.Operation.{Rotation}
use Rattle.irr_rep.proofs.TraceRoots.{IsRootSum-whole}
use Rattle.irr_seitz.specs.Rotation.{rotation_of}
use Rattle.irr_seitz.proofs.Sizes.{abs-add}
use Rattle.irr_site.specs.Traces.{diagonal_sum, number_at}
use Rattle.irr_site.proofs.SiteSearch.{below_or_last}
use Rattle.irr_site.proofs.TraceLists.{number_before, number_last}

pub integer_few : (n : ℕ) (z : ℤ) → unsigned_abs z ≤ 27 → IsRootSum n 48 1 (integer (numbers n) z)
unfolding integer
integer_few n (pos h) l = IsRootSum-more n 48 (let m : h ≤ 27 = l in omega (arith, m)) (IsRootSum-whole n h)
integer_few n (negsuc h) l = IsRootSum-more n 48 (let m : suc h ≤ 27 = l in omega (arith, m)) (IsRootSum-neg n (IsRootSum-whole n (suc h)))

pub trace_integer : (R : Ring) (A : Rotation) → integer R (diagonal_sum A) ≡ trace (whole_matrix R A)
unfolding trace whole_matrix sum
trace_integer R A =
    let a = A.at first first in
    let b = A.at (next first) (next first) in
    let c = A.at (next (next first)) (next (next first)) in
    integer-add R (a +ℤ b) c ∙ ap (λ u. R.add u (integer R c)) (integer-add R a b) ∙ again R (integer R a) (integer R b) (integer R c)
  where
    again : (R : Ring) (a b c : R.Carrier) → R.add (R.add a b) c ≡ R.add a (R.add b (R.add c R.zero))
    again R a b c = simp (ring_laws, R)

pub scaled_value : (n : ℕ) (z : ℤ) (x y : Number n) → (numbers n).mul (whole (numbers n) 1) x ≡ (numbers n).mul (integer (numbers n) z) y
    → y ≡ (numbers n).one → x ≡ integer (numbers n) z
scaled_value n z x y e one =
    sym (ap (λ u. (numbers n).mul u x) (whole-one (numbers n)) ∙ one-mul (numbers n) x) ∙ e
    ∙ ap ((numbers n).mul (integer (numbers n) z)) one ∙ (numbers n).mul-one (integer (numbers n) z)

pub trace_room : (u n h : ℕ) → u ≤ 1 * n → n ≤ 12000 → h ≤ 27 → u * h ≤ 2 ^ 100
trace_room u n h a l few =
    let m : u ≤ 12000 = omega (arith, a, l) in
    let b : u * h ≤ 12000 * 27 = Nat.mul-le-mul m few in
    let c : 12000 * 27 ≤ 2 ^ 100 = omega arith in
    Nat.le_trans b c

pub row_more : {S : Type 0} (value : (n : ℕ) → S → Number n) (n : ℕ) (v : Number n) (xs after : List S) (x : S) (k : ℕ)
    → length xs ≡ k → after ≡ xs ++ x ∷ [] → ((p : ℕ) → p < k → number_at n (map (value n) xs) p ≡ v) → value n x ≡ v
    → (p : ℕ) → p < k + 1 → number_at n (map (value n) after) p ≡ v
row_more value n v xs after x k count is before here p l =
    ap (λ ys. number_at n (map (value n) ys) p) is
    ∙ below_or_last (λ j. number_at n (map (value n) (xs ++ x ∷ [])) j ≡ v) p k l
    (λ m. number_before value n xs x p (subst (λ c. p < c) (sym count) m) ∙ before p m)
    (ap (number_at n (map (value n) (xs ++ x ∷ []))) (sym count) ∙ number_last value n xs x ∙ here)

-- a small number is read as it was written
pub read_small : (x : ℤ) → unsigned_abs x ≤ 27 → to_z w64 (of_z w64 x) ≡ x
read_small x l = to_z-of_z w64 x (fits_signed_from_abs w64 x (omega (arith, l)))

module _ (x y z : ℤ) (a : unsigned_abs x ≤ 9) (b : unsigned_abs y ≤ 9) (c : unsigned_abs z ≤ 9) where
  two : unsigned_abs (x +ℤ y) ≤ 18
  two = abs-add x y 9 9 a b

  pub sum_small : unsigned_abs ((x +ℤ y) +ℤ z) ≤ 27
  sum_small = abs-add (x +ℤ y) z 18 9 two c

  pub sum_value : to_z w64 (of_z w64 (to_z w64 (of_z w64 (to_z w64 (of_z w64 x) +ℤ to_z w64 (of_z w64 y))) +ℤ to_z w64 (of_z w64 z)))
      ≡ (x +ℤ y) +ℤ z
  sum_value = ap (λ u. to_z w64 (of_z w64 u)) (ap₂ ◌+ℤ◌
      (ap (λ u. to_z w64 (of_z w64 u)) (ap₂ ◌+ℤ◌ (read_small x (omega (arith, a))) (read_small y (omega (arith, b)))) ∙ read_small (x +ℤ y) (omega (arith, two)))
      (read_small z (omega (arith, c)))) ∙ read_small ((x +ℤ y) +ℤ z) sum_small

pub diagonal_is : (rot : List (List ℤ)) → diagonal_sum (rotation_of rot)
    ≡ (get_or (get_or rot 0 []) 0 (pos 0) +ℤ get_or (get_or rot 1 []) 1 (pos 0)) +ℤ get_or (get_or rot 2 []) 2 (pos 0)
unfolding rotation_of to_nat
diagonal_is rot = refl

pub diagonal_small : (rot : List (List ℤ)) → ((i j : Fin 3) → unsigned_abs ((rotation_of rot).at i j) ≤ 9)
    → (unsigned_abs (get_or (get_or rot 0 []) 0 (pos 0)) ≤ 9) × (unsigned_abs (get_or (get_or rot 1 []) 1 (pos 0)) ≤ 9)
    × (unsigned_abs (get_or (get_or rot 2 []) 2 (pos 0)) ≤ 9)
unfolding rotation_of to_nat
diagonal_small rot l = (l first first, l (next first) (next first), l (next (next first)) (next (next first)))
