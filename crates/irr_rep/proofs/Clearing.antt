-- How denominators are cleared: an entry is multiplied by what is left of its denominator.
--   one_times                        y, from 1 y
--   clearing_divides                 q times the denominator of q x divides each multiple of q that is a denominator of x
--   small_size, small_denominator    sizes of an entry
--   power_of_term                    one term c z^j
--   part-matrix                      a matrix of a limited family, and its sizes
use Rattle.std.proofs.Common.{◌≡◌, sym, ◌∙◌, ap, subst, ℕ, ℤ, pos, ◌*◌, ◌/◌, ◌<◌, ◌≤◌, ◌^◌, List, [], ◌∷◌, length, get_or, arith}
use native.Mathlib.Nat as Nat
use Rattle.std.specs.Int.{◌∣◌}
use Rattle.irr_algebra.specs.Fin.{Fin}
use Rattle.irr_algebra.specs.Ring.{whole}
use Rattle.irr_algebra.proofs.Indices.{from_nat, to_nat-from_nat}
use Rattle.irr_algebra.proofs.Rings.{one-mul}
use Rattle.irr_algebra.proofs.Whole.{whole-one}
use Rattle.irr_number.specs.Number.{Number, numbers, root_power}
use Rattle.irr_rational.specs.Integer.{integer}
use Rattle.irr_rational.proofs.Integers.{integer-pos}
use Rattle.irr_canonical.specs.Coefficient.{denominator, size}
use Rattle.irr_canonical.specs.RootSum.{IsRootSum}
use Rattle.irr_canonical.proofs.RootSizes.{denominator_of_IsRootSum, size_of_IsRootSum}
use Rattle.irr_cyc.specs.declared.scalars.Scalar.{Ghosts}
use Rattle.irr_cyc.specs.Terms.{terms_sum}
use Rattle.irr_mat.specs.declared.matrices.Mat.{Mat}
use Rattle.irr_mat.specs.Size.{IsWithin}
use Rattle.irr_rep.specs.Defects.{IsLimited, IsMatrix}
use Rattle.irr_rep.specs.Family.{matrix_at}
use Rattle.irr_rep.proofs.CommonDenominators.{root_sum_cleared}
use Rattle.irr_rep.proofs.MatrixForms.{item-matrix}

one_times : (n : ℕ) (x y : Number n) → (numbers n).mul (whole (numbers n) 1) x ≡ y → x ≡ y
one_times n x y e = sym (ap (λ c. (numbers n).mul c x) (whole-one (numbers n)) ∙ one-mul (numbers n) x) ∙ e

pub clearing_divides : (n s q d m : ℕ) (z : ℤ) (x y : Number n) → 0 < n → q ∣ d → IsRootSum n s d x → z ≡ pos q
    → (numbers n).mul (whole (numbers n) 1) y ≡ (numbers n).mul (integer (numbers n) z) x → m ≡ denominator n y → q * m ∣ d
clearing_divides n s q d m z x y p v h e t is =
    let same : y ≡ (numbers n).mul (whole (numbers n) q) x =
    one_times n y ((numbers n).mul (integer (numbers n) z) x) t ∙ ap (λ c. (numbers n).mul c x)
    (ap (integer (numbers n)) e ∙ integer-pos (numbers n) q) in
    let sum : IsRootSum n s (d / q) y = subst (IsRootSum n s (d / q)) (sym same) (root_sum_cleared n s q d x v h) in
    let w : m ∣ d / q = subst (λ k. k ∣ d / q) (sym is) (denominator_of_IsRootSum n p s (d / q) y sum) in
    subst (λ k. q * m ∣ k) (Nat.mul-div_cancel' q v) (Nat.mul-dvd-mul q m (Nat.dvd_refl q) w)

pub small_denominator : (n s d : ℕ) (x : Number n) → 0 < n → d ≤ 4096 → IsRootSum n s d x → denominator n x ≤ 4096
small_denominator n s d x p l h = Nat.le_trans (Nat.le_of_dvd h.positive (denominator_of_IsRootSum n p s d x h)) l

pub small_size : (n d : ℕ) (x : Number n) → 0 < n → n ≤ 12000 → IsRootSum n (2 ^ 30) d x → (q : ℕ) → q ≤ 4096 → size n x * q ≤ 2 ^ 100
small_size n d x p l h q few =
    let a : size n x ≤ 2 ^ 30 * n = size_of_IsRootSum n p (2 ^ 30) d x h in
    let b : size n x ≤ 2 ^ 30 * 12000 = omega (arith, a, l) in
    let e : size n x * q ≤ 2 ^ 30 * 12000 * 4096 = Nat.mul-le-mul b few in
    let k : 2 ^ 30 * 12000 * 4096 ≤ 2 ^ 100 = omega arith in Nat.le_trans e k

pub power_of_term : (n j q : ℕ) (z : ℤ) (x : Number n) → z ≡ pos q → (numbers n).mul (whole (numbers n) 1) x ≡ terms_sum n ((j, z) ∷ [])
    → x ≡ (numbers n).mul (whole (numbers n) q) (root_power n j)
unfolding terms_sum
power_of_term n j q z x e t = one_times n x _ t ∙ (numbers n).add-zero _
    ∙ ap (λ c. (numbers n).mul c (root_power n j)) (ap (integer (numbers n)) e ∙ integer-pos (numbers n) q)

module _ {S : Type 0} {G : Ghosts S} (n h d e : ℕ) (mats : List (Mat S G)) (l : IsLimited n h d e mats) (k : ℕ) (m : Mat S G)
    (within : k < length mats)
    (is : m ≡ get_or mats k m) where
  -- the place of the k-th matrix
  unfoldable pub part-place : Fin h
  part-place = from_nat h k (subst (λ u. k < u) l.shape.count within)

  pub part-matrix : IsMatrix n d (matrix_at n d mats part-place) m
  unfolding part-place
  part-matrix = item-matrix n d mats k m within is l.shape part-place (to_nat-from_nat h k (subst (λ u. k < u) l.shape.count within))

  pub part-within : IsWithin n (2 ^ 30) e (matrix_at n d mats part-place)
  part-within = l.within part-place
