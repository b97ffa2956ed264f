-- The type that a sum says.
--   whole_value, whole_few        the number of operations, as a number
--   minus_is, plus_is, other_is   where the sum is h, -h, and neither
use Rattle.std.proofs.Common.{◌≡◌, sym, ◌∙◌, ap, ap₂, subst, refl, ℕ, ◌+◌, ◌*◌, ◌<◌, ◌≤◌, ◌^◌, ℤ, pos, negsuc, arith}
use native.Mathlib.Nat as Nat
use Rattle.irr_algebra.specs.Ring.{Ring, whole}
use Rattle.irr_algebra.proofs.Rings.{one-mul, ring_laws, zero-add}
use Rattle.irr_algebra.proofs.Fields.{mul_cancel, whole-ne-zero}
use Rattle.irr_algebra.proofs.Whole.{whole-one}
use Rattle.irr_number.specs.Number.{Number, numbers}
use Rattle.irr_number.proofs.NumberField.{number_field}
use Rattle.irr_rational.specs.Integer.{integer}
use Rattle.irr_rational.proofs.Integers.{integer-pos}
use Rattle.irr_canonical.specs.RootSum.{IsRootSum}
use Rattle.irr_canonical.proofs.RootSums.{IsRootSum-more}
use Rattle.irr_rep.proofs.TraceRoots.{IsRootSum-whole}
use Rattle.irr_forms.specs.Form.{FormType, type_integer, type_number}
use Rattle.irr_forms.specs.Form.FormType.{symmetric, skew, none}
use Rattle.irr_forms.proofs.FullTypes.{type_number_inj}

pub whole_value : (n h : ℕ) (z : ℤ) (x y : Number n) → (numbers n).mul (whole (numbers n) 1) x
    ≡ (numbers n).mul (integer (numbers n) z) y
    → y ≡ (numbers n).one → z ≡ pos h → x ≡ whole (numbers n) h
whole_value n h z x y e one number =
    sym (ap (λ u. (numbers n).mul u x) (whole-one (numbers n)) ∙ one-mul (numbers n) x) ∙ e
    ∙ ap₂ (λ a b. (numbers n).mul (integer (numbers n) a) b) number one
    ∙ (numbers n).mul-one (integer (numbers n) (pos h)) ∙ integer-pos (numbers n) h

pub whole_few : (n h : ℕ) (x : Number n) → h ≤ 48 → x ≡ whole (numbers n) h → IsRootSum n 48 1 x
whole_few n h x l e = subst (IsRootSum n 48 1) (sym e) (IsRootSum-more n 48 l (IsRootSum-whole n h))

pub sum_room : (n : ℕ) → n ≤ 12000 → 2304 * n * 1 + 48 * n * 1 < 2 ^ 110
sum_room n l = omega (arith, l)

pub scale_room : (u n h : ℕ) → u ≤ 1 * n → n ≤ 12000 → h ≤ 48 → u * h ≤ 2 ^ 100
scale_room u n h a l few =
    let m : u ≤ 12000 = omega (arith, a, l) in
    let b : u * h ≤ 12000 * 48 = Nat.mul-le-mul m few in
    let c : 12000 * 48 ≤ 2 ^ 100 = omega arith in
    Nat.le_trans b c

difference_zero : (R : Ring) (c u : R.Carrier) → R.add c (R.neg u) ≡ R.zero → c ≡ u
difference_zero R c u e = again R c u ∙ ap (λ x. R.add x u) e ∙ zero-add R u
  where
    again : (R : Ring) (c u : R.Carrier) → c ≡ R.add (R.add c (R.neg u)) u
    again R c u = simp (ring_laws, R)

sum_zero : (R : Ring) (c u : R.Carrier) → R.add c u ≡ R.zero → c ≡ R.mul u (R.neg R.one)
sum_zero R c u e = again R c u ∙ ap (λ x. R.add x (R.mul u (R.neg R.one))) e ∙ zero-add R (R.mul u (R.neg R.one))
  where
    again : (R : Ring) (c u : R.Carrier) → c ≡ R.add (R.add c u) (R.mul u (R.neg R.one))
    again R c u = simp (ring_laws, R)

module _ (n : ℕ) (positive : 0 < n) (h : ℕ) (some : 0 < h) (c u : Number n) (is : u ≡ whole (numbers n) h)
    (x : FormType) (e : c ≡ (numbers n).mul (whole (numbers n) h) (type_number (numbers n) x)) where
  type_is : (y : FormType) → c ≡ (numbers n).mul (whole (numbers n) h) (type_number (numbers n) y) → x ≡ y
  type_is y f = type_number_inj (number_field n positive) x y
      (mul_cancel (number_field n positive) (whole (numbers n) h)
      (type_number (numbers n) x) (type_number (numbers n) y) (whole-ne-zero (number_field n positive) h some)
      (sym e ∙ f))

  symmetric_sum : (numbers n).add c ((numbers n).neg u) ≡ (numbers n).zero → x ≡ symmetric
  symmetric_sum z = type_is symmetric (difference_zero (numbers n) c u z ∙ is
      ∙ sym ((numbers n).mul-one (whole (numbers n) h)))

  skew_sum : (numbers n).add c u ≡ (numbers n).zero → x ≡ skew
  skew_sum z = type_is skew (sum_zero (numbers n) c u z ∙ ap
      (λ w. (numbers n).mul w ((numbers n).neg (numbers n).one)) is)

  pub minus_is : (numbers n).add c ((numbers n).neg u) ≡ (numbers n).zero → pos 1 ≡ type_integer x
  minus_is z = ap type_integer (sym (symmetric_sum z))

  pub plus_is : (numbers n).add c u ≡ (numbers n).zero → negsuc 0 ≡ type_integer x
  plus_is z = ap type_integer (sym (skew_sum z))

pub other_is : (n h : ℕ) (c u : Number n) → u ≡ whole (numbers n) h
    → ((numbers n).add c ((numbers n).neg u) ≡ (numbers n).zero → ⊥)
    → ((numbers n).add c u ≡ (numbers n).zero → ⊥)
    → (x : FormType) → c ≡ (numbers n).mul (whole (numbers n) h) (type_number (numbers n) x) → pos 0 ≡ type_integer x
other_is n h c u is f g symmetric e = absurd (f (ap (λ w. (numbers n).add w ((numbers n).neg u))
    (e ∙ (numbers n).mul-one (whole (numbers n) h) ∙ sym is) ∙ (numbers n).add-neg u))
other_is n h c u is f g skew e = absurd (g (ap (λ w. (numbers n).add w u)
    (e ∙ ap (λ w. (numbers n).mul w ((numbers n).neg (numbers n).one)) (sym is)) ∙ cancelled (numbers n) u))
  where
    cancelled : (R : Ring) (u : R.Carrier) → R.add (R.mul u (R.neg R.one)) u ≡ R.zero
    cancelled R u = simp (ring_laws, R)
other_is n h c u is f g none e = refl
