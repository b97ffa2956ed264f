-- Sums, differences and multiples of canonical forms.
--   entries-of            entries of slices as entries of the lists
--   entry-bound, product-bound    from the conditions on sizes and denominators
--   combined-basis        combinations of coefficients in the basis are in the basis
--   add-value, add-same_value, sub-value, sub-same_value, scale-value, mul-value    the numbers that they stand for
use Rattle.std.proofs.Common.{◌≡◌, refl, sym, ◌∙◌, ap, ap₂, subst, ℕ, ℤ, pos, negsuc, ◌+◌, ◌*◌, ◌%◌, ◌^◌, ◌<◌, ◌≤◌, ◌+ℤ◌, ◌*ℤ◌, neg_ℤ, List, length, unsigned_abs, arith}
use native.Mathlib.Nat as Nat
use Rattle.irr_algebra.specs.Ring.{Ring, whole}
use Rattle.irr_algebra.proofs.Rings.{ring_laws}
use Rattle.irr_number.specs.Element.{delta, weighted_sum}
use Rattle.irr_number.specs.Integers.{integers}
use Rattle.irr_number.specs.Number.{numbers}
use Rattle.irr_rational.specs.Integer.{integer}
use Rattle.irr_canonical.specs.Coefficient.{denominator, number_of, size, total_below}
use Rattle.irr_canonical.specs.Reduction.{IsInBasis}
use Rattle.irr_canonical.proofs.Operations.{over-add, over-add_same, over-mul, over-neg, over-scale}
use Rattle.irr_canonical.proofs.Sizes.{term-le}
use Rattle.irr_cyc.specs.Form.{IsForm, at}
use Rattle.irr_cyc.proofs.Values.{form-denominator, form-denominator-at, form-size, form-size-at, value-over}

pub entries-of : (left xs right ys zs : List ℤ) (u v : ℤ) → left ≡ xs → right ≡ ys → ((j : ℕ) → j < length left → at zs j ≡ (at left j *ℤ u) +ℤ (at right j *ℤ v))
    → (j : ℕ) → j < length xs → at zs j ≡ (at xs j *ℤ u) +ℤ (at ys j *ℤ v)
entries-of left xs right ys zs u v p q h = subst (λ (r : List ℤ). (j : ℕ) → j < length xs → at zs j ≡ (at xs j *ℤ u) +ℤ (at r j *ℤ v)) q
    (subst (λ (l : List ℤ). (j : ℕ) → j < length l → at zs j ≡ (at l j *ℤ u) +ℤ (at right j *ℤ v)) p h)

module _ (xs ys : List ℤ) (d e : ℕ) (f : IsForm xs d) (g : IsForm ys e) (len : length ys ≡ length xs) where
  abbrev n : ℕ
  n = length xs

  pub product-bound : denominator n (number_of n xs d) * denominator n (number_of n ys e) ≤ 2 ^ 60 → d * e ≤ 2 ^ 60
  product-bound h = subst (λ m. m ≤ 2 ^ 60) (λ i. form-denominator xs d f i * form-denominator-at n ys e g len i) h

  pub entry-bound : size n (number_of n xs d) * denominator n (number_of n ys e) + size n (number_of n ys e) * denominator n (number_of n xs d) < 2 ^ 110
      → (l r : ℕ) → l ≤ e → r ≤ d → (j : ℕ) → j < n → unsigned_abs (at xs j) * l + unsigned_abs (at ys j) * r < 2 ^ 110
  entry-bound h l r le re j lt =
      let total : total_below n (λ j. unsigned_abs (at xs j)) * e + total_below n (λ j. unsigned_abs (at ys j)) * d < 2 ^ 110 =
      subst (λ m. m < 2 ^ 110) (λ i. form-size xs d f i * form-denominator-at n ys e g len i + form-size-at n ys e g len i * form-denominator xs d f i) h in
      omega (arith, total, Nat.mul-le-mul (term-le n j (λ j. unsigned_abs (at xs j)) lt) le, Nat.mul-le-mul (term-le n j (λ j. unsigned_abs (at ys j)) lt) re)

  basis-right : IsInBasis n (at ys)
  basis-right = subst (λ m. IsInBasis m (at ys)) len g.in_basis

  pub combined-basis : (zs : List ℤ) (u v : ℤ) → length zs ≡ n → ((j : ℕ) → j < n → at zs j ≡ (at xs j *ℤ u) +ℤ (at ys j *ℤ v)) → IsInBasis (length zs) (at zs)
  combined-basis zs u v same h = subst (λ m. IsInBasis m (at zs)) (sym same) (λ j lt out. h j lt ∙ ap₂ (λ x y. (x *ℤ u) +ℤ (y *ℤ v)) (f.in_basis j lt out) (basis-right j lt out) ∙ none integers u v)
    where
      none : (R : Ring) (u v : R.Carrier) → R.add (R.mul R.zero u) (R.mul R.zero v) ≡ R.zero
      none R u v = simp (ring_laws, R)

  pub add-value : (zs : List ℤ) → ((j : ℕ) → j < n → at zs j ≡ (at xs j *ℤ pos e) +ℤ (at ys j *ℤ pos d)) → number_of n zs (d * e) ≡ (numbers n).add (number_of n xs d) (number_of n ys e)
  add-value zs h = value-over n zs (d * e) (Nat.mul-pos f.positive g.positive)
      ∙ over-add n (at xs) (at ys) (at zs) d e f.positive g.positive (Nat.mul-pos f.positive g.positive) (λ j lt. h j lt ∙ turn integers (at xs j) (pos e) (at ys j) (pos d))
      ∙ ap₂ (numbers n).add (sym (value-over n xs d f.positive)) (sym (value-over n ys e g.positive))
    where
      turn : (R : Ring) (x e y d : R.Carrier) → R.add (R.mul x e) (R.mul y d) ≡ R.add (R.mul e x) (R.mul d y)
      turn R x e y d = ap₂ R.add (R.mul_comm x e) (R.mul_comm y d)

  pub add-same_value : (zs : List ℤ) → d ≡ e → ((j : ℕ) → j < n → at zs j ≡ (at xs j *ℤ pos 1) +ℤ (at ys j *ℤ pos 1)) → number_of n zs d ≡ (numbers n).add (number_of n xs d) (number_of n ys e)
  add-same_value zs de h = value-over n zs d f.positive
      ∙ over-add_same n (at xs) (at ys) (at zs) d f.positive (λ j lt. h j lt ∙ ap₂ ◌+ℤ◌ (integers.mul-one (at xs j)) (integers.mul-one (at ys j)))
      ∙ ap₂ (numbers n).add (sym (value-over n xs d f.positive)) (sym (value-over n ys d f.positive) ∙ ap (number_of n ys) de)

  pub sub-value : (zs : List ℤ) → ((j : ℕ) → j < n → at zs j ≡ (at xs j *ℤ pos e) +ℤ (at ys j *ℤ neg_ℤ (pos d))) → number_of n zs (d * e) ≡ (numbers n).add (number_of n xs d) ((numbers n).neg (number_of n ys e))
  sub-value zs h = value-over n zs (d * e) (Nat.mul-pos f.positive g.positive)
      ∙ over-add n (at xs) (λ j. neg_ℤ (at ys j)) (at zs) d e f.positive g.positive (Nat.mul-pos f.positive g.positive) (λ j lt. h j lt ∙ turn integers (at xs j) (pos e) (at ys j) (pos d))
      ∙ ap₂ (numbers n).add (sym (value-over n xs d f.positive)) (over-neg n (at ys) (λ j. neg_ℤ (at ys j)) e g.positive (λ j lt. refl) ∙ ap (numbers n).neg (sym (value-over n ys e g.positive)))
    where
      turn : (R : Ring) (x e y d : R.Carrier) → R.add (R.mul x e) (R.mul y (R.neg d)) ≡ R.add (R.mul e x) (R.mul d (R.neg y))
      turn R x e y d = simp (ring_laws, R)

  pub sub-same_value : (zs : List ℤ) → d ≡ e → ((j : ℕ) → j < n → at zs j ≡ (at xs j *ℤ pos 1) +ℤ (at ys j *ℤ negsuc 0)) → number_of n zs d ≡ (numbers n).add (number_of n xs d) ((numbers n).neg (number_of n ys e))
  sub-same_value zs de h = value-over n zs d f.positive
      ∙ over-add_same n (at xs) (λ j. neg_ℤ (at ys j)) (at zs) d f.positive (λ j lt. h j lt ∙ turn integers (at xs j) (at ys j))
      ∙ ap₂ (numbers n).add (sym (value-over n xs d f.positive)) (over-neg n (at ys) (λ j. neg_ℤ (at ys j)) d f.positive (λ j lt. refl) ∙ ap (numbers n).neg (sym (value-over n ys d f.positive) ∙ ap (number_of n ys) de))
    where
      turn : (R : Ring) (x y : R.Carrier) → R.add (R.mul x R.one) (R.mul y (R.neg R.one)) ≡ R.add x (R.neg y)
      turn R x y = simp (ring_laws, R)

  pub mul-value : (zs : List ℤ) → ((k : ℕ) → k < n → at zs k ≡ weighted_sum n (at xs) (λ i. weighted_sum n (at ys) (λ j. delta integers ((i + j) % n) k))) → number_of n zs (d * e) ≡ (numbers n).mul (number_of n xs d) (number_of n ys e)
  mul-value zs h = value-over n zs (d * e) (Nat.mul-pos f.positive g.positive)
      ∙ over-mul n (at xs) (at ys) (at zs) d e f.positive g.positive (Nat.mul-pos f.positive g.positive) h
      ∙ ap₂ (numbers n).mul (sym (value-over n xs d f.positive)) (sym (value-over n ys e g.positive))

  pub totals-bound : size n (number_of n xs d) * size n (number_of n ys e) ≤ 2 ^ 100 → total_below n (λ j. unsigned_abs (at xs j)) * total_below n (λ j. unsigned_abs (at ys j)) ≤ 2 ^ 100
  totals-bound h = subst (λ m. m ≤ 2 ^ 100) (λ i. form-size xs d f i * form-size-at n ys e g len i) h

module _ (xs : List ℤ) (d : ℕ) (f : IsForm xs d) (c : ℕ) (k : ℤ) (pc : 0 < c) where
  pub scaled-denominator : denominator (length xs) (number_of (length xs) xs d) * c ≤ 2 ^ 60 → d * c ≤ 2 ^ 60
  scaled-denominator h = subst (λ m. m * c ≤ 2 ^ 60) (form-denominator xs d f) h

  pub scaled-bound : size (length xs) (number_of (length xs) xs d) * unsigned_abs k ≤ 2 ^ 100 → (j : ℕ) → j < length xs → unsigned_abs (at xs j) * unsigned_abs k ≤ 2 ^ 100
  scaled-bound h j lt = let total : total_below (length xs) (λ j. unsigned_abs (at xs j)) * unsigned_abs k ≤ 2 ^ 100 = subst (λ m. m * unsigned_abs k ≤ 2 ^ 100) (form-size xs d f) h in
      omega (arith, total, Nat.mul-le-mul_right (unsigned_abs k) (term-le (length xs) j (λ j. unsigned_abs (at xs j)) lt))

  pub scaled-basis : (zs : List ℤ) → length zs ≡ length xs → ((j : ℕ) → j < length xs → at zs j ≡ at xs j *ℤ k) → IsInBasis (length zs) (at zs)
  scaled-basis zs same h = subst (λ m. IsInBasis m (at zs)) (sym same) (λ j lt out. h j lt ∙ ap (λ x. x *ℤ k) (f.in_basis j lt out) ∙ none integers k)
    where
      none : (R : Ring) (k : R.Carrier) → R.mul R.zero k ≡ R.zero
      none R k = simp (ring_laws, R)

  pub scale-value : (zs : List ℤ) → ((j : ℕ) → j < length xs → at zs j ≡ at xs j *ℤ k)
      → (numbers (length xs)).mul (whole (numbers (length xs)) c) (number_of (length xs) zs (d * c)) ≡ (numbers (length xs)).mul (integer (numbers (length xs)) k) (number_of (length xs) xs d)
  scale-value zs h = ap ((numbers (length xs)).mul (whole (numbers (length xs)) c)) (value-over (length xs) zs (d * c) (Nat.mul-pos f.positive pc))
      ∙ over-scale (length xs) f.some (at xs) (at zs) k c d f.positive (Nat.mul-pos f.positive pc) h
      ∙ ap ((numbers (length xs)).mul (integer (numbers (length xs)) k)) (sym (value-over (length xs) xs d f.positive))

-- bounds of slices
pub slices-bound : (left xs right ys : List ℤ) (l r most : ℕ) → left ≡ xs → right ≡ ys → ((j : ℕ) → j < length xs → unsigned_abs (at xs j) * l + unsigned_abs (at ys j) * r < most)
    → (j : ℕ) → j < length left → unsigned_abs (at left j) * l + unsigned_abs (at right j) * r < most
slices-bound left xs right ys l r most p q h = subst (λ (zs : List ℤ). (j : ℕ) → j < length zs → unsigned_abs (at zs j) * l + unsigned_abs (at right j) * r < most) (sym p)
    (subst (λ (zs : List ℤ). (j : ℕ) → j < length xs → unsigned_abs (at xs j) * l + unsigned_abs (at zs j) * r < most) (sym q) h)

-- a number at an order that is a length
pub through : (n m : ℕ) (xs ys : List ℤ) (d e : ℕ) → m ≡ n → number_of m xs d ≡ number_of m ys e → number_of n xs d ≡ number_of n ys e
through n m xs ys d e s h = subst (λ k. number_of k xs d ≡ number_of k ys e) s h

-- equal factors
pub factors : (xs ys zs : List ℤ) (u v u' v' : ℤ) (n : ℕ) → u ≡ u' → v ≡ v' → ((j : ℕ) → j < n → at zs j ≡ (at xs j *ℤ u) +ℤ (at ys j *ℤ v)) → (j : ℕ) → j < n → at zs j ≡ (at xs j *ℤ u') +ℤ (at ys j *ℤ v')
factors xs ys zs u v u' v' n p q h j lt = h j lt ∙ ap₂ (λ a b. (at xs j *ℤ a) +ℤ (at ys j *ℤ b)) p q
