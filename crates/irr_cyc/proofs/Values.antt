-- The number that kept coefficients stand for.
--   value-over            coefficients over a positive denominator as a fraction's number
--   form-denominator, form-size    denominator and size, read off a canonical form
--   written-back          a vector whose slice was written
--   lowest-form, lowest-value      what lowest terms make of coefficients in the basis
--   reduced-value         what the reduction keeps
--   zeros-form, zeros-value, unit-value     the forms of 0 and z^j
--   zero-coefficients     a form that is 0 has zeros
--   same-coefficients     two forms of one number are one
use Rattle.std.proofs.Common.{◌≡◌, sym, ◌∙◌, ap, ap₂, subst, ℕ, ℤ, pos, ◌%◌, ◌<◌, ◌≤◌, ◌*ℤ◌, List, length, unsigned_abs, slice_set, ◌++◌, take, drop, arith, length-set, get_or-set_other, get_or-set_same}
use Rattle.std.proofs.Math.Seq.{take-append_seam}
use native.Mathlib.Decide.{ℕ_discrete}
use native.Mathlib.Nat as Nat
use Rattle.irr_number.specs.Algebra.{at-element}
use Rattle.irr_number.specs.Basis.{InBasis, IsCanonical}
use Rattle.irr_number.specs.Element.{Element, delta}
use Rattle.irr_number.specs.Fraction.{Fraction}
use Rattle.irr_number.specs.Integers.{integers}
use Rattle.irr_number.specs.Number.{number, numbers, root_power}
use Rattle.irr_number.specs.SumLaws.{delta-other, delta-same}
use Rattle.irr_canonical.specs.Coefficient.{canonical, denominator, number_of, over, size, total_below}
use Rattle.irr_canonical.specs.Reduction.{IsInBasis}
use Rattle.irr_canonical.proofs.Forms.{canonical-number}
use Rattle.irr_canonical.proofs.Operations.{IsCanonical-over, denominator-over, over-root, over-same, over-zero, size-over, zero_of_over}
use Rattle.irr_canonical.proofs.Sums.{number_of-same}
use Rattle.irr_cyc.specs.declared.orders.TheConstants.{ORDER_LIMIT}
use Rattle.irr_cyc.specs.Form.{IsForm, IsLowest, at}
use Rattle.irr_cyc.proofs.Divisors.{one_of_dvd}

-- as a fraction's number
pub value-over : (n : ℕ) (xs : List ℤ) (d : ℕ) (p : 0 < d) → number_of n xs d ≡ number n (over n (at xs) d p)
value-over n xs d p = number_of-same n xs d p

module _ (xs : List ℤ) (d : ℕ) (form : IsForm xs d) where
  form-canonical : IsCanonical (length xs) (over (length xs) (at xs) d form.positive)
  form-canonical = IsCanonical-over (length xs) (at xs) d form.positive form.in_basis form.lowest

  pub form-denominator : denominator (length xs) (number_of (length xs) xs d) ≡ d
  form-denominator = ap (denominator (length xs)) (value-over (length xs) xs d form.positive) ∙ denominator-over (length xs) form.some (at xs) d form.positive form-canonical

  pub form-size : size (length xs) (number_of (length xs) xs d) ≡ total_below (length xs) (λ j. unsigned_abs (at xs j))
  form-size = ap (size (length xs)) (value-over (length xs) xs d form.positive) ∙ size-over (length xs) form.some (at xs) d form.positive form-canonical

  pub form-coefficients : canonical (length xs) (number_of (length xs) xs d) ≡ over (length xs) (at xs) d form.positive
  form-coefficients = ap (canonical (length xs)) (value-over (length xs) xs d form.positive) ∙ canonical-number (length xs) form.some (over (length xs) (at xs) d form.positive) form-canonical

  -- a form that is 0 has zeros
  pub zero-coefficients : number_of (length xs) xs d ≡ (numbers (length xs)).zero → (j : ℕ) → j < length xs → at xs j ≡ pos 0
  zero-coefficients e = zero_of_over (length xs) form.some (at xs) d form.positive form.in_basis (sym (value-over (length xs) xs d form.positive) ∙ e)

-- zeros are 0
pub zeros-value : (n : ℕ) (xs : List ℤ) (d : ℕ) → 0 < d → ((j : ℕ) → j < n → at xs j ≡ pos 0) → number_of n xs d ≡ (numbers n).zero
zeros-value n xs d p z = value-over n xs d p ∙ over-zero n (at xs) d p z

-- lowest terms of coefficients in the basis
pub lowest-value : (n : ℕ) (old new : List ℤ) (den low : ℕ) → 0 < den → 0 < low → ((j : ℕ) → j < n → pos den *ℤ at new j ≡ pos low *ℤ at old j) → number_of n new low ≡ number_of n old den
lowest-value n old new den low p q h = value-over n new low q ∙ over-same n (at new) (at old) low den q p h ∙ sym (value-over n old den p)

-- a vector whose slice was written holds what was written
pub written-back : (items new : List ℤ) (count : ℕ) → length new ≡ count → take count (new ++ drop (length new) items) ≡ new
written-back items new count e = ap (λ n. take n (new ++ drop (length new) items)) (sym e) ∙ take-append_seam new (drop (length new) items)

pub lowest-form : (slice items new : List ℤ) (low : ℕ) → slice ≡ items → length new ≡ length slice → 0 < length items → length items ≤ ORDER_LIMIT → 0 < low → IsInBasis (length items) (at items)
    → ((j : ℕ) → j < length slice → at slice j ≡ pos 0 → at new j ≡ pos 0) → IsLowest new low → IsForm new low
lowest-form slice items new low e len some few q b z l =
    let same : length new ≡ length items = len ∙ ap length e in
    let zeros : (j : ℕ) → j < length items → at items j ≡ pos 0 → at new j ≡ pos 0 = subst (λ (s : List ℤ). (j : ℕ) → j < length s → at s j ≡ pos 0 → at new j ≡ pos 0) e z in
    record {
      some = omega arith;
      few = omega arith;
      positive = q;
      in_basis = λ j lt n. let lo : j < length items = omega arith in zeros j lo (b j lo (subst (λ m. ¬ (InBasis m j)) same n));
      lowest = l;
    }

-- the reduction keeps the number
pub reduced-value : (n : ℕ) (old new : List ℤ) (den : ℕ) → 0 < den → ((d : ℕ) (p : 0 < d) → number n (over n (at new) d p) ≡ number n (over n (at old) d p)) → number_of n new den ≡ number_of n old den
reduced-value n old new den p h = value-over n new den p ∙ h den p ∙ sym (value-over n old den p)

-- one coefficient 1
pub unit-value : (n : ℕ) (zs : List ℤ) (j : ℕ) → length zs ≡ n → j < n → ((k : ℕ) → at zs k ≡ pos 0) → number_of n (slice_set zs j (pos 1)) 1 ≡ root_power n j
unit-value n zs j len lt z = value-over n (slice_set zs j (pos 1)) 1 (omega arith) ∙ over-root n (at (slice_set zs j (pos 1))) j (omega arith) (λ k lk. elim (ℕ_discrete k j) [
  | yes e ↦ ap (at (slice_set zs j (pos 1))) e ∙ get_or-set_same zs j (pos 1) (pos 0) (omega (arith, len)) ∙ sym (delta-same integers j) ∙ ap₂ (delta integers) (sym (Nat.mod-eq_of_lt lt)) (sym e)
  | no ne ↦ get_or-set_other zs j k (pos 1) (pos 0) ne ∙ z k ∙ sym (delta-other integers (j % n) k (λ e. ne (sym e ∙ Nat.mod-eq_of_lt lt)))
])

-- zeros over 1 are a form
pub zeros-lowest : (xs : List ℤ) → IsLowest xs 1
zeros-lowest xs c v all = one_of_dvd c v

-- two forms of one number have the same denominator and coefficients
module _ (xs ys : List ℤ) (d e : ℕ) (f : IsForm xs d) (g : IsForm ys e) (len : length ys ≡ length xs) where
  same-fraction : number_of (length xs) xs d ≡ number_of (length xs) ys e → over (length xs) (at xs) d f.positive ≡ over (length xs) (at ys) e g.positive
  same-fraction h = sym (form-coefficients xs d f) ∙ ap (canonical (length xs)) h ∙ subst (λ n. canonical n (number_of n ys e) ≡ over n (at ys) e g.positive) len (form-coefficients ys e g)

  pub same-denominators : number_of (length xs) xs d ≡ number_of (length xs) ys e → d ≡ e
  same-denominators h = ap (λ (a : Fraction (Element (length xs))). a.den) (same-fraction h)

  pub same-coefficients : number_of (length xs) xs d ≡ number_of (length xs) ys e → (j : ℕ) → j < length xs → at xs j ≡ at ys j
  same-coefficients h j lt = sym (at-element (length xs) (at xs) j lt) ∙ ap (λ (a : Fraction (Element (length xs))). a.num.at j) (same-fraction h) ∙ at-element (length xs) (at ys) j lt

-- z^j from a list with one coefficient 1
pub unit-number : (n : ℕ) (zs : List ℤ) (j : ℕ) (xs : List ℤ) (d : ℕ) → length zs ≡ n → j < n → ((k : ℕ) → at zs k ≡ pos 0)
    → number_of (length (slice_set zs j (pos 1))) xs d ≡ number_of (length (slice_set zs j (pos 1))) (slice_set zs j (pos 1)) 1 → number_of n xs d ≡ root_power n j
unit-number n zs j xs d len lt z h = subst (λ m. number_of m xs d ≡ number_of m (slice_set zs j (pos 1)) 1) (length-set zs j (pos 1) ∙ len) h ∙ unit-value n zs j len lt z

-- equal coefficients over equal denominators
pub same-value : (n : ℕ) (xs ys : List ℤ) (d e : ℕ) → 0 < d → d ≡ e → ((j : ℕ) → j < n → at xs j ≡ at ys j) → number_of n xs d ≡ number_of n ys e
same-value n xs ys d e p q h = value-over n xs d p ∙ over-same n (at xs) (at ys) d d p p (λ j lt. ap (λ x. pos d *ℤ x) (h j lt)) ∙ sym (value-over n ys d p) ∙ ap (number_of n ys) q

-- at an order that is the length
pub form-size-at : (n : ℕ) (xs : List ℤ) (d : ℕ) → IsForm xs d → length xs ≡ n → size n (number_of n xs d) ≡ total_below n (λ j. unsigned_abs (at xs j))
form-size-at n xs d f e = subst (λ m. size m (number_of m xs d) ≡ total_below m (λ j. unsigned_abs (at xs j))) e (form-size xs d f)

pub form-denominator-at : (n : ℕ) (xs : List ℤ) (d : ℕ) → IsForm xs d → length xs ≡ n → denominator n (number_of n xs d) ≡ d
form-denominator-at n xs d f e = subst (λ m. denominator m (number_of m xs d) ≡ d) e (form-denominator xs d f)
