-- Products, multiples and combinations of lists of terms.
--   each-inside, each-nonzero             what rows need of terms
--   product-start, product-next, product-end    one row after another
--   terms-scaled, total-scaled            multiples
--   combined-next, combined-end           combinations
use Rattle.std.proofs.Common.{refl, ◌-◌, ◌/◌, ◌%◌, subst, ◌≡◌, ◌≢◌, sym, ◌∙◌, ap, ap₂, ℕ, ℤ, suc, pos, ◌+◌, ◌*◌, ◌^◌, ◌<◌, ◌≤◌, ◌*ℤ◌, List, [], ◌∷◌, ◌++◌, take, drop, map, length, unsigned_abs, All, arith}
use Rattle.std.proofs.lemmas.Int.{unsigned_abs-mul}
use Rattle.std.proofs.lemmas.List.{drop_more, nil_from_length, take_all, take_more}
use Rattle.std.proofs.lemmas.List.Elements.{All-from_get_or, All-weaker}
use Rattle.std.proofs.lemmas.List.Sums.{get_or-le-sum_by, sum_by-cons, sum_by-take-le, sum_by_more}
use Rattle.std.proofs.Math.Seq.{take-append_seam}
use native.Mathlib.Nat as Nat
use Rattle.irr_algebra.specs.Ring.{Ring}
use Rattle.irr_algebra.proofs.Rings.{one-mul, ring_laws, zero-add, zero-mul}
use Rattle.irr_number.specs.Basis.{InBasis}
use Rattle.irr_number.specs.Number.{Number, numbers, root_power}
use Rattle.irr_number.proofs.RootPowers.{root_power-zero}
use Rattle.irr_rational.specs.Integer.{integer}
use Rattle.irr_rational.proofs.Integers.{integer-mul, integer-one}
use Rattle.irr_cyc.specs.Terms.{terms_sum}
use Rattle.irr_sparse.specs.TermList.{AreTerms, IsTerm, coefficient_at, exponent_at, row_sum, total}
use Rattle.irr_sparse.proofs.Lists.{terms-at, terms-cons, terms-head, terms-none, terms-tail}
use Rattle.irr_sparse.proofs.Rows.{product-ne-zero}
use Rattle.irr_sparse.proofs.Sums.{row-product, sum-cons, sum-more, sum-none, sum-one, sum-scaled, term_value}
use Rattle.irr_sparse.proofs.Values.{exponents-below}

pub each-inside : (n b : ℕ) (ts : List (ℕ × ℤ)) → AreTerms n b ts → All (λ t. 1 * t.0 < n) ts
each-inside n b ts h = All-weaker (λ (t : ℕ × ℤ). t.0 < n) (λ (t : ℕ × ℤ). 1 * t.0 < n) (λ t lt. omega arith) ts (exponents-below n b ts h)

pub each-nonzero : (n b : ℕ) (ts : List (ℕ × ℤ)) → AreTerms n b ts → All (λ t. t.1 ≢ pos 0) ts
each-nonzero n b ts h = All-from_get_or (λ (t : ℕ × ℤ). t.1 ≢ pos 0) ts (0, pos 0) (λ i lt. (terms-at n b ts i h lt).nonzero)

module _ (n : ℕ) (xs ys : List (ℕ × ℤ)) where
  pub product-start : (zs : List (ℕ × ℤ)) → zs ≡ [] → terms_sum n zs ≡ (numbers n).mul (terms_sum n (take 0 xs)) (terms_sum n ys)
  product-start zs e = ap (terms_sum n) e ∙ sum-none n ∙ sym (ap (λ x. (numbers n).mul x (terms_sum n ys)) (sum-none n) ∙ zero-mul (numbers n) (terms_sum n ys))

  pub product-next : (now new : Number n) (i : ℕ) (k : ℤ) → i < length xs → k ≡ coefficient_at xs i → now ≡ (numbers n).mul (terms_sum n (take i xs)) (terms_sum n ys)
      → new ≡ (numbers n).add now (row_sum n k (exponent_at xs i) 1 ys) → new ≡ (numbers n).mul (terms_sum n (take (i + 1) xs)) (terms_sum n ys)
  product-next now new i k lt ek h g = g
      ∙ ap₂ (numbers n).add h (ap (λ x. row_sum n x (exponent_at xs i) 1 ys) ek ∙ row-product n (coefficient_at xs i) (exponent_at xs i) ys)
      ∙ gather (numbers n) (terms_sum n (take i xs)) (term_value n (exponent_at xs i) (coefficient_at xs i)) (terms_sum n ys)
      ∙ ap (λ x. (numbers n).mul x (terms_sum n ys)) (sym (sum-more n (take i xs) (exponent_at xs i, coefficient_at xs i)) ∙ ap (terms_sum n) (sym (take_more xs i (0, pos 0) lt)))
    where
      gather : (R : Ring) (a t y : R.Carrier) → R.add (R.mul a y) (R.mul t y) ≡ R.mul (R.add a t) y
      gather R a t y = simp (ring_laws, R)

  pub product-end : (now : Number n) (i : ℕ) → length xs ≤ i → now ≡ (numbers n).mul (terms_sum n (take i xs)) (terms_sum n ys) → now ≡ (numbers n).mul (terms_sum n xs) (terms_sum n ys)
  product-end now i le h = h ∙ ap (λ us. (numbers n).mul (terms_sum n us) (terms_sum n ys)) (take_all i xs le)

  -- sizes of rows
  pub rows-small : (now i w : ℕ) → i < length xs → w ≤ 12000 → total xs * total ys ≤ 2 ^ 100 → now ≤ total (take i xs) * total ys * w
      → now + unsigned_abs (coefficient_at xs i) * total ys * w < 2 ^ 126
  rows-small now i w lt few h le =
      let one_more : total (take (i + 1) xs) ≡ total (take i xs) + unsigned_abs (coefficient_at xs i) = sum_by_more (λ (t : ℕ × ℤ). unsigned_abs t.1) xs i (0, pos 0) lt in
      let most : total (take (i + 1) xs) ≤ total xs = sum_by-take-le (λ (t : ℕ × ℤ). unsigned_abs t.1) xs (i + 1) in
      omega (arith, ap (λ x. x * total ys * w) one_more, le, Nat.mul-le-mul_right w (Nat.mul-le-mul_right (total ys) most), Nat.mul-le-mul h few)

  pub rows-next : (now new i w a : ℕ) → i < length xs → a ≡ unsigned_abs (coefficient_at xs i) → now ≤ total (take i xs) * total ys * w → new ≤ now + a * total ys * w → new ≤ total (take (i + 1) xs) * total ys * w
  rows-next now new i w a lt e le g =
      let one_more : total (take (i + 1) xs) ≡ total (take i xs) + unsigned_abs (coefficient_at xs i) = sum_by_more (λ (t : ℕ × ℤ). unsigned_abs t.1) xs i (0, pos 0) lt in
      omega (arith, ap (λ x. x * total ys * w) one_more, ap (λ x. x * total ys * w) e, le, g)

-- multiples
pub terms-scaled : (n b : ℕ) (k : ℤ) (ts : List (ℕ × ℤ)) → k ≢ pos 0 → AreTerms n b ts → AreTerms n b (map (λ t. (t.0, t.1 *ℤ k)) ts)
terms-scaled n b k [] ne h = terms-none n b
terms-scaled n b k (t ∷ ts) ne h = terms-cons n b (t.0, t.1 *ℤ k) (map (λ t. (t.0, t.1 *ℤ k)) ts)
    (record { from = (terms-head n b t ts h).from; below = (terms-head n b t ts h).below; basis = (terms-head n b t ts h).basis; nonzero = product-ne-zero t.1 k (terms-head n b t ts h).nonzero ne })
    (terms-scaled n (suc t.0) k ts ne (terms-tail n b t ts h))

pub total-scaled : (k : ℤ) (ts : List (ℕ × ℤ)) → total (map (λ t. (t.0, t.1 *ℤ k)) ts) ≡ total ts * unsigned_abs k
total-scaled k [] = sym (Nat.zero-mul (unsigned_abs k))
total-scaled k (t ∷ ts) =
    let a : total (map (λ t. (t.0, t.1 *ℤ k)) (t ∷ ts)) ≡ unsigned_abs (t.1 *ℤ k) + total (map (λ t. (t.0, t.1 *ℤ k)) ts) = sum_by-cons (λ (t : ℕ × ℤ). unsigned_abs t.1) (t.0, t.1 *ℤ k) (map (λ t. (t.0, t.1 *ℤ k)) ts) in
    let b : total (t ∷ ts) ≡ unsigned_abs t.1 + total ts = sum_by-cons (λ (t : ℕ × ℤ). unsigned_abs t.1) t ts in
    a ∙ (λ i. unsigned_abs-mul t.1 k i + total-scaled k ts i) ∙ (let s : unsigned_abs t.1 * unsigned_abs k + total ts * unsigned_abs k ≡ (unsigned_abs t.1 + total ts) * unsigned_abs k = omega arith in s) ∙ ap (λ x. x * unsigned_abs k) (sym b)

-- combinations
module _ (n : ℕ) (k : ℤ) (ys : List (ℕ × ℤ)) where
  pub combined-start : (old : Number n) → old ≡ (numbers n).add old ((numbers n).mul (integer (numbers n) k) (terms_sum n (take 0 ys)))
  combined-start old = sym (ap (λ x. (numbers n).add old ((numbers n).mul (integer (numbers n) k) x)) (sum-none n) ∙ nothing (numbers n) old (integer (numbers n) k))
    where
      nothing : (R : Ring) (old c : R.Carrier) → R.add old (R.mul c R.zero) ≡ old
      nothing R old c = simp (ring_laws, R)

  pub combined-next : (old now new : Number n) (i : ℕ) (c : ℤ) → i < length ys → c ≡ coefficient_at ys i *ℤ k → now ≡ (numbers n).add old ((numbers n).mul (integer (numbers n) k) (terms_sum n (take i ys)))
      → new ≡ (numbers n).add now (term_value n (exponent_at ys i) c) → new ≡ (numbers n).add old ((numbers n).mul (integer (numbers n) k) (terms_sum n (take (i + 1) ys)))
  combined-next old now new i c lt ec h g = g
      ∙ ap₂ (numbers n).add h (ap (λ x. (numbers n).mul x (root_power n (exponent_at ys i))) (ap (integer (numbers n)) ec ∙ integer-mul (numbers n) (coefficient_at ys i) k))
      ∙ gather (numbers n) old (integer (numbers n) k) (terms_sum n (take i ys)) (integer (numbers n) (coefficient_at ys i)) (root_power n (exponent_at ys i))
      ∙ ap (λ x. (numbers n).add old ((numbers n).mul (integer (numbers n) k) x)) (sym (sum-more n (take i ys) (exponent_at ys i, coefficient_at ys i)) ∙ ap (terms_sum n) (sym (take_more ys i (0, pos 0) lt)))
    where
      gather : (R : Ring) (old k s c z : R.Carrier) → R.add (R.add old (R.mul k s)) (R.mul (R.mul c k) z) ≡ R.add old (R.mul k (R.add s (R.mul c z)))
      gather R old k s c z = simp (ring_laws, R)

-- one power alone
pub alone : (n j : ℕ) (ts : List (ℕ × ℤ)) (new : Number n) → ts ≡ [] → new ≡ (numbers n).add (terms_sum n ts) (term_value n j (pos 1)) → new ≡ root_power n j
alone n j ts new e h = h ∙ ap (λ (us : List (ℕ × ℤ)). (numbers n).add (terms_sum n us) (term_value n j (pos 1))) e ∙ ap (λ x. (numbers n).add x (term_value n j (pos 1))) (sum-none n)
    ∙ zero-add (numbers n) (term_value n j (pos 1)) ∙ ap (λ x. (numbers n).mul x (root_power n j)) (integer-one (numbers n)) ∙ one-mul (numbers n) (root_power n j)

pub term-scaled : (n b j : ℕ) (c k : ℤ) → k ≢ pos 0 → IsTerm n b j c → IsTerm n b j (c *ℤ k)
term-scaled n b j c k ne t = record { from = t.from; below = t.below; basis = t.basis; nonzero = product-ne-zero c k t.nonzero ne }

module _ (ts : List (ℕ × ℤ)) (m i : ℕ) (lt : i < length ts) where
  at_more : total (take (i + 1) ts) ≡ total (take i ts) + unsigned_abs (coefficient_at ts i)
  at_more = sum_by_more (λ (t : ℕ × ℤ). unsigned_abs t.1) ts i (0, pos 0) lt

  more_le : total (take (i + 1) ts) ≤ total ts
  more_le = sum_by-take-le (λ (t : ℕ × ℤ). unsigned_abs t.1) ts (i + 1)

  pub factor-small : total ts * m < 2 ^ 126 → unsigned_abs (coefficient_at ts i) * m < 2 ^ 127
  factor-small h = omega (arith, h, Nat.mul-le-mul_right m (get_or-le-sum_by (λ (t : ℕ × ℤ). unsigned_abs t.1) ts i (0, pos 0) lt))

  pub combined-most : (old now new a : ℕ) → a ≡ unsigned_abs (coefficient_at ts i) * m → now ≤ old + total (take i ts) * m → new ≤ now + a → new ≤ old + total (take (i + 1) ts) * m
  combined-most old now new a e h g = omega (arith, ap (λ x. x * m) at_more, e, h, g)

  pub combined-small : (old now a : ℕ) → a ≡ unsigned_abs (coefficient_at ts i) * m → now ≤ old + total (take i ts) * m → old + total ts * m < 2 ^ 126 → now + a < 2 ^ 126
  combined-small old now a e h small = omega (arith, ap (λ x. x * m) at_more, Nat.mul-le-mul_right m more_le, e, h, small)

module _ (ts : List (ℕ × ℤ)) where
  pub collected-small : (now i w : ℕ) → i < length ts → w ≤ 12000 → total ts ≤ 2 ^ 100 → now ≤ total (take i ts) * w → now + unsigned_abs (coefficient_at ts i) * w < 2 ^ 126
  collected-small now i w lt few h le =
      let one_more : total (take (i + 1) ts) ≡ total (take i ts) + unsigned_abs (coefficient_at ts i) = sum_by_more (λ (t : ℕ × ℤ). unsigned_abs t.1) ts i (0, pos 0) lt in
      let most : total (take (i + 1) ts) ≤ total ts = sum_by-take-le (λ (t : ℕ × ℤ). unsigned_abs t.1) ts (i + 1) in
      omega (arith, ap (λ x. x * w) one_more, le, Nat.mul-le-mul_right w most, Nat.mul-le-mul h few)

  pub collected-most : (now new i w a : ℕ) → i < length ts → a ≡ unsigned_abs (coefficient_at ts i) → now ≤ total (take i ts) * w → new ≤ now + a * w → new ≤ total (take (i + 1) ts) * w
  collected-most now new i w a lt e le g =
      let one_more : total (take (i + 1) ts) ≡ total (take i ts) + unsigned_abs (coefficient_at ts i) = sum_by_more (λ (t : ℕ × ℤ). unsigned_abs t.1) ts i (0, pos 0) lt in
      omega (arith, ap (λ x. x * w) one_more, ap (λ x. x * w) e, le, g)

pub collected-next : (n : ℕ) (ts : List (ℕ × ℤ)) (now new : Number n) (i : ℕ) (k : ℤ) → i < length ts → k ≡ coefficient_at ts i → now ≡ terms_sum n (take i ts)
    → new ≡ (numbers n).add now (term_value n (exponent_at ts i) k) → new ≡ terms_sum n (take (i + 1) ts)
collected-next n ts now new i k lt e h g = g ∙ ap₂ (numbers n).add h (ap (term_value n (exponent_at ts i)) e) ∙ sym (sum-more n (take i ts) (exponent_at ts i, coefficient_at ts i)) ∙ ap (terms_sum n) (sym (take_more ts i (0, pos 0) lt))

pub collected-end : (n : ℕ) (ts : List (ℕ × ℤ)) (i : ℕ) → length ts ≤ i → terms_sum n (take i ts) ≡ terms_sum n ts
collected-end n ts i le = ap (terms_sum n) (take_all i ts le)

-- a vector whose slice was written holds what was written
pub written-terms : (items new : List (ℕ × ℤ)) (count : ℕ) → length new ≡ count → take count (new ++ drop (length new) items) ≡ new
written-terms items new count e = ap (λ n. take n (new ++ drop (length new) items)) (sym e) ∙ take-append_seam new (drop (length new) items)

-- a product with nothing
pub nothing-left : (n : ℕ) (xs ys zs : List (ℕ × ℤ)) → length xs ≡ 0 → zs ≡ [] → terms_sum n zs ≡ (numbers n).mul (terms_sum n xs) (terms_sum n ys)
nothing-left n xs ys zs e z = ap (terms_sum n) z ∙ sum-none n
    ∙ sym (ap (λ (ts : List (ℕ × ℤ)). (numbers n).mul (terms_sum n ts) (terms_sum n ys)) (nil_from_length xs e) ∙ ap (λ x. (numbers n).mul x (terms_sum n ys)) (sum-none n) ∙ zero-mul (numbers n) (terms_sum n ys))

pub nothing-right : (n : ℕ) (xs ys zs : List (ℕ × ℤ)) → length ys ≡ 0 → zs ≡ [] → terms_sum n zs ≡ (numbers n).mul (terms_sum n xs) (terms_sum n ys)
nothing-right n xs ys zs e z = nothing-left n ys xs zs e z ∙ (numbers n).mul_comm (terms_sum n ys) (terms_sum n xs)

-- one rational term
pub rational-sum : (n : ℕ) (xs : List (ℕ × ℤ)) → length xs ≡ 1 → exponent_at xs 0 ≡ 0 → terms_sum n xs ≡ integer (numbers n) (coefficient_at xs 0)
rational-sum n [] e z = absurd (omega arith)
rational-sum n (t ∷ []) e z = sum-cons n t [] ∙ ap ((numbers n).add (term_value n t.0 t.1)) (sum-none n) ∙ (numbers n).add-zero (term_value n t.0 t.1)
    ∙ ap (λ j. term_value n j t.1) z ∙ ap ((numbers n).mul (integer (numbers n) t.1)) (root_power-zero n) ∙ (numbers n).mul-one (integer (numbers n) t.1)
rational-sum n (t ∷ u ∷ ts) e z = absurd (omega arith)

pub rational-product : (n : ℕ) (xs ys zs : List (ℕ × ℤ)) (k : ℤ) → length xs ≡ 1 → exponent_at xs 0 ≡ 0 → k ≡ coefficient_at xs 0 → zs ≡ map (λ (t : ℕ × ℤ). (t.0, t.1 *ℤ k)) ys
    → terms_sum n zs ≡ (numbers n).mul (terms_sum n xs) (terms_sum n ys)
rational-product n xs ys zs k e z ek is = ap (terms_sum n) is ∙ sum-scaled n k ys ∙ ap (λ x. (numbers n).mul x (terms_sum n ys)) (ap (integer (numbers n)) ek ∙ sym (rational-sum n xs e z))

pub rational-terms : (n : ℕ) (xs ys zs : List (ℕ × ℤ)) (k : ℤ) → length xs ≡ 1 → AreTerms n 0 xs → k ≡ coefficient_at xs 0 → zs ≡ map (λ (t : ℕ × ℤ). (t.0, t.1 *ℤ k)) ys → AreTerms n 0 ys → AreTerms n 0 zs
rational-terms n xs ys zs k e h ek is g = subst (AreTerms n 0) (sym is) (terms-scaled n 0 k ys (λ z. (terms-at n 0 xs 0 h (omega arith)).nonzero (sym ek ∙ z)) g)

pub rational-small : (xs ys : List (ℕ × ℤ)) (k : ℤ) → length xs ≡ 1 → k ≡ coefficient_at xs 0 → total xs * total ys ≤ 2 ^ 100 → total ys * unsigned_abs k < 2 ^ 126
rational-small xs ys k e ek h =
    let le : unsigned_abs (coefficient_at xs 0) ≤ total xs = get_or-le-sum_by (λ (t : ℕ × ℤ). unsigned_abs t.1) xs 0 (0, pos 0) (omega arith) in
    let s : unsigned_abs k ≡ unsigned_abs (coefficient_at xs 0) = ap unsigned_abs ek in
    omega (arith, h, ap (λ x. total ys * x) s, Nat.mul-le-mul_left (total ys) le)

-- what is left of a list, one term further on
module _ (ts : List (ℕ × ℤ)) (i : ℕ) (lt : i < length ts) where
  drop_one : drop i ts ≡ (exponent_at ts i, coefficient_at ts i) ∷ drop (i + 1) ts
  drop_one = drop_more ts i (0, pos 0) lt

  left-total : total (drop i ts) ≡ unsigned_abs (coefficient_at ts i) + total (drop (i + 1) ts)
  left-total = ap total drop_one ∙ sum_by-cons (λ (t : ℕ × ℤ). unsigned_abs t.1) (exponent_at ts i, coefficient_at ts i) (drop (i + 1) ts)

  pub below-next : (n : ℕ) (k : ℤ) (start now new : Number n) (c : ℤ) → c ≡ coefficient_at ts i *ℤ k
      → (numbers n).add now ((numbers n).mul (integer (numbers n) k) (terms_sum n (drop i ts))) ≡ start → new ≡ (numbers n).add now (term_value n (exponent_at ts i) c)
      → (numbers n).add new ((numbers n).mul (integer (numbers n) k) (terms_sum n (drop (i + 1) ts))) ≡ start
  below-next n k start now new c ec h g = ap (λ x. (numbers n).add x ((numbers n).mul (integer (numbers n) k) (terms_sum n (drop (i + 1) ts))))
      (g ∙ ap (λ x. (numbers n).add now ((numbers n).mul x (root_power n (exponent_at ts i)))) (ap (integer (numbers n)) ec ∙ integer-mul (numbers n) (coefficient_at ts i) k))
      ∙ gather (numbers n) now (integer (numbers n) (coefficient_at ts i)) (integer (numbers n) k) (root_power n (exponent_at ts i)) (terms_sum n (drop (i + 1) ts))
      ∙ ap (λ x. (numbers n).add now ((numbers n).mul (integer (numbers n) k) x)) (sym (ap (terms_sum n) drop_one ∙ sum-cons n (exponent_at ts i, coefficient_at ts i) (drop (i + 1) ts))) ∙ h
    where
      gather : (R : Ring) (now c k z s : R.Carrier) → R.add (R.add now (R.mul (R.mul c k) z)) (R.mul k s) ≡ R.add now (R.mul k (R.add (R.mul c z) s))
      gather R now c k z s = simp (ring_laws, R)

  pub below-most : (start now new a m : ℕ) → a ≡ unsigned_abs (coefficient_at ts i) * m → now + total (drop i ts) * m ≤ start → new ≤ now + a → new + total (drop (i + 1) ts) * m ≤ start
  below-most start now new a m e h g = omega (arith, ap (λ x. x * m) left-total, e, h, g)

  pub below-small : (start now a m : ℕ) → a ≡ unsigned_abs (coefficient_at ts i) * m → now + total (drop i ts) * m ≤ start → start < 2 ^ 126 → now + a < 2 ^ 126
  below-small start now a m e h small = omega (arith, ap (λ x. x * m) left-total, e, h, small)

  pub below-product : (start now m : ℕ) → now + total (drop i ts) * m ≤ start → start < 2 ^ 126 → unsigned_abs (coefficient_at ts i) * m < 2 ^ 127
  below-product start now m h small = omega (arith, ap (λ x. x * m) left-total, h, small)

-- a term on the left, among those on the right
module _ (xs : List (ℕ × ℤ)) (i : ℕ) (lt : i < length xs) where
  pub merge-next : (n : ℕ) (l : ℤ) (rest all mid new : Number n) (c : ℤ) → c ≡ coefficient_at xs i *ℤ l
      → (numbers n).add mid rest ≡ (numbers n).add ((numbers n).mul (integer (numbers n) l) (terms_sum n (take i xs))) all → new ≡ (numbers n).add mid (term_value n (exponent_at xs i) c)
      → (numbers n).add new rest ≡ (numbers n).add ((numbers n).mul (integer (numbers n) l) (terms_sum n (take (i + 1) xs))) all
  merge-next n l rest all mid new c ec h g = ap (λ x. (numbers n).add x rest) (g ∙ ap (λ x. (numbers n).add mid ((numbers n).mul x (root_power n (exponent_at xs i)))) (ap (integer (numbers n)) ec ∙ integer-mul (numbers n) (coefficient_at xs i) l))
      ∙ apart (numbers n) mid rest ((numbers n).mul ((numbers n).mul (integer (numbers n) (coefficient_at xs i)) (integer (numbers n) l)) (root_power n (exponent_at xs i)))
      ∙ ap (λ x. (numbers n).add x ((numbers n).mul ((numbers n).mul (integer (numbers n) (coefficient_at xs i)) (integer (numbers n) l)) (root_power n (exponent_at xs i)))) h
      ∙ gather (numbers n) (integer (numbers n) l) (terms_sum n (take i xs)) all (integer (numbers n) (coefficient_at xs i)) (root_power n (exponent_at xs i))
      ∙ ap (λ x. (numbers n).add ((numbers n).mul (integer (numbers n) l) x) all) (sym (sum-more n (take i xs) (exponent_at xs i, coefficient_at xs i)) ∙ ap (terms_sum n) (sym (take_more xs i (0, pos 0) lt)))
    where
      apart : (R : Ring) (a b t : R.Carrier) → R.add (R.add a t) b ≡ R.add (R.add a b) t
      apart R a b t = simp (ring_laws, R)

      gather : (R : Ring) (l s all c z : R.Carrier) → R.add (R.add (R.mul l s) all) (R.mul (R.mul c l) z) ≡ R.add (R.mul l (R.add s (R.mul c z))) all
      gather R l s all c z = simp (ring_laws, R)

  pub merge-most : (rest all mid new a m : ℕ) → a ≡ unsigned_abs (coefficient_at xs i) * m → mid + rest ≤ total (take i xs) * m + all → new ≤ mid + a → new + rest ≤ total (take (i + 1) xs) * m + all
  merge-most rest all mid new a m e h g = omega (arith, ap (λ x. x * m) (at_more xs m i lt), e, h, g)

  pub merge-small : (rest all mid a m : ℕ) → a ≡ unsigned_abs (coefficient_at xs i) * m → mid + rest ≤ total (take i xs) * m + all → total xs * m + all < 2 ^ 110 → mid + a < 2 ^ 126
  merge-small rest all mid a m e h small = omega (arith, ap (λ x. x * m) (at_more xs m i lt), Nat.mul-le-mul_right m (more_le xs m i lt), e, h, small)

  pub merge-rest : (rest all mid m : ℕ) → mid + rest ≤ total (take i xs) * m + all → total xs * m + all < 2 ^ 110 → mid + rest < 2 ^ 126
  merge-rest rest all mid m h small = omega (arith, ap (λ x. x * m) (at_more xs m i lt), Nat.mul-le-mul_right m (more_le xs m i lt), h, small)

  pub merge-product : (all m : ℕ) → total xs * m + all < 2 ^ 110 → unsigned_abs (coefficient_at xs i) * m < 2 ^ 127
  merge-product all m small = factor-small xs m i lt (omega arith)

-- 1 is in the basis
pub terms-one : (n : ℕ) → 0 < n → AreTerms n 0 ((0, pos 1) ∷ [])
terms-one n p = terms-cons n 0 (0, pos 1) [] (record { from = omega arith; below = p; basis = in_basis; nonzero = λ e. one_or_none (unsigned_abs (pos 0)) refl (ap unsigned_abs e) }) (terms-none n 1)
  where
    one_or_none : (k : ℕ) → 0 ≡ k → 1 ≡ k → ⊥
    one_or_none k e f = omega (arith, e, f)

    in_basis : InBasis n 0
    in_basis q m hq hm hi e = let one : 1 < q = hq.0 in let z : (0 % q ^ m) / q ^ (m - 1) ≡ 0 = ap (λ x. x / q ^ (m - 1)) (Nat.zero-mod (q ^ m)) ∙ Nat.zero-div (q ^ (m - 1)) in omega (arith, e, z)

pub sum-unit : (n : ℕ) → terms_sum n ((0, pos 1) ∷ []) ≡ root_power n 0
sum-unit n = sum-one n (0, pos 1) ∙ ap (λ x. (numbers n).mul x (root_power n 0)) (integer-one (numbers n)) ∙ one-mul (numbers n) (root_power n 0)
