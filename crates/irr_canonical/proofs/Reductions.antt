-- Coefficients brought to the basis: each pass keeps the number, and after all of them the coefficients are in the basis.
--   IsTop_of_factors, digit_of_factors   the top powers where N = p^e p r and p does not divide r
--   top_of_class              each class has a top power
--   top_unique                two top powers of one class are one
--   number-reduced_at         a pass keeps the number
--   IsFreeAt-reduced_at, IsFreeAt-kept    a pass at p frees the top powers of p, and keeps those of another prime free
--   IsFreeBelow-reduced_at    so passes at the primes from the least on free the top powers of all
--   IsFreeBelow-other         a number that is no prime divisor of N needs no pass
--   IsInBasis_of_free         coefficients free below each prime divisor of N are in the basis
--   coefficients_unique       two lists of coefficients in the basis that are one number are equal
use mathlib.Core.Path.{◌≡◌, refl, sym, ◌∙◌, ap, subst}
use mathlib.Core.Logic.{◌≢◌}
use Prim.Native.Nat.{ℕ, zero, suc, ◌+◌, ◌*◌, ◌-◌, ◌/◌, ◌^◌, ◌<◌, ◌≤◌, ◌%◌, ◌∣◌}
use native.Mathlib.Decide.{ℕ_discrete}
use native.Mathlib.Omega.{arith}
use native.Mathlib.Nat as Nat
use lib.IntN.{ℤ, pos, ◌+ℤ◌, ◌-ℤ◌, ◌*ℤ◌, neg_ℤ, ℤ_discrete}
use Rattle.irr_algebra.specs.Ring.{Ring, whole}
use Rattle.irr_algebra.proofs.Rings.{eq_of_sub-zero, ring_laws}
use Rattle.irr_number.specs.Algebra.{Element-path, algebra, at-element}
use Rattle.irr_number.specs.Element.{Element, add_elements, element, neg_element}
use Rattle.irr_number.specs.Integers.{integers}
use Rattle.irr_number.specs.Number.{number}
use Rattle.irr_number.specs.NumberLaws.{number-same}
use Rattle.irr_number.specs.Prime.{IsPrime}
use Rattle.irr_number.specs.Relation.{IsZero}
use Rattle.irr_number.specs.RelationLaws.{IsZero_notion}
use Rattle.irr_number.proofs.BasisDigits.{digit-is, highest, highest_unique, pow-dvd}
use Rattle.irr_number.proofs.Canonical.{cross_products}
use Rattle.irr_number.proofs.Digits.{HighestPower, base, digit, digit-top, highest_power, shift, top, top-below, top-fixed, top-is, top-same}
use Rattle.irr_number.proofs.Reduction.{reduction-keeps_top}
use Rattle.irr_number.proofs.ReductionAt.{at-reduction, reduction-same, reduction_at}
use Rattle.irr_number.proofs.WholeNumbers.{whole_cancel}
use Rattle.irr_canonical.specs.Coefficient.{over}
use Rattle.irr_canonical.specs.Reduction.{IsFreeAt, IsFreeBelow, IsInBasis, IsReducedAt, IsTop}

-- a prime with a top power divides N
pub divides_of_IsTop : (N p t : ℕ) → IsTop N p t → p ∣ N
divides_of_IsTop N p t h = Nat.dvd_trans p (subst (λ x. x ∣ p ^ h.exponent) (Nat.pow-suc p 0 ∙ ap (λ x. x * p) (Nat.pow-zero p) ∙ Nat.one-mul p) (pow-dvd p 1 h.exponent h.positive)) h.highest.0

module _ (N p : ℕ) (hN : 0 < N) (hp : IsPrime p) where
  -- by the digit of the highest power
  digit_of_IsTop : (h : HighestPower p N) (t : ℕ) → IsTop N p t → digit N p hN hp h t ≡ p - 1
  digit_of_IsTop h t s = sym (digit-is N p hN hp h t) ∙ ap (λ x. (t % p ^ x) / p ^ (x - 1)) (sym (highest_unique N p hN hp h s.exponent s.highest)) ∙ s.digit

  IsTop_of_digit : (h : HighestPower p N) (t : ℕ) → digit N p hN hp h t ≡ p - 1 → IsTop N p t
  IsTop_of_digit h t e = record { exponent = suc h.exponent; positive = omega arith; highest = highest N p hN hp h; digit = digit-is N p hN hp h t ∙ e }

  -- where N = p^e p r, and p does not divide r
  pub IsTop_of_factors : (e r : ℕ) → N ≡ p ^ e * p * r → ¬ (p ∣ r) → (t : ℕ) → (t / p ^ e) % p ≡ p - 1 → IsTop N p t
  unfolding digit base
  IsTop_of_factors e r n o t d = IsTop_of_digit (record { exponent = e; rest = r; equal = n; other = o }) t d

  pub digit_of_factors : (e r : ℕ) → N ≡ p ^ e * p * r → ¬ (p ∣ r) → (t : ℕ) → IsTop N p t → (t / p ^ e) % p ≡ p - 1
  unfolding digit base
  digit_of_factors e r n o t s = digit_of_IsTop (record { exponent = e; rest = r; equal = n; other = o }) t s

  module _ (v : p ∣ N) where
    abbrev h : HighestPower p N
    h = highest_power p hp N hN v

    step-divides : N / p ∣ N
    step-divides = subst (λ x. N / p ∣ x) (Nat.div-mul_cancel p v) (Nat.dvd-mul_right (N / p) p)

    -- the top power of a class
    pub IsTop-top : (j : ℕ) → IsTop N p (top N p hN hp h j)
    IsTop-top j = IsTop_of_digit h (top N p hN hp h j) (digit-top N p hN hp h j)

    pub top-class : (j : ℕ) → top N p hN hp h j % (N / p) ≡ j % (N / p)
    top-class j = ap (λ x. x % (N / p)) (top-is N p hN hp h j) ∙ Nat.mod-mod_of_dvd (N / p) (j + shift N p hN hp h j * (N / p)) step-divides
        ∙ Nat.add-mul-mod_self_right j (shift N p hN hp h j) (N / p)

    top-many : (a j : ℕ) → top N p hN hp h (j + a * (N / p)) ≡ top N p hN hp h j
    top-many zero j = let e : j + 0 * (N / p) ≡ j = omega arith in ap (top N p hN hp h) e
    top-many (suc a) j = let e : j + suc a * (N / p) ≡ (j + a * (N / p)) + N / p = omega arith in
        ap (top N p hN hp h) e ∙ top-same N p hN hp h (j + a * (N / p)) ∙ top-many a j

    top-mod_class : (j : ℕ) → top N p hN hp h j ≡ top N p hN hp h (j % (N / p))
    top-mod_class j =
        let e : j ≡ j % (N / p) + (j / (N / p)) * (N / p) = sym (Nat.mod-add-div j (N / p)) ∙ omega arith in
        ap (top N p hN hp h) e ∙ top-many (j / (N / p)) (j % (N / p))

    -- each class has a top power
    pub top_of_class : (i : ℕ) → (t : ℕ) × (t < N) × IsTop N p t × (t % (N / p) ≡ i % (N / p))
    top_of_class i = (top N p hN hp h i, top-below N p hN hp h i, IsTop-top i, top-class i)

    -- two top powers of one class are one
    pub top_unique : (s t : ℕ) → s < N → t < N → IsTop N p s → IsTop N p t → s % (N / p) ≡ t % (N / p) → s ≡ t
    top_unique s t ls lt hs ht e =
        sym (top-fixed N p hN hp h s ls (digit_of_IsTop h s hs)) ∙ top-mod_class s ∙ ap (top N p hN hp h) e ∙ sym (top-mod_class t) ∙ top-fixed N p hN hp h t lt (digit_of_IsTop h t ht)

    -- a pass is the reduction at p
    reduced_at-is : (f g : ℕ → ℤ) → IsReducedAt N p f g → element N g ≡ reduction_at N hN p hp v (element N f)
    reduced_at-is f g r = Element-path N (element N g) (reduction_at N hN p hp v (element N f)) (λ i lt.
        at-element N g i lt
        ∙ r i (top N p hN hp h i) lt (top-below N p hN hp h i) (IsTop-top i) (top-class i)
        ∙ (λ k. sym (at-element N f i lt) k +ℤ neg_ℤ (sym (at-element N f (top N p hN hp h i) (top-below N p hN hp h i)) k))
        ∙ sym (at-reduction N hN p hp v (element N f) i lt))

  -- a pass keeps the number
  pub number-reduced_at : p ∣ N → (f g : ℕ → ℤ) → IsReducedAt N p f g → (d : ℕ) (q : 0 < d)
      → number N (over N g d q) ≡ number N (over N f d q)
  number-reduced_at v f g r d q =
      sym (number-same N (over N f d q) (over N g d q)
      (subst (IsZero N) (spread (algebra N) (whole (algebra N) d) (element N f) (element N g))
      ((IsZero_notion N).of_mul (whole (algebra N) d) (add_elements N (element N f) (neg_element N (element N g)))
      (subst (λ x. IsZero N (add_elements N (element N f) (neg_element N x))) (sym (reduced_at-is v f g r)) (reduction-same N hN p hp v (element N f))))))
    where
      spread : (R : Ring) (d x y : R.Carrier) → R.mul d (R.add x (R.neg y)) ≡ R.add (R.mul d x) (R.neg (R.mul d y))
      spread R d x y = simp (ring_laws, R)

-- a pass at p frees its top powers
pub IsFreeAt-reduced_at : (N p : ℕ) (f g : ℕ → ℤ) → IsReducedAt N p f g → IsFreeAt N p g
IsFreeAt-reduced_at N p f g r t lt s = r t t lt lt s refl ∙ integers.add-neg (f t)

-- and keeps those of another prime free
pub IsFreeAt-kept : (N p q : ℕ) → 0 < N → IsPrime p → p ∣ N → IsPrime q → p ≢ q → (f g : ℕ → ℤ) → IsReducedAt N p f g → IsFreeAt N q f → IsFreeAt N q g
IsFreeAt-kept N p q hN hp v hq ne f g r free t lt s =
    let w : q ∣ N = divides_of_IsTop N q t s in
    sym (at-element N g t lt) ∙ ap (λ (x : Element N). x.at t) (reduced_at-is N p hN hp v f g r)
    ∙ reduction-keeps_top N hN p hp v q hq w ne (element N f)
    (λ j lj d. at-element N f j lj ∙ free j lj (IsTop_of_digit N q hN hq (highest_power q hq N hN w) j d)) t lt (digit_of_IsTop N q hN hq (highest_power q hq N hN w) t s)

pub IsFreeBelow-reduced_at : (N p : ℕ) → 0 < N → IsPrime p → p ∣ N → (f g : ℕ → ℤ) → IsReducedAt N p f g → IsFreeBelow N p f → IsFreeBelow N (suc p) g
IsFreeBelow-reduced_at N p hN hp v f g r free q hq lt = elim (ℕ_discrete p q) [
  | yes e ↦ subst (λ x. IsFreeAt N x g) e (IsFreeAt-reduced_at N p f g r)
  | no ne ↦ IsFreeAt-kept N p q hN hp v hq ne f g r (free q hq (omega (arith, ne)))
]

-- a number that is no prime divisor of N needs no pass
pub IsFreeBelow-other : (N p : ℕ) (f : ℕ → ℤ) → ¬ (IsPrime p × (p ∣ N)) → IsFreeBelow N p f → IsFreeBelow N (suc p) f
IsFreeBelow-other N p f n free q hq lt t ltt s = elim (ℕ_discrete p q) [
  | yes e ↦ absurd (n (subst (λ x. IsPrime x × (x ∣ N)) (sym e) (hq, divides_of_IsTop N q t s)))
  | no ne ↦ free q hq (omega (arith, ne)) t ltt s
]

-- below 2 there is nothing to free
pub IsFreeBelow_two : (N : ℕ) (f : ℕ → ℤ) → IsFreeBelow N 2 f
IsFreeBelow_two N f p hp lt t ltt s = absurd (let o : 1 < p = hp.0 in omega arith)

-- what is free at each prime divisor is in the basis
pub IsInBasis_of_free : (N : ℕ) → 0 < N → (k : ℕ) → N < k → (f : ℕ → ℤ) → IsFreeBelow N k f → IsInBasis N f
IsInBasis_of_free N hN k lk f free j lt n = elim (ℤ_discrete (f j) (pos 0)) [
  | yes e ↦ e
  | no ne ↦ absurd (n (λ p m hp hm hi e.
      let s : IsTop N p j = record { exponent = m; positive = hm; highest = hi; digit = e } in
      let l : p ≤ N = Nat.le_of_dvd hN (divides_of_IsTop N p j s) in ne (free p hp (omega arith) j lt s)))
]

-- and conversely
pub free_of_IsInBasis : (N k : ℕ) (f : ℕ → ℤ) → IsInBasis N f → IsFreeBelow N k f
free_of_IsInBasis N k f b p hp lt t ltt s = b t ltt (λ inside. inside p s.exponent hp s.positive s.highest s.digit)

-- coefficients in the basis that are one number are equal
pub coefficients_unique : (N : ℕ) → 0 < N → (f g : ℕ → ℤ) → IsInBasis N f → IsInBasis N g → (d : ℕ) (q : 0 < d)
    → number N (over N f d q) ≡ number N (over N g d q) → (j : ℕ) → j < N → f j ≡ g j
coefficients_unique N hN f g bf bg d q e j lt =
    sym (at-element N f j lt) ∙ eq_of_sub-zero integers ((element N f).at j) ((element N g).at j) (whole_cancel d ((element N f).at j -ℤ (element N g).at j) q
    (spread integers (pos d) ((element N f).at j) ((element N g).at j)
    ∙ ap (λ x. x -ℤ pos d *ℤ (element N g).at j) (cross_products N hN (over N f d q) (over N g d q)
    (λ i li n. at-element N f i li ∙ bf i li n) (λ i li n. at-element N g i li ∙ bg i li n) e j lt)
    ∙ integers.add-neg (pos d *ℤ (element N g).at j)))
    ∙ at-element N g j lt
  where
    spread : (R : Ring) (d x y : R.Carrier) → R.mul d (R.add x (R.neg y)) ≡ R.add (R.mul d x) (R.neg (R.mul d y))
    spread R d x y = simp (ring_laws, R)
