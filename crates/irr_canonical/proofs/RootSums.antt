-- Sums of powers of z with signs, over denominators: sums, negatives, products, lifts.
--   IsRootSum-zero, IsRootSum-root, IsRootSum-one    0, z^j and 1
--   IsRootSum-neg, IsRootSum-add, IsRootSum-sub, IsRootSum-mul    of the operations
--   IsRootSum-add_same        a sum over one denominator
--   IsRootSum-many            over a multiple of the denominator
--   IsRootSum-more            with room for more powers
--   IsRootSum-lift            seen at a multiple of the order
use mathlib.Core.Path.{◌≡◌, refl, sym, ◌∙◌, ap, ap₂, subst}
use Prim.Native.Nat.{ℕ, zero, suc, ◌+◌, ◌*◌, ◌/◌, ◌<◌, ◌≤◌, ◌∣◌}
use native.Mathlib.Nat as Nat
use native.Mathlib.Omega.{arith}
use Rattle.std.proofs.Common.{Bool, true, false, List, [], ◌∷◌, ◌++◌, length, length-append}
use Rattle.irr_algebra.specs.Ring.{Ring, whole}
use Rattle.irr_algebra.proofs.Homomorphisms.{map-neg, map-whole, map-zero}
use Rattle.irr_algebra.proofs.Rings.{mul-zero, neg-add, neg-neg, neg-zero, one-mul, ring_laws, zero-add, zero-mul}
use Rattle.irr_algebra.proofs.Whole.{whole-mul, whole-one, whole-suc, whole-zero}
use Rattle.irr_number.specs.Lift.{lift}
use Rattle.irr_number.specs.Number.{Number, numbers, root_power}
use Rattle.irr_number.proofs.Lifts.{lift-root_power}
use Rattle.irr_number.proofs.RootPowers.{root_power-mul, root_power-zero}
use Rattle.irr_canonical.specs.RootSum.{IsRootSum, SignedPower, signed_power, signed_sum, with_sign}

-- the other sign
flip : Bool → Bool
flip true = false
flip false = true

-- the sign of a product
both : Bool → Bool → Bool
both true b = flip b
both false b = b

-- negatives, products with one power, products, and n copies of a list
negate : List SignedPower → List SignedPower
negate [] = []
negate (p ∷ ps) = record { negative = flip p.negative; exponent = p.exponent } ∷ negate ps

times : SignedPower → List SignedPower → List SignedPower
times p [] = []
times p (q ∷ qs) = record { negative = both p.negative q.negative; exponent = p.exponent + q.exponent } ∷ times p qs

product : List SignedPower → List SignedPower → List SignedPower
product [] qs = []
product (p ∷ ps) qs = times p qs ++ product ps qs

copies : ℕ → List SignedPower → List SignedPower
copies zero ps = []
copies (suc n) ps = ps ++ copies n ps

-- each exponent times u
stretch : ℕ → List SignedPower → List SignedPower
stretch u [] = []
stretch u (p ∷ ps) = record { negative = p.negative; exponent = u * p.exponent } ∷ stretch u ps

length-negate : (ps : List SignedPower) → length (negate ps) ≡ length ps
unfolding negate
length-negate [] = refl
length-negate (p ∷ ps) = ap suc (length-negate ps)

length-times : (p : SignedPower) (qs : List SignedPower) → length (times p qs) ≡ length qs
unfolding times
length-times p [] = refl
length-times p (q ∷ qs) = ap suc (length-times p qs)

length-stretch : (u : ℕ) (ps : List SignedPower) → length (stretch u ps) ≡ length ps
unfolding stretch
length-stretch u [] = refl
length-stretch u (p ∷ ps) = ap suc (length-stretch u ps)

length-product : (ps qs : List SignedPower) → length (product ps qs) ≡ length ps * length qs
unfolding product
length-product [] qs = sym (Nat.zero-mul (length qs))
length-product (p ∷ ps) qs = length-append (times p qs) (product ps qs) ∙ ap₂ ◌+◌ (length-times p qs) (length-product ps qs) ∙ omega arith

length-copies : (n : ℕ) (ps : List SignedPower) → length (copies n ps) ≡ n * length ps
unfolding copies
length-copies zero ps = sym (Nat.zero-mul (length ps))
length-copies (suc n) ps = length-append ps (copies n ps) ∙ ap (λ x. length ps + x) (length-copies n ps) ∙ omega arith

module _ (N : ℕ) where
  open numbers N use {add as ◌⊕◌, mul as ◌⊗◌, zero as 𝟘, one as 𝟙, neg}

  infixl 65 ◌⊕◌
  infixl 70 ◌⊗◌
  with_sign-flip : (b : Bool) (x : Number N) → with_sign N (flip b) x ≡ neg (with_sign N b x)
  unfolding with_sign flip
  with_sign-flip true x = sym (neg-neg (numbers N) x)
  with_sign-flip false x = refl

  with_sign-both : (a b : Bool) (x y : Number N) → with_sign N (both a b) (x ⊗ y) ≡ with_sign N a x ⊗ with_sign N b y
  unfolding with_sign flip both
  with_sign-both true true x y = signs (numbers N) x y
    where
      signs : (R : Ring) (x y : R.Carrier) → R.mul x y ≡ R.mul (R.neg x) (R.neg y)
      signs R x y = simp (ring_laws, R)
  with_sign-both true false x y = signs (numbers N) x y
    where
      signs : (R : Ring) (x y : R.Carrier) → R.neg (R.mul x y) ≡ R.mul (R.neg x) y
      signs R x y = simp (ring_laws, R)
  with_sign-both false true x y = signs (numbers N) x y
    where
      signs : (R : Ring) (x y : R.Carrier) → R.neg (R.mul x y) ≡ R.mul x (R.neg y)
      signs R x y = simp (ring_laws, R)
  with_sign-both false false x y = refl

  signed_sum-append : (ps qs : List SignedPower) → signed_sum N (ps ++ qs) ≡ signed_sum N ps ⊕ signed_sum N qs
  unfolding signed_sum
  signed_sum-append [] qs = sym (zero-add (numbers N) (signed_sum N qs))
  signed_sum-append (p ∷ ps) qs = ap (λ x. signed_power N p ⊕ x) (signed_sum-append ps qs) ∙ sym ((numbers N).add_assoc (signed_power N p) (signed_sum N ps) (signed_sum N qs))

  signed_sum-negate : (ps : List SignedPower) → signed_sum N (negate ps) ≡ neg (signed_sum N ps)
  unfolding signed_sum negate
  signed_sum-negate [] = sym (neg-zero (numbers N))
  signed_sum-negate (p ∷ ps) = ap₂ ◌⊕◌ (with_sign-flip p.negative (root_power N p.exponent)) (signed_sum-negate ps) ∙ sym (neg-add (numbers N) (signed_power N p) (signed_sum N ps))

  signed_sum-times : (p : SignedPower) (qs : List SignedPower) → signed_sum N (times p qs) ≡ signed_power N p ⊗ signed_sum N qs
  unfolding signed_sum times
  signed_sum-times p [] = sym (mul-zero (numbers N) (signed_power N p))
  signed_sum-times p (q ∷ qs) = ap₂ ◌⊕◌
      (ap (with_sign N (both p.negative q.negative)) (sym (root_power-mul N p.exponent q.exponent)) ∙ with_sign-both p.negative q.negative (root_power N p.exponent) (root_power N q.exponent))
      (signed_sum-times p qs) ∙ sym ((numbers N).mul-add (signed_power N p) (signed_power N q) (signed_sum N qs))

  signed_sum-product : (ps qs : List SignedPower) → signed_sum N (product ps qs) ≡ signed_sum N ps ⊗ signed_sum N qs
  unfolding signed_sum product
  signed_sum-product [] qs = sym (zero-mul (numbers N) (signed_sum N qs))
  signed_sum-product (p ∷ ps) qs = signed_sum-append (times p qs) (product ps qs) ∙ ap₂ ◌⊕◌ (signed_sum-times p qs) (signed_sum-product ps qs)
      ∙ spread (numbers N) (signed_power N p) (signed_sum N ps) (signed_sum N qs)
    where
      spread : (R : Ring) (p x y : R.Carrier) → R.add (R.mul p y) (R.mul x y) ≡ R.mul (R.add p x) y
      spread R p x y = simp (ring_laws, R)

  signed_sum-copies : (n : ℕ) (ps : List SignedPower) → signed_sum N (copies n ps) ≡ whole (numbers N) n ⊗ signed_sum N ps
  unfolding signed_sum copies
  signed_sum-copies zero ps = sym (ap (λ x. x ⊗ signed_sum N ps) (whole-zero (numbers N)) ∙ zero-mul (numbers N) (signed_sum N ps))
  signed_sum-copies (suc n) ps = signed_sum-append ps (copies n ps) ∙ ap (λ x. signed_sum N ps ⊕ x) (signed_sum-copies n ps)
      ∙ spread (numbers N) (signed_sum N ps) (whole (numbers N) n) ∙ ap (λ x. x ⊗ signed_sum N ps) (sym (whole-suc (numbers N) n))
    where
      spread : (R : Ring) (x n : R.Carrier) → R.add x (R.mul n x) ≡ R.mul (R.add R.one n) x
      spread R x n = simp (ring_laws, R)

  -- 0
  pub IsRootSum-zero : (d : ℕ) → 0 < d → IsRootSum N 0 d 𝟘
  unfolding signed_sum
  IsRootSum-zero d p = record { positive = p; powers = []; few = omega arith; multiple = mul-zero (numbers N) (whole (numbers N) d) }

  -- z^j
  pub IsRootSum-root : (j : ℕ) → IsRootSum N 1 1 (root_power N j)
  unfolding signed_sum with_sign
  IsRootSum-root j = record {
    positive = omega arith;
    powers = record { negative = false; exponent = j } ∷ [];
    few = omega arith;
    multiple = ap (λ x. x ⊗ root_power N j) (whole-one (numbers N)) ∙ one-mul (numbers N) (root_power N j) ∙ sym ((numbers N).add-zero (root_power N j));
  }

  pub IsRootSum-one : IsRootSum N 1 1 𝟙
  IsRootSum-one = subst (IsRootSum N 1 1) (root_power-zero N) (IsRootSum-root 0)

  -- room for more powers
  pub IsRootSum-more : {s d : ℕ} (t : ℕ) {x : Number N} → s ≤ t → IsRootSum N s d x → IsRootSum N t d x
  IsRootSum-more t l h = record { positive = h.positive; powers = h.powers; few = omega (arith, h.few); multiple = h.multiple }

  pub IsRootSum-neg : {s d : ℕ} {x : Number N} → IsRootSum N s d x → IsRootSum N s d (neg x)
  IsRootSum-neg {s} {d} {x} h = record {
    positive = h.positive;
    powers = negate h.powers;
    few = omega (arith, h.few, length-negate h.powers);
    multiple = signs (numbers N) (whole (numbers N) d) x ∙ ap neg h.multiple ∙ sym (signed_sum-negate h.powers);
  }
    where
      signs : (R : Ring) (d x : R.Carrier) → R.mul d (R.neg x) ≡ R.neg (R.mul d x)
      signs R d x = simp (ring_laws, R)

  -- a sum over one denominator
  pub IsRootSum-add_same : {s t d : ℕ} {x y : Number N} → IsRootSum N s d x → IsRootSum N t d y → IsRootSum N (s + t) d (x ⊕ y)
  IsRootSum-add_same {s} {t} {d} {x} {y} h k = record {
    positive = h.positive;
    powers = h.powers ++ k.powers;
    few = omega (arith, h.few, k.few, length-append h.powers k.powers);
    multiple = (numbers N).mul-add (whole (numbers N) d) x y ∙ ap₂ ◌⊕◌ h.multiple k.multiple ∙ sym (signed_sum-append h.powers k.powers);
  }

  -- over a multiple of the denominator
  pub IsRootSum-many : {s d : ℕ} (e : ℕ) {x : Number N} → 0 < e → IsRootSum N s d x → IsRootSum N (e * s) (e * d) x
  IsRootSum-many {s} {d} e {x} p h = record {
    positive = Nat.mul-pos p h.positive;
    powers = copies e h.powers;
    few = omega (arith, length-copies e h.powers, Nat.mul-le-mul_left e h.few);
    multiple = ap (λ y. y ⊗ x) (whole-mul (numbers N) e d) ∙ (numbers N).mul_assoc (whole (numbers N) e) (whole (numbers N) d) x ∙ ap (λ y. whole (numbers N) e ⊗ y) h.multiple ∙ sym (signed_sum-copies e h.powers);
  }

  pub IsRootSum-add : {s t d e : ℕ} {x y : Number N} → IsRootSum N s d x → IsRootSum N t e y → IsRootSum N (e * s + d * t) (d * e) (x ⊕ y)
  IsRootSum-add {s} {t} {d} {e} {x} {y} h k = IsRootSum-add_same (subst (λ c. IsRootSum N (e * s) c x) (Nat.mul_comm e d) (IsRootSum-many e k.positive h)) (IsRootSum-many d h.positive k)

  pub IsRootSum-sub : {s t d e : ℕ} {x y : Number N} → IsRootSum N s d x → IsRootSum N t e y → IsRootSum N (e * s + d * t) (d * e) (x ⊕ neg y)
  IsRootSum-sub h k = IsRootSum-add h (IsRootSum-neg k)

  pub IsRootSum-mul : {s t d e : ℕ} {x y : Number N} → IsRootSum N s d x → IsRootSum N t e y → IsRootSum N (s * t) (d * e) (x ⊗ y)
  IsRootSum-mul {s} {t} {d} {e} {x} {y} h k = record {
    positive = Nat.mul-pos h.positive k.positive;
    powers = product h.powers k.powers;
    few = omega (arith, length-product h.powers k.powers, Nat.mul-le-mul h.few k.few);
    multiple = ap (λ c. c ⊗ (x ⊗ y)) (whole-mul (numbers N) d e) ∙ four (numbers N) (whole (numbers N) d) (whole (numbers N) e) x y ∙ ap₂ ◌⊗◌ h.multiple k.multiple ∙ sym (signed_sum-product h.powers k.powers);
  }
    where
      four : (R : Ring) (d e x y : R.Carrier) → R.mul (R.mul d e) (R.mul x y) ≡ R.mul (R.mul d x) (R.mul e y)
      four R d e x y = simp (ring_laws, R)

module _ (N M : ℕ) (hN : 0 < N) (v : N ∣ M) where
  with_sign-lift : (b : Bool) (x : Number N) → (lift N M hN v).map (with_sign N b x) ≡ with_sign M b ((lift N M hN v).map x)
  unfolding with_sign
  with_sign-lift true x = map-neg (lift N M hN v) x
  with_sign-lift false x = refl

  signed_sum-lift : (ps : List SignedPower) → (lift N M hN v).map (signed_sum N ps) ≡ signed_sum M (stretch (M / N) ps)
  unfolding signed_sum stretch
  signed_sum-lift [] = map-zero (lift N M hN v)
  signed_sum-lift (p ∷ ps) = (lift N M hN v).map-add (signed_power N p) (signed_sum N ps)
      ∙ ap₂ (numbers M).add (with_sign-lift p.negative (root_power N p.exponent) ∙ ap (with_sign M p.negative) (lift-root_power N M hN v p.exponent)) (signed_sum-lift ps)

  -- at a multiple of the order
  pub IsRootSum-lift : {s d : ℕ} {x : Number N} → IsRootSum N s d x → IsRootSum M s d ((lift N M hN v).map x)
  IsRootSum-lift {s} {d} {x} h = record {
    positive = h.positive;
    powers = stretch (M / N) h.powers;
    few = omega (arith, h.few, length-stretch (M / N) h.powers);
    multiple = ap (λ y. (numbers M).mul y ((lift N M hN v).map x)) (sym (map-whole (lift N M hN v) d)) ∙ sym ((lift N M hN v).map-mul (whole (numbers N) d) x)
        ∙ ap (lift N M hN v).map h.multiple ∙ signed_sum-lift h.powers;
  }
