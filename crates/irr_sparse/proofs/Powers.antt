-- A power of z brought to the basis, one prime after another.
--   first_part             a list of parts is its first and the rest
--   weight-pos, weight-nil    the product of the primes
--   turn_below             less than p times N/p is below N
--   turns-start, turns-next, turns-end    the sums over the turns
--   skip_small, turn_small, turns_most    sizes
use Rattle.std.proofs.Common.{◌≡◌, ◌≢◌, sym, ◌∙◌, ap, ap₂, subst, ℕ, ℤ, pos, ◌+◌, ◌*◌, ◌-◌, ◌/◌, ◌%◌, ◌<◌, ◌≤◌, neg_ℤ, List, [], ◌∷◌, take, drop, length, slice_index_or, inl, inr, arith}
use Rattle.std.proofs.lemmas.Bool.{cases_lt}
use Rattle.std.proofs.lemmas.List.{drop_more, nil_from_length, take_rest}
use Rattle.std.proofs.lemmas.List.Elements.{All-head, All-tail}
use native.Mathlib.Nat as Nat
use Rattle.irr_algebra.specs.Ring.{Ring}
use Rattle.irr_algebra.proofs.Rings.{ring_laws}
use Rattle.irr_number.specs.Number.{Number, numbers, root_power}
use Rattle.irr_rational.specs.Integer.{integer}
use Rattle.irr_rational.proofs.Integers.{integer-neg}
use Rattle.irr_cyc.specs.Part.{IsPart}
use Rattle.irr_sparse.specs.Parts.{AreParts, IsFreeOutside, weight}
use Rattle.irr_sparse.specs.TermList.{IsTerm}
use Rattle.irr_sparse.specs.declared.parts.Part.{Part}
use Rattle.irr_sparse.proofs.Steps.{weight_cons, weight_none}
use Rattle.irr_sparse.proofs.Sums.{term_value}
use Rattle.irr_sparse.proofs.Tops.{free_skip, free_turn, in_basis_of_free, others, others-all, others-next, others-none, part-divides}

pub first_part : (xs : List Part) (d : Part) → 0 < length xs → xs ≡ slice_index_or xs 0 d ∷ take (length xs - 1) (drop 1 xs)
first_part xs d lt = drop_more xs 0 d lt ∙ ap (λ ys. slice_index_or xs 0 d ∷ ys) (sym (take_rest xs 1))

pub weight-nil : (xs : List Part) → length xs ≡ 0 → weight xs ≡ 1
weight-nil xs e = ap weight (nil_from_length xs e) ∙ weight_none

pub weight-pos : (n : ℕ) (xs : List Part) → AreParts n xs → 1 ≤ weight xs
weight-pos n [] h = omega (arith, weight_none)
weight-pos n (x ∷ xs) h =
    let o : 1 < x.prime = (All-head (λ (y : Part). IsPart n y.prime y.base) x xs h).prime.0 in
    let w : 1 ≤ weight xs = weight-pos n xs (All-tail (λ (y : Part). IsPart n y.prime y.base) x xs h) in
    let m : 1 * weight xs ≤ x.prime * weight xs = Nat.mul-le-mul_right (weight xs) (omega arith) in
    omega (arith, weight_cons x xs, m)

-- where no prime is left
pub last_term : (n j : ℕ) (c : ℤ) (xs : List Part) → length xs ≡ 0 → IsFreeOutside n xs j → j < n → c ≢ pos 0 → IsTerm n 0 j c
last_term n j c xs e free lt ne = record {
  from = omega arith;
  below = lt;
  basis = in_basis_of_free n j (subst (λ (ys : List Part). IsFreeOutside n ys j) (nil_from_length xs e) free);
  nonzero = ne;
}

module _ (n : ℕ) (hN : 0 < n) (xs rest : List Part) (x : Part) (is : xs ≡ x ∷ rest) (parts : AreParts n xs) where
  all_parts : AreParts n (x ∷ rest)
  all_parts = subst (AreParts n) is parts

  pub first_is : IsPart n x.prime x.base
  first_is = All-head (λ (y : Part). IsPart n y.prime y.base) x rest all_parts

  pub rest_are : AreParts n rest
  rest_are = All-tail (λ (y : Part). IsPart n y.prime y.base) x rest all_parts

  pub prime-pos : 1 < x.prime
  prime-pos = first_is.prime.0

  pub weight-first : weight xs ≡ x.prime * weight rest
  weight-first = ap weight is ∙ weight_cons x rest

  pub rest_free : (j : ℕ) → IsFreeOutside n xs j → (j / x.base) % x.prime ≢ x.prime - 1 → IsFreeOutside n rest j
  rest_free j free = free_skip n hN x rest first_is j (subst (λ (ys : List Part). IsFreeOutside n ys j) is free)

  pub turn_free : (j a : ℕ) → j < n → IsFreeOutside n xs j → (j / x.base) % x.prime ≡ x.prime - 1 → 0 < a → a < x.prime → IsFreeOutside n rest ((j + a * (n / x.prime)) % n)
  turn_free j a lt free = free_turn n hN x rest first_is j a lt (subst (λ (ys : List Part). IsFreeOutside n ys j) is free)

  pub turn_below : (a : ℕ) → a < x.prime → a * (n / x.prime) < n
  turn_below a lt =
      let all : x.prime * (n / x.prime) ≡ n = Nat.mul-div_cancel' x.prime (part-divides n hN x rest first_is) in
      let more : a + 1 ≤ x.prime = omega arith in
      let le : (a + 1) * (n / x.prime) ≤ x.prime * (n / x.prime) = Nat.mul-le-mul_right (n / x.prime) more in
      let some : 0 < n / x.prime = elim (cases_lt 0 (n / x.prime)) [ inl l ↦ l | inr g ↦ (let z : n / x.prime ≡ 0 = omega arith in absurd (omega (arith, all, hN, ap (λ y. x.prime * y) z))) ] in
      omega (arith, all, le, some)

  -- what is left for the other primes
  pub skip_le : (c : ℕ) → c * weight rest ≤ c * weight xs
  skip_le c = let o : 1 * weight rest ≤ x.prime * weight rest = Nat.mul-le-mul_right (weight rest) (let p : 1 < x.prime = prime-pos in omega arith) in
      Nat.mul-le-mul_left c (omega (arith, weight-first, o))

  pub turns_le : (c turns : ℕ) → turns ≤ x.prime → c * weight rest * turns ≤ c * weight xs
  turns_le c turns le = omega (arith, ap (λ w. c * w) weight-first, Nat.mul-le-mul_left (c * weight rest) le)

  pub turn_small : (before now c turns most : ℕ) → turns < x.prime → 1 ≤ turns → now ≤ before + c * weight rest * (turns - 1) → before + c * weight xs < most → now + c * weight rest < most
  turn_small before now c turns most lt one h small =
      let e : turns - 1 + 1 ≡ turns = omega arith in
      omega (arith, ap (λ t. c * weight rest * t) e, turns_le c turns (omega arith), h, small)

  pub turn_most : (before now new c turns : ℕ) → 1 ≤ turns → now ≤ before + c * weight rest * (turns - 1) → new ≤ now + c * weight rest → new ≤ before + c * weight rest * (turns + 1 - 1)
  turn_most before now new c turns one h g =
      let e : turns - 1 + 1 ≡ turns = omega arith in
      let f : turns + 1 - 1 ≡ turns = omega arith in
      omega (arith, ap (λ t. c * weight rest * t) e, ap (λ t. c * weight rest * t) f, h, g)

  pub turns_most : (before now c turns : ℕ) → turns ≤ x.prime → now ≤ before + c * weight rest * (turns - 1) → now ≤ before + c * weight xs
  turns_most before now c turns le h = omega (arith, turns_le c (turns - 1) (omega arith), h)

  pub turns-end : (old now : Number n) (j : ℕ) (c : ℤ) → now ≡ (numbers n).add old ((numbers n).mul (integer (numbers n) (neg_ℤ c)) (others n x.prime j (x.prime - 1))) → now ≡ (numbers n).add old (term_value n j c)
  turns-end old now j c e = e ∙ ap (λ k. (numbers n).add old ((numbers n).mul k (others n x.prime j (x.prime - 1)))) (integer-neg (numbers n) c)
      ∙ turned (numbers n) old (integer (numbers n) c) (others n x.prime j (x.prime - 1))
      ∙ ap (λ y. (numbers n).add old ((numbers n).mul (integer (numbers n) c) y)) (sym (others-all n x.prime hN first_is.prime (part-divides n hN x rest first_is) j))
    where
      turned : (R : Ring) (old c s : R.Carrier) → R.add old (R.mul (R.neg c) s) ≡ R.add old (R.mul c (R.neg s))
      turned R old c s = simp (ring_laws, R)

module _ (n p j : ℕ) (old : Number n) (k : ℤ) where
  pub turns-start : old ≡ (numbers n).add old ((numbers n).mul (integer (numbers n) k) (others n p j 0))
  turns-start = sym (ap (λ y. (numbers n).add old ((numbers n).mul (integer (numbers n) k) y)) (others-none n p j) ∙ nothing (numbers n) old (integer (numbers n) k))
    where
      nothing : (R : Ring) (old c : R.Carrier) → R.add old (R.mul c R.zero) ≡ old
      nothing R old c = simp (ring_laws, R)

  pub turns-next : (now new : Number n) (turns place : ℕ) → 1 ≤ turns → place ≡ (j + turns * (n / p)) % n
      → now ≡ (numbers n).add old ((numbers n).mul (integer (numbers n) k) (others n p j (turns - 1))) → new ≡ (numbers n).add now (term_value n place k)
      → new ≡ (numbers n).add old ((numbers n).mul (integer (numbers n) k) (others n p j (turns + 1 - 1)))
  turns-next now new turns place one e h g = g ∙ ap₂ (numbers n).add h (ap (λ i. term_value n i k) e)
      ∙ gather (numbers n) old (integer (numbers n) k) (others n p j (turns - 1)) (root_power n ((j + turns * (n / p)) % n))
      ∙ ap (λ y. (numbers n).add old ((numbers n).mul (integer (numbers n) k) y)) (sym (others-next n p j turns one))
    where
      gather : (R : Ring) (old c s z : R.Carrier) → R.add (R.add old (R.mul c s)) (R.mul c z) ≡ R.add old (R.mul c (R.add s z))
      gather R old c s z = simp (ring_laws, R)
