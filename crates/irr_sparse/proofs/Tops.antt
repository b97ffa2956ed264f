-- Top powers and the primes of an order that are listed.
--   top-other, top-left    adding N/p keeps the digit at other primes, and takes a top power of p from the top
--   free_skip, free_turn, in_basis_of_free    what is free outside a list, one prime further on, and in the end
--   turn_sum               a top power is the negative of the others of its class
use Rattle.std.proofs.Common.{◌≡◌, ◌≢◌, refl, sym, ◌∙◌, ap, subst, ℕ, suc, ◌+◌, ◌*◌, ◌-◌, ◌/◌, ◌%◌, ◌^◌, ◌<◌, ◌≤◌, inl, inr, List, [], ◌∷◌, arith}
use Rattle.std.proofs.lemmas.Bool.{cases_lt}
use Rattle.std.proofs.lemmas.List.Elements.{All-cons, All-nil}
use Rattle.std.specs.Int.{◌∣◌}
use native.Mathlib.Decide.{ℕ_discrete}
use native.Mathlib.Nat as Nat
use Rattle.irr_algebra.specs.Listed.{sum_below}
use Rattle.irr_algebra.proofs.Rings.{eq-neg_of_add-zero, mul-zero}
use Rattle.irr_number.specs.Basis.{InBasis}
use Rattle.irr_number.specs.Number.{Number, numbers, root_power}
use Rattle.irr_number.specs.Prime.{IsPrime}
use Rattle.irr_number.specs.SumLaws.{mul-sum_below, sum_below_cong, sum_below_first}
use Rattle.irr_number.proofs.BasisDigits.{digit-is, highest, highest_unique}
use Rattle.irr_number.proofs.Digits.{HighestPower, digit-other_many, highest_power}
use Rattle.irr_number.proofs.RootPowers.{root_power-mod, root_power-mul, sum-root_power}
use Rattle.irr_canonical.specs.Reduction.{IsTop}
use Rattle.irr_canonical.proofs.Reductions.{digit_of_factors, divides_of_IsTop, top_unique}
use Rattle.irr_cyc.specs.Part.{IsPart}
use Rattle.irr_cyc.proofs.Passes.{top-digit}
use Rattle.irr_sparse.specs.Parts.{IsFreeOutside}
use Rattle.irr_sparse.specs.declared.parts.Part.{Part}

-- the powers of a class but the first, added up
unfoldable pub others : (N p j k : ℕ) → Number N
others N p j k = sum_below (numbers N) k (λ i. root_power N ((j + suc i * (N / p)) % N))

pub others-none : (N p j : ℕ) → others N p j 0 ≡ (numbers N).zero
unfolding others sum_below
others-none N p j = refl

others-more : (N p j k : ℕ) → others N p j (suc k) ≡ (numbers N).add (others N p j k) (root_power N ((j + suc k * (N / p)) % N))
unfolding others sum_below
others-more N p j k = refl

-- one turn more
pub others-next : (N p j turns : ℕ) → 1 ≤ turns → others N p j (turns + 1 - 1) ≡ (numbers N).add (others N p j (turns - 1)) (root_power N ((j + turns * (N / p)) % N))
others-next N p j turns le =
    let e : turns + 1 - 1 ≡ suc (turns - 1) = omega arith in
    let f : suc (turns - 1) ≡ turns = omega arith in
    ap (others N p j) e ∙ others-more N p j (turns - 1) ∙ ap (λ k. (numbers N).add (others N p j (turns - 1)) (root_power N ((j + k * (N / p)) % N))) f

module _ (N p : ℕ) (hN : 0 < N) (hp : IsPrime p) (v : p ∣ N) where
  -- a power that is a top power of another prime after N/p was added was one before
  pub top-other : (q j a : ℕ) → IsPrime q → q ≢ p → IsTop N q ((j + a * (N / p)) % N) → IsTop N q j
  top-other q j a hq ne s =
      let w : q ∣ N = divides_of_IsTop N q ((j + a * (N / p)) % N) s in
      let h : HighestPower q N = highest_power q hq N hN w in
      record {
        exponent = suc h.exponent;
        positive = omega arith;
        highest = highest N q hN hq h;
        digit = digit-is N q hN hq h j ∙ sym (digit-other_many N q hN hq h p hp v (λ e. ne (sym e)) a j) ∙ sym (digit-is N q hN hq h ((j + a * (N / p)) % N))
            ∙ ap (λ x. (((j + a * (N / p)) % N) % q ^ x) / q ^ (x - 1)) (sym (highest_unique N q hN hq h s.exponent s.highest)) ∙ s.digit;
      }

  step-divides : N / p ∣ N
  step-divides = subst (λ x. N / p ∣ x) (Nat.div-mul_cancel p v) (Nat.dvd-mul_right (N / p) p)

  -- no multiple of N/p but those of N leads back
  apart : (j a k s : ℕ) → p * s ≡ N → 0 < a → a < p → j + N * k ≡ j + a * s → ⊥
  apart j a k s all positive less e = elim (cases_lt 0 k) [
    | inl l ↦ (let more : a + 1 ≤ p = omega arith in let most : (a + 1) * s ≤ p * s = Nat.mul-le-mul_right s more in let least : N * 1 ≤ N * k = Nat.mul-le-mul_left N l in
        let some : 0 < s = positive_factor all in omega (arith, most, least, e, all, some))
    | inr g ↦ (let z : k ≡ 0 = omega arith in let some : 0 < s = positive_factor all in let le : 1 * s ≤ a * s = Nat.mul-le-mul_right s positive in
        omega (arith, ap (λ x. N * x) z, e, some, le))
  ]
    where
      positive_factor : p * s ≡ N → 0 < s
      positive_factor all = elim (cases_lt 0 s) [ inl l ↦ l | inr g ↦ (let z : s ≡ 0 = omega arith in absurd (omega (arith, all, hN, ap (λ x. p * x) z))) ]

  -- a top power of p is none any more when N/p was added less than p times
  pub top-left : (j a : ℕ) → j < N → IsTop N p j → 0 < a → a < p → IsTop N p ((j + a * (N / p)) % N) → ⊥
  top-left j a lt s positive less t =
      let e : (j + a * (N / p)) % N ≡ j = top_unique N p hN hp v ((j + a * (N / p)) % N) j (Nat.mod-lt (j + a * (N / p)) hN) lt t s
      (Nat.mod-mod_of_dvd (N / p) (j + a * (N / p)) step-divides ∙ Nat.add-mul-mod_self_right j a (N / p)) in
      apart j a ((j + a * (N / p)) / N) (N / p) (Nat.mul-div_cancel' p v) positive less
      (ap (λ x. x + N * ((j + a * (N / p)) / N)) (sym e) ∙ Nat.mod-add-div (j + a * (N / p)) N)

  -- a power is the negative of the others of its class
  pub others-all : (j : ℕ) → root_power N j ≡ (numbers N).neg (others N p j (p - 1))
  unfolding others
  others-all j = neg-turn (others N p j (p - 1)) (root_power N j) (sum_first ∙ whole_class)
    where
      neg-turn : (x y : Number N) → (numbers N).add y x ≡ (numbers N).zero → y ≡ (numbers N).neg x
      neg-turn x y e = eq-neg_of_add-zero (numbers N) x y ((numbers N).add_comm x y ∙ e)

      one_more : suc (p - 1) ≡ p
      one_more = let o : 1 < p = hp.0 in omega arith

      class_sum : sum_below (numbers N) (suc (p - 1)) (λ i. root_power N ((j + i * (N / p)) % N)) ≡ (numbers N).zero
      class_sum = ap (λ k. sum_below (numbers N) k (λ i. root_power N ((j + i * (N / p)) % N))) one_more
          ∙ sum_below_cong (numbers N) p (λ i. root_power N ((j + i * (N / p)) % N)) (λ i. (numbers N).mul (root_power N j) (root_power N (i * (N / p))))
          (λ i lt. root_power-mod N (j + i * (N / p)) ∙ sym (root_power-mul N j (i * (N / p))))
          ∙ sym (mul-sum_below (numbers N) p (root_power N j) (λ i. root_power N (i * (N / p))))
          ∙ ap ((numbers N).mul (root_power N j)) (sum-root_power N p hp v) ∙ mul-zero (numbers N) (root_power N j)

      first : root_power N ((j + 0 * (N / p)) % N) ≡ root_power N j
      first = root_power-mod N (j + 0 * (N / p)) ∙ (let e : j + 0 * (N / p) ≡ j = omega arith in ap (root_power N) e)

      sum_first : (numbers N).add (root_power N j) (others N p j (p - 1)) ≡ sum_below (numbers N) (suc (p - 1)) (λ i. root_power N ((j + i * (N / p)) % N))
      sum_first = ap (λ x. (numbers N).add x (others N p j (p - 1))) (sym first) ∙ sym (sum_below_first (numbers N) (p - 1) (λ i. root_power N ((j + i * (N / p)) % N)))

      whole_class : sum_below (numbers N) (suc (p - 1)) (λ i. root_power N ((j + i * (N / p)) % N)) ≡ (numbers N).zero
      whole_class = class_sum

-- one prime further on
module _ (N : ℕ) (hN : 0 < N) (x : Part) (xs : List Part) (part : IsPart N x.prime x.base) where
  pub part-divides : x.prime ∣ N
  part-divides = subst (λ y. x.prime ∣ y) (sym part.equal) (Nat.dvd-mul_right_of_dvd x.prime (Nat.dvd-mul_left x.prime x.base) part.rest)

  N-is : N ≡ x.prime ^ part.exponent * x.prime * part.rest
  N-is = part.equal ∙ ap (λ b. b * x.prime * part.rest) part.power

  pub digit_of_top : (t : ℕ) → IsTop N x.prime t → (t / x.base) % x.prime ≡ x.prime - 1
  digit_of_top t s = ap (λ b. (t / b) % x.prime) part.power ∙ digit_of_factors N x.prime hN part.prime part.exponent part.rest N-is part.other t s

  pub free_skip : (j : ℕ) → IsFreeOutside N (x ∷ xs) j → (j / x.base) % x.prime ≢ x.prime - 1 → IsFreeOutside N xs j
  free_skip j free none q hq s all = elim (ℕ_discrete x.prime q) [
    | yes e ↦ none (digit_of_top j (subst (λ r. IsTop N r j) (sym e) s))
    | no ne ↦ free q hq s (All-cons (λ (y : Part). y.prime ≢ q) x xs ne all)
  ]

  pub free_turn : (j a : ℕ) → j < N → IsFreeOutside N (x ∷ xs) j → (j / x.base) % x.prime ≡ x.prime - 1 → 0 < a → a < x.prime → IsFreeOutside N xs ((j + a * (N / x.prime)) % N)
  free_turn j a lt free digit positive less q hq s all = elim (ℕ_discrete x.prime q) [
    | yes e ↦ top-left N x.prime hN part.prime part-divides j a lt (top-digit N x.prime x.base hN part j digit) positive less (subst (λ r. IsTop N r ((j + a * (N / x.prime)) % N)) (sym e) s)
    | no ne ↦ free q hq (top-other N x.prime hN part.prime part-divides q j a hq (λ e. ne (sym e)) s) (All-cons (λ (y : Part). y.prime ≢ q) x xs ne all)
  ]

pub in_basis_of_free : (N j : ℕ) → IsFreeOutside N [] j → InBasis N j
in_basis_of_free N j free p m hp hm hi e = free p hp (record { exponent = m; positive = hm; highest = hi; digit = e }) (All-nil (λ (y : Part). y.prime ≢ p))
