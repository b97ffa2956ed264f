-- The reduction, prime by prime: what holds when the primes below p have been passed.
--   Reached N B f g p rest    f became g; rest is N without the primes below p
--   reached-start, reached-pass, reached-other, reached-end     at the start, after a pass, after a number that does not divide, in the end
use Rattle.std.proofs.Common.{◌≡◌, refl, sym, ◌∙◌, ap, subst, ℕ, ℤ, suc, ◌+◌, ◌*◌, ◌/◌, ◌%◌, ◌^◌, ◌<◌, ◌≤◌, ◌-ℤ◌, inl, inr, unsigned_abs, arith, add-one}
use Rattle.std.proofs.lemmas.Bool.{cases_lt}
use Rattle.std.specs.Int.{◌∣◌}
use native.Mathlib.Decide.{ℕ_discrete}
use native.Mathlib.Nat as Nat
use Rattle.irr_number.specs.Number.{number}
use Rattle.irr_number.specs.Prime.{IsPrime}
use Rattle.irr_number.proofs.Digits.{prime_dvd-pow}
use Rattle.irr_number.proofs.Primes.{divisor_pos, prime_divisor, prime_dvd-mul}
use Rattle.irr_canonical.specs.Coefficient.{over}
use Rattle.irr_canonical.specs.Reduction.{IsFreeBelow, IsInBasis, IsReducedAt, IsTop}
use Rattle.irr_canonical.proofs.Reductions.{IsFreeBelow-other, IsFreeBelow-reduced_at, IsFreeBelow_two, IsInBasis_of_free, divides_of_IsTop, number-reduced_at, top_of_class}
use Rattle.irr_canonical.proofs.Sizes.{unsigned_abs-sub}
use Rattle.irr_cyc.specs.Part.{IsPart}

-- the primes below p have been passed
pub record Reached (N B : ℕ) (f g : ℕ → ℤ) (p rest : ℕ) : Type 0 where
  pub two : 2 ≤ p
  pub positive : 0 < rest
  pub cofactor : ℕ
  pub equal : N ≡ rest * cofactor
  pub taken : (q : ℕ) → IsPrime q → p ≤ q → ¬ (q ∣ cofactor)
  pub left : (q : ℕ) → IsPrime q → q < p → ¬ (q ∣ rest)
  pub free : IsFreeBelow N p g
  pub same : (d : ℕ) (s : 0 < d) → number N (over N g d s) ≡ number N (over N f d s)
  pub small : (i : ℕ) → i < N → unsigned_abs (g i) * rest ≤ B * N

-- no prime divides 1
not_one : (q : ℕ) → IsPrime q → ¬ (q ∣ 1)
not_one q hq d = let o : 1 < q = hq.0 in let l : q ≤ 1 = Nat.le_of_dvd (omega arith) d in absurd (omega arith)

pub reached-start : (N B : ℕ) → 0 < N → (f : ℕ → ℤ) → ((i : ℕ) → i < N → unsigned_abs (f i) ≤ B) → Reached N B f f 2 N
reached-start N B hN f h = record {
  two = omega arith;
  positive = hN;
  cofactor = 1;
  equal = omega arith;
  taken = λ q hq l. not_one q hq;
  left = λ q hq l. (let o : 1 < q = hq.0 in absurd (omega arith));
  free = IsFreeBelow_two N f;
  same = λ d s. refl;
  small = λ i lt. Nat.mul-le-mul_right N (h i lt);
}

module _ (N B : ℕ) (hN : 0 < N) (f g : ℕ → ℤ) (p rest : ℕ) (r : Reached N B f g p rest) where
  -- the next number that divides what is left is a prime
  pub prime_of_least : p ∣ rest → IsPrime p
  prime_of_least v = (
    r.two,
    λ d w. elim (cases_lt 1 d) [
      | inl l ↦ inr (by_prime d w l (prime_divisor d l))
      | inr g ↦ inl (let o : 0 < d = divisor_pos d p (let two : 2 ≤ p = r.two in omega arith) w in omega arith)
    ],
  )
    where
      by_prime : (d : ℕ) → d ∣ p → 1 < d → (q : ℕ) × IsPrime q × (q ∣ d) → d ≡ p
      by_prime d w l q = elim (cases_lt q.0 p) [
        | inl less ↦ absurd (r.left q.0 q.1 less (Nat.dvd_trans q.0 q.2 (Nat.dvd_trans d w v)))
        | inr ge ↦ (let a : q.0 ≤ d = Nat.le_of_dvd (omega arith) q.2 in let b : d ≤ p = Nat.le_of_dvd (let two : 2 ≤ p = r.two in omega arith) w in omega arith)
      ]

  -- a prime divisor of what is left is at least p
  pub least-le : 1 < rest → p ≤ rest
  least-le l = by_prime (prime_divisor rest l)
    where
      by_prime : (q : ℕ) × IsPrime q × (q ∣ rest) → p ≤ rest
      by_prime q = elim (cases_lt q.0 p) [
        | inl less ↦ absurd (r.left q.0 q.1 less q.2)
        | inr ge ↦ (let a : q.0 ≤ rest = Nat.le_of_dvd r.positive q.2 in omega arith)
      ]

  pub rest-le : rest ≤ N
  rest-le = Nat.le_of_dvd hN (subst (λ x. rest ∣ x) (sym r.equal) (Nat.dvd-mul_right rest r.cofactor))

  pub small-entry : (i : ℕ) → i < N → unsigned_abs (g i) ≤ B * N
  small-entry i lt = omega (arith, r.small i lt, Nat.mul-le-mul_left (unsigned_abs (g i)) r.positive)

  module _ (base e left : ℕ) (power : base ≡ p ^ e) (equal : rest ≡ base * p * left) (other : ¬ (p ∣ left)) where
    divides : p ∣ rest
    divides = subst (λ x. p ∣ x) (sym equal) (Nat.dvd-mul_right_of_dvd p (Nat.dvd-mul_left p base) left)

    divides_whole : p ∣ N
    divides_whole = subst (λ x. p ∣ x) (sym r.equal) (Nat.dvd-mul_right_of_dvd p divides r.cofactor)

    N-is : N ≡ base * p * (left * r.cofactor)
    N-is = r.equal ∙ ap (λ x. x * r.cofactor) equal ∙ Nat.mul_assoc (base * p) left r.cofactor

    pub reached-part : IsPart N p base
    reached-part = record {
      prime = prime_of_least divides;
      exponent = e;
      power = power;
      rest = left * r.cofactor;
      equal = N-is;
      other = λ d. elim (prime_dvd-mul p (prime_of_least divides) left r.cofactor d) [ inl v ↦ other v | inr v ↦ r.taken p (prime_of_least divides) (omega arith) v ];
    }

    left-pos : 0 < left
    left-pos = elim (cases_lt 0 left) [ inl l ↦ l | inr z ↦ (let e : left ≡ 0 = omega arith in absurd (omega (arith, r.positive, equal, ap (λ x. base * p * x) e))) ]

    base-pos : 0 < base
    base-pos = elim (cases_lt 0 base) [ inl l ↦ l | inr z ↦ (let e : base ≡ 0 = omega arith in absurd (omega (arith, r.positive, equal, ap (λ x. x * p * left) e))) ]

    twice : 2 * left ≤ rest
    twice = let a : 2 * left ≤ p * left = Nat.mul-le-mul_right left r.two in let b : 1 * (p * left) ≤ base * (p * left) = Nat.mul-le-mul_right (p * left) base-pos in omega (arith, equal, a, b)

    pub reached-pass : (h : ℕ → ℤ) → IsReducedAt N p g h → Reached N B f h (p + 1) left
    reached-pass h m = record {
      two = let two : 2 ≤ p = r.two in omega arith;
      positive = left-pos;
      cofactor = base * p * r.cofactor;
      equal = N-is ∙ (let s : base * p * (left * r.cofactor) ≡ left * (base * p * r.cofactor) = omega arith in s);
      taken = λ q hq l v. elim (prime_dvd-mul q hq (base * p) r.cofactor v) [
        | inl w ↦ (let d : q ∣ p = elim (prime_dvd-mul q hq base p w) [ inl x ↦ prime_dvd-pow q p e hq (subst (λ y. q ∣ y) power x) | inr x ↦ x ] in
            let b : q ≤ p = Nat.le_of_dvd (let two : 2 ≤ p = r.two in omega arith) d in absurd (omega arith))
        | inr w ↦ r.taken q hq (omega arith) w
      ];
      left = λ q hq l v. elim (ℕ_discrete q p) [
        | yes same ↦ other (subst (λ x. x ∣ left) same v)
        | no ne ↦ r.left q hq (omega (arith, ne)) (subst (λ x. q ∣ x) (sym equal) (Nat.dvd-mul_left_of_dvd q v (base * p)))
      ];
      free = subst (λ k. IsFreeBelow N k h) (sym (add-one p)) (IsFreeBelow-reduced_at N p hN (prime_of_least divides) divides_whole g h m r.free);
      same = λ d s. number-reduced_at N p hN (prime_of_least divides) divides_whole g h m d s ∙ r.same d s;
      small = λ i lt. small_after h m i lt (top_of_class N p hN (prime_of_least divides) divides_whole i);
    }
      where
        halves : (c a b left rest most : ℕ) → c ≤ a + b → 2 * left ≤ rest → a * rest ≤ most → b * rest ≤ most → c * left ≤ most
        halves c a b left rest most le tw ha hb = omega (arith, Nat.mul-le-mul_right left le, Nat.mul-le-mul_left a tw, Nat.mul-le-mul_left b tw)

        small_after : (h : ℕ → ℤ) → IsReducedAt N p g h → (i : ℕ) → i < N → (t : ℕ) × (t < N) × IsTop N p t × (t % (N / p) ≡ i % (N / p)) → unsigned_abs (h i) * left ≤ B * N
        small_after h m i lt t =
            let is : unsigned_abs (h i) ≡ unsigned_abs (g i -ℤ g t.0) = ap unsigned_abs (m i t.0 lt t.1 t.2 t.3) in
            let le : unsigned_abs (h i) ≤ unsigned_abs (g i) + unsigned_abs (g t.0) = omega (arith, is, unsigned_abs-sub (g i) (g t.0)) in
            halves (unsigned_abs (h i)) (unsigned_abs (g i)) (unsigned_abs (g t.0)) left rest (B * N) le twice (r.small i lt) (r.small t.0 t.1)

  pub reached-other : ¬ (p ∣ rest) → Reached N B f g (p + 1) rest
  reached-other n = record {
    two = let two : 2 ≤ p = r.two in omega arith;
    positive = r.positive;
    cofactor = r.cofactor;
    equal = r.equal;
    taken = λ q hq l. r.taken q hq (omega arith);
    left = λ q hq l v. elim (ℕ_discrete q p) [ yes same ↦ n (subst (λ x. x ∣ rest) same v) | no ne ↦ r.left q hq (omega (arith, ne)) v ];
    free = subst (λ k. IsFreeBelow N k g) (sym (add-one p)) (IsFreeBelow-other N p g
        (λ t. elim (prime_dvd-mul p t.0 rest r.cofactor (subst (λ x. p ∣ x) r.equal t.1)) [ inl v ↦ n v | inr v ↦ r.taken p t.0 (omega arith) v ]) r.free);
    same = r.same;
    small = r.small;
  }

  pub reached-end : rest ≤ 1 → IsInBasis N g
  reached-end l = IsInBasis_of_free N hN (suc N) (omega arith) g (λ q hq lt t ltt s. elim (cases_lt q p) [
    | inl less ↦ r.free q hq less t ltt s
    | inr ge ↦ (elim (prime_dvd-mul q hq rest r.cofactor (subst (λ x. q ∣ x) r.equal (divides_of_IsTop N q t s))) [
      | inl v ↦ (let o : 1 < q = hq.0 in let b : q ≤ rest = Nat.le_of_dvd r.positive v in absurd (omega arith))
      | inr v ↦ absurd (r.taken q hq ge v)
    ])
  ])
