-- The primes of an order, from the least on.
--   no_prime_below         a number without prime divisors below the square root has none but itself
--   Listed N parts p rest  the primes below p are listed, and rest is N without them
--   listed-start, listed-room, listed-next, listed-end    at the start, that there is room, one prime more, in the end
use Rattle.std.proofs.Common.{◌≡◌, ◌≢◌, refl, sym, ◌∙◌, ap, subst, ℕ, pos, ◌+◌, ◌*◌, ◌%◌, ◌^◌, ◌<◌, ◌≤◌, inl, inr, List, [], ◌∷◌, ◌++◌, length, All, arith, add-one}
use Rattle.std.proofs.lemmas.Bool.{cases_lt}
use Rattle.std.proofs.lemmas.List.{get_or_append_left, get_or_push, length_push}
use Rattle.std.proofs.lemmas.List.Elements.{All-nil, All-push, All-from_get_or, All-get_or}
use Rattle.std.specs.Int.{◌∣◌}
use native.Mathlib.Decide.{ℕ_discrete}
use native.Mathlib.Nat as Nat
use Rattle.irr_number.specs.Prime.{IsPrime}
use Rattle.irr_number.proofs.Primes.{cofactor, prime_divisor, prime_dvd-mul}
use Rattle.irr_canonical.proofs.Reductions.{divides_of_IsTop}
use Rattle.irr_cyc.specs.Part.{IsPart}
use Rattle.irr_cyc.proofs.Factors.{Reached, reached-part, reached-pass, reached-start, rest-le}
use Rattle.irr_sparse.specs.Parts.{AreParts, IsFreeOutside, weight}
use Rattle.irr_sparse.specs.declared.parts.Part.{Part}

-- a factor whose square is greater is the number itself
pub no_prime_below : (n k : ℕ) → 0 < n → n < k * k → ((q : ℕ) → IsPrime q → q < k → ¬ (q ∣ n)) → (q : ℕ) → IsPrime q → q < n → ¬ (q ∣ n)
no_prime_below n k hn less none q hq lt d = elim (cases_lt q k) [
  | inl l ↦ none q hq l d
  | inr g ↦ (let c : (m : ℕ) × (n ≡ q * m) = cofactor q n d in by_cofactor c.0 c.1 g)
]
  where
    by_prime : (m : ℕ) → n ≡ q * m → k ≤ q → 0 < m → (r : ℕ) × IsPrime r × (r ∣ m) → ⊥
    by_prime m e g some r = elim (cases_lt r.0 k) [
      | inl l ↦ none r.0 r.1 l (subst (λ x. r.0 ∣ x) (sym e) (Nat.dvd-mul_left_of_dvd r.0 r.2 q))
      | inr h ↦ (let le : r.0 ≤ m = Nat.le_of_dvd some r.2 in let km : k ≤ m = omega arith in omega (arith, e, less, Nat.mul-le-mul g km))
    ]

    by_cofactor : (m : ℕ) → n ≡ q * m → k ≤ q → ⊥
    by_cofactor m e g = elim (cases_lt 1 m) [
      | inl l ↦ by_prime m e g (omega arith) (prime_divisor m l)
      | inr one ↦ (elim (ℕ_discrete m 1) [
        | yes same ↦ omega (arith, e, lt, ap (λ x. q * x) same)
        | no other ↦ (let z : m ≡ 0 = omega (arith, other) in omega (arith, e, hn, ap (λ x. q * x) z))
      ])
    ]

-- a number without prime divisors below k is at least k
pub least_le : (n k : ℕ) → 1 < n → ((q : ℕ) → IsPrime q → q < k → ¬ (q ∣ n)) → k ≤ n
least_le n k some none = by_prime (prime_divisor n some)
  where
    by_prime : (q : ℕ) × IsPrime q × (q ∣ n) → k ≤ n
    by_prime q = elim (cases_lt q.0 k) [
      | inl l ↦ absurd (none q.0 q.1 l q.2)
      | inr g ↦ (let le : q.0 ≤ n = Nat.le_of_dvd (omega arith) q.2 in omega arith)
    ]

-- the next number, where the factor does not divide
pub no_prime_next : (n k : ℕ) → ((q : ℕ) → IsPrime q → q < k → ¬ (q ∣ n)) → (n % k ≡ 0 → ⊥) → (q : ℕ) → IsPrime q → q < k + 1 → ¬ (q ∣ n)
no_prime_next n k none other q hq lt d = elim (ℕ_discrete q k) [
  | yes e ↦ other (Nat.mod-eq-zero_of_dvd k (subst (λ x. x ∣ n) e d))
  | no ne ↦ none q hq (omega (arith, ne)) d
]

pub weight_none : weight [] ≡ 1
unfolding weight
weight_none = refl

pub weight_cons : (x : Part) (xs : List Part) → weight (x ∷ xs) ≡ x.prime * weight xs
unfolding weight
weight_cons x xs = refl

pub weight_push : (xs : List Part) (x : Part) → weight (xs ++ x ∷ []) ≡ weight xs * x.prime
unfolding weight
weight_push [] x = omega arith
weight_push (y ∷ xs) x = ap (λ w. y.prime * w) (weight_push xs x) ∙ sym (Nat.mul_assoc y.prime (weight xs) x.prime)

abbrev Left : (N p rest : ℕ) → Type 0
Left N p rest = Reached N 0 (λ _. pos 0) (λ _. pos 0) p rest

-- the primes below p are listed with their parts, and rest is N without them
pub record Listed (N : ℕ) (parts : List Part) (p rest : ℕ) : Type 0 where
  pub left : Left N p rest
  pub parts_of : AreParts N parts
  pub all : (q : ℕ) → IsPrime q → q < p → q ∣ N → All (λ (x : Part). x.prime ≢ q) parts → ⊥
  pub within : weight parts * rest ≤ N
  pub room : 2 ^ length parts * rest ≤ N

pub listed-start : (N : ℕ) → 0 < N → Listed N [] 2 N
listed-start N hN = record {
  left = reached-start N 0 hN (λ _. pos 0) (λ i lt. omega arith);
  parts_of = All-nil (λ (x : Part). IsPart N x.prime x.base);
  all = λ q hq lt. let o : 1 < q = hq.0 in absurd (omega arith);
  within = let e : weight [] ≡ 1 = weight_none in omega (arith, ap (λ w. w * N) e);
  room = omega (arith, ap (λ w. w * N) (Nat.pow-zero 2));
}

front : (P : Part → Type 0) (xs : List Part) (y : Part) → All P (xs ++ y ∷ []) → All P xs
front P xs y h = All-from_get_or P xs y (λ i lt. subst P (get_or_append_left xs (y ∷ []) y i lt) (All-get_or P (xs ++ y ∷ []) i y (omega (arith, length_push xs y)) h))

back : (P : Part → Type 0) (xs : List Part) (y : Part) → All P (xs ++ y ∷ []) → P y
back P xs y h = subst P (get_or_push xs y y (length xs) refl) (All-get_or P (xs ++ y ∷ []) (length xs) y (omega (arith, length_push xs y)) h)

module _ (N : ℕ) (hN : 0 < N) (parts : List Part) (p rest : ℕ) (l : Listed N parts p rest) where
  pub listed-none : (q : ℕ) → IsPrime q → q < p → ¬ (q ∣ rest)
  listed-none = l.left.left

  pub listed-two : 2 ≤ p
  listed-two = l.left.two

  pub listed-le : rest ≤ N
  listed-le = rest-le N 0 hN (λ _. pos 0) (λ _. pos 0) p rest l.left

  pub listed-positive : 0 < rest
  listed-positive = l.left.positive

  pub listed-room : N ≤ 12000 → 1 < rest → length parts < 14
  listed-room few more = elim (cases_lt (length parts) 14) [
    | inl lt ↦ lt
    | inr ge ↦ (let most : 2 ^ 14 ≤ 2 ^ length parts = Nat.pow-le-pow_right (omega arith) ge in absurd (omega (arith, few, l.room, Nat.mul-le-mul_right rest most)))
  ]

  -- one prime more
  module _ (prime base e left : ℕ) (from : p ≤ prime) (none : (q : ℕ) → IsPrime q → q < prime → ¬ (q ∣ rest)) (power : base ≡ prime ^ e)
      (equal : rest ≡ base * prime * left) (other : ¬ (prime ∣ left)) where
    jumped : Left N prime rest
    jumped = record {
      two = let t : 2 ≤ p = l.left.two in omega arith;
      positive = l.left.positive;
      cofactor = l.left.cofactor;
      equal = l.left.equal;
      taken = λ q hq le. l.left.taken q hq (omega arith);
      left = none;
      free = λ q hq lt t ltt s. refl;
      same = l.left.same;
      small = l.left.small;
    }

    part : IsPart N prime base
    part = reached-part N 0 hN (λ _. pos 0) (λ _. pos 0) prime rest jumped base e left power equal other

    base-pos : 0 < base
    base-pos = elim (cases_lt 0 base) [ inl lt ↦ lt | inr z ↦ (let e : base ≡ 0 = omega arith in absurd (omega (arith, l.left.positive, equal, ap (λ x. x * prime * left) e))) ]

    smaller : (w k : ℕ) → w * rest ≤ N → k ≤ prime → w * k * left ≤ N
    smaller w k h le =
        let a : k * left ≤ prime * left = Nat.mul-le-mul_right left le in
        let b : 1 * (prime * left) ≤ base * (prime * left) = Nat.mul-le-mul_right (prime * left) base-pos in
        let c : w * (k * left) ≤ w * rest = Nat.mul-le-mul_left w (omega (arith, a, b, equal)) in omega (arith, h, c)

    pub listed-next : (x : Part) → x.prime ≡ prime → x.base ≡ base → Listed N (parts ++ x ∷ []) (prime + 1) left
    listed-next x ep eb = record {
      left = reached-pass N 0 hN (λ _. pos 0) (λ _. pos 0) prime rest jumped base e left power equal other (λ _. pos 0) (λ i t li lt s e. refl);
      parts_of = All-push (λ (y : Part). IsPart N y.prime y.base) parts x l.parts_of (subst (λ q. IsPart N q x.base) (sym ep) (subst (λ b. IsPart N prime b) (sym eb) part));
      all = λ q hq lt v none_is. elim (ℕ_discrete q prime) [
        | yes same ↦ back (λ (y : Part). y.prime ≢ q) parts x none_is (ep ∙ sym same)
        | no ne ↦ (elim (cases_lt q p) [
          | inl less ↦ l.all q hq less v (front (λ (y : Part). y.prime ≢ q) parts x none_is)
          | inr ge ↦ (elim (prime_dvd-mul q hq rest l.left.cofactor (subst (λ y. q ∣ y) l.left.equal v)) [
            | inl d ↦ none q hq (omega (arith, ne)) d
            | inr d ↦ l.left.taken q hq ge d
          ])
        ])
      ];
      within = subst (λ w. w * left ≤ N) (sym (weight_push parts x ∙ ap (λ y. weight parts * y) ep)) (smaller (weight parts) prime l.within (omega arith));
      room = subst (λ w. w * left ≤ N) (sym (ap (λ k. 2 ^ k) (length_push parts x ∙ add-one (length parts)) ∙ Nat.pow-suc 2 (length parts))) (smaller (2 ^ length parts) 2 l.room (let t : 2 ≤ p = l.left.two in omega arith));
    }

  module _ (end : rest ≤ 1) where
    pub listed-all : (j : ℕ) → IsFreeOutside N parts j
    listed-all j q hq s none = elim (prime_dvd-mul q hq rest l.left.cofactor (subst (λ y. q ∣ y) l.left.equal (divides_of_IsTop N q j s))) [
      | inl d ↦ (let o : 1 < q = hq.0 in let b : q ≤ rest = Nat.le_of_dvd l.left.positive d in absurd (omega arith))
      | inr d ↦ (elim (cases_lt q p) [
        | inl less ↦ l.all q hq less (divides_of_IsTop N q j s) none
        | inr ge ↦ absurd (l.left.taken q hq ge d)
      ])
    ]

    pub listed-weight : weight parts ≤ N
    listed-weight = omega (arith, l.within, Nat.mul-le-mul_left (weight parts) l.left.positive)
