-- Each power of z has coefficients 1, 0 and -1 in the basis.
--   power_form            coefficients of z^j in the basis, of absolute value at most 1
use mathlib.Core.Path.{◌≡◌, refl, sym, ◌∙◌, ap}
use mathlib.Core.Logic.{◌≢◌, inl, inr}
use Prim.Native.Nat.{ℕ, zero, suc, ◌<◌, ◌≤◌, ◌%◌, ◌∣◌}
use native.Mathlib.Omega.{arith}
use lib.IntN.{ℤ, pos, ◌-ℤ◌, ℤ_discrete}
use Rattle.std.specs.Int.RustNames.{unsigned_abs}
use Rattle.irr_number.specs.Element.{delta}
use Rattle.irr_number.specs.Integers.{integers}
use Rattle.irr_number.specs.Number.{number, root_power}
use Rattle.irr_number.specs.Prime.{IsPrime}
use Rattle.irr_number.specs.SumLaws.{delta-other, delta-same, same_or_not}
use Rattle.irr_number.proofs.Annihilator.{dec_prime_divisor}
use Rattle.irr_number.proofs.Digits.{digit, digit-other_many, digit-top, highest_power, shift, top, top-below, top-fixed, top-is}
use Rattle.irr_canonical.specs.Coefficient.{over}
use Rattle.irr_canonical.specs.Reduction.{IsFreeBelow, IsInBasis, IsReducedAt}
use Rattle.irr_canonical.proofs.Operations.{over-root}
use Rattle.irr_canonical.proofs.Reductions.{IsFreeBelow-other, IsFreeBelow-reduced_at, IsInBasis_of_free, IsTop-top, number-reduced_at, top-class, top_unique}
use Rattle.irr_canonical.proofs.Sizes.{unsigned_abs-sub}

module _ (N : ℕ) (hN : 0 < N) where
  -- the digit at a prime divisor
  abbrev digit_at : (q : ℕ) → IsPrime q → q ∣ N → ℕ → ℕ
  digit_at q hq w = digit N q hN hq (highest_power q hq N hN w)

  -- coefficients 1, 0 and -1, which stand at one digit for each prime divisor from k on
  record IsSpread (k : ℕ) (f : ℕ → ℤ) : Type 0 where
    small : (i : ℕ) → i < N → unsigned_abs (f i) ≤ 1
    same : (q : ℕ) (hq : IsPrime q) (w : q ∣ N) → k ≤ q → (i j : ℕ) → i < N → j < N → f i ≢ pos 0 → f j ≢ pos 0 → digit_at q hq w i ≡ digit_at q hq w j

  -- f after the pass at p
  abbrev pass : (p : ℕ) (hp : IsPrime p) → p ∣ N → (ℕ → ℤ) → ℕ → ℤ
  pass p hp v f i = f i -ℤ f (top N p hN hp (highest_power p hp N hN v) i)

  pass-is : (p : ℕ) (hp : IsPrime p) (v : p ∣ N) (f : ℕ → ℤ) → IsReducedAt N p f (pass p hp v f)
  pass-is p hp v f i t li lt s e =
      let same : t ≡ top N p hN hp (highest_power p hp N hN v) i = top_unique N p hN hp v t (top N p hN hp (highest_power p hp N hN v) i) lt (top-below N p hN hp (highest_power p hp N hN v) i) s (IsTop-top N p hN hp v i) (e ∙ sym (top-class N p hN hp v i)) in
      ap (λ x. f i -ℤ f x) (sym same)

  IsSpread-pass : (p : ℕ) (hp : IsPrime p) (v : p ∣ N) (f : ℕ → ℤ) → IsSpread p f → IsSpread (suc p) (pass p hp v f)
  IsSpread-pass p hp v f s = record { small = small_at; same = same_at }
    where
      up : ℕ → ℕ
      up = top N p hN hp (highest_power p hp N hN v)

      up-below : (i : ℕ) → up i < N
      up-below i = top-below N p hN hp (highest_power p hp N hN v) i

      source : (q : ℕ) (hq : IsPrime q) (w : q ∣ N) → suc p ≤ q → (i : ℕ) → i < N → pass p hp v f i ≢ pos 0 → (u : ℕ) × (u < N) × (f u ≢ pos 0) × (digit_at q hq w u ≡ digit_at q hq w i)
      source q hq w le i lt ni = elim (ℤ_discrete (f i) (pos 0)) [
        | no n ↦ (i, lt, n, refl)
        | yes e ↦ (
          up i,
          up-below i,
          λ z. ni (λ k. e k -ℤ z k),
          ap (digit_at q hq w) (top-is N p hN hp (highest_power p hp N hN v) i)
              ∙ digit-other_many N q hN hq (highest_power q hq N hN w) p hp v (λ same. let l : p ≡ q = same in omega arith) (shift N p hN hp (highest_power p hp N hN v) i) i,
        )
      ]

      small_at : (i : ℕ) → i < N → unsigned_abs (pass p hp v f i) ≤ 1
      small_at i lt = elim (ℤ_discrete (f i) (pos 0)) [
        | yes e ↦ (let z : unsigned_abs (f i) ≡ 0 = ap unsigned_abs e in omega (arith, unsigned_abs-sub (f i) (f (up i)), s.small (up i) (up-below i), z))
        | no n ↦ (elim (ℤ_discrete (f (up i)) (pos 0)) [
          | yes e ↦ (let z : unsigned_abs (f (up i)) ≡ 0 = ap unsigned_abs e in omega (arith, unsigned_abs-sub (f i) (f (up i)), s.small i lt, z))
          | no m ↦ (let fixed : up i ≡ i = top-fixed N p hN hp (highest_power p hp N hN v) i lt (s.same p hp v (omega arith) i (up i) lt (up-below i) n m ∙ digit-top N p hN hp (highest_power p hp N hN v) i) in
              let z : f i -ℤ f (up i) ≡ pos 0 = ap (λ x. f i -ℤ f x) fixed ∙ integers.add-neg (f i) in
              let y : unsigned_abs (f i -ℤ f (up i)) ≡ 0 = ap unsigned_abs z in omega (arith, y))
        ])
      ]

      same_at : (q : ℕ) (hq : IsPrime q) (w : q ∣ N) → suc p ≤ q → (i j : ℕ) → i < N → j < N → pass p hp v f i ≢ pos 0 → pass p hp v f j ≢ pos 0 → digit_at q hq w i ≡ digit_at q hq w j
      same_at q hq w le i j li lj ni nj = let a : (u : ℕ) × (u < N) × (f u ≢ pos 0) × (digit_at q hq w u ≡ digit_at q hq w i) = source q hq w le i li ni in
          let b : (u : ℕ) × (u < N) × (f u ≢ pos 0) × (digit_at q hq w u ≡ digit_at q hq w j) = source q hq w le j lj nj in
          sym a.3 ∙ s.same q hq w (omega arith) a.0 b.0 a.1 b.1 a.2 b.2 ∙ b.3

  IsSpread-delta : (a : ℕ) → IsSpread 0 (delta integers a)
  IsSpread-delta a = record { small = small_at; same = λ q hq w le i j li lj ni nj. ap (digit_at q hq w) (sym (only i ni) ∙ only j nj) }
    where
      small_at : (i : ℕ) → i < N → unsigned_abs (delta integers a i) ≤ 1
      small_at i lt = elim (same_or_not a i) [
        | inl e ↦ (let z : unsigned_abs (delta integers a i) ≡ 1 = ap unsigned_abs (ap (λ x. delta integers x i) e ∙ delta-same integers i) in omega (arith, z))
        | inr n ↦ (let z : unsigned_abs (delta integers a i) ≡ 0 = ap unsigned_abs (delta-other integers a i n) in omega (arith, z))
      ]

      only : (i : ℕ) → delta integers a i ≢ pos 0 → a ≡ i
      only i n = elim (same_or_not a i) [ inl e ↦ e | inr ne ↦ absurd (n (delta-other integers a i ne)) ]

  -- a form of z^j, free below k
  abbrev Form : (j k : ℕ) → Type 0
  Form j k = (f : ℕ → ℤ) × (IsSpread k f × IsFreeBelow N k f × ((p : 0 < 1) → number N (over N f 1 p) ≡ root_power N j))

  form_at : (j k : ℕ) → Dec (IsPrime k × (k ∣ N)) → Form j k → Form j (suc k)
  form_at j k (yes t) s = (
    pass k t.0 t.1 s.0,
    (
      IsSpread-pass k t.0 t.1 s.0 s.1.0,
      IsFreeBelow-reduced_at N k hN t.0 t.1 s.0 (pass k t.0 t.1 s.0) (pass-is k t.0 t.1 s.0) s.1.1,
      λ p. number-reduced_at N k hN t.0 t.1 s.0 (pass k t.0 t.1 s.0) (pass-is k t.0 t.1 s.0) 1 p ∙ s.1.2 p,
    ),
  )
  form_at j k (no n) s = (s.0, (record { small = s.1.0.small; same = λ q hq w le. s.1.0.same q hq w (omega arith) }, IsFreeBelow-other N k s.0 n s.1.1, s.1.2))

  form_below : (j k : ℕ) → Form j k
  form_below j zero = (delta integers (j % N), (IsSpread-delta (j % N), (λ p hp lt. absurd (omega arith)), λ p. over-root N (delta integers (j % N)) j p (λ k lt. refl)))
  form_below j (suc k) = form_at j k (dec_prime_divisor N k) (form_below j k)

  -- coefficients of z^j in the basis, of absolute value at most 1
  pub power_form : (j : ℕ) → (f : ℕ → ℤ) × (IsInBasis N f × ((i : ℕ) → i < N → unsigned_abs (f i) ≤ 1) × ((p : 0 < 1) → number N (over N f 1 p) ≡ root_power N j))
  power_form j = let s : Form j (suc N) = form_below j (suc N) in (s.0, (IsInBasis_of_free N hN (suc N) (omega arith) s.0 s.1.1, s.1.0.small, s.1.2))
