-- One pass of the reduction at a prime, place by place.
--   IsMovedBelow          the classes of the top powers below a place have been reduced, and no others
--   moved-start, moved-taken, moved-other, moved-nothing, moved-end     at the start, after a top power, after another place, after a
--                         coefficient 0, in the end
use Rattle.std.proofs.Common.{◌≡◌, ◌≢◌, refl, sym, ◌∙◌, ap, ap₂, subst, ℕ, ℤ, ◌+◌, ◌*◌, ◌-◌, ◌/◌, ◌%◌, ◌^◌, ◌<◌, ◌≤◌, ◌-ℤ◌, pos, inl, inr, arith}
use Rattle.std.proofs.lemmas.Bool.{cases_lt}
use Rattle.std.specs.Int.{◌∣◌}
use native.Mathlib.Decide.{ℕ_discrete}
use native.Mathlib.Nat as Nat
use Rattle.irr_canonical.specs.Reduction.{IsReducedAt, IsTop}
use Rattle.irr_canonical.proofs.Reductions.{IsTop_of_factors, digit_of_factors, top_unique}
use Rattle.irr_number.specs.Integers.{+ℤ-zero}
use Rattle.irr_cyc.specs.Part.{IsPart}

-- f became g at the classes of the top powers below a place, and is left at the others
abbrev pub IsMovedBelow : (N p place : ℕ) (f g : ℕ → ℤ) → Type 0
IsMovedBelow N p place f g = (i t : ℕ) → i < N → t < N → IsTop N p t → t % (N / p) ≡ i % (N / p) → (t < place → g i ≡ f i -ℤ f t) × (place ≤ t → g i ≡ f i)

pub moved-start : (N p : ℕ) (f : ℕ → ℤ) → IsMovedBelow N p 0 f f
moved-start N p f i t li lt s e = ((λ h. absurd (omega arith)), λ h. refl)

pub moved-end : (N p : ℕ) (f g : ℕ → ℤ) → IsMovedBelow N p N f g → IsReducedAt N p f g
moved-end N p f g m i t li lt s e = (m i t li lt s e).0 lt

module _ (N p base : ℕ) (hN : 0 < N) (part : IsPart N p base) where
  pub factor-pos : 1 < p
  factor-pos = part.prime.0

  N-is : N ≡ p ^ part.exponent * p * part.rest
  N-is = part.equal ∙ ap (λ b. b * p * part.rest) part.power

  pub base-pos : 0 < base
  base-pos = elim (cases_lt 0 base) [ inl l ↦ l | inr g ↦ (let z : base ≡ 0 = omega arith in absurd (omega (arith, part.equal, ap (λ b. b * p * part.rest) z))) ]

  divides : p ∣ N
  divides = subst (λ x. p ∣ x) (sym part.equal) (Nat.dvd-mul_right_of_dvd p (Nat.dvd-mul_left p base) part.rest)

  pub step-pos : 0 < N / p
  step-pos = elim (cases_lt 0 (N / p)) [ inl l ↦ l | inr g ↦ (let z : N / p ≡ 0 = omega arith in absurd (omega (arith, Nat.mul-div_cancel' p divides, ap (λ x. p * x) z))) ]

  pub top-digit : (t : ℕ) → (t / base) % p ≡ p - 1 → IsTop N p t
  top-digit t e = IsTop_of_factors N p hN part.prime part.exponent part.rest N-is part.other t (ap (λ b. (t / b) % p) (sym part.power) ∙ e)

  digit-top : (t : ℕ) → IsTop N p t → (t / base) % p ≡ p - 1
  digit-top t s = ap (λ b. (t / b) % p) part.power ∙ digit_of_factors N p hN part.prime part.exponent part.rest N-is part.other t s

  module _ (f g h : ℕ → ℤ) (place : ℕ) (lt : place < N) (m : IsMovedBelow N p place f g) where
    -- the class of a top power is as it was
    pub class-left : IsTop N p place → (i : ℕ) → i < N → i % (N / p) ≡ place % (N / p) → g i ≡ f i
    class-left s i li e = (m i place li lt s (sym e)).1 (omega arith)

    -- after a top power
    pub moved-taken : IsTop N p place → ((i : ℕ) → i < N → i % (N / p) ≡ place % (N / p) → h i ≡ g i -ℤ g place)
        → ((i : ℕ) → i < N → i % (N / p) ≢ place % (N / p) → h i ≡ g i) → IsMovedBelow N p (place + 1) f h
    moved-taken s class others i t li lti ht e = elim (ℕ_discrete (i % (N / p)) (place % (N / p))) [
      | yes same ↦ (let only : t ≡ place = top_unique N p hN part.prime divides t place lti lt ht s (e ∙ same) in
          ((λ l. class i li same ∙ ap₂ ◌-ℤ◌ (class-left s i li same) (class-left s place lt refl) ∙ ap (λ x. f i -ℤ f x) (sym only)), λ l. absurd (omega (arith, only))))
      | no other ↦ (let ne : t ≢ place = (λ q. other (sym e ∙ ap (λ x. x % (N / p)) q)) in
          ((λ l. others i li other ∙ (m i t li lti ht e).0 (omega arith)), λ l. others i li other ∙ (m i t li lti ht e).1 (omega arith)))
    ]

    -- after another place
    pub moved-other : ((place / base) % p ≢ p - 1) → IsMovedBelow N p (place + 1) f g
    moved-other n i t li lti ht e = let ne : t ≢ place = (λ q. n (ap (λ x. (x / base) % p) (sym q) ∙ digit-top t ht)) in
        ((λ l. (m i t li lti ht e).0 (omega arith)), λ l. (m i t li lti ht e).1 (omega arith))

  -- after a coefficient 0
  pub moved-nothing : (f g : ℕ → ℤ) (place : ℕ) → place < N → IsMovedBelow N p place f g → g place ≡ pos 0 → IsMovedBelow N p (place + 1) f g
  moved-nothing f g place lt m e = elim (ℕ_discrete ((place / base) % p) (p - 1)) [
    | yes top ↦ moved-taken f g g place lt m (top-digit place top) (λ i li same. sym (ap (λ z. g i -ℤ z) e ∙ +ℤ-zero (g i))) (λ i li other. refl)
    | no other ↦ moved-other f g g place lt m other
  ]
