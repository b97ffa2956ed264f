-- A coefficient taken from each place of its class modulo the step.
--   same_place            two places of one class that are less than a step apart are one
--   class_step, left_step, others_step    what a place that is written keeps
use Rattle.std.proofs.Common.{◌≡◌, ◌≢◌, sym, ◌∙◌, ap, ℕ, ℤ, pos, ◌+◌, ◌/◌, ◌%◌, ◌<◌, ◌≤◌, ◌-ℤ◌, inl, inr, List, length, slice_set, arith, get_or-set_other, get_or-set_same}
use Rattle.std.proofs.lemmas.Bool.{cases_lt}
use native.Mathlib.Nat as Nat
use Rattle.irr_cyc.specs.Form.{at}

pub same_place : (i place step : ℕ) → 0 < step → i % step ≡ place % step → place ≤ i → i < place + step → i ≡ place
same_place i place step p e l h = elim (cases_lt (place / step) (i / step)) [
  | inl less ↦ absurd (omega (arith, Nat.mod-add-div i step, Nat.mod-add-div place step, e, Nat.mul-le-mul_left step less))
  | inr ge ↦ omega (arith, Nat.mod-add-div i step, Nat.mod-add-div place step, e, Nat.mul-le-mul_left step ge)
]

module _ (old now : List ℤ) (place step r : ℕ) (c v : ℤ) (len : length now ≡ length old) (lt : place < length now) (p : 0 < step) (cls : place % step ≡ r)
    (left : (i : ℕ) → i < length old → place ≤ i → at now i ≡ at old i) (is : v ≡ at now place -ℤ c) where
  pub class_step : ((i : ℕ) → i < length old → i % step ≡ r → i < place → at now i ≡ at old i -ℤ c)
      → (i : ℕ) → i < length old → i % step ≡ r → i < place + step → at (slice_set now place v) i ≡ at old i -ℤ c
  class_step class i li e h = elim (cases_lt i place) [
    | inl l ↦ (let ne : i ≢ place = omega arith in rw get_or-set_other (class i li e l))
    | inr g ↦ (let s : i ≡ place = same_place i place step p (e ∙ sym cls) g h in
        ap (at (slice_set now place v)) s ∙ get_or-set_same now place v (pos 0) lt ∙ is ∙ ap (λ x. x -ℤ c) (left place (omega (arith, len)) (omega arith)) ∙ ap (λ x. at old x -ℤ c) (sym s))
  ]

  pub left_step : (i : ℕ) → i < length old → place + step ≤ i → at (slice_set now place v) i ≡ at old i
  left_step i li h = let ne : i ≢ place = omega arith in rw get_or-set_other (left i li (omega arith))

  pub others_step : ((i : ℕ) → i < length old → i % step ≢ r → at now i ≡ at old i)
      → (i : ℕ) → i < length old → i % step ≢ r → at (slice_set now place v) i ≡ at old i
  others_step others i li n = let ne : i ≢ place = (λ s. n (ap (λ x. x % step) s ∙ cls)) in rw get_or-set_other (others i li n)
