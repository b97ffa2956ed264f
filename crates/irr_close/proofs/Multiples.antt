-- The least common multiple of denominators, one after the other.
--   IsLeastSoFar gs common n     common is the least common multiple of the first n denominators, and small
--   least_start, least_more      of none, and of one more
--   too_large                    a multiple above the limit shows that there is no small common denominator
--   no_multiple                  and so does a multiple past the numbers of 64 bits
--   small_of_least               the least common multiple of all
use Rattle.std.proofs.Common.{◌≡◌, sym, ◌∙◌, ap, subst, ℕ, ◌<◌, ◌≤◌, ◌+◌, ◌^◌, inl, inr, List, length, get_or, arith}
use Rattle.std.specs.List.{All, HoldsAt}
use Rattle.std.specs.Int.{◌∣◌}
use Rattle.std.proofs.lemmas.List.{get_or_default}
use Rattle.std.proofs.lemmas.Bool.{cases_lt}
use native.Mathlib.Nat as Nat
use Rattle.irr_rat.specs.Lcm.{IsLcm}
use Rattle.irr_rat.proofs.Multiples.{lcm_exists, lcm_positive}
use Rattle.irr_seitz.specs.declared.op.Op.{Op}
use Rattle.irr_close.specs.Limits.{HasSmallDenominator}

pub record IsLeastSoFar (gs : List Op) (common n : ℕ) : Type 0 where
  pub positive : 0 < common
  pub small : common ≤ 100000
  pub multiple : (j : ℕ) → j < n → HoldsAt (λ g. g.den ∣ common) gs j
  pub least : (D : ℕ) → 0 < D → All (λ g. g.den ∣ D) gs → common ∣ D

pub least_start : (gs : List Op) → IsLeastSoFar gs 1 0
least_start gs = record { positive = omega arith; small = omega arith; multiple = λ j l. absurd (omega arith); least = λ D p all. Nat.one-dvd D }

pub least_more : (gs : List Op) (g : Op) (common n m : ℕ) → n < length gs → g ≡ get_or gs n g → IsLeastSoFar gs common n → IsLcm common g.den m
    → m ≤ 100000 → IsLeastSoFar gs m (n + 1)
least_more gs g common n m l e s h small = record {
  positive = lcm_positive common g.den m s.positive g.lowest.positive h;
  small = small;
  multiple = λ j k d. elim (cases_lt j n) [
    | inl less ↦ Nat.dvd_trans (get_or gs j d).den (s.multiple j less d) h.0
    | inr last ↦ (let q : n ≡ j = omega arith in subst (λ (x : Op). x.den ∣ m) (e ∙ get_or_default gs n g d l ∙ ap (λ k. get_or gs k d) q) h.1)
  ];
  least = λ D p all. h.2 D (s.least D p all) (subst (λ (x : Op). x.den ∣ D) (sym e) (all n g l));
}

pub too_large : (gs : List Op) (g : Op) (common n m : ℕ) → n < length gs → g ≡ get_or gs n g → IsLeastSoFar gs common n → IsLcm common g.den m
    → 100000 < m → ¬ (HasSmallDenominator gs)
too_large gs g common n m l e s h large c = let d : m ≤ c.common = Nat.le_of_dvd c.positive
    (h.2 c.common (s.least c.common c.positive c.multiple) (subst (λ (x : Op). x.den ∣ c.common) (sym e) (c.multiple n g l))) in let b = c.small in
    omega arith

pub no_multiple : (gs : List Op) (g : Op) (common n : ℕ) → n < length gs → g ≡ get_or gs n g → IsLeastSoFar gs common n
    → ((m : ℕ) → IsLcm common g.den m → 2 ^ 64 ≤ m) → ¬ (HasSmallDenominator gs)
no_multiple gs g common n l e s past c = let t : (m : ℕ) × IsLcm common g.den m = lcm_exists common g.den s.positive in
    too_large gs g common n t.0 l e s t.1 (let b : 2 ^ 64 ≤ t.0 = past t.0 t.1 in omega arith) c

pub small_of_least : (gs : List Op) (common n : ℕ) → length gs ≤ n → IsLeastSoFar gs common n → HasSmallDenominator gs
small_of_least gs common n l s = record { common = common; positive = s.positive; small = s.small; multiple = λ k d m. s.multiple k (omega arith) d }
