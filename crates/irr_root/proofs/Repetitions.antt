-- Equally spaced numbers, each repeated.
--   times_in-absent          a number that is not in a list
--   repetitions              the numbers first, first + step, .. below the n-th, each as often as `times` says
--   repetitions-repeated     they are such a list
use Rattle.std.proofs.Common.{◌≡◌, sym, ◌∙◌, ap, ap₂, subst, ℕ, zero, suc, ◌<◌, ◌≤◌, ◌+◌, ◌-◌, ◌*◌, List, [], ◌∷◌, ◌++◌, length, replicate, get_or, slice_index, All, add-one, arith}
use Rattle.std.specs.Prelude.{cond, nat_eq, Bool, true, false}
use Rattle.std.specs.List.{AllByRecursion}
use Rattle.std.proofs.Math.Nat as Nat
use native.Mathlib.Decide.{dec_le}
use Rattle.std.proofs.Math.ListN.{get_or-append, length-append}
use Rattle.std.proofs.lemmas.List.{get_or-append_right, get_or-replicate, length-replicate}
use Rattle.std.proofs.lemmas.List.Elements.{All-append, All-nil, All-replicate, recursion_from_All}
use Rattle.std.proofs.lemmas.List.Folds.{sum_by-replicate}
use Rattle.std.proofs.lemmas.List.Sorted.{IsNonDecreasingBy-from_default}
use Rattle.std.proofs.lemmas.List.Sums.{sum_by-append, sum_by-cons}
use Rattle.std.proofs.lemmas.Bool.{eq-eqb, eqb-true}
use Rattle.irr_canonical.specs.Coefficient.{total_below}
use Rattle.irr_extension.specs.Exponents.{times_in}
use Rattle.irr_root.specs.Repeated.{AreRepeated}

-- 1 where the answer is yes, and 0 elsewhere
abbrev counted : Bool → ℕ
counted b = cond b 1 0

counted-same : (f e : ℕ) → f ≡ e → counted (nat_eq f e) ≡ 1
counted-same f e h = ap counted (eq-eqb f e h)

counted-other : (f e : ℕ) → (f ≡ e → ⊥) → counted (nat_eq f e) ≡ 0
counted-other f e ne = cases (nat_eq f e) (λ i. nat_eq f e)
  where
    cases : (t : Bool) → nat_eq f e ≡ t → counted t ≡ 0
    cases true h = absurd (ne (eqb-true f e h))
    cases false h = λ i. 0

absent : (e : ℕ) (es : List ℕ) → AllByRecursion (λ f. f ≡ e → ⊥) es → times_in e es ≡ 0
absent e [] h = λ i. 0
absent e (f ∷ es) h = sum_by-cons (λ g. counted (nat_eq g e)) f es ∙ ap₂ (λ a b. a + b) (counted-other f e h.0) (absent e es h.1)

pub times_in-absent : (e : ℕ) (es : List ℕ) → All (λ f. f ≡ e → ⊥) es → times_in e es ≡ 0
times_in-absent e es h = absent e es (recursion_from_All (λ f. f ≡ e → ⊥) es h)

times_in-append : (e : ℕ) (xs ys : List ℕ) → times_in e (xs ++ ys) ≡ times_in e xs + times_in e ys
times_in-append e xs ys = sum_by-append (λ g. counted (nat_eq g e)) xs ys

times_in-same : (n e : ℕ) → times_in e (replicate n e) ≡ n
times_in-same n e = sum_by-replicate (λ g. counted (nat_eq g e)) n e ∙ ap (λ k. n * k) (counted-same e e (λ i. e)) ∙ Nat.mul-one n

times_in-other : (n f e : ℕ) → (f ≡ e → ⊥) → times_in e (replicate n f) ≡ 0
times_in-other n f e ne = sum_by-replicate (λ g. counted (nat_eq g e)) n f ∙ ap (λ k. n * k) (counted-other f e ne) ∙ Nat.mul-zero n

module _ (first step : ℕ) (times : ℕ → ℕ) where
  unfoldable pub repetitions : ℕ → List ℕ
  repetitions zero = []
  repetitions (suc n) = repetitions n ++ replicate (times n) (first + n * step)

  pub repetitions-zero : repetitions 0 ≡ []
  unfolding repetitions
  repetitions-zero = λ i. []

  pub repetitions-add_one : (n : ℕ) → repetitions (n + 1) ≡ repetitions n ++ replicate (times n) (first + n * step)
  unfolding repetitions
  repetitions-add_one n = ap repetitions (add-one n)

  repetitions-all : (P : ℕ → Type 0) (n : ℕ) → ((a : ℕ) → a < n → P (first + a * step)) → All P (repetitions n)
  unfolding repetitions
  repetitions-all P zero h = All-nil P
  repetitions-all P (suc n) h = All-append P (repetitions n) (replicate (times n) (first + n * step))
      (repetitions-all P n (λ a l. h a (omega arith))) (All-replicate P (times n) (first + n * step) (h n (omega arith)))

  repetitions-length : (n : ℕ) → length (repetitions n) ≡ total_below n times
  unfolding repetitions total_below
  repetitions-length zero = λ i. 0
  repetitions-length (suc n) = length-append (repetitions n) (replicate (times n) (first + n * step)) ∙ ap₂ (λ a b. a + b) (repetitions-length n) (length-replicate (times n) (first + n * step))

  times_in-none : (e n : ℕ) → ((a : ℕ) → a < n → first + a * step ≡ e → ⊥) → times_in e (repetitions n) ≡ 0
  unfolding repetitions
  times_in-none e zero h = λ i. 0
  times_in-none e (suc n) h = times_in-append e (repetitions n) (replicate (times n) (first + n * step))
      ∙ ap₂ (λ a b. a + b) (times_in-none e n (λ a l. h a (omega arith))) (times_in-other (times n) (first + n * step) e (h n (omega arith)))

  module _ (positive : 0 < step) where
    number-lt : (a b : ℕ) → a < b → first + a * step < first + b * step
    number-lt a b l =
        let next : suc a * step ≤ b * step = Nat.mul-le-mul_right step l in
        let more : suc a * step ≡ a * step + step = Nat.suc-mul a step in
        omega (arith, next, more, positive)

    number-ne : (a b : ℕ) → a < b → first + b * step ≡ first + a * step → ⊥
    number-ne a b l e = let s : first + a * step < first + b * step = number-lt a b l in absurd (omega (arith, s, e))

    times_in-number : (n a : ℕ) → a < n → times_in (first + a * step) (repetitions n) ≡ times a
    unfolding repetitions
    times_in-number zero a l = absurd (omega arith)
    times_in-number (suc n) a l = times_in-append (first + a * step) (repetitions n) (replicate (times n) (first + n * step)) ∙ cases (λ s. times_in-number n a s) (dec_le (suc a) n)
      where
        cases : (suc a ≤ n → times_in (first + a * step) (repetitions n) ≡ times a) → Dec (suc a ≤ n) → times_in (first + a * step) (repetitions n) + times_in (first + a * step) (replicate (times n) (first + n * step)) ≡ times a
        cases before (yes s) = ap₂ (λ a b. a + b) (before s) (times_in-other (times n) (first + n * step) (first + a * step) (number-ne a n s)) ∙ Nat.add-zero (times a)
        cases before (no s) =
            let is : n ≡ a = omega (arith, l, s) in
            ap₂ (λ a b. a + b) (times_in-none (first + a * step) n (λ b m e. number-ne b a (subst (λ k. b < k) is m) (sym e)))
            (ap (λ k. times_in (first + a * step) (replicate (times k) (first + k * step))) is ∙ times_in-same (times a) (first + a * step))
            ∙ Nat.zero-add (times a)

    -- an element of such a list
    repetitions-bound : (n i : ℕ) → i < length (repetitions n) → get_or (repetitions n) i 0 < first + n * step
    unfolding repetitions
    repetitions-bound zero i l = absurd (omega arith)
    repetitions-bound (suc n) i l = cases (λ s. repetitions-bound n i s) (dec_le (suc i) (length (repetitions n)))
      where
        total : length (repetitions n ++ replicate (times n) (first + n * step)) ≡ length (repetitions n) + times n
        total = length-append (repetitions n) (replicate (times n) (first + n * step)) ∙ ap (λ k. length (repetitions n) + k) (length-replicate (times n) (first + n * step))

        cases : (suc i ≤ length (repetitions n) → get_or (repetitions n) i 0 < first + n * step) → Dec (suc i ≤ length (repetitions n))
            → get_or (repetitions n ++ replicate (times n) (first + n * step)) i 0 < first + suc n * step
        cases known (yes s) = subst (λ k. k < first + suc n * step) (sym (get_or-append (repetitions n) (replicate (times n) (first + n * step)) 0 i s))
            (let before : get_or (repetitions n) i 0 < first + n * step = known s in
            let next : first + n * step < first + suc n * step = number-lt n (suc n) (omega arith) in omega arith)
        cases known (no s) = subst (λ k. k < first + suc n * step)
            (sym (get_or-append_right (repetitions n) (replicate (times n) (first + n * step)) (length (repetitions n)) i 0 (λ k. length (repetitions n)) (omega (arith, s))
            ∙ get_or-replicate (times n) (i - length (repetitions n)) (first + n * step) 0 (omega (arith, total, l, s))))
            (number-lt n (suc n) (omega arith))

    repetitions-increasing : (n i j : ℕ) → i ≤ j → j < length (repetitions n) → get_or (repetitions n) i 0 ≤ get_or (repetitions n) j 0
    unfolding repetitions
    repetitions-increasing zero i j le l = absurd (omega arith)
    repetitions-increasing (suc n) i j le l = cases (λ t. repetitions-increasing n i j le t) (dec_le (suc i) (length (repetitions n))) (dec_le (suc j) (length (repetitions n)))
      where
        all : List ℕ
        all = repetitions n ++ replicate (times n) (first + n * step)

        total : length (repetitions n ++ replicate (times n) (first + n * step)) ≡ length (repetitions n) + times n
        total = length-append (repetitions n) (replicate (times n) (first + n * step)) ∙ ap (λ k. length (repetitions n) + k) (length-replicate (times n) (first + n * step))

        early : (k : ℕ) → suc k ≤ length (repetitions n) → get_or (repetitions n ++ replicate (times n) (first + n * step)) k 0 ≡ get_or (repetitions n) k 0
        early k s = get_or-append (repetitions n) (replicate (times n) (first + n * step)) 0 k s

        late : (k : ℕ) → length (repetitions n) ≤ k → k < length (repetitions n) + times n
            → get_or (repetitions n ++ replicate (times n) (first + n * step)) k 0 ≡ first + n * step
        late k s m = get_or-append_right (repetitions n) (replicate (times n) (first + n * step)) (length (repetitions n)) k 0 (λ i. length (repetitions n)) s
            ∙ get_or-replicate (times n) (k - length (repetitions n)) (first + n * step) 0 (omega arith)

        cases : (suc j ≤ length (repetitions n) → get_or (repetitions n) i 0 ≤ get_or (repetitions n) j 0) → Dec (suc i ≤ length (repetitions n)) → Dec (suc j ≤ length (repetitions n))
            → get_or (repetitions n ++ replicate (times n) (first + n * step)) i 0 ≤ get_or (repetitions n ++ replicate (times n) (first + n * step)) j 0
        cases known (yes s) (yes t) =
            let before = known t in
            omega (arith, early i s, early j t, before)
        cases known (yes s) (no t) =
            let below = repetitions-bound n i s in
            let last = late j (omega (arith, t)) (omega (arith, total, l)) in
            omega (arith, early i s, last, below)
        cases known (no s) (yes t) = absurd (omega (arith, le, s, t))
        cases known (no s) (no t) =
            let first_late = late i (omega (arith, s)) (omega (arith, total, l, le)) in
            let last = late j (omega (arith, t)) (omega (arith, total, l)) in
            omega (arith, first_late, last)

pub repetitions-repeated : (first step : ℕ) (times : List ℕ) → 0 < step → AreRepeated first step times (repetitions first step (slice_index times) (length times))
repetitions-repeated first step times positive = record {
  each = repetitions-all first step (slice_index times) (λ e. (a : ℕ) × (a < length times) × (e ≡ first + a * step)) (length times) (λ a l. (a, l, λ i. first + a * step));
  increasing = IsNonDecreasingBy-from_default (λ x. x) (repetitions first step (slice_index times) (length times)) 0
      (repetitions-increasing first step (slice_index times) positive (length times));
  often = λ a l. times_in-number first step (slice_index times) positive (length times) a l;
  count = repetitions-length first step (slice_index times) (length times);
}
