-- Of two trials one comes before the other, or they give one verdict.
--   Code                  which lists of numbers there are, such that none is the start of another
--   Has c xs              xs is one of them
--   turn_cases            the trichotomy
--   verdict_unique        what is said first of trials is said once
use Rattle.std.proofs.Common.{◌≡◌, sym, ◌∙◌, ap, ap₂, subst, refl, inl, inr, ◌⊎◌, ℕ, zero, suc, ◌+◌, List, [], ◌∷◌, arith}
use Rattle.std.proofs.lemmas.Bool.{cases_lt}
use Rattle.irr_check.specs.declared.verdict.Verdict.{Verdict}
use Rattle.irr_check.specs.declared.verdict.Verdict.TheVariants.{No, Yes}
use Rattle.irr_check.specs.declared.verdict.Clause.TheVariants.{Unit as UnitMatrix, Multiply, Char, Reducible, Equivalent, Missing}
use Rattle.irr_check.specs.Trials.{IsBelow, IsFirstFailed, IsTriedBefore, Trial, turn}
use Rattle.irr_check.specs.Trials.Trial.{all, at_product, at_trace, at_unit, inequivalent, irreducible}
use Rattle.irr_check.specs.Verdict.{verdict_at}

data Code : Type 0 where
  stop : Code
  more : (ℕ → Code) → Code

Has : Code → List ℕ → Type 0
Has stop [] = Unit {0}
Has stop (x ∷ xs) = ⊥
Has (more f) [] = ⊥
Has (more f) (x ∷ xs) = Has (f x) xs

-- as many numbers
of_length : ℕ → Code
of_length zero = stop
of_length (suc n) = more (λ _. of_length n)

-- what is tried of one family
own_trial : ℕ → Code
own_trial zero = stop
own_trial (suc zero) = of_length 2
own_trial (suc (suc zero)) = of_length 1
own_trial (suc (suc (suc n))) = stop

kind : ℕ → Code
kind zero = more (λ _. more own_trial)
kind (suc zero) = of_length 2
kind (suc (suc n)) = stop

turn_is : {c h : ℕ} (t : Trial c h) → Has (more kind) (turn t)
unfolding turn Has kind own_trial of_length
turn_is (at_unit m) = tt
turn_is (at_product m i j) = tt
turn_is (at_trace m i) = tt
turn_is (irreducible m) = tt
turn_is (inequivalent a b) = tt
turn_is all = tt

-- below, above, or the same
abbrev Cases : List ℕ → List ℕ → Type 0
Cases xs ys = IsBelow xs ys ⊎ (IsBelow ys xs ⊎ (xs ≡ ys))

cases_behind : (x y : ℕ) (xs ys : List ℕ) → x ≡ y → Cases xs ys → Cases (x ∷ xs) (y ∷ ys)
unfolding IsBelow
cases_behind x y xs ys e (inl l) = inl (inr (e, l))
cases_behind x y xs ys e (inr (inl l)) = inr (inl (inr (sym e, l)))
cases_behind x y xs ys e (inr (inr f)) = inr (inr (ap₂ (λ n ns. n ∷ ns) e f))

code_cases : (c : Code) (xs ys : List ℕ) → Has c xs → Has c ys → Cases xs ys
unfolding IsBelow Has
code_cases stop [] [] p q = inr (inr refl)
code_cases stop [] (y ∷ ys) p q = absurd q
code_cases stop (x ∷ xs) ys p q = absurd p
code_cases (more f) [] ys p q = absurd p
code_cases (more f) (x ∷ xs) [] p q = absurd q
code_cases (more f) (x ∷ xs) (y ∷ ys) p q = elim (cases_lt x y) [
  | inl l ↦ inl (inl l)
  | inr past ↦ elim (cases_lt y x) [
    | inl l ↦ inr (inl (inl l))
    | inr here ↦ (
        let e : y ≡ x = omega (arith, past, here) in
        cases_behind x y xs ys (sym e) (code_cases (f x) xs ys p (subst (λ n. Has (f n) ys) e q)))
  ]
]

turn_cases : {c h : ℕ} (t u : Trial c h) → Cases (turn t) (turn u)
turn_cases t u = code_cases (more kind) (turn t) (turn u) (turn_is t) (turn_is u)

-- the verdict of a turn
of_family : ℕ → ℕ → List ℕ → Verdict
of_family m zero rest = No UnitMatrix (m + 1) 0 0
of_family m (suc zero) (i ∷ j ∷ rest) = No Multiply (m + 1) (i + 1) (j + 1)
of_family m (suc zero) [] = Yes
of_family m (suc zero) (i ∷ []) = Yes
of_family m (suc (suc zero)) (i ∷ rest) = No Char (m + 1) (i + 1) 0
of_family m (suc (suc zero)) [] = Yes
of_family m (suc (suc (suc n))) rest = No Reducible (m + 1) 0 0

of_turn : List ℕ → Verdict
of_turn (zero ∷ m ∷ k ∷ rest) = of_family m k rest
of_turn (zero ∷ m ∷ []) = Yes
of_turn (zero ∷ []) = Yes
of_turn (suc zero ∷ a ∷ b ∷ rest) = No Equivalent (a + 1) (b + 1) 0
of_turn (suc zero ∷ a ∷ []) = Yes
of_turn (suc zero ∷ []) = Yes
of_turn (suc (suc n) ∷ rest) = No Missing 0 0 0
of_turn [] = Yes

verdict_of_turn : {c h : ℕ} (t : Trial c h) → verdict_at t ≡ of_turn (turn t)
unfolding verdict_at turn of_turn of_family
verdict_of_turn (at_unit m) = refl
verdict_of_turn (at_product m i j) = refl
verdict_of_turn (at_trace m i) = refl
verdict_of_turn (irreducible m) = refl
verdict_of_turn (inequivalent a b) = refl
verdict_of_turn all = refl

-- what is said of trials of which each is passed or not
pub data IsTrialsVerdict {c h : ℕ} (passes : Trial c h → Type 0) : Verdict → Type 0 where
  first_failed : (t : Trial c h) → IsFirstFailed IsTriedBefore passes t → IsTrialsVerdict passes (verdict_at t)
  none_failed : ((t : Trial c h) → passes t) → IsTrialsVerdict passes Yes

module _ {c h : ℕ} (passes : Trial c h → Type 0) where
  first_once : (t u : Trial c h) → IsFirstFailed IsTriedBefore passes t → IsFirstFailed IsTriedBefore passes u → verdict_at t ≡ verdict_at u
  first_once t u p q = elim (turn_cases t u) [
    | inl l ↦ absurd (p.fails (q.earlier t l))
    | inr (inl l) ↦ absurd (q.fails (p.earlier u l))
    | inr (inr e) ↦ verdict_of_turn t ∙ ap of_turn e ∙ sym (verdict_of_turn u)
  ]

  pub verdict_unique : {v u : Verdict} → IsTrialsVerdict passes v → IsTrialsVerdict passes u → v ≡ u
  verdict_unique (first_failed t p) (first_failed u q) = first_once t u p q
  verdict_unique (first_failed t p) (none_failed every) = absurd (p.fails (every t))
  verdict_unique (none_failed every) (first_failed u q) = absurd (q.fails (every u))
  verdict_unique (none_failed every) (none_failed other) = refl
