-- Lists of exponents that come from indices.
--   indices_of: each exponent of a list that occurs has an index, so the list is one of indices
--   times-exponents: an index stands in its list as often as its exponent in that list
use Rattle.std.proofs.Common.{◌≡◌, sym, ◌∙◌, ap, ap₂, refl, ℕ, ◌+◌, ◌⊎◌, inl, inr, List, [], ◌∷◌, arith}
use Rattle.std.specs.Prelude.{cond, nat_eq, true, false, Bool}
use Rattle.std.specs.List.{AllByRecursion}
use Rattle.std.proofs.lemmas.List.Sums.{sum_by-cons}
use Rattle.std.proofs.lemmas.Bool.{eq-eqb, eqb-true}
use Rattle.irr_algebra.specs.Fin.{Fin}
use Rattle.irr_algebra.proofs.Indices.{same_or_not}
use Rattle.irr_eigen.specs.ListSum.{occurrences, one_more}
use Rattle.irr_extension.specs.Exponents.{times_in}

-- 1 where the answer is yes, and 0 elsewhere
abbrev counted : Bool → ℕ
counted b = cond b 1 0

times_in-cons : (e f : ℕ) (fs : List ℕ) → times_in e (f ∷ fs) ≡ counted (nat_eq f e) + times_in e fs
times_in-cons e f fs = sum_by-cons (λ g. counted (nat_eq g e)) f fs

counted-same : (f e : ℕ) → f ≡ e → counted (nat_eq f e) ≡ 1
counted-same f e h = ap counted (eq-eqb f e h)

counted-other : (f e : ℕ) → (f ≡ e → ⊥) → counted (nat_eq f e) ≡ 0
counted-other f e ne = cases (nat_eq f e) refl
  where
    cases : (t : Bool) → nat_eq f e ≡ t → counted t ≡ 0
    cases true h = absurd (ne (eqb-true f e h))
    cases false h = refl

times_in-here : (e : ℕ) (fs : List ℕ) → times_in e (e ∷ fs) ≡ 0 → ⊥
times_in-here e fs h =
    let one = counted-same e e refl in
    let c = times_in-cons e e fs in
    absurd (omega (arith, one, c, h))

times_in-later : (e f : ℕ) (fs : List ℕ) → (times_in e fs ≡ 0 → ⊥) → times_in e (f ∷ fs) ≡ 0 → ⊥
times_in-later e f fs ne h = ne (let c = times_in-cons e f fs in omega (arith, c, h))

module _ {k : ℕ} (exponent : Fin k → ℕ) where
  -- the exponents of the indices of a list
  unfoldable pub exponents_of : List (Fin k) → List ℕ
  exponents_of [] = []
  exponents_of (a ∷ l) = exponent a ∷ exponents_of l

  pub indices_of : (P : ℕ → Type 0) (es : List ℕ) → AllByRecursion P es
      → ((e : ℕ) → P e → (times_in e es ≡ 0 → ⊥) → (a : Fin k) × (exponent a ≡ e)) → (l : List (Fin k)) × (exponents_of l ≡ es)
  unfolding exponents_of
  indices_of P [] each found = ([], refl)
  indices_of P (e ∷ es) each found =
      let a = found e each.0 (times_in-here e es) in
      let l = indices_of P es each.1 (λ f h ne. found f h (times_in-later f e es ne)) in
      (a.0 ∷ l.0, ap₂ (λ f fs. f ∷ fs) a.1 l.1)

  pub times-exponents : ((a b : Fin k) → exponent a ≡ exponent b → a ≡ b) → (a : Fin k) (l : List (Fin k))
      → occurrences a l ≡ times_in (exponent a) (exponents_of l)
  unfolding exponents_of occurrences one_more
  times-exponents injective a [] = refl
  times-exponents injective a (b ∷ l) = one (same_or_not b a) (times-exponents injective a l) ∙ sym (times_in-cons (exponent a) (exponent b) (exponents_of l))
    where
      one : (c : (b ≡ a) ⊎ (b ≡ a → ⊥)) → occurrences a l ≡ times_in (exponent a) (exponents_of l)
          → one_more c (occurrences a l) ≡ counted (nat_eq (exponent b) (exponent a)) + times_in (exponent a) (exponents_of l)
      one (inl e) ih = let here = counted-same (exponent b) (exponent a) (ap exponent e) in omega (arith, here, ih)
      one (inr n) ih = let here = counted-other (exponent b) (exponent a) (λ e. n (injective b a e)) in omega (arith, here, ih)
