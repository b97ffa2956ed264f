-- Terms in the basis and in lowest terms are the canonical form of a number.
--   form-denominator, form-size, form-terms    what is read off it
--   same-terms           one number has one form
--   zero-terms           0 has no terms
use Rattle.std.proofs.Common.{◌≡◌, ◌≢◌, refl, sym, ◌∙◌, ap, ap₂, subst, ℕ, ℤ, zero, suc, pos, negsuc, ◌+◌, ◌<◌, ◌≤◌, ◌+ℤ◌, ◌*ℤ◌, List, [], ◌∷◌, ◌++◌, length, unsigned_abs, append_assoc, append-nil, arith}
use Rattle.std.proofs.lemmas.List.Sums.{sum_by-append}
use Rattle.std.specs.Int.{◌∣◌}
use native.Mathlib.Decide.{ℕ_discrete}
use native.Mathlib.Nat as Nat
use Rattle.irr_algebra.specs.Ring.{Ring}
use Rattle.irr_algebra.proofs.Rings.{ring_laws}
use Rattle.irr_number.specs.Algebra.{at-element}
use Rattle.irr_number.specs.Basis.{InBasis, IsCanonical}
use Rattle.irr_number.specs.Element.{Element, element}
use Rattle.irr_number.specs.Fraction.{Fraction}
use Rattle.irr_number.specs.Integers.{integers}
use Rattle.irr_number.specs.Number.{numbers}
use Rattle.irr_number.specs.SumLaws.{delta-other, delta-same}
use Rattle.irr_canonical.specs.Coefficient.{canonical, denominator, over, size, total_below}
use Rattle.irr_canonical.proofs.Forms.{canonical-number}
use Rattle.irr_canonical.proofs.Operations.{IsCanonical-over, denominator-over, size-over}
use Rattle.irr_cyc.specs.Terms.{nonzero_terms, term, terms_at}
use Rattle.irr_cyc.proofs.Divisors.{one_of_dvd}
use Rattle.irr_sparse.specs.TermList.{AreTerms, IsLowest, IsTerm, coefficient_at, exponent_at, total}
use Rattle.irr_sparse.specs.Value.{value_of}
use Rattle.irr_sparse.proofs.Lists.{terms-at, terms-cons, terms-head, terms-none, terms-tail}
use Rattle.irr_sparse.proofs.Values.{value-none, value-over}

-- a term at another exponent adds nothing
skipped : (R : Ring) (c s : R.Carrier) → R.add (R.mul c R.zero) s ≡ s
skipped R c s = simp (ring_laws, R)

taken : (R : Ring) (c : R.Carrier) → R.add (R.mul c R.one) R.zero ≡ c
taken R c = simp (ring_laws, R)

at-other : (t : ℕ × ℤ) (ts : List (ℕ × ℤ)) (k : ℕ) → t.0 ≢ k → terms_at (t ∷ ts) k ≡ terms_at ts k
unfolding terms_at
at-other t ts k ne = ap (λ x. (t.1 *ℤ x) +ℤ terms_at ts k) (delta-other integers t.0 k ne) ∙ skipped integers t.1 (terms_at ts k)

at-nil : (k : ℕ) → terms_at [] k ≡ pos 0
unfolding terms_at
at-nil k = refl

-- below the first exponent there is nothing
at-before : (N b : ℕ) (ts : List (ℕ × ℤ)) (k : ℕ) → AreTerms N b ts → k < b → terms_at ts k ≡ pos 0
at-before N b [] k h lt = at-nil k
at-before N b (t ∷ ts) k h lt =
    let first : b ≤ t.0 = (terms-head N b t ts h).from in
    let ne : t.0 ≢ k = (λ e. omega (arith, e)) in
    at-other t ts k ne ∙ at-before N (suc t.0) ts k (terms-tail N b t ts h) (omega arith)

at-first : (N b : ℕ) (t : ℕ × ℤ) (ts : List (ℕ × ℤ)) → AreTerms N b (t ∷ ts) → terms_at (t ∷ ts) t.0 ≡ t.1
unfolding terms_at
at-first N b t ts h = ap₂ (λ x y. (t.1 *ℤ x) +ℤ y) (delta-same integers t.0) (at-before N (suc t.0) ts t.0 (terms-tail N b t ts h) (omega arith)) ∙ taken integers t.1

at-place : (N b : ℕ) (ts : List (ℕ × ℤ)) (i : ℕ) → AreTerms N b ts → i < length ts → terms_at ts (exponent_at ts i) ≡ coefficient_at ts i
at-place N b [] i h lt = absurd (omega arith)
at-place N b (t ∷ ts) zero h lt = at-first N b t ts h
at-place N b (t ∷ ts) (suc i) h lt =
    let from : suc t.0 ≤ exponent_at ts i = (terms-at N (suc t.0) ts i (terms-tail N b t ts h) (omega arith)).from in
    let ne : t.0 ≢ exponent_at ts i = (λ e. omega (arith, e)) in
    at-other t ts (exponent_at ts i) ne ∙ at-place N (suc t.0) ts i (terms-tail N b t ts h) (omega arith)

-- outside the basis there is nothing
at-outside : (N b : ℕ) (ts : List (ℕ × ℤ)) (k : ℕ) → AreTerms N b ts → ¬ (InBasis N k) → terms_at ts k ≡ pos 0
at-outside N b [] k h out = at-nil k
at-outside N b (t ∷ ts) k h out =
    let ne : t.0 ≢ k = (λ e. out (subst (InBasis N) e (terms-head N b t ts h).basis)) in
    at-other t ts k ne ∙ at-outside N (suc t.0) ts k (terms-tail N b t ts h) out

-- the terms with exponents from b on, so many of them, from the first
unfoldable range : (b n : ℕ) (f : ℕ → ℤ) → List (ℕ × ℤ)
range b zero f = []
range b (suc n) f = term b (f b) ++ range (suc b) n f

range-last : (b n : ℕ) (f : ℕ → ℤ) → range b (suc n) f ≡ range b n f ++ term (b + n) (f (b + n))
unfolding range
range-last b zero f = append-nil (term b (f b)) ∙ ap (λ k. term k (f k)) (sym (Nat.add-zero b))
range-last b (suc n) f = ap (λ ts. term b (f b) ++ ts) (range-last (suc b) n f) ∙ sym (append_assoc (term b (f b)) (range (suc b) n f) (term (suc b + n) (f (suc b + n))))
    ∙ (let e : suc b + n ≡ b + suc n = omega arith in ap (λ k. range b (suc n) f ++ term k (f k)) e)

nonzero-range : (n : ℕ) (f : ℕ → ℤ) → nonzero_terms n f ≡ range 0 n f
unfolding nonzero_terms range
nonzero-range zero f = refl
nonzero-range (suc n) f = ap (λ ts. ts ++ term n (f n)) (nonzero-range n f) ∙ ap (λ k. range 0 n f ++ term k (f k)) (sym (Nat.zero-add n)) ∙ sym (range-last 0 n f)

range-cong : (b n : ℕ) (f g : ℕ → ℤ) → ((k : ℕ) → b ≤ k → f k ≡ g k) → range b n f ≡ range b n g
unfolding range
range-cong b zero f g h = refl
range-cong b (suc n) f g h = λ i. term b (h b (Nat.le_refl b) i) ++ range-cong (suc b) n f g (λ k le. h k (omega arith)) i

no-term : (j : ℕ) (c : ℤ) → c ≡ pos 0 → term j c ≡ []
unfolding term
no-term j c e = ap (term j) e

some-term : (j : ℕ) (c : ℤ) → c ≢ pos 0 → term j c ≡ (j, c) ∷ []
unfolding term
some-term j (pos zero) n = absurd (n refl)
some-term j (pos (suc k)) n = refl
some-term j (negsuc k) n = refl

range-none : (b n : ℕ) (f : ℕ → ℤ) → ((k : ℕ) → f k ≡ pos 0) → range b n f ≡ []
unfolding range
range-none b zero f z = refl
range-none b (suc n) f z = ap (λ ts. ts ++ range (suc b) n f) (no-term b (f b) (z b)) ∙ range-none (suc b) n f z

range-terms : (N b n : ℕ) (ts : List (ℕ × ℤ)) → AreTerms N b ts → N ≤ b + n → range b n (terms_at ts) ≡ ts
unfolding range
range-terms N b zero [] h le = refl
range-terms N b zero (t ∷ ts) h le = let lt : t.0 < N = (terms-head N b t ts h).below in let from : b ≤ t.0 = (terms-head N b t ts h).from in absurd (omega arith)
range-terms N b (suc n) [] h le = range-none b (suc n) (terms_at []) at-nil
range-terms N b (suc n) (t ∷ ts) h le = elim (ℕ_discrete t.0 b) [
  | yes e ↦ ap₂ (λ (xs ys : List (ℕ × ℤ)). xs ++ ys)
      (ap (λ k. term k (terms_at (t ∷ ts) k)) (sym e) ∙ ap (term t.0) (at-first N b t ts h) ∙ some-term t.0 t.1 (terms-head N b t ts h).nonzero)
      (range-cong (suc b) n (terms_at (t ∷ ts)) (terms_at ts) (λ k from. let ne : t.0 ≢ k = (λ s. omega (arith, s, e)) in at-other t ts k ne)
      ∙ range-terms N (suc b) n ts (subst (λ k. AreTerms N (suc k) ts) e (terms-tail N b t ts h)) (omega arith))
  | no ne ↦ (let from : b ≤ t.0 = (terms-head N b t ts h).from in
      let first : IsTerm N b t.0 t.1 = terms-head N b t ts h in
      let up : AreTerms N (suc b) (t ∷ ts) = terms-cons N (suc b) t ts (record { from = omega (arith, ne); below = first.below; basis = first.basis; nonzero = first.nonzero }) (terms-tail N b t ts h) in
      ap (λ xs. xs ++ range (suc b) n (terms_at (t ∷ ts))) (no-term b (terms_at (t ∷ ts) b) (at-before N (suc b) (t ∷ ts) b up (omega arith))) ∙ range-terms N (suc b) n (t ∷ ts) up (omega arith))
]

nonzero-cong : (n : ℕ) (f g : ℕ → ℤ) → ((k : ℕ) → k < n → f k ≡ g k) → nonzero_terms n f ≡ nonzero_terms n g
unfolding nonzero_terms
nonzero-cong zero f g h = refl
nonzero-cong (suc n) f g h = λ i. nonzero-cong n f g (λ k lt. h k (omega arith)) i ++ term n (h n (omega arith) i)

total-term : (j : ℕ) (c : ℤ) → total (term j c) ≡ unsigned_abs c
unfolding term
total-term j (pos zero) = refl
total-term j (pos (suc k)) = Nat.zero-add (suc k)
total-term j (negsuc k) = Nat.zero-add (suc k)

total-nonzero : (n : ℕ) (f : ℕ → ℤ) → total (nonzero_terms n f) ≡ total_below n (λ j. unsigned_abs (f j))
unfolding nonzero_terms total_below
total-nonzero zero f = refl
total-nonzero (suc n) f = sum_by-append (λ (t : ℕ × ℤ). unsigned_abs t.1) (nonzero_terms n f) (term n (f n)) ∙ (λ i. total-nonzero n f i + total-term n (f n) i)

module _ (N : ℕ) (hN : 0 < N) (ts : List (ℕ × ℤ)) (d : ℕ) (hd : 0 < d) (h : AreTerms N 0 ts) (l : IsLowest ts d) where
  is_canonical : IsCanonical N (over N (terms_at ts) d hd)
  is_canonical = IsCanonical-over N (terms_at ts) d hd (λ j lt out. at-outside N 0 ts j h out)
      (λ c v all. l c v (λ i lt. subst (λ x. c ∣ unsigned_abs x) (at-place N 0 ts i h lt) (all (exponent_at ts i) (terms-at N 0 ts i h lt).below)))

  form-is : canonical N (value_of N ts d) ≡ over N (terms_at ts) d hd
  form-is = ap (canonical N) (value-over N ts d hd) ∙ canonical-number N hN (over N (terms_at ts) d hd) is_canonical

  pub form-denominator : denominator N (value_of N ts d) ≡ d
  form-denominator = ap (denominator N) (value-over N ts d hd) ∙ denominator-over N hN (terms_at ts) d hd is_canonical

  pub listed : nonzero_terms N (terms_at ts) ≡ ts
  listed = nonzero-range N (terms_at ts) ∙ range-terms N 0 N ts h (omega arith)

  pub form-size : size N (value_of N ts d) ≡ total ts
  form-size = ap (size N) (value-over N ts d hd) ∙ size-over N hN (terms_at ts) d hd is_canonical ∙ sym (total-nonzero N (terms_at ts)) ∙ ap total listed

  pub form-terms : ts ≡ nonzero_terms N (canonical N (value_of N ts d)).num.at
  form-terms = sym listed ∙ nonzero-cong N (terms_at ts) (element N (terms_at ts)).at (λ k lt. sym (at-element N (terms_at ts) k lt)) ∙ ap (λ (a : Fraction (Element N)). nonzero_terms N a.num.at) (sym form-is)

-- one number has one form
module _ (N : ℕ) (hN : 0 < N) (ts : List (ℕ × ℤ)) (d : ℕ) (hd : 0 < d) (h : AreTerms N 0 ts) (l : IsLowest ts d)
    (us : List (ℕ × ℤ)) (e : ℕ) (he : 0 < e) (g : AreTerms N 0 us) (m : IsLowest us e) where
  pub same-terms : value_of N ts d ≡ value_of N us e → ts ≡ us
  same-terms s = form-terms N hN ts d hd h l ∙ ap (λ x. nonzero_terms N (canonical N x).num.at) s ∙ sym (form-terms N hN us e he g m)

  pub same-denominators : value_of N ts d ≡ value_of N us e → d ≡ e
  same-denominators s = sym (form-denominator N hN ts d hd h l) ∙ ap (denominator N) s ∙ form-denominator N hN us e he g m

pub none-lowest : IsLowest [] 1
none-lowest c v all = one_of_dvd c v

-- 0 has no terms
pub zero-terms : (N : ℕ) (hN : 0 < N) (ts : List (ℕ × ℤ)) (d : ℕ) (hd : 0 < d) (h : AreTerms N 0 ts) (l : IsLowest ts d) → value_of N ts d ≡ (numbers N).zero → ts ≡ []
zero-terms N hN ts d hd h l e = same-terms N hN ts d hd h l [] 1 (omega arith) (terms-none N 0) none-lowest (e ∙ sym (value-none N 1 (omega arith)))
