-- A whole number in canonical form, and the rank of a projection.
--   terms_of_whole            the terms of the number k
--   whole_le_size             the number k is at most its size
--   first_term, no_term       k, read off its terms
--   rank_of_term, rank_of_no_term     the rank, read off the terms of the trace
--   rank_of_projection        a projection has a rank, which is its trace and at most its size
use Rattle.std.proofs.Common.{◌≡◌, sym, ◌∙◌, ap, ap₂, subst, refl, ℕ, ℤ, pos, zero, suc, ◌-◌, ◌*ℤ◌, ◌/◌, ◌%◌, ◌^◌, ◌<◌, ◌≤◌, List, [], ◌++◌, Some, None, arith}
use Rattle.std.specs.Prelude.{slice_get}
use Rattle.std.proofs.lemmas.List.{append-nil}
use Rattle.std.specs.Int.RustNames.{unsigned_abs}
use native.Mathlib.Nat as Nat
use Rattle.irr_algebra.specs.Fin.{Fin}
use Rattle.irr_algebra.specs.Ring.{whole}
use Rattle.irr_algebra.specs.Matrix.{Matrix, ◌·◌, trace, unit, column}
use Rattle.irr_algebra.specs.Span.{InSpan}
use Rattle.irr_algebra.proofs.Matrices.{unit-mul}
use Rattle.irr_algebra.proofs.Spans.{Image, projection_image, span-length, span-length_unique}
use Rattle.irr_algebra.proofs.Rings.{one-mul, zero-mul}
use Rattle.irr_algebra.proofs.Whole.{whole-one}
use Rattle.irr_number.specs.Number.{Number, number, numbers}
use Rattle.irr_number.specs.Basis.{InBasis}
use Rattle.irr_number.proofs.NumberField.{number_field}
use Rattle.irr_number.specs.Algebra.{at-element}
use Rattle.irr_number.specs.Element.{delta}
use Rattle.irr_number.specs.Integers.{integers}
use Rattle.irr_number.specs.SumLaws.{delta-other, delta-same}
use Rattle.irr_number.proofs.RootPowers.{root_power-zero}
use Rattle.irr_rational.proofs.Integers.{integer-pos}
use Rattle.irr_canonical.proofs.Forms.{canonical_of_number}
use Rattle.irr_canonical.proofs.Operations.{IsCanonical-over, over-root, over-scale}
use Rattle.irr_canonical.specs.Coefficient.{canonical, over, size}
use Rattle.irr_canonical.proofs.Sizes.{term-le}
use Rattle.irr_canonical.specs.Reduction.{IsInBasis}
use Rattle.irr_cyc.specs.Terms.{nonzero_terms, term}
use Rattle.irr_mat.specs.Rank.{HasRank}

-- only the first coefficient is not 0
only_first_term : (n : ℕ) (g : ℕ → ℤ) (z : ℤ) → g 0 ≡ z → ((j : ℕ) → 0 < j → j < suc n → g j ≡ pos 0) → nonzero_terms (suc n) g ≡ term 0 z
unfolding nonzero_terms term
only_first_term zero g z e h = ap (term 0) e
only_first_term (suc n) g z e h =
    ap₂ ◌++◌ (only_first_term n g z e (λ j p l. h j p (omega arith))) (ap (term (suc n)) (h (suc n) (omega arith) (omega arith)) ∙ none (suc n)) ∙ append-nil (term 0 z)
  where
    none : (m : ℕ) → term m (pos 0) ≡ []
    none m = refl

-- 1 is in the basis
InBasis-zero : (N : ℕ) → InBasis N 0
InBasis-zero N p m prime positive highest e =
    let z : (0 % p ^ m) / p ^ (m - 1) ≡ 0 = ap (λ u. u / p ^ (m - 1)) (Nat.zero-mod (p ^ m)) ∙ Nat.zero-div (p ^ (m - 1)) in
    let l : 1 < p = prime.0 in
    absurd (omega arith)

-- the coefficients of k
whole_coefficients : ℕ → ℕ → ℤ
whole_coefficients k zero = pos k
whole_coefficients k (suc j) = pos 0

module _ (N : ℕ) (h : 0 < N) (k : ℕ) where
  one : 0 < 1
  one = omega arith

  in_basis : IsInBasis N (whole_coefficients k)
  unfolding whole_coefficients
  in_basis zero l n = absurd (n (InBasis-zero N))
  in_basis (suc j) l n = refl

  whole-number : number N (over N (whole_coefficients k) 1 one) ≡ whole (numbers N) k
  unfolding whole_coefficients
  whole-number =
      sym (ap (λ c. (numbers N).mul c (number N (over N (whole_coefficients k) 1 one))) (whole-one (numbers N)) ∙ one-mul (numbers N) (number N (over N (whole_coefficients k) 1 one)))
      ∙ over-scale N h (delta integers (0 % N)) (whole_coefficients k) (pos k) 1 1 one one coefficients
      ∙ ap₂ (numbers N).mul (integer-pos (numbers N) k) (over-root N (delta integers (0 % N)) 0 one (λ j l. refl) ∙ root_power-zero N)
      ∙ (numbers N).mul-one (whole (numbers N) k)
    where
      at : (j : ℕ) → whole_coefficients k j ≡ delta integers 0 j *ℤ pos k
      at zero = sym (ap (λ c. c *ℤ pos k) (delta-same integers 0) ∙ one-mul integers (pos k))
      at (suc j) = sym (ap (λ c. c *ℤ pos k) (delta-other integers 0 (suc j) (λ e. absurd (omega arith))) ∙ zero-mul integers (pos k))

      coefficients : (j : ℕ) → j < N → whole_coefficients k j ≡ delta integers (0 % N) j *ℤ pos k
      coefficients j l = at j ∙ ap (λ i. delta integers i j *ℤ pos k) (sym (Nat.zero-mod N))

  canonical-whole : (x : Number N) → x ≡ whole (numbers N) k → canonical N x ≡ over N (whole_coefficients k) 1 one
  canonical-whole x e = canonical_of_number N h (over N (whole_coefficients k) 1 one) x
      (IsCanonical-over N (whole_coefficients k) 1 one in_basis (λ c v t. Nat.eq-one_of_dvd-one v)) (whole-number ∙ sym e)

pub terms_of_whole : (N : ℕ) → 0 < N → (k : ℕ) (x : Number N) → x ≡ whole (numbers N) k → nonzero_terms N (canonical N x).num.at ≡ term 0 (pos k)
unfolding whole_coefficients
terms_of_whole zero h k x e = absurd (omega arith)
terms_of_whole (suc n) h k x e = only_first_term n (canonical (suc n) x).num.at (pos k) (at 0 (omega arith)) (λ j p l. at j l ∙ above j p)
  where
    at : (j : ℕ) → j < suc n → (canonical (suc n) x).num.at j ≡ whole_coefficients k j
    at j l = ap (λ f. f.num.at j) (canonical-whole (suc n) h k x e) ∙ at-element (suc n) (whole_coefficients k) j l

    above : (j : ℕ) → 0 < j → whole_coefficients k j ≡ pos 0
    above zero p = absurd (omega arith)
    above (suc j) p = refl

pub whole_le_size : (N : ℕ) → 0 < N → (k : ℕ) (x : Number N) → x ≡ whole (numbers N) k → k ≤ size N x
unfolding size whole_coefficients
whole_le_size N h k x e = subst (λ m. m ≤ size N x)
    (ap unsigned_abs (ap (λ f. f.num.at 0) (canonical-whole N h k x e) ∙ at-element N (whole_coefficients k) 0 h))
    (term-le N 0 (λ j. unsigned_abs ((canonical N x).num.at j)) h)

-- a projection has a rank, and its trace is this number
pub rank_of_projection : (N : ℕ) (h : 0 < N) (n : ℕ) (a : Matrix (numbers N) n n) → a · a ≡ a → (k : ℕ) × (HasRank a k × (trace a ≡ whole (numbers N) k) × (k ≤ n))
rank_of_projection N h n a e =
    let m : Image a = projection_image (number_field N h) a e in (
      m.rank,
      (
        record { basis = m.basis; independent = m.independent; inside = m.inside; spanning = m.outside },
        m.trace-rank,
        span-length (number_field N h) m.basis (unit (numbers N) n) m.independent (λ j. record { coefficients = column m.basis j; is_combination = unit-mul (column m.basis j) }),
      ),
    )

none-ne-some : {A : Type 0} {x : A} → None ≡ Some x → ⊥
none-ne-some e = cc

some_inj : {A : Type 0} {x y : A} → Some x ≡ Some y → x ≡ y
some_inj e = cc

-- the one term of a whole number
pub first_term : (k : ℕ) (ts : List (ℕ × ℤ)) (t : ℕ × ℤ) → ts ≡ term 0 (pos k) → slice_get ts 0 ≡ Some t → t.1 ≡ pos k
unfolding term
first_term zero ts t e s = absurd (none-ne-some (sym (ap (λ us. slice_get us 0) e) ∙ s))
first_term (suc k) ts t e s = ap (λ (u : ℕ × ℤ). u.1) (some_inj (sym s ∙ ap (λ us. slice_get us 0) e))

pub no_term : (k : ℕ) (ts : List (ℕ × ℤ)) → ts ≡ term 0 (pos k) → slice_get ts 0 ≡ None → k ≡ 0
unfolding term
no_term zero ts e s = refl
no_term (suc k) ts e s = absurd (none-ne-some (sym s ∙ ap (λ us. slice_get us 0) e))

-- the rank of a projection, read off the canonical form x of its trace
module _ (N : ℕ) (h : 0 < N) (n : ℕ) (a : Matrix (numbers N) n n) (e : a · a ≡ a) (x : Number N) (is : x ≡ trace a) (ts : List (ℕ × ℤ)) (read : ts ≡ nonzero_terms N (canonical N x).num.at) where
  rank : (k : ℕ) × (HasRank a k × (trace a ≡ whole (numbers N) k) × (k ≤ n))
  rank = rank_of_projection N h n a e

  pub rank_of_term : (t : ℕ × ℤ) → slice_get ts 0 ≡ Some t → (k : ℕ) × ((t.1 ≡ pos k) × HasRank a k × (k ≤ n))
  rank_of_term t s = (rank.0, (first_term rank.0 ts t (read ∙ terms_of_whole N h rank.0 x (is ∙ rank.1.1)) s, rank.1.0, rank.1.2))

  pub rank_of_no_term : slice_get ts 0 ≡ None → HasRank a 0
  rank_of_no_term s = subst (HasRank a) (no_term rank.0 ts (read ∙ terms_of_whole N h rank.0 x (is ∙ rank.1.1)) s) rank.1.0

-- the trace of a projection is its rank
pub trace-rank : (N : ℕ) (h : 0 < N) (n k : ℕ) (a : Matrix (numbers N) n n) → a · a ≡ a → HasRank a k → trace a ≡ whole (numbers N) k
trace-rank N h n k a e r =
    let m : Image a = projection_image (number_field N h) a e in
    m.trace-rank ∙ ap (whole (numbers N)) (span-length_unique (number_field N h) m.basis r.basis m.independent r.independent
    (λ j. inside m.basis r.basis m.inside r.spanning j) (λ j. inside r.basis m.basis r.inside m.outside j))
  where
    inside : {u v : ℕ} (p : Matrix (numbers N) n u) (s : Matrix (numbers N) n v) → ((j : Fin u) → InSpan a (column p j)) → ((c : Matrix (numbers N) n 1) → InSpan s (a · c)) → (j : Fin u) → InSpan s (column p j)
    inside p s i o j = subst (InSpan s) (i j).is_combination (o (i j).coefficients)
