-- A full list in another order is full.
--
-- count_total_matched  a sum of numbers does not depend on their order
-- rearranged_full      the members in another order
-- full_of_same         a list with the same families in another order
use Rattle.std.proofs.Common.{◌≡◌, sym, ◌∙◌, ap, subst, ℕ, ◌*◌}
use mathlib.Core.Path.{fun_ext}
use Rattle.irr_algebra.specs.Ring.{whole}
use Rattle.irr_algebra.specs.Field.{Field}
use Rattle.irr_algebra.specs.Fin.{Fin}
use Rattle.irr_algebra.proofs.Fields.{whole_inj}
use Rattle.irr_algebra.proofs.Sums.{sum-matched}
use Rattle.irr_theory.specs.FactorSystem.{FactorSystem}
use Rattle.irr_theory.specs.Representations.{Representations, IsFull, count_total}
use Rattle.irr_theory.proofs.Completeness.{whole-count_total}
use Rattle.irr_ascent.specs.Joined.{Family, family, rearranged}

module _ (F : Field) where
  open F use {ring as R}

  count_total_matched : (m n : ℕ) (s : Fin m → Fin n) (t : Fin n → Fin m) → ((i : Fin n) → s (t i) ≡ i) → ((i : Fin m) → t (s i) ≡ i)
      → (f : Fin n → ℕ) → count_total m (λ i. f (s i)) ≡ count_total n f
  count_total_matched m n s t st ts f = whole_inj F (count_total m (λ i. f (s i))) (count_total n f) (
      whole-count_total R m (λ i. f (s i)) ∙ sum-matched R m n s t st ts (λ i. whole R (f i)) ∙ sym (whole-count_total R n f))

  module _ {T : FactorSystem R} (M : Representations T) (full : IsFull M) {n : ℕ} (s : Fin n → Fin M.count) (t : Fin M.count → Fin n)
      (st : (i : Fin M.count) → s (t i) ≡ i) (ts : (i : Fin n) → t (s i) ≡ i) where
    pub rearranged_full : IsFull (rearranged M s)
    rearranged_full = record {
      positive = λ m. full.positive (s m);
      simple = λ m. full.simple (s m);
      inequivalent = λ i j d. full.inequivalent (s i) (s j) (λ e. d (sym (ts i) ∙ ap t e ∙ ts j));
      squares = count_total_matched n M.count s t st ts (λ m. M.size m * M.size m) ∙ full.squares;
    }

  pub full_of_same : {T : FactorSystem R} (N M : Representations T) → IsFull M → (s : Fin N.count → Fin M.count) (t : Fin M.count → Fin N.count)
      → ((i : Fin M.count) → s (t i) ≡ i) → ((i : Fin N.count) → t (s i) ≡ i) → ((i : Fin N.count) → family N i ≡ family M (s i)) → IsFull N
  full_of_same {T} N M full s t st ts e = subst (λ (f : Fin N.count → Family T). IsFull (of_families f)) (fun_ext (λ i. sym (e i)))
      (rearranged_full M full s t st ts)
    where
      of_families : (Fin N.count → Family T) → Representations T
      of_families f = record { count = N.count; size = λ m. (f m).0; member = λ m. (f m).1 }
