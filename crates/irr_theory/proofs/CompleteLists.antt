-- Full and complete lists of families.
use Rattle.std.proofs.Common.{◌≡◌, sym, ◌∙◌, ap, ℕ, ◌<◌, ◌*◌, ◌⊎◌, inl, inr}
use Rattle.irr_algebra.specs.Ring.{Ring, whole}
use Rattle.irr_algebra.specs.Field.{Field}
use Rattle.irr_algebra.specs.Fin.{Fin}
use Rattle.irr_algebra.specs.Action.{IsIrreducible, Equivalent, IsSimple}
use Rattle.irr_algebra.proofs.Fields.{whole_inj}
use Rattle.irr_algebra.proofs.Indices.{same_or_not}
use Rattle.irr_algebra.proofs.Sums.{sum-ext, sum-matched}
use Rattle.irr_algebra.proofs.Actions.{equivalent_refl, equivalent_sym, equivalent_trans}
use Rattle.irr_algebra.proofs.Irreducible.{equivalent-size}
use Rattle.irr_theory.specs.FactorSystem.{FactorSystem, Representation}
use Rattle.irr_theory.specs.Representations.{count_total, Representations, IsFull, IsComplete}
use Rattle.irr_theory.proofs.Completeness.{whole-count_total, full-complete}
use Rattle.irr_theory.proofs.Traces.{simple-equivalent_family}

-- each member of a complete list is equivalent to a member of any other
pub complete-match : {R : Ring} {T : FactorSystem R} (L M : Representations T) → IsComplete L → IsComplete M → (m : Fin L.count) → (n : Fin M.count) × Equivalent (L.member m).at (M.member n).at
complete-match L M l m i = m.all (L.member i) (l.positive i) (l.irreducible i)

-- members of one list that are equivalent to one family are one member
pub same_member : {R : Ring} {T : FactorSystem R} (L : Representations T) → IsComplete L → {a : ℕ} (A : Representation T a) (i j : Fin L.count)
    → Equivalent A.at (L.member i).at → Equivalent A.at (L.member j).at → i ≡ j
same_member L l A i j e f = go (same_or_not i j)
  where
    go : (i ≡ j) ⊎ (i ≡ j → ⊥) → i ≡ j
    go (inl h) = h
    go (inr h) = absurd (l.inequivalent i j h (equivalent_trans (L.member i).at A.at (L.member j).at (equivalent_sym A.at (L.member i).at e) f))

module _ (F : Field) where
  open F use {ring as R}

  -- where a full list exists, irreducible families are simple
  pub irreducible-simple : {T : FactorSystem R} (L : Representations T) → IsFull L → {a : ℕ} (A : Representation T a) → 0 < a → IsIrreducible A.at → IsSimple A.at
  irreducible-simple L full A l h =
      let r = (full-complete F L full).all A l h in
      simple-equivalent_family F A (L.member r.0) r.1 (full.simple r.0)

  -- where a full list exists, the squared sizes of each complete list add up to the number of places
  pub complete-squares : {T : FactorSystem R} (L M : Representations T) → IsFull L → IsComplete M → count_total M.count (λ m. M.size m * M.size m) ≡ T.places
  complete-squares {T} L M full m = whole_inj F (count_total M.count (λ i. M.size i * M.size i)) T.places (
      whole-count_total R M.count (λ i. M.size i * M.size i)
      ∙ sym (sum-matched R L.count M.count s t st ts (λ i. whole R (M.size i * M.size i)))
      ∙ sum-ext R L.count (λ i. whole R (M.size (s i) * M.size (s i))) (λ i. whole R (L.size i * L.size i)) (λ i. ap (λ d. whole R (d * d)) (sym (equivalent-size F (L.member i).at (M.member (s i)).at (se i))))
      ∙ sym (whole-count_total R L.count (λ i. L.size i * L.size i)) ∙ ap (whole R) full.squares)
    where
      l : IsComplete L
      l = full-complete F L full

      s : Fin L.count → Fin M.count
      s i = (complete-match L M l m i).0

      se : (i : Fin L.count) → Equivalent (L.member i).at (M.member (s i)).at
      se i = (complete-match L M l m i).1

      t : Fin M.count → Fin L.count
      t i = (complete-match M L m l i).0

      te : (i : Fin M.count) → Equivalent (M.member i).at (L.member (t i)).at
      te i = (complete-match M L m l i).1

      st : (i : Fin M.count) → s (t i) ≡ i
      st i = same_member M m (M.member i) (s (t i)) i (equivalent_trans (M.member i).at (L.member (t i)).at (M.member (s (t i))).at (te i) (se (t i))) (equivalent_refl (M.member i).at)

      ts : (i : Fin L.count) → t (s i) ≡ i
      ts i = same_member L l (L.member i) (t (s i)) i (equivalent_trans (L.member i).at (M.member (s i)).at (L.member (t (s i))).at (se i) (te (s i))) (equivalent_refl (L.member i).at)

  -- so there a list is complete exactly where it is full
  pub complete-full : {T : FactorSystem R} (L M : Representations T) → IsFull L → IsComplete M → IsFull M
  complete-full L M full m = record {
    positive = m.positive;
    simple = λ i. irreducible-simple L full (M.member i) (m.positive i) (m.irreducible i);
    inequivalent = m.inequivalent;
    squares = complete-squares L M full m;
  }
