-- What is read of a family, for an entry of an induced matrix.
--   turned_root              an exponent reduced by the order of a table
--   entry_is, entry_powers   an entry of a matrix, and its size
--   family_item, part_matrix, family_within     a matrix of the family, and its size
--   zero_entry, block_entry  the entry of the induced matrix, outside and inside the block that is not 0
use Rattle.std.proofs.Common.{◌≡◌, sym, ◌∙◌, ap, ap₂, subst, ℕ, ◌*◌, ◌/◌, ◌%◌, ◌<◌, get_or, arith}
use Rattle.std.specs.Int.{◌∣◌}
use Rattle.irr_algebra.specs.Fin.{Fin, to_nat}
use Rattle.irr_algebra.specs.Matrix.{Matrix}
use Rattle.irr_algebra.proofs.Indices.{from_nat, to_nat-from_nat, to_nat_inj}
use Rattle.irr_algebra.proofs.Rings.{one-mul, zero-mul}
use Rattle.irr_algebra.proofs.Sums.{delta-eq, delta-ne}
use Rattle.irr_number.specs.Number.{Number, numbers, root_power}
use Rattle.irr_theory.specs.FactorSystem.{Representation}
use Rattle.irr_clifford.specs.Formulas.{block_phase, induced_matrix}
use Rattle.irr_canonical.specs.RootSum.{IsRootSum}
use Rattle.irr_cyc.specs.declared.scalars.Scalar.{Ghosts}
use Rattle.irr_mat.specs.declared.matrices.Mat.{Mat}
use Rattle.irr_mat.specs.Entries.{IsEntry, matrix_of}
use Rattle.irr_mat.specs.Size.{IsWithin}
use Rattle.irr_rep.specs.declared.family.Family.{Family}
use Rattle.irr_rep.specs.Defects.{IsMatrix}
use Rattle.irr_rep.specs.Family.{matrix_at}
use Rattle.irr_rep.specs.Twisted.{place_count}
use Rattle.irr_rep.proofs.MatrixForms.{item-matrix}
use Rattle.irr_root.proofs.Phases.{root_power-rest}
use Rattle.irr_climb.specs.declared.step.Step.{Step}
use Rattle.irr_climb.specs.Families.{IsRead}
use Rattle.irr_climb.specs.Sizes.{IsSized, size_bound}
use Rattle.irr_climb.specs.Steps.{IsStep, small}
use Rattle.irr_climb.proofs.InducedBlocks.{image_of, part_below, part_number}
use Rattle.irr_climb.proofs.InducedEntries.{entry_of}

pub turned_root : (N n e a b c : ℕ) → 0 < N → N ∣ n → a ≡ N → b ≡ n → c ≡ N → root_power n (e % a * (b / c)) ≡ root_power n (n / N * e)
turned_root N n e a b c positive divides p q r =
    ap₂ (λ u k. root_power n (e % u * k)) p (ap₂ (λ u k. u / k) q r) ∙ root_power-rest N n e positive divides ∙ ap (root_power n) (swapped e (n / N))
  where
    swapped : (x y : ℕ) → x * y ≡ y * x
    swapped x y = omega arith

-- the entry of the matrix that m holds
pub entry_is : {S : Type 0} {G : Ghosts S} (n d : ℕ) (a : Matrix (numbers n) d d) (m : Mat S G) → IsMatrix n d a m → (i j : ℕ) (x : Number n)
    → IsEntry (matrix_of G.value n m.rows m.cols m.entries.items) i j x → IsEntry a i j x
entry_is {G = G} n d a m h i j x e =
    subst (λ b. IsEntry b i j x) h.value
    (subst (λ c. IsEntry (matrix_of G.value n d c m.entries.items) i j x) h.cols
    (subst (λ r. IsEntry (matrix_of G.value n r m.cols m.entries.items) i j x) h.rows e))

pub entry_powers : (n d s t : ℕ) (a : Matrix (numbers n) d d) → IsWithin n s t a → (i j : ℕ) → i < d → j < d → (x : Number n) → IsEntry a i j x
    → IsRootSum n s t x
entry_powers n d s t a w i j p q x e = subst (IsRootSum n s t)
    (sym (e.is_entry (from_nat d i p) (from_nat d j q) (to_nat-from_nat d i p) (to_nat-from_nat d j q))) (w.entry (from_nat d i p) (from_nat d j q))

module _ {S : Type 0} {G : Ghosts S} {M : ℕ} {step : Step} (is : IsStep M step) {d : ℕ} (D : Representation (small is) d) (f : Family S G)
    (r : IsRead M (small is) D f) where
  pub family_item : (k : ℕ) (m : Mat S G) → k < place_count step.inner → m ≡ get_or f.mats.items k m
      → (q : Fin (place_count step.inner)) → to_nat q ≡ k → IsMatrix M d (D.at q) m
  family_item k m l e q is_place =
      subst (λ a. IsMatrix M d a m) (r.matrices q)
      (item-matrix M d f.mats.items k m (subst (λ j. k < j) (sym r.shape.count) l) e r.shape q is_place)

  -- the matrix at the part of y
  pub part_matrix : (y : Fin (place_count step.outer)) (k : ℕ) → to_nat y ≡ k → (part : ℕ) → part ≡ get_or step.parts.items k part
      → (m : Mat S G) → m ≡ get_or f.mats.items part m → IsMatrix M d (D.at (is.quotient.part y)) m
  part_matrix y k e part read m is_item =
      family_item part m (part_below is y k e part read) is_item (is.quotient.part y) (sym (part_number is y k e part read))

  pub family_within : (sized : IsSized M (place_count step.inner) f) (q : Fin (place_count step.inner))
      → IsWithin M (size_bound (place_count step.inner) * size_bound (place_count step.inner)) sized.denominator (D.at q)
  family_within sized q =
      let b = size_bound (place_count step.inner) in
      subst (IsWithin M (b * b) sized.denominator) (r.matrices q)
      (subst (λ k. IsWithin M (b * b) sized.denominator (matrix_at M k f.mats.items q)) r.size (sized.within q))

module _ {M : ℕ} {step : Step} (is : IsStep M step) {d : ℕ} (D : Representation (small is) d) (positive : 0 < d) (p : Fin (place_count step.outer))
    (i j row : ℕ) where
  pub zero_entry : (row ≡ i / d → ⊥)
      → ((b : Fin is.quotient.index) → to_nat b ≡ j / d
      → row ≡ to_nat (is.quotient.exponent (image_of is p b)))
      → (z : Number M) → z ≡ (numbers M).zero → IsEntry (induced_matrix is.quotient D p) i j z
  zero_entry other exponent z e = entry_of is.quotient D p positive i j z (λ a b k l ea eb ek el.
      let turned = (numbers M).mul (block_phase is.quotient p b) ((D.at (is.quotient.part (image_of is p b))).at k l) in
      e ∙ sym (ap (λ u. (numbers M).mul u turned) (delta-ne (numbers M) a (is.quotient.exponent (image_of is p b))
      (λ q. other (exponent b eb ∙ sym (ap to_nat q) ∙ ea))) ∙ zero-mul (numbers M) turned))

  pub block_entry : row ≡ i / d
      → ((b : Fin is.quotient.index) → to_nat b ≡ j / d
      → row ≡ to_nat (is.quotient.exponent (image_of is p b)))
      → (z u v : Number M) → z ≡ (numbers M).mul u v
      → ((b : Fin is.quotient.index) → to_nat b ≡ j / d → (u ≡ block_phase is.quotient p b)
      × IsEntry (D.at (is.quotient.part (image_of is p b))) (i % d) (j % d) v)
      → IsEntry (induced_matrix is.quotient D p) i j z
  block_entry same exponent z u v e h = entry_of is.quotient D p positive i j z (λ a b k l ea eb ek el.
      let turned = (numbers M).mul (block_phase is.quotient p b) ((D.at (is.quotient.part (image_of is p b))).at k l) in
      e ∙ ap₂ (numbers M).mul (h b eb).0 ((h b eb).1.is_entry k l ek el)
      ∙ sym (ap (λ w. (numbers M).mul w turned) (delta-eq (numbers M) a (is.quotient.exponent (image_of is p b))
      (to_nat_inj a (is.quotient.exponent (image_of is p b)) (ea ∙ sym same ∙ exponent b eb))) ∙ one-mul (numbers M) turned))
