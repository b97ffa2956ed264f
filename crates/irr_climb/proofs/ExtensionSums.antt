-- Sums of matrices, one after another.
--   first_terms              the first k of h matrices, added up
--   first_one, first_next, first_all     one, one more, all of them
--   first_within             their size
--   add_fits, added          a sum of two matrices of the program
use Rattle.std.proofs.Common.{◌≡◌, sym, ◌∙◌, ap, ap₂, subst, ℕ, ◌+◌, ◌*◌, ◌<◌}
use Rattle.irr_algebra.specs.Fin.{Fin, to_nat}
use Rattle.irr_algebra.specs.Listed.{sum_below}
use Rattle.irr_algebra.specs.Matrix.{Matrix, ◌⊕◌, total}
use Rattle.irr_algebra.proofs.Indices.{from_nat, to_nat-from_nat, to_nat-lt, to_nat_inj}
use Rattle.irr_algebra.proofs.Listed.{sum_below-add_one, sum_below-zero}
use Rattle.irr_algebra.proofs.Matrices.{matrix-ext}
use Rattle.irr_algebra.proofs.Rings.{zero-add}
use Rattle.irr_number.specs.Number.{numbers}
use Rattle.irr_canonical.specs.RootSum.{IsRootSum}
use Rattle.irr_cyc.specs.declared.scalars.Scalar.{Ghosts}
use Rattle.irr_mat.specs.declared.matrices.Mat.{Mat}
use Rattle.irr_mat.specs.Entries.{first_order, matrix_of}
use Rattle.irr_mat.specs.Size.{IsWithin, SumsFit}
use Rattle.irr_mat.proofs.Sizes.{IsRootSum-sum_below}
use Rattle.irr_rep.specs.Defects.{IsMatrix}
use Rattle.irr_char.proofs.Traces.{extended, extended-is, sum-extended}

module _ (n : ℕ) {h r c : ℕ} (f : Fin h → Matrix (numbers n) r c) where
  -- the first k, entry by entry
  unfoldable pub first_terms : ℕ → Matrix (numbers n) r c
  first_terms k = record { at = λ i j. sum_below (numbers n) k (extended n (λ m. (f m).at i j)) }

  pub first_one : (m : Fin h) → to_nat m ≡ 0 → f m ≡ first_terms 1
  unfolding first_terms
  first_one m e = matrix-ext (λ i j.
      let g = extended n (λ m. (f m).at i j) in
      let l : 0 < h = subst (λ k. k < h) e (to_nat-lt m) in
      sym (sum_below-add_one (numbers n) 0 g
      ∙ ap₂ (numbers n).add (sum_below-zero (numbers n) g) (extended-is n (λ m. (f m).at i j) 0 l
      ∙ ap (λ m. (f m).at i j) (to_nat_inj (from_nat h 0 l) m (to_nat-from_nat h 0 l ∙ sym e)))
      ∙ zero-add (numbers n) ((f m).at i j)))

  pub first_next : (k : ℕ) (m : Fin h) → to_nat m ≡ k → first_terms k ⊕ f m ≡ first_terms (k + 1)
  unfolding first_terms numbers ◌⊕◌
  first_next k m e = matrix-ext (λ i j.
      let g = extended n (λ m. (f m).at i j) in
      let l : k < h = subst (λ q. q < h) e (to_nat-lt m) in
      sym (sum_below-add_one (numbers n) k g
      ∙ ap ((numbers n).add (sum_below (numbers n) k g)) (extended-is n (λ m. (f m).at i j) k l
      ∙ ap (λ m. (f m).at i j) (to_nat_inj (from_nat h k l) m (to_nat-from_nat h k l ∙ sym e)))))

  pub first_all : first_terms h ≡ total h f
  unfolding first_terms numbers total
  first_all = matrix-ext (λ i j. sum-extended n (λ m. (f m).at i j))

  pub first_within : (s d : ℕ) → 0 < d → ((m : Fin h) → IsWithin n s d (f m)) → (k : ℕ) → ((q : ℕ) → q < k → q < h)
      → IsWithin n (k * s) d (first_terms k)
  unfolding first_terms
  first_within s d positive w k below = record {
    positive = positive;
    entry = λ i j. IsRootSum-sum_below n s d k (extended n (λ m. (f m).at i j)) positive (λ q l.
        subst (IsRootSum n s d) (sym (extended-is n (λ m. (f m).at i j) q (below q l))) ((w (from_nat h q (below q l))).entry i j));
  }

-- two matrices of the program
module _ {S : Type 0} {G : Ghosts S} (n d : ℕ) (a b : Matrix (numbers n) d d) (m k : Mat S G) (left : IsMatrix n d a m)
    (right : IsMatrix n d b k) where
  abbrev M : (u r c : ℕ) → Matrix (numbers u) r c
  M u r c = matrix_of G.value u r c m.entries.items

  abbrev K : (u r c : ℕ) → Matrix (numbers u) r c
  K u r c = matrix_of G.value u r c k.entries.items

  pub add_fits : SumsFit n a b → SumsFit (first_order G.order_of m.entries.items)
      (matrix_of G.value (first_order G.order_of m.entries.items) m.rows m.cols m.entries.items)
      (matrix_of G.value (first_order G.order_of m.entries.items) m.rows m.cols k.entries.items)
  add_fits fits =
      subst (λ u. SumsFit u (M u m.rows m.cols) (K u m.rows m.cols)) (sym left.order)
      (subst (λ r. SumsFit n (M n r m.cols) (K n r m.cols)) (sym left.rows)
      (subst (λ c. SumsFit n (M n d c) (K n d c)) (sym left.cols)
      (subst (λ x. SumsFit n x (K n d d)) (sym left.value) (subst (λ x. SumsFit n a x) (sym right.value) fits))))

  pub added : (z : Mat S G) → z.rows ≡ m.rows → z.cols ≡ m.cols → first_order G.order_of z.entries.items ≡ first_order G.order_of m.entries.items
      → matrix_of G.value (first_order G.order_of m.entries.items) m.rows m.cols z.entries.items
      ≡ matrix_of G.value (first_order G.order_of m.entries.items) m.rows m.cols m.entries.items
      ⊕ matrix_of G.value (first_order G.order_of m.entries.items) m.rows m.cols k.entries.items
      → IsMatrix n d (a ⊕ b) z
  added z r c o v = record {
    rows = r ∙ left.rows;
    cols = c ∙ left.cols;
    order = o ∙ left.order;
    value =
        subst (λ w. matrix_of G.value n d w z.entries.items ≡ M n d w ⊕ K n d w) left.cols
        (subst (λ w. matrix_of G.value n w m.cols z.entries.items ≡ M n w m.cols ⊕ K n w m.cols) left.rows
        (subst (λ u. matrix_of G.value u m.rows m.cols z.entries.items ≡ M u m.rows m.cols ⊕ K u m.rows m.cols) left.order v))
        ∙ ap₂ (λ (x y : Matrix (numbers n) d d). x ⊕ y) left.value right.value;
  }
