-- The entries of a block, as the family has them.
--   piece_inside               the matrix of a block is one of the family
--   piece_rows, piece_cols     it has as many rows and columns as the family says
--   piece_order, piece_denominator, piece_size     an entry of it
--   piece_word                 a power of z times the entry is an entry of the block
--   zero_pieces                a row of a block that is 0
use Rattle.std.proofs.Common.{◌≡◌, sym, ◌∙◌, ap, subst, refl, ℕ, ◌<◌, ◌≤◌, ◌^◌, length, get_or}
use Rattle.irr_algebra.specs.Fin.{Fin, to_nat}
use Rattle.irr_algebra.specs.Matrix.{Matrix, scale, null}
use Rattle.irr_algebra.specs.Ring.{Ring}
use Rattle.irr_algebra.proofs.Indices.{from_nat, to_nat-from_nat, to_nat-lt}
use Rattle.irr_number.specs.Number.{Number, numbers, root_power}
use Rattle.irr_canonical.specs.Coefficient.{denominator, size}
use Rattle.irr_canonical.specs.RootSum.{IsRootSum}
use Rattle.irr_text.specs.ReportText.{pieces}
use Rattle.irr_cyc.specs.declared.scalars.Scalar.{Ghosts}
use Rattle.irr_mat.specs.declared.matrices.Mat.{Mat}
use Rattle.irr_mat.specs.Entries.{first_order, IsEntry, matrix_of}
use Rattle.irr_rep.specs.Defects.{IsMatrix}
use Rattle.irr_rep.specs.declared.family.Family.{Family}
use Rattle.irr_rep.proofs.MatrixForms.{item-matrix}
use Rattle.irr_report.proofs.Pieces.{pieces-same}
use Rattle.irr_star.specs.declared.lists.Block.{Block}
use Rattle.irr_full_text.specs.Lines.{number_word}
use Rattle.irr_full_text.specs.Reading.{Piece}
use Rattle.irr_full_text.proofs.Turns.{small_denominator, small_size}

entry_is : {X : Type 0} {V : Ghosts X} (n d : ℕ) (a : Matrix (numbers n) d d) (m : Mat X V) → IsMatrix n d a m
    → (i j : ℕ) (x : Number n)
    → IsEntry (matrix_of V.value n m.rows m.cols m.entries.items) i j x → IsEntry a i j x
entry_is {V = V} n d a m h i j x e =
    subst (λ b. IsEntry b i j x) h.value
    (subst (λ c. IsEntry (matrix_of V.value n d c m.entries.items) i j x) h.cols
    (subst (λ r. IsEntry (matrix_of V.value n r m.cols m.entries.items) i j x) h.rows e))

scaled_at : {R : Ring} {r c : ℕ} (x : R.Carrier) (m : Matrix R r c) (i : Fin r) (j : Fin c) → (scale R x m).at i j
    ≡ R.mul x (m.at i j)
unfolding scale
scaled_at x m i j = refl

null_at : {R : Ring} {r c : ℕ} (m : Matrix R r c) (i : Fin r) (j : Fin c) → m ≡ null → m.at i j ≡ R.zero
unfolding null
null_at m i j e = ap (λ n. n.at i j) e

module _ {X : Type 0} {V : Ghosts X} {order : ℕ} {family : Family X V} {row : ℕ} {b : Block}
    (e : Piece order family row b) where
  pub piece_inside : b.place < length family.mats.items
  piece_inside = subst (λ n. n < length family.mats.items) e.is_piece.number
      (subst (λ n. to_nat e.is_piece.place < n) (sym e.is_small.shape.count) (to_nat-lt e.is_piece.place))

  pub piece_below : b.exponent < order
  piece_below = subst (λ n. b.exponent < n) (sym e.is_order) e.is_piece.below

  pub zero_pieces : (q : Fin e.size) → ¬ (b.row ≡ row)
      → pieces e.size (λ (c : Fin e.size). number_word e.number (numbers e.number).zero)
      ≡ pieces e.size (λ c. number_word e.number (e.matrix.at q c))
  zero_pieces q other = pieces-same e.size (λ c. number_word e.number (numbers e.number).zero)
      (λ c. number_word e.number (e.matrix.at q c))
      (λ c. ap (number_word e.number) (sym (null_at e.matrix q c (e.is_piece.elsewhere other))))

  module _ (m : Mat X V) (is : m ≡ get_or family.mats.items b.place m) where
    holds : IsMatrix e.number e.size (e.small e.is_piece.place) m
    holds = subst (λ a. IsMatrix e.number e.size a m) (e.is_small.matrices e.is_piece.place)
        (item-matrix e.number e.size family.mats.items b.place m piece_inside is e.is_small.shape e.is_piece.place
        e.is_piece.number)

    pub piece_rows : m.rows ≡ family.dim
    piece_rows = holds.rows ∙ sym e.is_small.size

    pub piece_cols : m.cols ≡ family.dim
    piece_cols = holds.cols ∙ sym e.is_small.size

    module _ (i j : ℕ) (x : X) (entry : (n : ℕ) → IsEntry (matrix_of V.value n m.rows m.cols m.entries.items) i j
        (V.value n x)) where
      value_is : IsEntry (e.small e.is_piece.place) i j (V.value e.number x)
      value_is = entry_is e.number e.size (e.small e.is_piece.place) m holds i j (V.value e.number x) (entry e.number)

      few_powers : i < family.dim → j < family.dim → IsRootSum e.number 13824 e.is_small.denominator
          (V.value e.number x)
      few_powers li lj =
          let hi = subst (λ n. i < n) e.is_small.size li in
          let hj = subst (λ n. j < n) e.is_small.size lj in
          subst (IsRootSum e.number 13824 e.is_small.denominator)
          (sym (value_is.is_entry (from_nat e.size i hi) (from_nat e.size j hj) (to_nat-from_nat e.size i hi)
          (to_nat-from_nat e.size j hj)))
          ((e.is_small.entries e.is_piece.place).entry (from_nat e.size i hi) (from_nat e.size j hj))

      pub piece_order : V.order_of x ≡ first_order V.order_of m.entries.items → V.order_of x ≡ order
      piece_order same = same ∙ holds.order ∙ sym e.is_order

      pub piece_denominator : 0 < order → i < family.dim → j < family.dim → denominator order (V.value order x) ≤ 2 ^ 60
      piece_denominator h li lj = subst (λ n. denominator n (V.value n x) ≤ 2 ^ 60) (sym e.is_order)
          (small_denominator e.number e.is_small.denominator (V.value e.number x) (subst (λ n. 0 < n) e.is_order h)
          e.is_small.small (few_powers li lj))

      pub piece_size : 0 < order → order ≤ 12000 → i < family.dim → j < family.dim → size order (V.value order x) ≤ 2 ^
          80
      piece_size h l li lj = subst (λ n. size n (V.value n x) ≤ 2 ^ 80) (sym e.is_order)
          (small_size e.number e.is_small.denominator (V.value e.number x) (subst (λ n. 0 < n) e.is_order h)
          (subst (λ n. n ≤ 12000) e.is_order l)
          (few_powers li lj))

      pub piece_word : (q c : Fin e.size) → to_nat q ≡ i → to_nat c ≡ j → b.row ≡ row
          → number_word order ((numbers order).mul (root_power order b.exponent) (V.value order x))
          ≡ number_word e.number (e.matrix.at q c)
      piece_word q c eq ec here = ap (λ n. number_word n ((numbers n).mul (root_power n b.exponent) (V.value n x)))
          e.is_order
          ∙ ap (λ y. number_word e.number ((numbers e.number).mul (root_power e.number b.exponent) y))
          (value_is.is_entry q c eq ec)
          ∙ ap (number_word e.number) (sym (ap (λ (a : Matrix (numbers e.number) e.size e.size). a.at q c)
          (e.is_piece.here here)
          ∙ scaled_at (root_power e.number b.exponent) (e.small e.is_piece.place) q c))
