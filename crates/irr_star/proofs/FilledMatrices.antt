-- The square matrix that is made of all entries.
--   made_count, made_order, made_orders, made_matrix      the list of all entries
use Rattle.std.proofs.Common.{◌≡◌, sym, ◌∙◌, ap, ap₂, subst, ℕ, ◌*◌, ◌<◌, ◌≤◌, List, length}
use Rattle.irr_algebra.specs.Matrix.{Matrix}
use Rattle.irr_number.specs.Number.{Number, numbers}
use Rattle.irr_cyc.specs.declared.scalars.Scalar.{Ghosts}
use Rattle.irr_mat.specs.declared.matrices.Mat.{Mat}
use Rattle.irr_mat.specs.Entries.{first_order, HaveOneOrder, matrix_of}
use Rattle.irr_mat.proofs.Entries.{Filled, filled-done, filled-matrix, filled-orders}
use Rattle.irr_rep.specs.Defects.{IsMatrix}

module _ {S : Type 0} (order : S → ℕ) (value : (n : ℕ) → S → Number n) (n t size i : ℕ) (a : Matrix (numbers n) t t)
    (xs : List S)
    (h : Filled order value n a (i * t) xs) (same : size ≡ t) (up : size ≤ i) (down : i ≤ size) (some : 0 < size) where
  -- all entries
  full : Filled order value n a (t * t) xs
  full = filled-done order value n t t a i xs h (subst (λ k. k ≤ i) same up) (subst (λ k. i ≤ k) same down)

  some_rows : 0 < t
  some_rows = subst (λ k. 0 < k) same some

  pub made_count : length xs ≡ size * size
  made_count = full.count ∙ sym (ap₂ (λ u v. u * v) same same)

  pub made_order : first_order order xs ≡ n
  made_order = (filled-orders order value n t t a xs full some_rows some_rows).0

  pub made_orders : HaveOneOrder order xs
  made_orders = (filled-orders order value n t t a xs full some_rows some_rows).1

pub made_matrix : {S : Type 0} {G : Ghosts S} (n t size i : ℕ) (a : Matrix (numbers n) t t) (xs : List S)
    → Filled G.order_of G.value n a (i * t) xs
    → size ≡ t → size ≤ i → i ≤ size → 0 < size → (m : Mat S G) → m.rows ≡ size → m.cols ≡ size → m.entries.items ≡ xs
    → IsMatrix n t a m
made_matrix {G = G} n t size i a xs h same up down some m rows cols entries = record {
  rows = rows ∙ same;
  cols = cols ∙ same;
  order = ap (first_order G.order_of) entries ∙ made_order G.order_of G.value n t size i a xs h same up down some;
  value = ap (matrix_of G.value n t t) entries
      ∙ filled-matrix G.order_of G.value n t t a xs (full G.order_of G.value n t size i a xs h same up down some);
}
