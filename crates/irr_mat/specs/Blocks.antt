-- Matrices of blocks of one shape.
--   part_at parts a b                     the block in row a and column b of the blocks, None for 0
--   AreBlocks rows cols order n r c q parts     rows of q blocks, each with r rows and c columns and the order n
--   AreJoinable rows cols order n parts         such rows, whose matrix has fewer than 2^32 rows and columns
--   block_of value part                   the matrix of a block
--   block_matrix p q r c f                the matrix of p q blocks
use Rattle.std.specs.Prelude.{ℕ, ◌≡◌, ◌*◌, ◌^◌, ◌<◌, List, [], All, length, get_or, Option, Some, None, IfSome}
use Rattle.irr_algebra.specs.Ring.{Ring}
use Rattle.irr_algebra.specs.Fin.{Fin}
use Rattle.irr_algebra.specs.Matrix.{Matrix, null}
use Rattle.irr_algebra.specs.Pair.{on_pairs, times}

-- the block in row a and column b
unfoldable pub part_at : {M : Type 0} → List (List (Option M)) → ℕ → ℕ → Option M
part_at parts a b = get_or (get_or parts a []) b None

-- at least one block, and all of them of one shape and order, in rows of one length
pub record AreBlocks {M : Type 0} (rows cols order : M → ℕ) (n r c q : ℕ) (parts : List (List (Option M))) : Type 0 where
  pub widths : All (λ row. length row ≡ q) parts
  pub shapes : (a b : ℕ) → IfSome (part_at parts a b) (λ m. (rows m ≡ r) × (cols m ≡ c))
  pub orders : (a b : ℕ) → IfSome (part_at parts a b) (λ m. order m ≡ n)
  pub some : ((a b : ℕ) → part_at parts a b ≡ None) → ⊥

-- blocks that make a matrix with fewer than 2^32 rows and columns
pub record AreJoinable {M : Type 0} (rows cols order : M → ℕ) (n : ℕ) (parts : List (List (Option M))) : Type 0 where
  pub r : ℕ
  pub c : ℕ
  pub q : ℕ
  pub blocks : AreBlocks rows cols order n r c q parts
  pub few_rows : length parts * r < 2 ^ 32
  pub few_cols : q * c < 2 ^ 32

-- the matrix of a block
unfoldable pub block_of : {R : Ring} {r c : ℕ} {M : Type 0} → (M → Matrix R r c) → Option M → Matrix R r c
block_of value None = null
block_of value (Some m) = value m

-- the entries of f a b in the rows and columns of the block a b
unfoldable pub block_matrix : {R : Ring} (p q r c : ℕ) → (Fin p → Fin q → Matrix R r c) → Matrix R (times p r) (times q c)
block_matrix p q r c f = record { at = λ x y. on_pairs p r (λ a i. on_pairs q c (λ b j. (f a b).at i j) y) x }
