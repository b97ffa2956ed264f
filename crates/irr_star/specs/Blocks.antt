-- The blocks of a full representation at an operation, one in each column of blocks.
--   IsBlockAt S M g j b      g h_j = h_i (1|t) g_p with theta_k(t) = z^x, for the row i, the place p and the
--                            exponent x of b
--   AreBlocksAt S M g bs     bs are so for the columns, in order
use Rattle.std.specs.Prelude.{ℕ, ◌≡◌, List, length, slice_index_or}
use Rattle.irr_algebra.specs.Fin.{Fin, to_nat}
use Rattle.irr_space.specs.Operation.{Operation, Vector, WaveVector, ◌⊙◌, translation}
use Rattle.irr_space.specs.Reciprocal.{Sign, IsPhase}
use Rattle.irr_space.specs.Star.{IsInLittleGroup}
use Rattle.irr_full.specs.Star.{Star, carrier}
use Rattle.irr_star.specs.declared.lists.Block.{Block}

-- so the block in the row i and the column j is z^x D(p), and the others of the column are 0
pub record IsBlockAt {s : Sign} {G : Operation → Type 0} {k : WaveVector} (S : Star s G k) (M : ℕ) (g : Operation)
    (j : Fin S.arms) (b : Block) : Type 0 where
  pub to : Fin S.arms
  pub inner : Fin S.places
  pub row-number : to_nat to ≡ b.row
  pub inner-number : to_nat inner ≡ b.place
  pub shift : Vector
  pub little : IsInLittleGroup G k (translation shift ⊙ S.operation inner)
  pub carries : g ⊙ carrier S j ≡ carrier S to ⊙ (translation shift ⊙ S.operation inner)
  pub is_phase : IsPhase s M k shift b.exponent

pub record AreBlocksAt {s : Sign} {G : Operation → Type 0} {k : WaveVector} (S : Star s G k) (M : ℕ) (g : Operation)
    (bs : List Block) : Type 0 where
  pub count : length bs ≡ S.arms
  pub each : (j : Fin S.arms) (b : Block) → IsBlockAt S M g j (slice_index_or bs (to_nat j) b)
