-- Stars and little groups of wave vectors (Bradley and Cracknell, section 3.3), and the arms of a star.
--   Carries G g k w          g carries k to w: w is equivalent to kR^-1, for g = (R|v)
--   IsInStar G k w           some g of G carries k to w
--   IsInLittleGroup G k g    g is in G, and kR is equivalent to k
--   IsArms G k ops ws ns     ws are the arms of the star of k, reduced, and ns the numbers among ops, all canonical operations
--                            of G, of the first that carries k to each; in the order of these numbers
use Rattle.std.specs.Prelude.{ℕ, ◌≡◌, ◌<◌, ◌≤◌}
use Rattle.irr_algebra.specs.Fin.{Fin, to_nat}
use Rattle.irr_space.specs.Operation.{Operation, WaveVector, turned}
use Rattle.irr_space.specs.Reciprocal.{AreEquivalent, IsReduced}

-- w is equivalent to the wave vector that the rotation of g takes to k
pub record Carries (G : Operation → Type 0) (g : Operation) (k w : WaveVector) : Type 0 where
  pub image : WaveVector
  pub turned_back : turned image g ≡ k
  pub equivalent : AreEquivalent G w image

pub record IsInStar (G : Operation → Type 0) (k w : WaveVector) : Type 0 where
  pub operation : Operation
  pub member : G operation
  pub carries : Carries G operation k w

pub record IsInLittleGroup (G : Operation → Type 0) (k : WaveVector) (g : Operation) : Type 0 where
  pub member : G g
  pub keeps : AreEquivalent G (turned k g) k

pub record IsArms (G : Operation → Type 0) (k : WaveVector) {n a : ℕ} (ops : Fin n → Operation) (arm : Fin a → WaveVector) (number : Fin a → Fin n) : Type 0 where
  pub reduced : (i : Fin a) → IsReduced G (arm i) (arm i)
  pub carries : (i : Fin a) → Carries G (ops (number i)) k (arm i)
  pub is_first : (i : Fin a) (j : Fin n) → Carries G (ops j) k (arm i) → to_nat (number i) ≤ to_nat j
  pub all : (w : WaveVector) → IsInStar G k w → (i : Fin a) × AreEquivalent G w (arm i)
  pub ordered : (i j : Fin a) → to_nat i < to_nat j → to_nat (number i) < to_nat (number j)
