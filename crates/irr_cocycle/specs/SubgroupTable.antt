-- Subgroups of little groups, and their tables over multiples of the order of the wave vector.
--   IsSubgroupAt G k P         P holds for a subgroup of the little group of k, with all its translations
--   IsOrderAt G k n            n is the exponent of G times a number q with qk in T*, as the order of k is
--   IsTableAt s G k n ops T    T has the products of ops, and the phases at k, over the order n
use Rattle.std.specs.Prelude.{ℕ, ◌≡◌, ◌<◌, ◌*◌}
use Rattle.irr_algebra.specs.Fin.{Fin}
use Rattle.irr_space.specs.Operation.{Operation, Vector, WaveVector, ◌⊙◌, identity, translation, IsInverse}
use Rattle.irr_space.specs.SpaceGroup.{IsTranslation, IsExponent}
use Rattle.irr_space.specs.Reciprocal.{IsPhase, IsReciprocal, Sign, times}
use Rattle.irr_space.specs.Star.{IsInLittleGroup}
use Rattle.irr_space.specs.PhaseTable.{PhaseTable}

-- P holds for a subgroup of the little group of k, and for all operations of G with the rotations of its own
pub record IsSubgroupAt (G : Operation → Type 0) (k : WaveVector) (P : Operation → Type 0) : Type 0 where
  pub little : (g : Operation) → P g → IsInLittleGroup G k g
  pub identity : P identity
  pub product : (g h : Operation) → P g → P h → P (g ⊙ h)
  pub inverse : (g h : Operation) → P g → G h → IsInverse g h → P h
  pub rotation : (g h : Operation) → P g → G h → h.rotation ≡ g.rotation → P h

-- n is the exponent of G times a number q with qk in T*
pub record IsOrderAt (G : Operation → Type 0) (k : WaveVector) (n : ℕ) : Type 0 where
  pub exponent : ℕ
  pub multiple : ℕ
  pub is_exponent : IsExponent G exponent
  pub positive : 0 < multiple
  pub reciprocal : IsReciprocal G (times multiple k)
  pub is_product : n ≡ exponent * multiple

-- T has the products of ops, and the phases at k, over the order n
pub record IsTableAt (s : Sign) (G : Operation → Type 0) (k : WaveVector) (n : ℕ) {h : ℕ} (ops : Fin h → Operation) (T : PhaseTable h) : Type 0 where
  pub same_order : T.order ≡ n
  pub quotient : Fin h → Fin h → Vector
  pub is_translation : (i j : Fin h) → IsTranslation G (quotient i j)
  pub products : (i j : Fin h) → ops i ⊙ ops j ≡ translation (quotient i j) ⊙ ops (T.product i j)
  pub phases : (i j : Fin h) → IsPhase s n k (quotient i j) (T.exponent i j)
