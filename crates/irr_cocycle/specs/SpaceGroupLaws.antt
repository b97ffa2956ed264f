-- What the theory of little groups asks of a group of operations.
--   IsGroup G        G has the identity, products, and an inverse of each of its operations
--   HasCanonical G   each rotation of G has its canonical operation
use Rattle.std.specs.Prelude.{◌≡◌}
use Rattle.irr_space.specs.Operation.{Operation, ◌⊙◌, identity, IsInverse}
use Rattle.irr_space.specs.CanonicalOperation.{IsCanonicalOperation}

pub record IsGroup (G : Operation → Type 0) : Type 0 where
  pub has_identity : G identity
  pub has_product : (g h : Operation) → G g → G h → G (g ⊙ h)
  pub has_inverse : (g : Operation) → G g → (h : Operation) × G h × IsInverse g h

abbrev pub HasCanonical : (G : Operation → Type 0) → Type 0
HasCanonical G = (g : Operation) → G g → (c : Operation) × IsCanonicalOperation G c × (c.rotation ≡ g.rotation)
