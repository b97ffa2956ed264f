-- The products of the operations of the arms with those of the little group, as a program lists them.
--   IsProductOf S p           p is the product h_i g_p of its arm i and its place p, with a small vector
--   AreProducts S ps          ps are such products, and all of them
use Rattle.std.specs.Prelude.{◌≡◌, ◌*◌, ◌≤◌, List, Contains, unsigned_abs}
use Rattle.irr_algebra.specs.Fin.{Fin, to_nat}
use Rattle.irr_rational.specs.Ratio.{entry}
use Rattle.irr_space.specs.Operation.{Operation, WaveVector, ◌⊙◌}
use Rattle.irr_space.specs.Reciprocal.{Sign}
use Rattle.irr_seitz.specs.OperationMeaning.{operation}
use Rattle.irr_full.specs.Star.{Star, carrier}
use Rattle.irr_star.specs.declared.lists.Product.{Product}

pub record IsProductOf {s : Sign} {G : Operation → Type 0} {k : WaveVector} (S : Star s G k)
    (p : Product) : Type 0 where
  pub row : Fin S.arms
  pub inner : Fin S.places
  pub row-number : to_nat row ≡ p.arm
  pub inner-number : to_nat inner ≡ p.place
  pub is : operation p.op ≡ carrier S row ⊙ S.operation inner
  pub numbers : (i : Fin 3) → unsigned_abs (entry p.op.num i) ≤ 28 * p.op.den

pub record AreProducts {s : Sign} {G : Operation → Type 0} {k : WaveVector} (S : Star s G k)
    (ps : List Product) : Type 0 where
  pub each : (p : Product) → Contains ps p → IsProductOf S p
  pub all : (i : Fin S.arms) (q : Fin S.places) → (p : Product) × Contains ps p ×
      (operation p.op ≡ carrier S i ⊙ S.operation q)
