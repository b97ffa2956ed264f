-- From the lattice that centrings give to the group whose centrings they are.
--   reciprocal_same          both have the same reciprocal lattice
--   reduced_in_group         so reduced forms and
--   period_in_group          periods are the same
use Rattle.std.proofs.Common.{◌↔◌, ℕ, List}
use Rattle.irr_algebra.specs.Matrix.{◌⊖◌}
use Rattle.irr_space.specs.Operation.{Operation, WaveVector}
use Rattle.irr_space.specs.Reciprocal.{IsReciprocal, IsReduced, IsPeriod, times}
use Rattle.irr_rat.specs.declared.vec3.Vec3.{Vec3}
use Rattle.irr_kvec.specs.Centrings.{LatticeOf, AreCentrings}
use Rattle.irr_kvec.proofs.Lattices.{lattice_translation, translation_centred}

module _ (G : Operation → Type 0) (cs : List Vec3) (h : AreCentrings G cs) where
  pub reciprocal_same : (k : WaveVector) → IsReciprocal G k ↔ IsReciprocal (LatticeOf cs) k
  reciprocal_same k = (
    λ r. record { is_whole = λ t m. r.is_whole t ((h.translations t).1 (translation_centred cs t m)) },
    λ r. record { is_whole = λ t m. r.is_whole t (lattice_translation cs t ((h.translations t).0 m)) },
  )

  pub reduced_in_group : (k r : WaveVector) → IsReduced (LatticeOf cs) k r → IsReduced G k r
  reduced_in_group k r e = record {
    equivalent = (reciprocal_same (r ⊖ k)).1 e.equivalent;
    no_negative = e.no_negative;
    least = λ w f m. e.least w ((reciprocal_same (w ⊖ k)).0 f) m;
  }

  pub period_in_group : (k : WaveVector) (q : ℕ) → IsPeriod (LatticeOf cs) k q → IsPeriod G k q
  period_in_group k q p = record {
    positive = p.positive;
    reciprocal = (reciprocal_same (times q k)).1 p.reciprocal;
    least = λ n l r. p.least n l ((reciprocal_same (times n k)).0 r);
  }
