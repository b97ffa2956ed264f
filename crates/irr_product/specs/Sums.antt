-- Sums of the wave vectors of two stars.
--   IsSummand n w                the denominator of w divides n, and the numerators are small
--   IsSumOf group a b w          w is reduced, and equivalent to a + b
--   AreRowSums .. a bs ws        ws are so for a and the arms bs, in order
--   AreSums .. left right ws     ws are so for two lists of arms: those of the first on the left with each on the right,
--                                and so on
use Rattle.std.specs.Prelude.{ℕ, ◌≡◌, ◌<◌, ◌≤◌, ◌+◌, ◌*◌, ◌^◌, List, length, slice_index_or, unsigned_abs}
use Rattle.std.specs.Int.{◌∣◌}
use Rattle.irr_algebra.specs.Fin.{Fin}
use Rattle.irr_algebra.specs.Matrix.{◌⊕◌}
use Rattle.irr_rational.specs.Ratio.{entry}
use Rattle.irr_space.specs.Reciprocal.{AreEquivalent, IsReduced}
use Rattle.irr_kvec.specs.Centrings.{IsWithinLimits}
use Rattle.irr_kvec.specs.WaveMeaning.{wave_vector}
use Rattle.irr_kvec.specs.declared.wave.Wave.{Wave}
use Rattle.irr_close.specs.StandsFor.{stands_for}
use Rattle.irr_close.specs.declared.group.Group.{Group}
use Rattle.irr_little.specs.declared.arms.Arm.{Arm}

pub record IsSummand (n : ℕ) (w : Wave) : Type 0 where
  pub divides : w.den ∣ n
  pub small : (i : Fin 3) → unsigned_abs (entry w.num i) ≤ 10 ^ 6

pub record IsSumOf (group : Group) (a b w : Wave) : Type 0 where
  pub reduced : IsReduced (stands_for group) (wave_vector w) (wave_vector w)
  pub equivalent : AreEquivalent (stands_for group) (wave_vector w) (wave_vector a ⊕ wave_vector b)
  pub limits : IsWithinLimits w

-- d and w stand past the ends of the lists
pub record AreRowSums (group : Group) (a : Wave) (bs : List Arm) (ws : List Wave) : Type 0 where
  pub count : length ws ≡ length bs
  pub sum : (j : ℕ) (d : Arm) (w : Wave) → j < length bs
      → IsSumOf group a (slice_index_or bs j d).wave (slice_index_or ws j w)

pub record AreSums (group : Group) (left right : List Arm) (ws : List Wave) : Type 0 where
  pub count : length ws ≡ length left * length right
  pub sum : (i j : ℕ) (d : Arm) (w : Wave) → i < length left → j < length right
      → IsSumOf group (slice_index_or left i d).wave (slice_index_or right j d).wave
      (slice_index_or ws (i * length right + j) w)
