-- The search for the stars of some wave vectors.
--   key w                    what tells a wave vector apart: the numerators, the denominator
--   IsKnown group found k    the wave vector of the key k is in the star of one of those found
--   IsReducedIn group w      w is reduced
--   HasOrder group M w       w has an order in the group that divides M
--   AreSearched group ws found keys   those found are the representatives of the stars of ws, and the keys are known
use Rattle.std.specs.Prelude.{ℕ, ℤ, List, length}
use Rattle.std.specs.List.{All}
use Rattle.std.specs.Int.{◌∣◌}
use Rattle.irr_algebra.specs.Fin.{Fin}
use Rattle.irr_space.specs.Operation.{WaveVector}
use Rattle.irr_space.specs.Reciprocal.{IsOrder, IsReduced}
use Rattle.irr_space.specs.Star.{IsInStar}
use Rattle.irr_kvec.specs.Centrings.{IsWithinLimits}
use Rattle.irr_kvec.specs.WaveMeaning.{wave_of, wave_vector}
use Rattle.irr_kvec.specs.declared.wave.Wave.{Wave}
use Rattle.irr_close.specs.StandsFor.{stands_for}
use Rattle.irr_close.specs.declared.group.Group.{Group}
use Rattle.irr_mult.specs.Listing.{item}
use Rattle.irr_mult.specs.OrderedWaves.{waves_of}
use Rattle.irr_mult.specs.Stars.{AreStarsOf}

abbrev pub key : Wave → List ℤ × ℕ
key w = (w.num, w.den)

abbrev pub IsKnown : Group → List Wave → List ℤ × ℕ → Type 0
IsKnown group found k = (i : Fin (length (waves_of found)))
    × IsInStar (stands_for group) (item (waves_of found) i) (wave_of k.0 k.1)

abbrev pub IsReducedIn : Group → Wave → Type 0
IsReducedIn group w = IsReduced (stands_for group) (wave_vector w) (wave_vector w)

abbrev pub HasOrder : Group → ℕ → Wave → Type 0
HasOrder group M w = (n : ℕ) × IsOrder (stands_for group) (wave_vector w) n × (n ∣ M)

pub record AreSearched (group : Group) (ws : List WaveVector) (found : List Wave) (keys : List (List ℤ × ℕ))
    : Type 0 where
  pub stars : AreStarsOf (stands_for group) ws (waves_of found)
  pub limits : All IsWithinLimits found
  pub known : All (IsKnown group found) keys
