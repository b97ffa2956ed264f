-- Lists of wave vectors in their order.
--   waves_of ws            the wave vectors of a list
--   IsOneOf rs r           r is one of rs
--   AreInOrder rs          the wave vectors are in their order, each once
--   IsPlace rs r n         the first n of rs stand before r, and the others behind it
--   IsWith rs r new        new is rs, where r is one of them, or rs with r in its place
use Rattle.std.specs.Prelude.{ℕ, ◌≡◌, ◌<◌, ◌≤◌, ◌⊎◌, ◌++◌, List, ◌∷◌, length, map, take, drop}
use Rattle.irr_algebra.specs.Fin.{Fin, to_nat}
use Rattle.irr_rational.specs.Order.{IsBelow}
use Rattle.irr_space.specs.Operation.{WaveVector, wave_component}
use Rattle.irr_kvec.specs.WaveMeaning.{wave_vector}
use Rattle.irr_kvec.specs.declared.wave.Wave.{Wave}
use Rattle.irr_mult.specs.Listing.{item}

abbrev pub waves_of : List Wave → List WaveVector
waves_of = map wave_vector

abbrev pub IsOneOf : List WaveVector → WaveVector → Type 0
IsOneOf rs r = (i : Fin (length rs)) × (item rs i ≡ r)

abbrev pub AreInOrder : List WaveVector → Type 0
AreInOrder rs = (i j : Fin (length rs)) → to_nat i < to_nat j
    → IsBelow (wave_component (item rs i)) (wave_component (item rs j))

pub record IsPlace (rs : List WaveVector) (r : WaveVector) (n : ℕ) : Type 0 where
  pub within : n ≤ length rs
  pub before : (i : Fin (length (take n rs))) → IsBelow (wave_component (item (take n rs) i)) (wave_component r)
  pub behind : (i : Fin (length (drop n rs))) → IsBelow (wave_component r) (wave_component (item (drop n rs) i))

abbrev pub IsWith : List WaveVector → WaveVector → List WaveVector → Type 0
IsWith rs r new = (IsOneOf rs r × (new ≡ rs))
    ⊎ ((n : ℕ) × IsPlace rs r n × (new ≡ take n rs ++ r ∷ drop n rs))
