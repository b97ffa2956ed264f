-- The components that are read of a text.
--   written_wave r     the wave vector, as it is written, that the program's value r stands for
--   AreParts r w       r is read of w
use Rattle.irr_token.specs.Reading.{written_quotient, IsReadAs}
use Rattle.irr_kvec.specs.declared.read.Parts.{Parts}
use Rattle.irr_kvec.specs.WrittenWave.{WrittenWave}

abbrev pub written_wave : Parts → WrittenWave
written_wave r = record { x = written_quotient r.x; y = written_quotient r.y; z = written_quotient r.z }

pub record AreParts (r : Parts) (w : WrittenWave) : Type 0 where
  pub x : IsReadAs r.x w.x
  pub y : IsReadAs r.y w.y
  pub z : IsReadAs r.z w.z
