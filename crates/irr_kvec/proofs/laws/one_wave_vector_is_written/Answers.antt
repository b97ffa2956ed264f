-- Texts write one wave vector.
use Rattle.irr_kvec.proofs.OneWave.{wave_unique}
use Rattle.irr_kvec.proofs.laws.one_wave_vector_is_written.Goals as goal

pub returns : goal.returns
returns c = λ text k l a b. wave_unique text k l a b
