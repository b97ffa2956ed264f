-- Reports whose wave vector and operations can be read.
--   HasReadableParts r     the numbers of the wave vector and of the operations are within the limits of their texts
use Rattle.irr_algebra.specs.Fin.{Fin}
use Rattle.irr_text.specs.ReportText.{ReportContent}
use Rattle.irr_kvec.specs.Readable.{IsReadable as IsReadableWave}
use Rattle.irr_triplet.specs.Readable.{IsReadable}
use Rattle.irr_report.specs.ReportFault.{wave_limit}

pub record HasReadableParts (r : ReportContent) : Type 0 where
  pub wave : IsReadableWave wave_limit r.wave
  pub operations : (i : Fin r.places) → IsReadable (r.operation i)
