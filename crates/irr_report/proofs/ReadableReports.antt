-- A printed report whose parts are within their limits is read as the same report.
--   printed-wave_text      the printed form of a wave vector writes it
--   read-readable          the text of a printed report
use Rattle.std.proofs.Common.{sym, subst, ℕ, arith}
use Rattle.irr_space.specs.Operation.{WaveVector}
use Rattle.irr_text.specs.WaveText.{wave_text}
use Rattle.irr_text.specs.ReportText.{ReportContent, report_text}
use Rattle.irr_kvec.specs.Readable.{IsReadable}
use Rattle.irr_kvec.proofs.PrintedWaves.{printed_wave, printed-spelling, printed-written}
use Rattle.irr_triplet.specs.TripletFault.{IsTextOf}
use Rattle.irr_triplet.proofs.PrintedTriplets.{printed_read}
use Rattle.irr_report.specs.ReportLines.{report_lines}
use Rattle.irr_report.specs.ReportLimits.{PassesAt}
use Rattle.irr_report.specs.ReadReport.{HasSmallNumbers}
use Rattle.irr_report.specs.PrintedReport.{written_of}
use Rattle.irr_report.specs.ReportFault.{wave_limit, IsWaveText, IsReportText}
use Rattle.irr_report.specs.ReadableParts.{HasReadableParts}
use Rattle.irr_report.proofs.LineEnds.{text-of-report}
use Rattle.irr_report.proofs.PrintedReports.{report_text-lines}
use Rattle.irr_report.proofs.ReadPrinted.{read-printed}

pub printed-wave_text : (k : WaveVector) → IsReadable wave_limit k → IsWaveText (wave_text k) k
printed-wave_text k h =
    let written = printed-written wave_limit k (omega arith) h in
    record { wave = printed_wave k; spells = printed-spelling wave_limit k (omega arith) h; written = written.0; common = written.1 }

pub read-readable : (r : ReportContent) → HasSmallNumbers r → HasReadableParts r → ((k : ℕ) → ¬ (PassesAt (written_of r) k))
    → IsReportText (report_text r) r
read-readable r small parts within = subst (λ text. IsReportText text r) (sym (report_text-lines r))
    (text-of-report (report_lines (written_of r)) r (read-printed r small IsWaveText IsTextOf (printed-wave_text r.wave parts.wave)
    (λ i. printed_read (r.operation i) (parts.operations i)) within))
