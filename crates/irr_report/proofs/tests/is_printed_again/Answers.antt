-- A report that was read fits together.
use Rattle.irr_cyc.specs.declared.scalars.Scalar.{Ghosts}
use Rattle.irr_report.specs.declared.report.Report.{Report}
use Rattle.irr_report.specs.Content.{FitsTogether}
use Rattle.irr_report.specs.Limits.{IsWithinLimits}
use Rattle.irr_report.proofs.tests.is_printed_again.Goals as goal

fits : {S : Type 0} {G : Ghosts S} (r : Report S G) → IsWithinLimits r → FitsTogether r
fits r limits k d l = let t = limits.representations k d l in record { count = t.row.count; orders = t.row.orders; shape = t.family.shape }

pub print_report-requires : goal.print_report-requires
print_report-requires c = fits c.in-Ok.report c.in-Ok.ensures.limits
