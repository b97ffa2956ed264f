-- The report of the list.
use Rattle.irr_rep.specs.Twisted.{phase_table, operation_places}
use Rattle.irr_top.proofs.Reports.{fits_together, report_of_list}
use Rattle.irr_top.proofs.report.report_of.Goals as goal

pub returns-clause-fits : goal.returns-clause-fits
returns-clause-fits g c = fits_together {G = g.S.Scalar} (phase_table c.args.t.now) c.args.families.items
    (record { wave = c.args.wave; order = c.order.result; ops = c.in_ok-ops.ops; reps = c.in_ok-reps.reps }) c.order.ensures.order
    c.in_ok-ops.ensures.count c.in_ok-reps.ensures.families c.in_ok-reps.ensures.traces

pub returns-clause-list : goal.returns-clause-list
returns-clause-list g c = λ d L read. report_of_list {G = g.S.Scalar} (phase_table c.args.t.now) c.args.families.items
    (record { wave = c.args.wave; order = c.order.result; ops = c.in_ok-ops.ops; reps = c.in_ok-reps.reps }) c.order.ensures.order
    c.in_ok-ops.ensures.count c.in_ok-reps.ensures.families c.in_ok-reps.ensures.traces L read c.args.group.now (operation_places c.args.t.now)
    c.in_ok-ops.ensures.ops d
