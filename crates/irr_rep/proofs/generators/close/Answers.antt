-- One product more.
use Rattle.irr_rep.specs.Twisted.{phase_table}
use Rattle.irr_rep.proofs.Markings.{grows-same}
use Rattle.irr_rep.proofs.generators.close.Goals as goal

pub loop-init : goal.loop-init
loop-init c = grows-same (phase_table c.args.t.now) c.args.generators.now c.args.marks.now
