-- One product more.
use Rattle.irr_rep.specs.Twisted.{phase_table}
use Rattle.irr_rep.proofs.Markings.{grows-same}
use Rattle.irr_rep.proofs.generators.mark_products.Goals as goal

pub loop-i-init : goal.loop-i-init
loop-i-init c = grows-same (phase_table c.args.t.now) c.args.generators.now c.args.marks.now
