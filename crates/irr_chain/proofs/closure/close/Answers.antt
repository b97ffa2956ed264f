-- No product is new.
use Rattle.irr_rep.specs.Twisted.{phase_table}
use Rattle.irr_chain.proofs.Markings.{grows-join, grows-same}
use Rattle.irr_chain.proofs.Passes.{closed-marks}
use Rattle.irr_chain.proofs.closure.close.Goals as goal

pub loop-init : goal.loop-init
loop-init c = grows-same (phase_table c.args.t.now) c.args.marks.now

pub loop-preserved : goal.loop-preserved
loop-preserved c =
    grows-join (phase_table c.args.t.now) c.args.marks.now c.loop.marks c.mark_products.new.marks c.loop.invariant c.mark_products.ensures.grows

pub returns-clause-grows : goal.returns-clause-grows
returns-clause-grows c =
    grows-join (phase_table c.args.t.now) c.args.marks.now c.loop.marks c.mark_products.new.marks c.loop.invariant c.mark_products.ensures.grows

pub returns-clause-closed : goal.returns-clause-closed
returns-clause-closed c =
    closed-marks (phase_table c.args.t.now) c.args.marks.now c.mark_products.new.marks c.requires.unit
    (grows-join (phase_table c.args.t.now) c.args.marks.now c.loop.marks c.mark_products.new.marks c.loop.invariant c.mark_products.ensures.grows)
    (c.mark_products.ensures.closed c.loop-test.false)
