-- The next power.
use Rattle.std.proofs.Common.{◌<◌, sym, ◌∙◌, ap, subst, arith}
use Rattle.irr_rep.specs.Table.{entry}
use Rattle.irr_chain.proofs.PointGroups.{power_of-more, power_of-none}
use Rattle.irr_chain.proofs.series.tests.rotations.returns.Goals as goal

pub loop-e-init : goal.loop-e-init
loop-e-init c = (omega (arith, c.requires.row), sym (power_of-none (entry c.args.size c.args.products.now) c.args.i))

pub loop-e-preserved : goal.loop-e-preserved
loop-e-preserved c = (
  subst (λ v. v < c.args.size) (sym c.product-power.ensures) (c.requires.closed c.args.i c.loop-e.power c.requires.row c.loop-e.invariant.0),
  c.product-power.ensures ∙ ap (entry c.args.size c.args.products.now c.args.i) c.loop-e.invariant.1
      ∙ sym (power_of-more (entry c.args.size c.args.products.now) c.args.i c.loop-e._e),
)
