use Rattle.irr_rational.specs.Ratio.{entry}
use Rattle.irr_kvec.proofs.ReducedForms.{reduced_from_cell, lowest_shifted}
use Rattle.irr_kvec.proofs.reduction.reduced.Goals as goal

pub invariant_of-result : goal.invariant_of-result
invariant_of-result c = record { lowest = lowest_shifted (entry c.args.k.now.num) (entry c.least_steps-steps.result) (entry c.shifted-num.result) c.args.k.now.den c.args.k.now.lowest c.shifted-num.ensures.value }

pub returns-clause-reduced : goal.returns-clause-reduced
returns-clause-reduced c = reduced_from_cell c.args.centrings.now c.requires.centrings c.args.k.now.num c.cells-cells.result c.least_steps-steps.result c.shifted-num.result c.args.k.now.den
    c.args.k.now.lowest.positive c.cells-cells.ensures.value c.shifted-num.ensures.value c.least_steps-steps.ensures.reduced
