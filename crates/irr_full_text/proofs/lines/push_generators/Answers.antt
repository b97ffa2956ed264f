-- One more generator.
use Rattle.std.proofs.Common.{◌∙◌}
use Rattle.irr_report.proofs.Pieces.{numbered_none, numbered_step}
use Rattle.irr_full_text.specs.Lines.{generator_text}
use Rattle.irr_full_text.proofs.lines.push_generators.Goals as goal

pub loop-i-init : goal.loop-i-init
loop-i-init c = numbered_none generator_text c.args.text.now.items

pub loop-i-preserved : goal.loop-i-preserved
loop-i-preserved c = c.in_ok-push_generator.ensures ∙ numbered_step generator_text c.args.text.now.items
    c.loop-i.text.items c.args.gens.now
    c.loop-i.i c.index-gens-i.result
    c.loop-i-test.true c.index-gens-i.is c.loop-i.invariant
