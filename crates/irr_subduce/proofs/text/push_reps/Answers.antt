-- One more line.
use Rattle.std.proofs.Common.{◌∙◌, ◌++◌, sym, ap, append-nil, map}
use Rattle.std.specs.List.{flat_map}
use Rattle.std.proofs.lemmas.List.{take_all}
use Rattle.irr_subduce.specs.Restrictions.{rep_content}
use Rattle.irr_subduce.specs.SubduceText.{rep_lines}
use Rattle.irr_subduce.proofs.Texts.{mapped_step}
use Rattle.irr_subduce.proofs.text.push_reps.Goals as goal

pub loop-rep-init : goal.loop-rep-init
loop-rep-init c = sym (append-nil c.args.text.now.items)

pub loop-rep-preserved : goal.loop-rep-preserved
loop-rep-preserved c = c.in_ok-push_rep.ensures
    ∙ mapped_step rep_lines rep_content c.args.text.now.items c.loop-rep.text.items c.args.reps.now c.loop-rep.rep-index
    c.rep-item.result c.loop-rep-test.true c.rep-item.is c.loop-rep.invariant

pub returns : goal.returns
returns c = c.loop-rep.invariant ∙ ap (λ xs. c.args.text.now.items ++ flat_map rep_lines (map rep_content xs))
    (take_all c.loop-rep.rep-index c.args.reps.now c.loop-rep-test.false)
