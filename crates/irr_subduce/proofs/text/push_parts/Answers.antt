-- One more line.
use Rattle.std.proofs.Common.{◌∙◌, ◌++◌, sym, ap, append-nil, map}
use Rattle.std.specs.List.{flat_map}
use Rattle.std.proofs.lemmas.List.{take_all}
use Rattle.irr_mult.specs.StarParts.{part_of}
use Rattle.irr_subduce.specs.SubduceText.{part_line}
use Rattle.irr_subduce.proofs.Texts.{mapped_step}
use Rattle.irr_subduce.proofs.text.push_parts.Goals as goal

pub loop-part-init : goal.loop-part-init
loop-part-init c = sym (append-nil c.args.text.now.items)

pub loop-part-preserved : goal.loop-part-preserved
loop-part-preserved c = c.in_ok-push_part.ensures
    ∙ mapped_step part_line part_of c.args.text.now.items c.loop-part.text.items c.args.parts.now c.loop-part.part-index
    c.part-item.result c.loop-part-test.true c.part-item.is c.loop-part.invariant

pub returns : goal.returns
returns c = c.loop-part.invariant ∙ ap (λ xs. c.args.text.now.items ++ flat_map part_line (map part_of xs))
    (take_all c.loop-part.part-index c.args.parts.now c.loop-part-test.false)
