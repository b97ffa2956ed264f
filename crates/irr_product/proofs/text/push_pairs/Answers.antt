-- One more line.
use Rattle.std.proofs.Common.{◌∙◌, ◌++◌, sym, ap, append-nil, map}
use Rattle.std.specs.List.{flat_map}
use Rattle.std.proofs.lemmas.List.{take_all}
use Rattle.irr_product.specs.Products.{pair_content}
use Rattle.irr_product.specs.ProductText.{pair_lines}
use Rattle.irr_product.proofs.Texts.{mapped_step}
use Rattle.irr_product.proofs.text.push_pairs.Goals as goal

pub loop-pair-init : goal.loop-pair-init
loop-pair-init c = sym (append-nil c.args.text.now.items)

pub loop-pair-preserved : goal.loop-pair-preserved
loop-pair-preserved c = c.in_ok-push_pair.ensures
    ∙ mapped_step pair_lines pair_content c.args.text.now.items c.loop-pair.text.items c.args.pairs.now c.loop-pair.pair-index
    c.pair-item.result c.loop-pair-test.true c.pair-item.is c.loop-pair.invariant

pub returns : goal.returns
returns c = c.loop-pair.invariant ∙ ap (λ xs. c.args.text.now.items ++ flat_map pair_lines (map pair_content xs))
    (take_all c.loop-pair.pair-index c.args.pairs.now c.loop-pair-test.false)
