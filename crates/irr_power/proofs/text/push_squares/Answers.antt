-- One more entry.
use Rattle.std.proofs.Common.{◌∙◌, ◌++◌, sym, ap, append-nil, map}
use Rattle.std.specs.List.{flat_map}
use Rattle.std.proofs.lemmas.List.{take_all}
use Rattle.irr_product.proofs.Texts.{mapped_step}
use Rattle.irr_power.specs.Squares.{square_entry}
use Rattle.irr_power.specs.SquareText.{square_lines}
use Rattle.irr_power.proofs.text.push_squares.Goals as goal

pub loop-square-init : goal.loop-square-init
loop-square-init c = sym (append-nil c.args.text.now.items)

pub loop-square-preserved : goal.loop-square-preserved
loop-square-preserved c = c.in_ok-push_square.ensures
    ∙ mapped_step square_lines square_entry c.args.text.now.items c.loop-square.text.items c.args.squares.now
    c.loop-square.square-index c.square-item.result c.loop-square-test.true c.square-item.is c.loop-square.invariant

pub returns : goal.returns
returns c = c.loop-square.invariant ∙ ap (λ xs. c.args.text.now.items ++ flat_map square_lines (map square_entry xs))
    (take_all c.loop-square.square-index c.args.squares.now c.loop-square-test.false)
