-- The number stands in the row.
use Rattle.std.proofs.Common.{◌∙◌, sym, ap, subst, ◌<◌, length, get_or}
use Rattle.std.proofs.lemmas.List.{get_or_default}
use Rattle.irr_mult.specs.Traced.{traces_at}
use Rattle.irr_product.proofs.RowItems.{traces_are}
use Rattle.irr_power.proofs.returns.target_at.Goals as goal

pub bounds-arms-place : goal.bounds-arms-place
bounds-arms-place c = subst (λ xs. c.args.place < length xs)
    (traces_are c.args.rows.now c.args.row c.index-rows-row.result c.requires.row c.index-rows-row.is ∙ sym c.as_slice-arms.ensures.value)
    c.requires.place

pub returns : goal.returns
returns c d = ap (λ xs. get_or xs c.args.place 0) (c.as_slice-arms.ensures.value
    ∙ sym (traces_are c.args.rows.now c.args.row c.index-rows-row.result c.requires.row c.index-rows-row.is))
    ∙ get_or_default (traces_at c.args.rows.now c.args.row) c.args.place 0 d c.requires.place
