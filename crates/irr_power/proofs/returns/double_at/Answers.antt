-- The number stands in the row.
use Rattle.std.proofs.Common.{◌∙◌, sym, ap, subst, ◌<◌, length, get_or}
use Rattle.irr_product.proofs.RowItems.{traces_are}
use Rattle.irr_power.proofs.returns.double_at.Goals as goal

pub bounds-numbers-place : goal.bounds-numbers-place
bounds-numbers-place g c = subst (λ xs. c.args.place < length xs)
    (traces_are c.args.rows.now c.args.row c.index-rows-row.result c.requires.row c.index-rows-row.is ∙ sym c.as_slice-numbers.ensures.value)
    c.requires.place

pub returns : goal.returns
returns g c = c.index-numbers-place.is ∙ ap (λ xs. get_or xs c.args.place c.index-numbers-place.result) (c.as_slice-numbers.ensures.value
    ∙ sym (traces_are c.args.rows.now c.args.row c.index-rows-row.result c.requires.row c.index-rows-row.is))
