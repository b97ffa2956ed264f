-- The products stand row by row.
use Rattle.std.proofs.Common.{◌<◌, ◌∙◌, sym, subst}
use Rattle.irr_rep.specs.Twisted.{place_count}
use Rattle.irr_rep.proofs.Readings.{entry_read, product_at}
use Rattle.irr_rep.proofs.table.Twisted.table.Goals as goal

pub returns-clause-within : goal.returns-clause-within
returns-clause-within c =
    let t = c.args.self.now in
    subst (λ k. k < place_count t) (sym (entry_read t.products.items
    (place_count t) c.args.i c.args.j c.index.result c.index-2.result.now t.products.len
    c.index-2.ensures c.index.ensures.within t.full_products t.products.ok.0 c.index.ensures.place))
    (t.group.product_below c.args.i c.args.j c.requires.row c.requires.column)

pub returns-clause-product : goal.returns-clause-product
returns-clause-product c = λ p q e f.
    let t = c.args.self.now in
    entry_read t.products.items (place_count t) c.args.i c.args.j c.index.result c.index-2.result.now t.products.len
    c.index-2.ensures c.index.ensures.within t.full_products t.products.ok.0 c.index.ensures.place
    ∙ product_at t c.args.i c.args.j p q e f
