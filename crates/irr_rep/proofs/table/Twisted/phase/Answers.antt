-- The exponents stand row by row.
use Rattle.std.proofs.Common.{◌<◌, ◌∙◌, sym, subst}
use Rattle.irr_rep.specs.Twisted.{place_count}
use Rattle.irr_rep.proofs.Readings.{entry_read, order-phase_table, exponent_at}
use Rattle.irr_rep.proofs.table.Twisted.phase.Goals as goal

pub returns-clause-within : goal.returns-clause-within
returns-clause-within c =
    let t = c.args.self.now in
    subst (λ k. c.index-2.result.now < k) (sym (order-phase_table t))
    (subst (λ k. k < t.order) (sym (entry_read t.exponents.items
    (place_count t) c.args.i c.args.j c.index.result c.index-2.result.now t.exponents.len
    c.index-2.ensures c.index.ensures.within t.full_exponents t.exponents.ok.0 c.index.ensures.place))
    (t.factors.exponent_below c.args.i c.args.j c.requires.row c.requires.column))

pub returns-clause-exponent : goal.returns-clause-exponent
returns-clause-exponent c = λ p q e f.
    let t = c.args.self.now in
    entry_read t.exponents.items (place_count t) c.args.i c.args.j c.index.result c.index-2.result.now t.exponents.len
    c.index-2.ensures c.index.ensures.within t.full_exponents t.exponents.ok.0 c.index.ensures.place
    ∙ exponent_at t c.args.i c.args.j p q e f
