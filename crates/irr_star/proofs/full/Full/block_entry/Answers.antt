-- A power of z times an entry of a matrix of the small representation.
use Rattle.std.proofs.lemmas.Result.{IfOk-weaker}
use Rattle.irr_star.proofs.EntryReads.{entry_denominator, entry_size, turned_entry}
use Rattle.irr_star.proofs.full.Full.block_entry.Goals as goal

pub turned-requires-clause-denominator : goal.turned-requires-clause-denominator
turned-requires-clause-denominator g c =
    let e = c.requires.induced in
    entry_denominator c.args.self.now e.group e.star e.number e.divides e.small e.induced c.args.block.now.place
    c.requires.place
    c.index-matrix.result.now c.index-matrix.ensures c.args.i c.args.j c.requires.row c.requires.column c.at.result.now
    (c.at.ensures.entry e.number)

pub turned-requires-clause-size : goal.turned-requires-clause-size
turned-requires-clause-size g c =
    let e = c.requires.induced in
    entry_size c.args.self.now e.group e.star e.number e.divides e.small e.induced c.args.block.now.place
    c.requires.place
    c.index-matrix.result.now c.index-matrix.ensures c.args.i c.args.j c.requires.row c.requires.column c.at.result.now
    (c.at.ensures.entry e.number)

pub returns-clause-entry : goal.returns-clause-entry
returns-clause-entry g c group k U M v d D is p e = IfOk-weaker c.turned.result _ _ (λ y value.
    turned_entry c.args.self.now group U M v D is c.args.block.now.place c.index-matrix.result.now
    c.index-matrix.ensures p e c.args.i c.args.j
    c.args.block.now.exponent c.at.result.now y (c.at.ensures.entry M) value) c.turned.ensures.value
