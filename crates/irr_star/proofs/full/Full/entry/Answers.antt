-- An entry of the block that is not 0 in its column, or 0.
use Rattle.std.proofs.Common.{◌≡◌, subst}
use Rattle.irr_number.specs.Number.{numbers}
use Rattle.irr_star.specs.declared.lists.Block.{Block}
use Rattle.irr_star.proofs.EntryReads.{admitted, block_below, block_entry, exponent_below, place_below, zero_entry}
use Rattle.irr_star.proofs.full.Full.entry.Goals as goal

pub bounds-blocks-j : goal.bounds-blocks-j
bounds-blocks-j g c =
    let e = c.requires.induced in
    let are = c.requires.blocks e.group e.wave e.star e.number e.divides e.size e.small e.induced in
    block_below c.args.self.now e.group e.star e.number e.divides e.small e.induced c.args.blocks.now c.args.j
    c.requires.column are.0 are.1

pub zero-requires : goal.zero-requires
zero-requires g c =
    let e = c.requires.induced in
    record {
      admitted = admitted c.args.self.now e.group e.star e.number e.divides e.small e.induced g.S.Scalar.admits
          g.met.S.Scalar.order_admitted;
    }

none : Block
none = record { row = 0; place = 0; exponent = 0 }

pub returns-then-block-i-clause-entry : goal.returns-then-block-i-clause-entry
unfolding none
returns-then-block-i-clause-entry g c group k U M v d D is A of h in_h are =
    zero_entry c.args.self.now group U M v D is c.args.blocks.now c.args.j c.requires.column h are none A of in_h
    c.args.i c.if-block-i.true
    (g.S.Scalar.value M c.in_ok-none.none)
    (subst (λ n. g.S.Scalar.value n c.in_ok-none.none ≡ (numbers n).zero) is.order c.in_ok-none.ensures.value)

pub block_entry-requires-clause-place : goal.block_entry-requires-clause-place
unfolding none
block_entry-requires-clause-place g c =
    let e = c.requires.induced in
    let are = c.requires.blocks e.group e.wave e.star e.number e.divides e.size e.small e.induced in
    place_below c.args.self.now e.group e.star e.number e.divides e.small e.induced c.args.blocks.now c.args.j
    c.requires.column are.0 are.1 none

pub block_entry-requires-clause-exponent : goal.block_entry-requires-clause-exponent
unfolding none
block_entry-requires-clause-exponent g c =
    let e = c.requires.induced in
    let are = c.requires.blocks e.group e.wave e.star e.number e.divides e.size e.small e.induced in
    exponent_below c.args.self.now e.group e.star e.number e.divides e.small e.induced c.args.blocks.now c.args.j
    c.requires.column are.0 are.1 none

pub returns-clause-entry : goal.returns-clause-entry
unfolding none
returns-clause-entry g c group k U M v d D is A of h in_h are =
    block_entry c.args.self.now group U M v D is c.args.blocks.now c.args.j c.requires.column h are none A of in_h
    c.args.i c.if-block-i.false
    (g.S.Scalar.value M c.in_ok-entry.entry) (λ p e. c.in_ok-entry.ensures.entry group k U M v d D is p e)
