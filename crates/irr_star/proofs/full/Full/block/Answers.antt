-- The block in a column.
use Rattle.std.proofs.Common.{ℕ, ◌≡◌, ◌<◌, sym, subst, length, List, Contains, rules}
use Rattle.std.specs.List.{HoldsAt}
use Rattle.irr_seitz.specs.OperationMeaning.{operation}
use Rattle.irr_star.specs.declared.lists.Product.{Product}
use Rattle.irr_star.proofs.MadeBlocks.{block_made, denominators, entries_of, entries_of_carrier, fits_shift}
use Rattle.irr_star.proofs.MadeBlocks.{number_below, numerators_of}
use Rattle.irr_star.proofs.MadeBlocks.{numerators_of_carrier, place_below, row_below, small_shift, some_product}
use Rattle.irr_star.proofs.MadeBlocks.{turns_whole, wave_limits}
use Rattle.irr_star.proofs.full.Full.block.Goals as goal

pub bounds-ops-number : goal.bounds-ops-number
bounds-ops-number g c =
    let e = c.requires.induced in
    number_below c.args.self.now e.group e.star e.number e.divides e.small e.induced c.args.op.now c.requires.member
    c.requires.small
    c.args.column c.requires.column c.index.result.now c.index.ensures c.ops-ops.result.now c.ops-ops.ensures.list

pub compose-both-requires-clause-entries : goal.compose-both-requires-clause-entries
compose-both-requires-clause-entries g c =
    let e = c.requires.induced in
    entries_of c.args.self.now e.group e.star e.number e.divides e.small e.induced c.args.op.now c.requires.member
    c.requires.small

pub compose-both-requires-clause-other_entries : goal.compose-both-requires-clause-other_entries
compose-both-requires-clause-other_entries g c =
    let e = c.requires.induced in
    entries_of_carrier c.args.self.now e.group e.star e.number e.divides e.small e.induced c.args.op.now
    c.requires.member c.requires.small
    c.args.column c.requires.column c.index.result.now c.index.ensures c.ops-ops.result.now c.ops-ops.ensures.list
    c.index-ops-number.result c.index-ops-number.is

pub compose-both-requires-clause-denominator : goal.compose-both-requires-clause-denominator
compose-both-requires-clause-denominator g c =
    let e = c.requires.induced in
    denominators c.args.self.now e.group e.star e.number e.divides e.small e.induced c.args.op.now c.requires.member
    c.requires.small
    c.args.column c.requires.column c.index.result.now c.index.ensures c.ops-ops.result.now c.ops-ops.ensures.list
    c.index-ops-number.result c.index-ops-number.is

pub compose-both-requires-clause-numerators : goal.compose-both-requires-clause-numerators
compose-both-requires-clause-numerators g c =
    let e = c.requires.induced in
    numerators_of c.args.self.now e.group e.star e.number e.divides e.small e.induced c.args.op.now c.requires.member
    c.requires.small

pub compose-both-requires-clause-other_numerators : goal.compose-both-requires-clause-other_numerators
compose-both-requires-clause-other_numerators g c =
    let e = c.requires.induced in
    numerators_of_carrier c.args.self.now e.group e.star e.number e.divides e.small e.induced c.args.op.now
    c.requires.member c.requires.small
    c.args.column c.requires.column c.index.result.now c.index.ensures c.ops-ops.result.now c.ops-ops.ensures.list
    c.index-ops-number.result c.index-ops-number.is

pub with_rotation-product-requires : goal.with_rotation-product-requires
with_rotation-product-requires g c =
    let e = c.requires.induced in
    subst (λ (ps : List Product). (n : ℕ) × (n < length ps) × HoldsAt
    (λ p. (operation p.op).rotation ≡ (operation c.compose-both.result).rotation) ps n)
    (sym c.deref.ensures.value) (some_product c.args.self.now e.group e.star e.number e.divides e.small e.induced
    c.args.op.now c.requires.member c.requires.small
    c.args.column c.requires.column c.index.result.now c.index.ensures c.ops-ops.result.now c.ops-ops.ensures.list
    c.index-ops-number.result c.index-ops-number.is
    c.compose-both.result c.compose-both.ensures)

pub difference-shift-requires : goal.difference-shift-requires
difference-shift-requires g c =
    let e = c.requires.induced in
    fits_shift c.args.self.now e.group e.star e.number e.divides e.small e.induced c.args.op.now c.requires.member
    c.requires.small
    c.args.column c.requires.column c.index.result.now c.index.ensures c.ops-ops.result.now c.ops-ops.ensures.list
    c.index-ops-number.result c.index-ops-number.is
    c.compose-both.result c.compose-both.ensures
    c.with_rotation-product.result (subst (λ ps. Contains ps c.with_rotation-product.result) c.deref.ensures.value
    c.with_rotation-product.ensures.inside)
    c.with_rotation-product.ensures.rotation

pub index-requires-2 : goal.index-requires-2
index-requires-2 g c =
    let e = c.requires.induced in
    let l = row_below c.args.self.now e.group e.star e.number e.divides e.small e.induced c.args.op.now
    c.requires.member c.requires.small
    c.args.column c.requires.column c.index.result.now c.index.ensures c.ops-ops.result.now c.ops-ops.ensures.list
    c.index-ops-number.result c.index-ops-number.is
    c.compose-both.result c.compose-both.ensures
    c.with_rotation-product.result (subst (λ ps. Contains ps c.with_rotation-product.result) c.deref.ensures.value
    c.with_rotation-product.ensures.inside)
    c.with_rotation-product.ensures.rotation in
    search rules

pub theta-exponent-requires-clause-whole : goal.theta-exponent-requires-clause-whole
theta-exponent-requires-clause-whole g c =
    let e = c.requires.induced in
    turns_whole c.args.self.now e.group e.star e.number e.divides e.small e.induced c.args.op.now c.requires.member
    c.requires.small
    c.args.column c.requires.column c.index.result.now c.index.ensures c.ops-ops.result.now c.ops-ops.ensures.list
    c.index-ops-number.result c.index-ops-number.is
    c.compose-both.result c.compose-both.ensures
    c.with_rotation-product.result (subst (λ ps. Contains ps c.with_rotation-product.result) c.deref.ensures.value
    c.with_rotation-product.ensures.inside)
    c.with_rotation-product.ensures.rotation
    c.difference-shift.result c.difference-shift.ensures c.index-2.result.now c.index-2.ensures c.n.result
    c.n.ensures.value

pub theta-exponent-requires-clause-limits : goal.theta-exponent-requires-clause-limits
theta-exponent-requires-clause-limits g c =
    let e = c.requires.induced in
    wave_limits c.args.self.now e.group e.star e.number e.divides e.small e.induced c.args.op.now c.requires.member
    c.requires.small
    c.args.column c.requires.column c.index.result.now c.index.ensures c.ops-ops.result.now c.ops-ops.ensures.list
    c.index-ops-number.result c.index-ops-number.is
    c.compose-both.result c.compose-both.ensures
    c.with_rotation-product.result (subst (λ ps. Contains ps c.with_rotation-product.result) c.deref.ensures.value
    c.with_rotation-product.ensures.inside)
    c.with_rotation-product.ensures.rotation c.index-2.result.now c.index-2.ensures

pub theta-exponent-requires-clause-numerators : goal.theta-exponent-requires-clause-numerators
theta-exponent-requires-clause-numerators g c =
    let e = c.requires.induced in
    small_shift c.args.self.now e.group e.star e.number e.divides e.small e.induced c.args.op.now c.requires.member
    c.requires.small
    c.args.column c.requires.column c.index.result.now c.index.ensures c.ops-ops.result.now c.ops-ops.ensures.list
    c.index-ops-number.result c.index-ops-number.is
    c.compose-both.result c.compose-both.ensures
    c.with_rotation-product.result (subst (λ ps. Contains ps c.with_rotation-product.result) c.deref.ensures.value
    c.with_rotation-product.ensures.inside)
    c.with_rotation-product.ensures.rotation
    c.difference-shift.result c.difference-shift.ensures

pub returns-clause-row : goal.returns-clause-row
returns-clause-row g c =
    let e = c.requires.induced in
    row_below c.args.self.now e.group e.star e.number e.divides e.small e.induced c.args.op.now c.requires.member
    c.requires.small
    c.args.column c.requires.column c.index.result.now c.index.ensures c.ops-ops.result.now c.ops-ops.ensures.list
    c.index-ops-number.result c.index-ops-number.is
    c.compose-both.result c.compose-both.ensures
    c.with_rotation-product.result (subst (λ ps. Contains ps c.with_rotation-product.result) c.deref.ensures.value
    c.with_rotation-product.ensures.inside)
    c.with_rotation-product.ensures.rotation

pub returns-clause-place : goal.returns-clause-place
returns-clause-place g c =
    let e = c.requires.induced in
    place_below c.args.self.now e.group e.star e.number e.divides e.small e.induced c.args.op.now c.requires.member
    c.requires.small
    c.args.column c.requires.column c.index.result.now c.index.ensures c.ops-ops.result.now c.ops-ops.ensures.list
    c.index-ops-number.result c.index-ops-number.is
    c.compose-both.result c.compose-both.ensures
    c.with_rotation-product.result (subst (λ ps. Contains ps c.with_rotation-product.result) c.deref.ensures.value
    c.with_rotation-product.ensures.inside)
    c.with_rotation-product.ensures.rotation

pub returns-clause-block : goal.returns-clause-block
returns-clause-block g c group k U M v d D is j f =
    block_made c.args.self.now group U M v D is c.args.op.now c.requires.member c.requires.small
    c.args.column c.requires.column c.index.result.now c.index.ensures c.ops-ops.result.now c.ops-ops.ensures.list
    c.index-ops-number.result c.index-ops-number.is
    c.compose-both.result c.compose-both.ensures
    c.with_rotation-product.result (subst (λ ps. Contains ps c.with_rotation-product.result) c.deref.ensures.value
    c.with_rotation-product.ensures.inside)
    c.with_rotation-product.ensures.rotation
    c.difference-shift.result c.difference-shift.ensures c.index-2.result.now c.index-2.ensures c.n.result
    c.n.ensures.value c.theta-exponent.result c.theta-exponent.ensures j f
