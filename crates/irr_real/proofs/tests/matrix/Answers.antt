-- All entries.
use Rattle.std.proofs.Common.{◌≡◌, sym, ◌∙◌, ap, subst, length, rules}
use Rattle.irr_mat.specs.Entries.{first_order, matrix_of}
use Rattle.irr_mat.specs.Size.{IsWithin}
use Rattle.irr_real.proofs.PowerMatrices.{PowersSoFar, powers_more, powers_none, powers_orders, powers_within}
use Rattle.irr_real.proofs.tests.matrix.Goals as goal

pub loop-power-init : goal.loop-power-init
loop-power-init g c = powers_none g.S.Scalar.order_of g.S.Scalar.value c.args.order.now.n c.new-entries.result.items
    c.new-entries.ensures.items

pub loop-power-preserved : goal.loop-power-preserved
loop-power-preserved g c = powers_more g.S.Scalar.order_of g.S.Scalar.value c.args.order.now.n
    c.loop-power.power-index c.loop-power.entries.items
    c.push.new.self.items c.in_ok-entry.entry c.loop-power.invariant c.in_ok-push.ensures.items
    c.in_ok-entry.ensures.order c.in_ok-entry.ensures.few

pub from_entries-requires-clause-filled : goal.from_entries-requires-clause-filled
from_entries-requires-clause-filled g c =
    let done : c.loop-power.power-index ≡ length c.args.powers.now = search rules in
    c.loop-power.invariant.count ∙ done ∙ c.requires.filled

pub from_entries-requires-clause-one_order : goal.from_entries-requires-clause-one_order
from_entries-requires-clause-one_order g c =
    let order = g.S.Scalar.order_of in
    let value = g.S.Scalar.value in
    let n = c.args.order.now.n in
    let xs = c.loop-power.entries.items in
    let done : c.loop-power.power-index ≡ length c.args.powers.now = search rules in
    (powers_orders order value n c.args.rows c.requires.some xs
    (subst (λ k. PowersSoFar order value n k xs) (done ∙ c.requires.filled) c.loop-power.invariant)).1

pub returns-clause-order : goal.returns-clause-order
returns-clause-order g c =
    let order = g.S.Scalar.order_of in
    let value = g.S.Scalar.value in
    let n = c.args.order.now.n in
    let xs = c.loop-power.entries.items in
    let done : c.loop-power.power-index ≡ length c.args.powers.now = search rules in
    ap (first_order order) c.from_entries.ensures.entries ∙ (powers_orders order value n c.args.rows c.requires.some xs
    (subst (λ k. PowersSoFar order value n k xs) (done ∙ c.requires.filled) c.loop-power.invariant)).0

pub returns-clause-within : goal.returns-clause-within
returns-clause-within g c =
    let order = g.S.Scalar.order_of in
    let value = g.S.Scalar.value in
    let n = c.args.order.now.n in
    let rows = c.args.rows in
    let xs = c.loop-power.entries.items in
    let done : c.loop-power.power-index ≡ length c.args.powers.now = search rules in
    subst (λ ys. IsWithin n 1 1 (matrix_of value n rows rows ys)) (sym c.from_entries.ensures.entries)
    (powers_within order value n rows c.requires.some xs
    (subst (λ k. PowersSoFar order value n k xs) (done ∙ c.requires.filled) c.loop-power.invariant))
