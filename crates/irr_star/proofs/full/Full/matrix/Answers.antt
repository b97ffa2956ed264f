-- The entries, one after another.
use Rattle.std.proofs.Common.{◌≡◌, ◌<◌, ◌+◌, ◌*◌, sym, ◌∙◌, subst, arith, rules}
use Rattle.irr_algebra.specs.Pair.{times}
use Rattle.irr_algebra.proofs.Pairs.{times-mul}
use Rattle.irr_seitz.specs.OperationMeaning.{operation}
use Rattle.irr_mat.proofs.Entries.{Filled, filled-next, filled-nil, filled-push}
use Rattle.irr_close.specs.StandsFor.{stands_for}
use Rattle.irr_close.proofs.SpaceGroups.{space_group}
use Rattle.irr_little.proofs.Spaces.{has_canonical}
use Rattle.irr_full.proofs.FullExistence.{full_matrices, full_matrices-is_full}
use Rattle.irr_star.specs.Blocks.{AreBlocksAt}
use Rattle.irr_star.proofs.FilledMatrices.{made_count, made_matrix, made_orders}
use Rattle.irr_star.proofs.MadeBlocks.{in_group, order_positive}
use Rattle.irr_star.proofs.full.Full.matrix.Goals as goal

pub entry-requires-clause-blocks : goal.entry-requires-clause-blocks
entry-requires-clause-blocks g c group k U M v d D is = (
  operation c.args.op.now,
  subst (AreBlocksAt U M (operation c.args.op.now)) (sym c.deref.ensures.value)
      (c.in_ok-blocks.ensures.blocks group k U M v d D is),
)

pub entry-requires-clause-row : goal.entry-requires-clause-row
entry-requires-clause-row g c = subst (λ n. c.loop-i.i < n) c.dim-size.ensures.rows c.loop-i-test.true

pub entry-requires-clause-column : goal.entry-requires-clause-column
entry-requires-clause-column g c = subst (λ n. c.loop-j.j < n) c.dim-size.ensures.rows c.loop-j-test.true

pub loop-i-init : goal.loop-i-init
loop-i-init g c group k U M v d D is A of =
    let order = g.S.Scalar.order_of in
    let value = g.S.Scalar.value in
    let t = times U.arms d in
    let a = A (operation c.args.op.now) in
    subst (Filled order value M a (0 * t)) (sym c.new-entries.ensures.items) (filled-nil order value M t t a)

pub loop-j-init : goal.loop-j-init
loop-j-init g c group k U M v d D is A of =
    let t = times U.arms d in
    let more : c.loop-i.i * t ≡ c.loop-i.i * t + 0 = omega arith in
    subst (λ n. Filled g.S.Scalar.order_of g.S.Scalar.value M (A (operation c.args.op.now)) n c.loop-i.entries.items)
    more
    (c.loop-i.invariant group k U M v d D is A of)

pub loop-j-preserved : goal.loop-j-preserved
loop-j-preserved g c group k U M v d D is A of =
    let t = times U.arms d in
    let same = c.dim-size.ensures.dim group k U M v d D is ∙ sym (times-mul U.arms d) in
    filled-push g.S.Scalar.order_of g.S.Scalar.value M t t (A (operation c.args.op.now)) c.loop-i.i c.loop-j.j
    c.loop-j.entries.items
    c.push.new.self.items c.in_ok-entry.entry (c.loop-j.invariant group k U M v d D is A of) c.in_ok-push.ensures.items
    (subst (λ n. c.loop-j.j < n) same c.loop-j-test.true)
    (c.in_ok-entry.ensures.order ∙ is.order)
    (c.in_ok-entry.ensures.entry group k U M v d D is A of (operation c.args.op.now)
    (in_group c.args.self.now group U M v D is c.args.op.now c.requires.member c.requires.small)
    (subst (AreBlocksAt U M (operation c.args.op.now)) (sym c.deref.ensures.value)
    (c.in_ok-blocks.ensures.blocks group k U M v d D is)))

pub loop-i-preserved : goal.loop-i-preserved
loop-i-preserved g c group k U M v d D is A of =
    let t = times U.arms d in
    let same = c.dim-size.ensures.dim group k U M v d D is ∙ sym (times-mul U.arms d) in
    let full : c.loop-j.j ≡ c.dim-size.result = search rules in
    filled-next g.S.Scalar.order_of g.S.Scalar.value M t t (A (operation c.args.op.now)) c.loop-i.i c.loop-j.j
    c.loop-j.entries.items
    (c.loop-j.invariant group k U M v d D is A of) (full ∙ same)

pub from_entries-requires-clause-some_rows : goal.from_entries-requires-clause-some_rows
from_entries-requires-clause-some_rows g c = c.dim-size.ensures.positive

pub from_entries-requires-clause-some_cols : goal.from_entries-requires-clause-some_cols
from_entries-requires-clause-some_cols g c = c.dim-size.ensures.positive

pub from_entries-requires-clause-filled : goal.from_entries-requires-clause-filled
from_entries-requires-clause-filled g c =
    let e = c.requires.induced in
    let G = stands_for e.group in
    let law = (space_group e.group).is_group in
    let chosen = has_canonical e.group in
    let some = order_positive c.args.self.now e.group e.star e.number e.divides e.small e.induced in
    let A = full_matrices G law chosen e.star e.number some e.divides e.small in
    let of = full_matrices-is_full G law chosen e.star e.number some e.divides e.small in
    made_count g.S.Scalar.order_of g.S.Scalar.value e.number (times e.star.arms e.size) c.dim-size.result c.loop-i.i
    (A (operation c.args.op.now))
    c.loop-i.entries.items (c.loop-i.invariant e.group e.wave e.star e.number e.divides e.size e.small e.induced A of)
    (c.dim-size.ensures.dim e.group e.wave e.star e.number e.divides e.size e.small e.induced ∙ sym
    (times-mul e.star.arms e.size))
    c.loop-i-test.false c.loop-i.auto.i-end c.dim-size.ensures.positive

pub from_entries-requires-clause-one_order : goal.from_entries-requires-clause-one_order
from_entries-requires-clause-one_order g c =
    let e = c.requires.induced in
    let G = stands_for e.group in
    let law = (space_group e.group).is_group in
    let chosen = has_canonical e.group in
    let some = order_positive c.args.self.now e.group e.star e.number e.divides e.small e.induced in
    let A = full_matrices G law chosen e.star e.number some e.divides e.small in
    let of = full_matrices-is_full G law chosen e.star e.number some e.divides e.small in
    made_orders g.S.Scalar.order_of g.S.Scalar.value e.number (times e.star.arms e.size) c.dim-size.result c.loop-i.i
    (A (operation c.args.op.now))
    c.loop-i.entries.items (c.loop-i.invariant e.group e.wave e.star e.number e.divides e.size e.small e.induced A of)
    (c.dim-size.ensures.dim e.group e.wave e.star e.number e.divides e.size e.small e.induced ∙ sym
    (times-mul e.star.arms e.size))
    c.loop-i-test.false c.loop-i.auto.i-end c.dim-size.ensures.positive

pub returns : goal.returns
returns g c group k U M v d D is A of =
    made_matrix M (times U.arms d) c.dim-size.result c.loop-i.i (A (operation c.args.op.now)) c.loop-i.entries.items
    (c.loop-i.invariant group k U M v d D is A of)
    (c.dim-size.ensures.dim group k U M v d D is ∙ sym (times-mul U.arms d))
    c.loop-i-test.false c.loop-i.auto.i-end c.dim-size.ensures.positive
    c.from_entries.result c.from_entries.ensures.rows c.from_entries.ensures.cols c.from_entries.ensures.entries
