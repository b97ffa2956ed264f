-- The blocks, one after another.
use Rattle.std.proofs.Common.{◌≡◌, ◌<◌, ◌+◌, ◌∷◌, [], sym, ◌∙◌, ap, subst, length, length-append, rules}
use Rattle.irr_seitz.specs.OperationMeaning.{operation}
use Rattle.irr_algebra.specs.Fin.{to_nat}
use Rattle.irr_algebra.proofs.Indices.{to_nat-lt}
use Rattle.irr_star.specs.Blocks.{IsBlockAt}
use Rattle.irr_star.proofs.FamilyItems.{items_more, items_none}
use Rattle.irr_star.proofs.full.Full.blocks.Goals as goal

pub loop-column-init : goal.loop-column-init
loop-column-init g c = record {
  count = ap length c.new-blocks.ensures.items;
  so_far = λ group k U M v d D is. items_none (λ j b. IsBlockAt U M (operation c.args.op.now) j b)
      c.new-blocks.result.items c.new-blocks.ensures.items;
}

pub block-requires-clause-column : goal.block-requires-clause-column
block-requires-clause-column g c =
    subst (λ n. c.loop-column.column < n) c.arms-column-end.ensures.count c.loop-column-test.true

pub loop-column-preserved : goal.loop-column-preserved
loop-column-preserved g c = record {
  count = ap length c.in_ok-push.ensures.items ∙ length-append c.loop-column.blocks.items (c.block.result ∷ []) ∙ ap
      (λ n. n + 1) c.loop-column.invariant.count;
  so_far = λ group k U M v d D is. items_more (λ j b. IsBlockAt U M (operation c.args.op.now) j b) c.loop-column.column
      c.loop-column.blocks.items
      c.push.new.self.items c.block.result (c.loop-column.invariant.so_far group k U M v d D is)
      c.in_ok-push.ensures.items
      (λ j e. c.block.ensures.block group k U M v d D is j e);
}

pub returns-clause-count : goal.returns-clause-count
returns-clause-count g c =
    let last : c.loop-column.column ≡ c.arms-column-end.result = search rules in
    c.loop-column.invariant.count ∙ last ∙ c.arms-column-end.ensures.count

pub returns-clause-blocks : goal.returns-clause-blocks
returns-clause-blocks g c group k U M v d D is =
    let so = c.loop-column.invariant.so_far group k U M v d D is in
    let last : c.loop-column.column ≡ c.arms-column-end.result = search rules in
    let all = last ∙ c.arms-column-end.ensures.count ∙ is.arms.count in
    record {
      count = so.count ∙ all;
      each = λ j b. so.item j b (subst (λ n. to_nat j < n) (sym all) (to_nat-lt j));
    }
