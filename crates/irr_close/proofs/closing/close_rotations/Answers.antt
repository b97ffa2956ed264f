use Rattle.std.proofs.Common.{◌∙◌, ap, ◌<◌, ◌≤◌, ◌++◌, ◌∷◌, [], length, arith}
use Rattle.irr_close.proofs.Keeping.{closed_further, longer-length}
use Rattle.irr_close.proofs.Identity.{start}
use Rattle.irr_close.proofs.closing.close_rotations.Goals as goal

pub loop-i-init : goal.loop-i-init
loop-i-init c = record {
  partial = start c.args.generators.now c.push.new.self.items c.identity_operation.result c.identity_operation.ensures.identity
      c.identity_operation.ensures.denominator
      (c.in_ok-push.ensures.items ∙ ap (λ ops. ops ++ c.identity_operation.result ∷ []) c.new-ops.ensures.items);
  within = omega arith;
  products = λ k l. absurd (omega arith);
}

pub loop-i-preserved : goal.loop-i-preserved
loop-i-preserved c = let l : c.loop-i.i < length c.loop-i.ops.items = omega arith in record {
  partial = c.in_ok-multiply.ensures.partial;
  within = (let m : length c.loop-i.ops.items ≤ length c.multiply.new.ops.items = longer-length c.loop-i.ops.items c.multiply.new.ops.items
      c.in_ok-multiply.ensures.longer in omega arith);
  products = closed_further c.args.generators.now c.loop-i.ops.items c.multiply.new.ops.items c.loop-i.i l c.in_ok-multiply.ensures.longer
      c.loop-i.invariant.products c.in_ok-multiply.ensures.products;
}
