-- One number more.
use Rattle.std.proofs.Common.{◌≡◌, sym, ◌∙◌, ap, subst, [], ◌∷◌, ◌+◌, ◌<◌, length, length-append, arith}
use Rattle.irr_rep.proofs.Rows.{FilledRows, filled-push}
use Rattle.irr_site.specs.Products.{IsRotationProduct}
use Rattle.irr_site.proofs.products.products.Goals as goal

pub loop-j-preserved : goal.loop-j-preserved
loop-j-preserved c =
    let n = length c.args.group.now.ops.items in
    let y = c.product_number-number.result in
    let longer : length c.push.new.self.items ≡ length c.loop-j.numbers.items + 1 = ap length c.in_ok-push.ensures.items
    ∙ length-append c.loop-j.numbers.items (y ∷ []) in
    record {
      size = c.loop-j.invariant.size;
      count = omega (arith, longer, c.loop-j.invariant.count);
      rows = subst (FilledRows n (IsRotationProduct c.args.group.now)) (sym c.in_ok-push.ensures.items)
          (filled-push n (IsRotationProduct c.args.group.now) c.loop-j.numbers.items c.loop-i.i c.loop-j.j y
          c.loop-j.invariant.rows c.loop-j.invariant.count (subst (λ m. c.loop-j.j < m) c.loop-j.invariant.size c.loop-j-test.true)
          c.product_number-number.ensures);
    }
