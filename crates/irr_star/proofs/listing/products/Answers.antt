-- The products, one after another.
use Rattle.std.proofs.Common.{◌≤◌, subst, rules}
use Rattle.irr_star.proofs.StarLists.{products_all, products_none, products_push, products_row}
use Rattle.irr_star.proofs.listing.products.Goals as goal

pub overflow_cast-i-end : goal.overflow_cast-i-end
overflow_cast-i-end c = let few = c.requires.star.2.are_arms.few in search rules

pub loop-i-init : goal.loop-i-init
loop-i-init c = products_none c.args.group.now c.args.arms.now c.args.t.now c.new-products.result.items
    c.new-products.ensures.items

pub loop-p-preserved : goal.loop-p-preserved
loop-p-preserved c = products_push c.args.group.now c.args.arms.now c.args.t.now c.loop-i.i c.loop-p.p
    c.loop-p.products.items c.push.new.self.items
    c.product.result c.loop-p.invariant c.in_ok-push.ensures.items c.product.ensures.arm c.product.ensures.place
    c.product.ensures.product

pub loop-i-preserved : goal.loop-i-preserved
loop-i-preserved c = products_row c.args.group.now c.args.arms.now c.args.t.now c.loop-i.i c.loop-p.p
    c.loop-p.products.items c.loop-p.invariant
    (subst (λ n. n ≤ c.loop-p.p) c.len-p-end.ensures.count c.loop-p-test.false)

pub returns : goal.returns
returns c = products_all c.args.group.now c.args.arms.now c.args.t.now c.loop-i.i c.loop-i.products.items
    c.loop-i.invariant c.loop-i-test.false
