-- The matrices one after another.
use Rattle.std.proofs.Common.{◌≡◌, sym, subst, rules}
use Rattle.irr_rep.specs.Defects.{IsMatrix}
use Rattle.irr_rep.specs.Twisted.{place_count}
use Rattle.irr_climb.specs.Steps.{large}
use Rattle.irr_climb.proofs.ExtensionLists.{matrices_more, matrices_none, matrices_read}
use Rattle.irr_climb.proofs.extensions.others.other_extension.Goals as goal

pub loop-x-init : goal.loop-x-init
loop-x-init g c is d E K r k = matrices_none c.args.order.now.n d K.at c.new-mats.result.items c.new-mats.ensures.items

pub loop-x-preserved : goal.loop-x-preserved
loop-x-preserved g c is d E K r k = matrices_more c.args.order.now.n d K.at c.loop-x.x c.loop-x.mats.items c.push.new.self.items c.in_ok-matrix.matrix
    (c.loop-x.invariant is d E K r k) c.in_ok-push.ensures.items
    (λ i q. subst (λ u. IsMatrix c.args.order.now.n d u c.in_ok-matrix.matrix) (sym (k i)) (c.in_ok-matrix.ensures is d E r i q))

pub returns : goal.returns
returns g c is d E K r k =
    let done : c.loop-x.x ≡ place_count c.args.step.now.outer = search rules in
    matrices_read c.args.order.now.n (large is) K _ r.size r.shape.positive c.loop-x.x done (c.loop-x.invariant is d E K r k)
