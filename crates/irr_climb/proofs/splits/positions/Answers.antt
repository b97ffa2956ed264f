-- One position more.
use Rattle.std.proofs.Common.{◌≡◌, ◌<◌, length, slice_index}
use Rattle.irr_climb.proofs.Pushed.{each_pushed, one_longer}
use Rattle.irr_climb.proofs.splits.positions.Goals as goal

pub loop-value-preserved : goal.loop-value-preserved
loop-value-preserved c =
    let at = c.loop-value.at.items in
    let k = c.loop-value.value-index in
    let items = c.in_ok-push.ensures.items in
    let list = c.args.list.now in
    record {
      count = one_longer at c.push.new.self.items c.position.result k c.loop-value.invariant.count items;
      within = each_pushed (λ a x. x < length list) at c.push.new.self.items c.position.result k c.loop-value.invariant.count items
          c.loop-value.invariant.within c.position.ensures.within;
      values = each_pushed (λ a x. slice_index list x ≡ slice_index c.args.values.now a) at c.push.new.self.items c.position.result k
          c.loop-value.invariant.count items c.loop-value.invariant.values c.position.ensures.value;
    }
