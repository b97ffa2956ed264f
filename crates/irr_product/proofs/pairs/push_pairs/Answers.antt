-- One more pair.
use Rattle.std.proofs.Common.{rules, ◌≡◌, sym, ◌∙◌, ap, subst, ℕ, ◌+◌, ◌*◌, ◌<◌, List, length}
use Rattle.irr_product.specs.Meetings.{AreEntries}
use Rattle.irr_product.proofs.PairEntries.{all_entries, one_entry, same_entries}
use Rattle.irr_product.proofs.pairs.push_pairs.Goals as goal

pub loop-b-init : goal.loop-b-init
loop-b-init g c group k w sums s old = same_entries s.given.left s.given.right _ _ c.args.pairs.now.items (search rules) old

pub loop-b-preserved : goal.loop-b-preserved
loop-b-preserved g c group k w sums s old =
    let l : c.loop-b.b < length c.args.right.now.fulls.items = search rules in
    one_entry s.given.left s.given.right c.args.a c.loop-b.b l
    c.loop-b.pairs.items c.push.new.self.items c.in_ok-pair.pair c.in_ok-push.ensures.items (c.loop-b.invariant group k w sums s old)
    (c.in_ok-pair.ensures group k w sums s)

pub returns : goal.returns
returns g c group k w sums s old =
    let done : c.loop-b.b ≡ length c.args.right.now.fulls.items = search rules in
    all_entries s.given.left s.given.right c.args.a c.loop-b.b done c.loop-b.pairs.items (c.loop-b.invariant group k w sums s old)
