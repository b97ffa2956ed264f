-- One more member of the first list.
use Rattle.std.proofs.Common.{rules, ◌≡◌, sym, ◌∙◌, ap, subst, ℕ, ◌+◌, ◌*◌, ◌<◌, List, [], length}
use native.Mathlib.Nat as Nat
use Rattle.irr_product.specs.Meetings.{AreEntries}
use Rattle.irr_product.proofs.PairEntries.{no_entries}
use Rattle.irr_product.proofs.pairs.pairs.Goals as goal

pub loop-a-init : goal.loop-a-init
loop-a-init g c group k w sums s = no_entries s.given.left s.given.right c.new-pairs.result.items c.new-pairs.ensures.items

pub loop-a-preserved : goal.loop-a-preserved
loop-a-preserved g c group k w sums s = c.in_ok-push_pairs.ensures group k w sums s (c.loop-a.invariant group k w sums s)

pub returns : goal.returns
returns g c group k w sums s =
    let done : c.loop-a.a ≡ length c.args.left.now.fulls.items = search rules in
    subst (λ n. AreEntries c.args.order.now.n s.given.left s.given.right (n * length c.args.right.now.fulls.items) c.loop-a.pairs.items)
    done (c.loop-a.invariant group k w sums s)
