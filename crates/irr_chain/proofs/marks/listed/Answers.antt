-- One place more.
use Rattle.std.proofs.Common.{◌+◌, ◌<◌, sym, ◌∙◌, ap, subst, length, arith}
use Rattle.irr_chain.proofs.Markings.{Listing, listing-none, listing-push, listing-skip, marked-within}
use Rattle.irr_chain.proofs.marks.listed.Goals as goal
use Rattle.irr_chain.proofs.marks.listed.Goals.{then-marked+in_ok-push, else-marked}

pub loop-i-init : goal.loop-i-init
loop-i-init c = subst (λ v. Listing c.args.marks.now v 0) (sym c.new-members.ensures.items) (listing-none c.args.marks.now)

pub loop-i-preserved : goal.loop-i-preserved
loop-i-preserved c = elim c.if-marked.branch [
  | then-marked+in_ok-push w ↦ subst (λ v. Listing c.args.marks.now v (c.loop-i.i + 1)) (sym (ap (λ v. v.items) w.members-is ∙ w.in_ok-push.ensures.items))
      (listing-push c.args.marks.now c.loop-i.members.items c.loop-i.i c.loop-i.invariant w.if-marked.true)
  | else-marked w ↦ subst (λ v. Listing c.args.marks.now v (c.loop-i.i + 1)) (sym (ap (λ v. v.items) w.members-is))
      (listing-skip c.args.marks.now c.loop-i.members.items c.loop-i.i c.loop-i.invariant w.if-marked.false)
]

pub returns-clause-members : goal.returns-clause-members
returns-clause-members c = λ k. (
  c.loop-i.invariant.marked k,
  λ m. c.loop-i.invariant.complete k (let l : k < length c.args.marks.now = marked-within c.args.marks.now k m in omega arith) m,
)
