-- The reply for the group of generators.
use Rattle.std.proofs.Common.{sym, subst}
use Rattle.irr_report.specs.Content.{content_of}
use Rattle.irr_top.specs.GroupOf.{group_of}
use Rattle.irr_top.specs.Question.Question.{check}
use Rattle.irr_top.specs.Answer.{IsTooLargeAt}
use Rattle.irr_top.proofs.Judgements.{reply_along, verdict_within, no_verdict_along}
use Rattle.irr_top.proofs.check.check_reply.Goals as goal

pub returns-in_ok-reply-in-Ok-clause-reply : goal.returns-in_ok-reply-in-Ok-clause-reply
returns-in_ok-reply-in-Ok-clause-reply c = λ gens is. (
  verdict_within c.args.group.now gens is (content_of c.args.report.now) c.in-Ok.ensures.verdict c.in-Ok.ensures.accepted,
  reply_along c.args.group.now gens is (content_of c.args.report.now) c.in-Ok.ensures.verdict c.in_ok-reply-in-Ok.ensures.status
      c.in_ok-reply-in-Ok.ensures.text,
)

pub returns-in-Err-OrderTooLarge-clause-none : goal.returns-in-Err-OrderTooLarge-clause-none
returns-in-Err-OrderTooLarge-clause-none c = λ gens is.
    let f = rw c.in-Err-OrderTooLarge.field-0-is at c.in-Err-OrderTooLarge.ensures.refused in
    subst (IsTooLargeAt (check (content_of c.args.report.now)) (group_of gens)) (sym c.in-Err-OrderTooLarge.order-is)
    (no_verdict_along c.args.group.now gens is (content_of c.args.report.now) c.in-Err-OrderTooLarge.order f.0 f.1)
