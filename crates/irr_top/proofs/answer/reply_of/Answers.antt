-- Why there is no reply to a task.
use Rattle.std.proofs.Common.{sym, subst, IfErr}
use Rattle.irr_top.specs.GroupOf.{group_of}
use Rattle.irr_top.specs.Answer.{IsNoReply}
use Rattle.irr_top.specs.Task.{asked_by}
use Rattle.irr_top.specs.declared.task.Task.{Task}
use Rattle.irr_top.proofs.answer.reply_of.Goals as goal

pub returns-in-Star-clause-none : goal.returns-in-Star-clause-none
returns-in-Star-clause-none c = λ gens is. subst (λ (t : Task). IfErr c.star_reply.result (IsNoReply (asked_by t) (group_of gens)))
    (sym c.in-Star.is) (c.star_reply.ensures.none gens is)

pub returns-in-Small-clause-none : goal.returns-in-Small-clause-none
returns-in-Small-clause-none c = λ gens is. subst (λ (t : Task). IfErr c.small_reply.result (IsNoReply (asked_by t) (group_of gens)))
    (sym c.in-Small.is) (c.small_reply.ensures.none gens is)

pub returns-in-Full-clause-none : goal.returns-in-Full-clause-none
returns-in-Full-clause-none c = λ gens is. subst (λ (t : Task). IfErr c.full_reply.result (IsNoReply (asked_by t) (group_of gens)))
    (sym c.in-Full.is) (c.full_reply.ensures.none gens is)

pub returns-in-Product-clause-none : goal.returns-in-Product-clause-none
returns-in-Product-clause-none c = λ gens is. subst (λ (t : Task). IfErr c.product_reply.result (IsNoReply (asked_by t) (group_of gens)))
    (sym c.in-Product.is) (c.product_reply.ensures.none gens is)

pub returns-in-Subduce-clause-none : goal.returns-in-Subduce-clause-none
returns-in-Subduce-clause-none c = λ gens is. subst (λ (t : Task). IfErr c.subduce_reply.result (IsNoReply (asked_by t) (group_of gens)))
    (sym c.in-Subduce.is) (c.subduce_reply.ensures.none gens is)

pub returns-in-Compat-clause-none : goal.returns-in-Compat-clause-none
returns-in-Compat-clause-none c = λ gens is. subst (λ (t : Task). IfErr c.compat_reply.result (IsNoReply (asked_by t) (group_of gens)))
    (sym c.in-Compat.is) (c.compat_reply.ensures.none gens is)

pub returns-in-Real-clause-none : goal.returns-in-Real-clause-none
returns-in-Real-clause-none c = λ gens is. subst (λ (t : Task). IfErr c.real_reply.result (IsNoReply (asked_by t) (group_of gens)))
    (sym c.in-Real.is) (c.real_reply.ensures.none gens is)

pub returns-in-Square-clause-none : goal.returns-in-Square-clause-none
returns-in-Square-clause-none c = λ gens is. subst (λ (t : Task). IfErr c.square_reply.result (IsNoReply (asked_by t) (group_of gens)))
    (sym c.in-Square.is) (c.square_reply.ensures.none gens is)

pub returns-in-Tensor-clause-none : goal.returns-in-Tensor-clause-none
returns-in-Tensor-clause-none c = λ gens is. subst (λ (t : Task). IfErr c.tensor_reply.result (IsNoReply (asked_by t) (group_of gens)))
    (sym c.in-Tensor.is) (c.tensor_reply.ensures.none gens is)

pub returns-in-Site-clause-none : goal.returns-in-Site-clause-none
returns-in-Site-clause-none c = λ gens is. subst (λ (t : Task). IfErr c.site_reply.result (IsNoReply (asked_by t) (group_of gens)))
    (sym c.in-Site.is) (c.site_reply.ensures.none gens is)

pub returns-in-Check-clause-none : goal.returns-in-Check-clause-none
returns-in-Check-clause-none c = λ gens is. subst (λ (t : Task). IfErr c.check_reply.result (IsNoReply (asked_by t) (group_of gens)))
    (sym c.in-Check.is) (c.check_reply.ensures.none gens is)

pub returns-in-Summary-clause-none : goal.returns-in-Summary-clause-none
returns-in-Summary-clause-none c = λ gens is. subst (λ (t : Task). IfErr c.made_reply.result (IsNoReply (asked_by t) (group_of gens)))
    (sym c.in-Summary.is) (c.made_reply.ensures.none gens is)
