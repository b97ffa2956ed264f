-- The reply for the group of generators.
use Rattle.std.proofs.Common.{sym, subst}
use Rattle.irr_kvec.specs.WaveMeaning.{wave_vector}
use Rattle.irr_rep.specs.Twisted.{phase_table, operation_places}
use Rattle.irr_top.specs.GroupOf.{group_of}
use Rattle.irr_top.specs.Question.Question.{star}
use Rattle.irr_top.specs.Answer.{IsTooLargeAt}
use Rattle.irr_top.proofs.StarTexts.{star_reply_of, no_star_of}
use Rattle.irr_top.proofs.star.star_reply.Goals as goal

pub text_star-requires : goal.text_star-requires
text_star-requires c = (wave_vector c.args.k.now, c.in_ok-arms-in-Ok.ensures, c.in-Ok.ensures.table)

pub returns-in_ok-text-in-Ok-clause-reply : goal.returns-in_ok-text-in-Ok-clause-reply
returns-in_ok-text-in-Ok-clause-reply c = λ gens is. star_reply_of c.args.group.now gens is (wave_vector c.args.k.now) (operation_places c.in-Ok.t)
    (phase_table c.in-Ok.t) c.in-Ok.ensures.table c.in-Ok.ensures.accepted c.in_ok-text-in-Ok.text.items
    (c.in_ok-text-in-Ok.ensures (wave_vector c.args.k.now) c.in_ok-arms-in-Ok.ensures c.in-Ok.ensures.table)

pub returns-in-Err-OrderTooLarge-clause-none : goal.returns-in-Err-OrderTooLarge-clause-none
returns-in-Err-OrderTooLarge-clause-none c = λ gens is.
    let f = rw c.in-Err-OrderTooLarge.field-0-is at c.in-Err-OrderTooLarge.ensures.refused in
    subst (IsTooLargeAt (star (wave_vector c.args.k.now)) (group_of gens)) (sym c.in-Err-OrderTooLarge.order-is)
    (no_star_of c.args.group.now gens is (wave_vector c.args.k.now) c.in-Err-OrderTooLarge.order f.0 f.1)
