-- The reply for the group of generators.
use Rattle.std.proofs.Common.{sym, subst}
use Rattle.irr_kvec.specs.WaveMeaning.{wave_vector}
use Rattle.irr_rep.specs.Twisted.{phase_table, operation_places}
use Rattle.irr_top.specs.GroupOf.{group_of}
use Rattle.irr_top.specs.Question.Question.{summary}
use Rattle.irr_top.specs.Answer.{IsTooLargeAt}
use Rattle.irr_top.proofs.SmallTexts.{table_steps}
use Rattle.irr_top.proofs.SummaryTexts.{summary_reply_of, no_summary_of}
use Rattle.irr_top.proofs.made.made_reply.Goals as goal

pub summary-requires-clause-steps : goal.summary-requires-clause-steps
summary-requires-clause-steps c = table_steps c.args.group.now c.requires.group.0 c.requires.group.1 (wave_vector c.args.k.now)
    (wave_vector c.reduced_wave-wave.result) (c.reduced_wave-wave.ensures.reduced c.requires.group.0 c.requires.group.1)
    (operation_places c.in-Ok.t) (phase_table c.in-Ok.t) c.in-Ok.ensures.table c.in-Ok.ensures.accepted

pub returns-in_ok-text-in-Ok-clause-reply : goal.returns-in_ok-text-in-Ok-clause-reply
returns-in_ok-text-in-Ok-clause-reply c = λ gens is. summary_reply_of c.args.number c.args.lines c.args.group.now gens is
    (wave_vector c.args.k.now) (wave_vector c.reduced_wave-wave.result) (c.reduced_wave-wave.ensures.reduced gens is)
    (operation_places c.in-Ok.t) (phase_table c.in-Ok.t) c.in-Ok.ensures.table c.in-Ok.ensures.accepted
    c.in_ok-text-in-Ok.text.items c.in_ok-text-in-Ok.ensures

pub returns-in-Err-OrderTooLarge-clause-none : goal.returns-in-Err-OrderTooLarge-clause-none
returns-in-Err-OrderTooLarge-clause-none c = λ gens is.
    let f = rw c.in-Err-OrderTooLarge.field-0-is at c.in-Err-OrderTooLarge.ensures.refused in
    subst (IsTooLargeAt (summary c.args.number c.args.lines (wave_vector c.args.k.now)) (group_of gens)) (sym c.in-Err-OrderTooLarge.order-is)
    (no_summary_of c.args.number c.args.lines c.args.group.now gens is (wave_vector c.args.k.now) (wave_vector c.reduced_wave-wave.result)
    (c.reduced_wave-wave.ensures.reduced gens is) c.in-Err-OrderTooLarge.order f.0 f.1)
