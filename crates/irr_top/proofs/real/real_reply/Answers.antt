-- The reply for the group of generators.
use Rattle.std.proofs.Common.{refl, sym, subst}
use Rattle.irr_kvec.specs.WaveMeaning.{wave_vector}
use Rattle.irr_rep.specs.Twisted.{phase_table, operation_places}
use Rattle.irr_top.specs.GroupOf.{group_of}
use Rattle.irr_top.specs.Question.Question.{real}
use Rattle.irr_top.specs.Answer.{IsTooLargeAt}
use Rattle.irr_top.proofs.Orders.{first_above}
use Rattle.irr_top.proofs.SmallTexts.{order_there, order_of_table, table_steps}
use Rattle.irr_top.proofs.FullTexts.{reduced_there}
use Rattle.irr_top.proofs.RealTexts.{real_reply_of}
use Rattle.irr_top.proofs.real.real_reply.Goals as goal

pub types_text-requires-clause-reduced : goal.types_text-requires-clause-reduced
types_text-requires-clause-reduced c = reduced_there c.args.group.now c.requires.group.0 c.requires.group.1
    (wave_vector c.args.k.now)
    (wave_vector c.reduced_wave-wave.result)
    (c.reduced_wave-wave.ensures.reduced c.requires.group.0 c.requires.group.1)

pub types_text-requires-clause-steps : goal.types_text-requires-clause-steps
types_text-requires-clause-steps c = table_steps c.args.group.now c.requires.group.0 c.requires.group.1
    (wave_vector c.args.k.now)
    (wave_vector c.reduced_wave-wave.result)
    (c.reduced_wave-wave.ensures.reduced c.requires.group.0 c.requires.group.1)
    (operation_places c.in-Ok.t) (phase_table c.in-Ok.t) c.in-Ok.ensures.table c.in-Ok.ensures.accepted

pub returns-in_ok-text-in-Ok-clause-reply : goal.returns-in_ok-text-in-Ok-clause-reply
returns-in_ok-text-in-Ok-clause-reply c = λ gens is.
    let k = wave_vector c.args.k.now in
    let w = wave_vector c.reduced_wave-wave.result in
    let reduced = c.reduced_wave-wave.ensures.reduced gens is in
    let order = order_of_table c.args.group.now gens is k w reduced (operation_places c.in-Ok.t)
    (phase_table c.in-Ok.t)
    c.in-Ok.ensures.table c.in-Ok.ensures.accepted in
    real_reply_of c.args.group.now gens is k w reduced (phase_table c.in-Ok.t).order order c.in-Ok.ensures.accepted
    c.in_ok-text-in-Ok.text.items c.in_ok-text-in-Ok.ensures

pub returns-in-Err-OrderTooLarge-clause-none : goal.returns-in-Err-OrderTooLarge-clause-none
returns-in-Err-OrderTooLarge-clause-none c = λ gens is.
    let f = rw c.in-Err-OrderTooLarge.field-0-is at c.in-Err-OrderTooLarge.ensures.refused in
    subst (IsTooLargeAt (real (wave_vector c.args.k.now)) (group_of gens)) (sym c.in-Err-OrderTooLarge.order-is)
    (first_above (real (wave_vector c.args.k.now)) (group_of gens) c.in-Err-OrderTooLarge.order (
      refl,
      order_there c.args.group.now gens is (wave_vector c.args.k.now) (wave_vector c.reduced_wave-wave.result)
          (c.reduced_wave-wave.ensures.reduced gens is) c.in-Err-OrderTooLarge.order f.0,
    ) f.1)
