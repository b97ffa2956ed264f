-- The text of the report at a wave vector.
use Rattle.std.proofs.Common.{refl, sym, subst}
use Rattle.irr_kvec.specs.WaveMeaning.{wave_vector}
use Rattle.irr_rep.specs.Twisted.{phase_table, operation_places}
use Rattle.irr_top.specs.GroupOf.{group_of}
use Rattle.irr_top.specs.Question.Question.{small}
use Rattle.irr_top.specs.Answer.{IsTooLargeAt}
use Rattle.irr_top.proofs.Orders.{first_above}
use Rattle.irr_top.proofs.SmallTexts.{small_text_of, table_steps, order_there}
use Rattle.irr_top.proofs.small.small_text.Goals as goal

pub table_text-requires-clause-steps : goal.table_text-requires-clause-steps
table_text-requires-clause-steps g c = table_steps c.args.group.now c.requires.group.0 c.requires.group.1 (wave_vector c.args.k.now)
    (wave_vector c.reduced_wave-wave.result) (c.reduced_wave-wave.ensures.reduced c.requires.group.0 c.requires.group.1)
    (operation_places c.in-Ok.t) (phase_table c.in-Ok.t) c.in-Ok.ensures.table c.in-Ok.ensures.accepted

pub returns-in_ok-text-in-Ok-clause-text : goal.returns-in_ok-text-in-Ok-clause-text
returns-in_ok-text-in-Ok-clause-text g c = λ gens is. small_text_of c.args.group.now gens is (wave_vector c.args.k.now) (wave_vector c.reduced_wave-wave.result)
    (c.reduced_wave-wave.ensures.reduced gens is) (operation_places c.in-Ok.t) (phase_table c.in-Ok.t) c.in-Ok.ensures.table c.in-Ok.ensures.accepted
    c.in_ok-text-in-Ok.text.items c.in_ok-text-in-Ok.ensures

pub returns-in-Err-OrderTooLarge-clause-none : goal.returns-in-Err-OrderTooLarge-clause-none
returns-in-Err-OrderTooLarge-clause-none g c = λ gens is.
    let f = rw c.in-Err-OrderTooLarge.field-0-is at c.in-Err-OrderTooLarge.ensures.refused in
    subst (IsTooLargeAt (small (wave_vector c.args.k.now)) (group_of gens)) (sym c.in-Err-OrderTooLarge.order-is)
    (first_above (small (wave_vector c.args.k.now)) (group_of gens) c.in-Err-OrderTooLarge.order (
      refl,
      order_there c.args.group.now gens is (wave_vector c.args.k.now) (wave_vector c.reduced_wave-wave.result)
          (c.reduced_wave-wave.ensures.reduced gens is) c.in-Err-OrderTooLarge.order f.0,
    ) f.1)
