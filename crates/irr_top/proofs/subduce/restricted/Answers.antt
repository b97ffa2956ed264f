-- The reply where there is a subgroup.
use Rattle.std.proofs.Common.{sym, subst}
use Rattle.irr_kvec.specs.WaveMeaning.{wave_vector}
use Rattle.irr_top.specs.GroupOf.{group_of}
use Rattle.irr_top.specs.Question.Question.{subduce}
use Rattle.irr_top.specs.Answer.{IsTooLargeAt}
use Rattle.irr_top.proofs.FullTexts.{reduced_there}
use Rattle.irr_top.proofs.SubduceTexts.{subduce_refused, subduce_reply_of}
use Rattle.irr_top.proofs.subduce.restricted.Goals as goal

pub restrictions_text-requires-clause-reduced : goal.restrictions_text-requires-clause-reduced
restrictions_text-requires-clause-reduced c = reduced_there c.args.group.now c.requires.group.0 c.requires.group.1
    (wave_vector c.args.k.now) (wave_vector c.reduced_wave-wave.result)
    (c.reduced_wave-wave.ensures.reduced c.requires.group.0 c.requires.group.1)

pub returns-in_ok-text-in-Ok-clause-reply : goal.returns-in_ok-text-in-Ok-clause-reply
returns-in_ok-text-in-Ok-clause-reply c = λ gens S is of.
    subduce_reply_of c.args.group.now gens is (wave_vector c.args.k.now) (wave_vector c.reduced_wave-wave.result)
    (c.reduced_wave-wave.ensures.reduced gens is) S c.args.sub.now of c.in-Ok.order c.in-Ok.ensures.order c.in-Ok.ensures.within
    c.in_ok-text-in-Ok.text.items c.in_ok-text-in-Ok.ensures

pub returns-in-Err-OrderTooLarge-clause-none : goal.returns-in-Err-OrderTooLarge-clause-none
returns-in-Err-OrderTooLarge-clause-none c = λ gens S is of.
    let f = rw c.in-Err-OrderTooLarge.field-0-is at c.in-Err-OrderTooLarge.ensures.refused in
    subst (IsTooLargeAt (subduce (wave_vector c.args.k.now) S) (group_of gens)) (sym c.in-Err-OrderTooLarge.order-is)
    (subduce_refused c.args.group.now gens is (wave_vector c.args.k.now) (wave_vector c.reduced_wave-wave.result)
    (c.reduced_wave-wave.ensures.reduced gens is) S c.args.sub.now of c.in-Err-OrderTooLarge.order f)
