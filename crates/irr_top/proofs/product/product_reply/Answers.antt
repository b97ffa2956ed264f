-- The reply for the group of generators.
use Rattle.std.proofs.Common.{sym, subst}
use Rattle.irr_kvec.specs.WaveMeaning.{wave_vector}
use Rattle.irr_top.specs.GroupOf.{group_of}
use Rattle.irr_top.specs.Question.Question.{product}
use Rattle.irr_top.specs.Answer.{IsTooLargeAt}
use Rattle.irr_top.proofs.FullTexts.{reduced_there}
use Rattle.irr_top.proofs.ProductTexts.{product_refused, product_reply_of}
use Rattle.irr_top.proofs.product.product_reply.Goals as goal

pub products_text-requires-clause-reduced : goal.products_text-requires-clause-reduced
products_text-requires-clause-reduced c = reduced_there c.args.group.now c.requires.group.0 c.requires.group.1
    (wave_vector c.args.k1.now) (wave_vector c.reduced_wave-first.result)
    (c.reduced_wave-first.ensures.reduced c.requires.group.0 c.requires.group.1)

pub products_text-requires-clause-other_reduced : goal.products_text-requires-clause-other_reduced
products_text-requires-clause-other_reduced c = reduced_there c.args.group.now c.requires.group.0 c.requires.group.1
    (wave_vector c.args.k2.now) (wave_vector c.reduced_wave-second.result)
    (c.reduced_wave-second.ensures.reduced c.requires.group.0 c.requires.group.1)

pub returns-in_ok-text-in-Ok-clause-reply : goal.returns-in_ok-text-in-Ok-clause-reply
returns-in_ok-text-in-Ok-clause-reply c = λ gens is.
    product_reply_of c.args.group.now gens is (wave_vector c.args.k1.now) (wave_vector c.args.k2.now)
    (wave_vector c.reduced_wave-first.result) (wave_vector c.reduced_wave-second.result)
    (c.reduced_wave-first.ensures.reduced gens is) (c.reduced_wave-second.ensures.reduced gens is)
    c.in-Ok.order c.in-Ok.ensures.order c.in-Ok.ensures.within
    c.in_ok-text-in-Ok.text.items c.in_ok-text-in-Ok.ensures

pub returns-in-Err-OrderTooLarge-clause-none : goal.returns-in-Err-OrderTooLarge-clause-none
returns-in-Err-OrderTooLarge-clause-none c = λ gens is.
    let f = rw c.in-Err-OrderTooLarge.field-0-is at c.in-Err-OrderTooLarge.ensures.refused in
    subst (IsTooLargeAt (product (wave_vector c.args.k1.now) (wave_vector c.args.k2.now)) (group_of gens))
    (sym c.in-Err-OrderTooLarge.order-is)
    (product_refused c.args.group.now gens is (wave_vector c.args.k1.now) (wave_vector c.args.k2.now)
    (wave_vector c.reduced_wave-first.result) (wave_vector c.reduced_wave-second.result)
    (c.reduced_wave-first.ensures.reduced gens is) (c.reduced_wave-second.ensures.reduced gens is)
    c.in-Err-OrderTooLarge.order f)
