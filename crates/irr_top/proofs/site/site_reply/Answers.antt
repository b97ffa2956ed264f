-- The reply for the group of generators.
use Rattle.std.proofs.Common.{sym, subst}
use Rattle.irr_rat.specs.VectorMeaning.{vector}
use Rattle.irr_kvec.specs.WaveMeaning.{wave_vector}
use Rattle.irr_seitz.specs.PhaseMeaning.{sign_of}
use Rattle.irr_close.specs.StandsFor.{stands_for}
use Rattle.irr_top.specs.GroupOf.{group_of}
use Rattle.irr_top.specs.Question.Question.{site}
use Rattle.irr_top.specs.Answer.{IsTooLargeAt}
use Rattle.irr_top.proofs.FullTexts.{reduced_there}
use Rattle.irr_top.proofs.SiteTexts.{content_order, site_refused, site_reply_of}
use Rattle.irr_top.proofs.site.site_reply.Goals as goal

pub site-requires-clause-point : goal.site-requires-clause-point
site-requires-clause-point c = record { numerators = c.requires.point.numerators; denominator = c.requires.point.denominator }

pub sites_text-requires-clause-reduced : goal.sites_text-requires-clause-reduced
sites_text-requires-clause-reduced c = reduced_there c.args.group.now c.requires.group.0 c.requires.group.1
    (wave_vector c.args.k.now) (wave_vector c.reduced_wave-wave.result)
    (c.reduced_wave-wave.ensures.reduced c.requires.group.0 c.requires.group.1)

pub returns-in_ok-text-in-Ok-clause-reply : goal.returns-in_ok-text-in-Ok-clause-reply
returns-in_ok-text-in-Ok-clause-reply c = λ gens is.
    let sites = c.in-Ok.ensures.sites in
    site_reply_of c.args.group.now gens is (vector c.args.x.now) (wave_vector c.args.k.now) (wave_vector c.reduced_wave-wave.result)
    (c.reduced_wave-wave.ensures.reduced gens is) sites.0
    (content_order (sign_of c.args.group.now.phase) (stands_for c.args.group.now) (vector c.args.x.now)
    (wave_vector c.reduced_wave-wave.result) sites.0 c.in-Ok.sites sites.2) sites.1
    c.in_ok-text-in-Ok.text.items c.in_ok-text-in-Ok.ensures

pub returns-in-Err-OrderTooLarge-clause-none : goal.returns-in-Err-OrderTooLarge-clause-none
returns-in-Err-OrderTooLarge-clause-none c = λ gens is.
    let f = rw c.in-Err-OrderTooLarge.field-0-is at c.in-Err-OrderTooLarge.ensures.refused in
    subst (IsTooLargeAt (site (vector c.args.x.now) (wave_vector c.args.k.now)) (group_of gens))
    (sym c.in-Err-OrderTooLarge.order-is)
    (site_refused c.args.group.now gens is (vector c.args.x.now) (wave_vector c.args.k.now) (wave_vector c.reduced_wave-wave.result)
    (c.reduced_wave-wave.ensures.reduced gens is) c.in-Err-OrderTooLarge.order f)
