-- The text at a reduced wave vector.
use Rattle.std.proofs.Common.{◌≡◌, subst₂, List, map}
use Rattle.irr_seitz.specs.PhaseMeaning.{sign_of}
use Rattle.irr_kvec.specs.WaveMeaning.{wave_vector}
use Rattle.irr_close.specs.StandsFor.{stands_for}
use Rattle.irr_mult.specs.declared.part.RepParts.{RepParts}
use Rattle.irr_subduce.specs.Restrictions.{rep_content}
use Rattle.irr_subduce.specs.SubduceText.{subduce_text}
use Rattle.irr_top.proofs.SubduceTexts.{not_refused, restriction_text_at}
use Rattle.irr_top.proofs.subduce.restrictions_text.Goals as goal

pub subduce-requires-clause-sub : goal.subduce-requires-clause-sub
subduce-requires-clause-sub c = (c.requires.sub.1.gens, c.requires.sub.1.is_sub)

pub unreachable-requires : goal.unreachable-requires
unreachable-requires c =
    let r = rw c.in-Err-OrderTooLarge.field-0-is at c.in-Err-OrderTooLarge.ensures.refused in
    absurd (not_refused (stands_for c.args.group.now) (wave_vector c.args.wave.now) c.args.order c.requires.order c.requires.within r)

pub returns-in_ok-text-in-Ok : goal.returns-in_ok-text-in-Ok
returns-in_ok-text-in-Ok c = restriction_text_at c.args.group.now c.args.sub.now (wave_vector c.args.wave.now) c.args.order
    c.requires.reduced c.requires.order c.in-Ok.reps.items c.in-Ok.ensures.restrictions c.in_ok-text-in-Ok.text.items
    (subst₂ (λ (rs : List RepParts) p. c.in_ok-text-in-Ok.text.items ≡ subduce_text 1 (sign_of p) record {
      order = c.args.order;
      wave = wave_vector c.args.wave.now;
      reps = map rep_content rs;
    }) c.deref.ensures.value c.phase.ensures c.in_ok-text-in-Ok.ensures)
