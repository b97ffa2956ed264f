-- The reply for the group of generators.
use Rattle.std.proofs.Common.{sym, ◌∙◌, ap, subst, List, length, map}
use Rattle.irr_kvec.specs.WaveMeaning.{wave_vector}
use Rattle.irr_kvec.specs.declared.wave.Wave.{Wave}
use Rattle.irr_little.specs.Line.{IsFirstAbove}
use Rattle.irr_top.specs.CompatCommand.{other_points}
use Rattle.irr_top.specs.GroupOf.{group_of}
use Rattle.irr_top.specs.Question.Question.{compat}
use Rattle.irr_top.specs.Answer.{IsTooLargeAt}
use Rattle.irr_top.proofs.CompatTexts.{compat_refused, compat_reply_at, count_of, few_points, moved, points_limited, some_points}
use Rattle.irr_top.proofs.compat.compat_reply.Goals as goal

pub compat-requires-clause-points : goal.compat-requires-clause-points
compat-requires-clause-points c = some_points c.args.first.now (other_points c.args.second.now c.args.third.now) c.deref.result.now
    (c.deref.ensures.value ∙ c.in_ok-points.ensures)

pub compat-requires-clause-few : goal.compat-requires-clause-few
compat-requires-clause-few c = few_points c.args.first.now c.args.second.now c.args.third.now c.deref.result.now
    (c.deref.ensures.value ∙ c.in_ok-points.ensures)

pub compat-requires-clause-limits : goal.compat-requires-clause-limits
compat-requires-clause-limits c = points_limited c.args.first.now c.args.second.now c.args.third.now c.deref.result.now
    (c.deref.ensures.value ∙ c.in_ok-points.ensures) c.requires.limits c.requires.second_limits c.requires.third_limits

pub text_compat-requires : goal.text_compat-requires
text_compat-requires c =
    let first = c.args.first.now in
    let rest = other_points c.args.second.now c.args.third.now in
    let n = length (map wave_vector rest) in
    let points = c.deref.result.now in
    let others = c.deref-in-Ok.result.now in
    let count = count_of first rest in (
      n,
      first,
      ap length (c.deref-in-Ok.ensures.value ∙ c.in_ok-points.ensures) ∙ count,
      moved n first points others (c.deref.ensures.value ∙ sym c.deref-in-Ok.ensures.value)
          (c.in-Ok.ensures.table n first (ap length (c.deref.ensures.value ∙ c.in_ok-points.ensures) ∙ count)),
    )

pub returns-in-Ok-clause-reply : goal.returns-in-Ok-clause-reply
returns-in-Ok-clause-reply c = λ gens is.
    let first = c.args.first.now in
    let rest = other_points c.args.second.now c.args.third.now in
    let n = length (map wave_vector rest) in
    let points = c.deref.result.now in
    let others = c.deref-in-Ok.result.now in
    let count = count_of first rest in
    let all = c.deref-in-Ok.ensures.value ∙ c.in_ok-points.ensures in
    let table = moved n first points others (c.deref.ensures.value ∙ sym c.deref-in-Ok.ensures.value)
    (c.in-Ok.ensures.table n first (ap length (c.deref.ensures.value ∙ c.in_ok-points.ensures) ∙ count)) in
    compat_reply_at first rest c.args.group.now gens is _ _ others (sym all) first c.in-Ok.table table c.in_ok-text-in-Ok.text.items
    c.phase.result c.phase.ensures (c.in_ok-text-in-Ok.ensures n first (ap length all ∙ count) table)

pub returns-in-Err-OrderTooLarge-clause-none : goal.returns-in-Err-OrderTooLarge-clause-none
returns-in-Err-OrderTooLarge-clause-none c = λ gens is.
    let first = c.args.first.now in
    let rest = other_points c.args.second.now c.args.third.now in
    let f = rw c.in-Err-OrderTooLarge.field-0-is at c.in-Err-OrderTooLarge.ensures.refused in
    subst (IsTooLargeAt (compat (wave_vector first) (map wave_vector rest)) (group_of gens)) (sym c.in-Err-OrderTooLarge.order-is)
    (compat_refused first rest c.args.group.now gens is c.in-Err-OrderTooLarge.order
    (subst (λ (points : List Wave). IsFirstAbove c.args.group.now points c.in-Err-OrderTooLarge.order) (c.deref.ensures.value ∙ c.in_ok-points.ensures) f))
