-- The reply for the group of generators.
use Rattle.std.proofs.Common.{◌≡◌, ◌∙◌, ap, subst, List}
use Rattle.irr_kvec.specs.WaveMeaning.{wave_vector}
use Rattle.irr_seitz.specs.declared.op.Op.{Op}
use Rattle.irr_input.specs.InputLines.{content_of_sub}
use Rattle.irr_input.specs.declared.input.GenLine.{GenLine}
use Rattle.irr_subduce.specs.Subgroup.{IsRefused}
use Rattle.irr_top.specs.Asked.{operations_of}
use Rattle.irr_top.proofs.LimitedSections.{few_generators, small_generators, unimodular_generators}
use Rattle.irr_top.proofs.SubduceTexts.{none_reply_of}
use Rattle.irr_top.proofs.Subgroups.{sub_of}
use Rattle.irr_top.proofs.subduce.subduce_reply.Goals as goal

same : {gens made : List Op} {lines items : List GenLine} → gens ≡ made → made ≡ operations_of lines → lines ≡ items → gens ≡ operations_of items
same a b e = a ∙ b ∙ ap operations_of e

pub subgroup-requires-clause-gens : goal.subgroup-requires-clause-gens
subgroup-requires-clause-gens c = small_generators c.args.section.now.gens.items c.deref-2.result.now
    (same c.deref-2.ensures.value c.in_ok-gens.ensures c.deref.ensures.value) c.requires.section.readable

pub subgroup-requires-clause-unimodular : goal.subgroup-requires-clause-unimodular
subgroup-requires-clause-unimodular c = unimodular_generators c.args.section.now.gens.items c.deref-2.result.now
    (same c.deref-2.ensures.value c.in_ok-gens.ensures c.deref.ensures.value) c.requires.section.readable

pub subgroup-requires-clause-few : goal.subgroup-requires-clause-few
subgroup-requires-clause-few c = few_generators c.args.section.now.gens.items c.deref-2.result.now
    (same c.deref-2.ensures.value c.in_ok-gens.ensures c.deref.ensures.value) c.requires.section.few

pub restricted-requires-clause-sub : goal.restricted-requires-clause-sub
restricted-requires-clause-sub c = (
  content_of_sub c.args.section.now,
  sub_of c.args.group.now c.args.section.now c.deref-2.result.now c.in-Ok.sub
      (same c.deref-2.ensures.value c.in_ok-gens.ensures c.deref.ensures.value) c.in-Ok.ensures.sub,
)

pub returns-in-Ok-clause-reply : goal.returns-in-Ok-clause-reply
returns-in-Ok-clause-reply c = λ gens is. c.restricted.ensures.reply gens (content_of_sub c.args.section.now) is
    (sub_of c.args.group.now c.args.section.now c.deref-2.result.now c.in-Ok.sub
    (same c.deref-2.ensures.value c.in_ok-gens.ensures c.deref.ensures.value) c.in-Ok.ensures.sub)

pub returns-in-Ok-clause-none : goal.returns-in-Ok-clause-none
returns-in-Ok-clause-none c = λ gens is. c.restricted.ensures.none gens (content_of_sub c.args.section.now) is
    (sub_of c.args.group.now c.args.section.now c.deref-2.result.now c.in-Ok.sub
    (same c.deref-2.ensures.value c.in_ok-gens.ensures c.deref.ensures.value) c.in-Ok.ensures.sub)

pub refused-requires : goal.refused-requires
refused-requires c = record {
  refused = (
    c.args.group.now,
    subst (λ (gs : List Op). IsRefused c.args.group.now c.args.section.now.setting gs c.in-Err.error)
        (same c.deref-2.ensures.value c.in_ok-gens.ensures c.deref.ensures.value) c.in-Err.ensures.refused,
  );
}

pub returns-clause-reply : goal.returns-clause-reply
returns-clause-reply c = λ gens is.
    let told = c.in_ok-reply-in-Err.ensures.status c.args.group.now
    (subst (λ (gs : List Op). IsRefused c.args.group.now c.args.section.now.setting gs c.in-Err.error)
    (same c.deref-2.ensures.value c.in_ok-gens.ensures c.deref.ensures.value) c.in-Err.ensures.refused) in
    let r = none_reply_of c.args.group.now gens is (wave_vector c.args.k.now) (content_of_sub c.args.section.now)
    c.in_ok-reply-in-Err.reply.status told in
    (r.0, r.1 c.in_ok-reply-in-Err.reply.text.items c.in_ok-reply-in-Err.ensures.text)
