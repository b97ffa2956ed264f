use Rattle.std.proofs.Common.{◌≡◌, sym, ◌∙◌, ap, subst, rules, ℕ, ◌<◌, ◌⊎◌, inl, inr, get_or, arith}
use Rattle.std.proofs.lemmas.Bool.{cases_lt}
use Rattle.std.proofs.lemmas.List.{get_or_default}
use Rattle.irr_seitz.specs.OperationMeaning.{operation}
use Rattle.irr_subduce.specs.Subgroup.{HasImage}
use Rattle.irr_subduce.proofs.images.first_outside.Goals as goal

pub loop-i-preserved : goal.loop-i-preserved
loop-i-preserved c = λ j l d. elim (cases_lt j c.loop-i.i) [
  | inl below ↦ c.loop-i.invariant j below d
  | inr above ↦ (let same : c.loop-i.i ≡ j = omega (arith, l, above) in
      subst (λ k. HasImage c.args.group.now c.args.setting.now (operation (get_or c.args.gens.now k d))) same
      (subst (λ o. HasImage c.args.group.now c.args.setting.now (operation o)) (c.index-gens-i.is ∙ get_or_default c.args.gens.now c.loop-i.i c.index-gens-i.result d c.loop-i-test.true)
      (c.has_image.ensures.0 c.if-not-has_image.false)))
]

pub returns-clause-none : goal.returns-clause-none
returns-clause-none c = λ _ k d l. c.loop-i.invariant k (let t = c.loop-i-test.false in omega (arith, l, t)) d
