use Rattle.std.proofs.Common.{◌≡◌, ◌∙◌, subst, inl, inr, get_or, arith}
use Rattle.std.proofs.lemmas.Bool.{cases_lt}
use Rattle.std.proofs.lemmas.List.{get_or_default}
use Rattle.irr_space.specs.Reciprocal.{AreEquivalent}
use Rattle.irr_kvec.specs.WaveMeaning.{wave_vector}
use Rattle.irr_kvec.specs.Centrings.{LatticeOf}
use Rattle.irr_little.specs.declared.arms.Arm.{Arm}
use Rattle.irr_little.proofs.arms.is_new.Goals as goal

pub loop-arm-preserved : goal.loop-arm-preserved
loop-arm-preserved c = λ j d l. elim (cases_lt j c.loop-arm.arm-index) [
  | inl b ↦ c.loop-arm.invariant j d b
  | inr a ↦ (let e : c.loop-arm.arm-index ≡ j = omega arith in
      subst (λ n. ¬ (AreEquivalent (LatticeOf c.args.centrings.now) (wave_vector (get_or c.args.arms.now n d).wave) (wave_vector c.args.wave.now))) e
      (subst (λ (a : Arm). ¬ (AreEquivalent (LatticeOf c.args.centrings.now) (wave_vector a.wave) (wave_vector c.args.wave.now)))
      (c.arm-item.is ∙ get_or_default c.args.arms.now c.loop-arm.arm-index c.arm-item.result d c.loop-arm-test.true)
      (λ h. cc (c.equivalent.ensures.1 h, c.if-equivalent.false))))
]

pub returns-clause-new : goal.returns-clause-new
returns-clause-new c = λ t i d l. c.loop-arm.invariant i d (omega arith)
