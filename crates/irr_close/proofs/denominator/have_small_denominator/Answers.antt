use Rattle.std.proofs.Common.{◌≡◌, subst, refl, ℕ, ◌^◌, ◌≤◌, IsTrue, true, false}
use Rattle.irr_rat.specs.Lcm.{IsLcm}
use Rattle.irr_close.proofs.Multiples.{least_start, least_more, too_large, no_multiple}
use Rattle.irr_close.proofs.denominator.have_small_denominator.Goals as goal

not_true : {A : Type 0} → IsTrue false → A
not_true h = let e : false ≡ true = h in absurd (cc)

pub loop-generator-init : goal.loop-generator-init
loop-generator-init c = least_start c.args.generators.now

pub loop-generator-preserved : goal.loop-generator-preserved
loop-generator-preserved c = least_more c.args.generators.now c.generator-item.result c.loop-generator.common c.loop-generator.generator-index
    c.in-Some.multiple c.loop-generator-test.true c.generator-item.is c.loop-generator.invariant
    (subst (λ n. IsLcm c.loop-generator.common n c.in-Some.multiple) c.from.ensures c.in-Some.ensures.least) c.if-multiple-gt100000.false

pub returns-then-multiple-gt100000 : goal.returns-then-multiple-gt100000
returns-then-multiple-gt100000 c = (
  not_true,
  λ h. absurd (too_large c.args.generators.now c.generator-item.result c.loop-generator.common c.loop-generator.generator-index c.in-Some.multiple
      c.loop-generator-test.true c.generator-item.is c.loop-generator.invariant
      (subst (λ n. IsLcm c.loop-generator.common n c.in-Some.multiple) c.from.ensures c.in-Some.ensures.least) c.if-multiple-gt100000.true h),
)

pub returns-in-None : goal.returns-in-None
returns-in-None c = (
  not_true,
  λ h. absurd (no_multiple c.args.generators.now c.generator-item.result c.loop-generator.common c.loop-generator.generator-index
      c.loop-generator-test.true c.generator-item.is c.loop-generator.invariant
      (subst (λ n. (m : ℕ) → IsLcm c.loop-generator.common n m → 2 ^ 64 ≤ m) c.from.ensures (c.in-None.ensures.none.0 refl)) h),
)
