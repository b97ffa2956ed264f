-- One more sum.
use Rattle.std.proofs.Common.{◌≡◌, sym, ◌∙◌, ap, subst, refl, ◌≤◌, ℕ, List, [], ◌∷◌, ◌++◌, append_assoc, append-nil, length, get_or, arith}
use Rattle.irr_kvec.specs.declared.wave.Wave.{Wave}
use Rattle.irr_little.specs.declared.arms.Arm.{Arm}
use Rattle.irr_product.specs.Sums.{IsSumOf, IsSummand}
use Rattle.irr_side.proofs.EachItems.{each_none, each_of_list}
use Rattle.irr_product.proofs.SumLists.{row_of_each}
use Rattle.irr_product.proofs.sums.push_sums.Goals as goal

reached : (n k : ℕ) → n ≤ k → k ≤ n → n ≡ k
reached n k below above = omega (arith, below, above)

-- what is made grows at its end
appended : (old before made after one : List Wave) → after ≡ before ++ one → before ≡ old ++ made
    → after ≡ old ++ (made ++ one)
appended old before made after one e f = e ∙ ap (λ xs. xs ++ one) f ∙ append_assoc old made one

pub loop-arm-init : goal.loop-arm-init
loop-arm-init c = (
  [],
  sym (append-nil c.args.sums.now.items),
  each_none (λ n (w : Wave). (d : Arm) → IsSumOf c.args.group.now c.args.wave.now (get_or c.args.arms.now n d).wave w) []
      refl,
)

pub sum-requires-clause-second : goal.sum-requires-clause-second
sum-requires-clause-second c = subst (λ (a : Arm). IsSummand c.args.n a.wave) (sym c.arm-item.is)
    (c.requires.arms c.loop-arm.arm-index c.arm-item.result c.loop-arm-test.true)

pub loop-arm-preserved : goal.loop-arm-preserved
loop-arm-preserved c =
    let made = c.loop-arm.invariant in
    let one : List Wave = c.sum.result ∷ [] in (
      made.0 ++ one,
      appended c.args.sums.now.items c.loop-arm.sums.items made.0 c.push.new.self.items one c.in_ok-push.ensures.items
          made.1,
      each_of_list (λ (a : Arm) (w : Wave). IsSumOf c.args.group.now c.args.wave.now a.wave w) c.args.arms.now
          c.loop-arm.arm-index c.loop-arm-test.true c.arm-item.result c.arm-item.is made.0 (made.0 ++ one) c.sum.result
          refl made.2 c.sum.ensures,
    )

pub returns : goal.returns
returns c =
    let made = c.loop-arm.invariant in (
      made.0,
      made.1,
      row_of_each c.args.group.now c.args.wave.now c.args.arms.now made.0 c.loop-arm.arm-index
          (reached c.loop-arm.arm-index (length c.args.arms.now) c.loop-arm.auto.arm-index-end c.loop-arm-test.false)
          made.2,
    )
