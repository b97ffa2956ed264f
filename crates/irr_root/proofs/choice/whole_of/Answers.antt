-- 1 times k.
use Rattle.std.proofs.Common.{◌≡◌, sym, ◌∙◌, subst, ◌*◌, ◌≤◌, ◌^◌, pos, to_z, w64, arith}
use Rattle.std.specs.Int.RustNames.{unsigned_abs}
use Rattle.std.proofs.lemmas.Int.{to_z_pos}
use Rattle.irr_number.specs.Number.{numbers}
use Rattle.irr_canonical.specs.RootSum.{IsRootSum}
use Rattle.irr_canonical.specs.Coefficient.{size}
use Rattle.irr_canonical.proofs.RootSums.{IsRootSum-more}
use Rattle.irr_root.proofs.WholeNumbers.{one-denominator, one-size, whole-small, whole_of_scaled}
use Rattle.irr_root.proofs.choice.whole_of.Goals as goal

pub scale-requires-clause-denominators : goal.scale-requires-clause-denominators
scale-requires-clause-denominators g c =
    let x = c.in_ok-one.one in
    let m = g.S.Scalar.order_of x in
    one-denominator m (g.met.S.Scalar.admitted_positive m (g.met.S.Scalar.order_admitted x)) (g.S.Scalar.value m x)
    (subst (λ u. g.S.Scalar.value u x ≡ (numbers u).one) (sym c.in_ok-one.ensures.order) c.in_ok-one.ensures.value)

pub scale-requires-clause-sizes : goal.scale-requires-clause-sizes
scale-requires-clause-sizes g c =
    let x = c.in_ok-one.one in
    let m = g.S.Scalar.order_of x in
    let is : to_z w64 c.args.k ≡ pos c.args.k = to_z_pos w64 c.args.k (let few : c.args.k ≤ 2304 = c.requires.few in omega (arith, few)) in
    subst (λ z. size m (g.S.Scalar.value m x) * unsigned_abs z ≤ 2 ^ 100) (sym is)
    (one-size m (g.met.S.Scalar.admitted_positive m (g.met.S.Scalar.order_admitted x)) (g.S.Scalar.value m x)
    (subst (λ u. g.S.Scalar.value u x ≡ (numbers u).one) (sym c.in_ok-one.ensures.order) c.in_ok-one.ensures.value)
    (g.met.S.Scalar.admitted_limited m (g.met.S.Scalar.order_admitted x)) c.args.k c.requires.few)

pub returns-clause-small : goal.returns-clause-small
returns-clause-small g c =
    let x = c.in_ok-one.one in
    let y = c.in_ok-scale.field-0 in
    let n = c.args.order.now.n in
    let is : to_z w64 c.args.k ≡ pos c.args.k = to_z_pos w64 c.args.k (let few : c.args.k ≤ 2304 = c.requires.few in omega (arith, few)) in
    record {
      has_order = c.in_ok-scale.ensures.order ∙ c.in_ok-one.ensures.order;
      few = subst (IsRootSum n 2304 1) (sym (whole_of_scaled g.S.Scalar.value (g.S.Scalar.order_of x) n c.args.k
          (to_z w64 c.args.k) x y c.in_ok-one.ensures.order c.in_ok-one.ensures.value is c.in_ok-scale.ensures.value))
          (IsRootSum-more n 2304 c.requires.few (whole-small n c.args.k));
    }

pub returns-clause-value : goal.returns-clause-value
returns-clause-value g c =
    let x = c.in_ok-one.one in
    let y = c.in_ok-scale.field-0 in
    let n = c.args.order.now.n in
    let is : to_z w64 c.args.k ≡ pos c.args.k = to_z_pos w64 c.args.k (let few : c.args.k ≤ 2304 = c.requires.few in omega (arith, few)) in
    whole_of_scaled g.S.Scalar.value (g.S.Scalar.order_of x) n c.args.k
    (to_z w64 c.args.k) x y c.in_ok-one.ensures.order c.in_ok-one.ensures.value is c.in_ok-scale.ensures.value
