-- A power of z and the number are compared at the order.
use Rattle.std.proofs.Common.{◌≡◌, sym, ◌∙◌, subst}
use Rattle.irr_mono.proofs.Sizes.{root_denominators, root_sizes}
use Rattle.irr_mono.proofs.columns.is_power.Goals as goal

pub equal-same-requires-clause-denominators : goal.equal-same-requires-clause-denominators
equal-same-requires-clause-denominators g c =
    let n = c.args.order.now.n in
    let power = c.in_ok-power.power in
    root_denominators (g.S.Scalar.order_of power) n c.in_ok-power.ensures.order (g.met.S.Scalar.admitted_positive n c.requires.admitted) g.S.Scalar.value power c.args.x.now c.args.e c.in_ok-power.ensures.value
    c.requires.denominator

pub equal-same-requires-clause-sizes : goal.equal-same-requires-clause-sizes
equal-same-requires-clause-sizes g c =
    let n = c.args.order.now.n in
    let power = c.in_ok-power.power in
    root_sizes (g.S.Scalar.order_of power) n c.in_ok-power.ensures.order (g.met.S.Scalar.admitted_positive n c.requires.admitted) g.S.Scalar.value power c.args.x.now c.args.e c.in_ok-power.ensures.value
    c.requires.size

pub returns : goal.returns
returns g c =
    let power = c.in_ok-power.power in
    let same = c.equal-same.ensures in (
      λ t. sym (subst (λ k. g.S.Scalar.value k power ≡ g.S.Scalar.value k c.args.x.now) c.in_ok-power.ensures.order (same.0 t)) ∙ c.in_ok-power.ensures.value,
      λ e. same.1 (subst (λ k. g.S.Scalar.value k power ≡ g.S.Scalar.value k c.args.x.now) (sym c.in_ok-power.ensures.order) (c.in_ok-power.ensures.value ∙ sym e)),
    )
