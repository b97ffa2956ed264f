-- The least common multiple of few-digit numbers fits.
use Rattle.std.proofs.Common.{sym, refl, Option, IsNone, subst, subst₂, rules, ℕ, ◌≤◌, ◌^◌, arith}
use Rattle.irr_rat.specs.Lcm.{IsLcm}
use Rattle.irr_rat.proofs.Multiples.{lcm_exists}
use Rattle.irr_product.proofs.OrderSizes.{lcm_small}
use Rattle.irr_product.proofs.orders.common_multiple.Goals as goal

pub unreachable-requires : goal.unreachable-requires
unreachable-requires c =
    let p = c.args.p in
    let q = c.args.q in
    let m = lcm_exists p q c.requires.first in
    let small : m.0 ≤ 2 ^ 50 = lcm_small p q m.0 c.requires.first c.requires.second c.requires.small (search rules) m.1 in
    let at = subst₂ (λ a b. IsLcm a b m.0) (sym c.from.ensures) (sym c.from-2.ensures) m.1 in
    let large = c.lcm_checked.ensures.none.0 (subst (λ (r : Option ℕ). IsNone r) (sym c.in-None.is) refl) m.0 at in
    absurd (omega (arith, small, large))

pub returns-clause-common : goal.returns-clause-common
returns-clause-common c = subst₂ (λ a b. IsLcm a b c.in-Some.common) c.from.ensures c.from-2.ensures c.in-Some.ensures.least

pub returns-clause-small : goal.returns-clause-small
returns-clause-small c = lcm_small c.args.p c.args.q c.in-Some.common c.requires.first c.requires.second c.requires.small (search rules)
    (subst₂ (λ a b. IsLcm a b c.in-Some.common) c.from.ensures c.from-2.ensures c.in-Some.ensures.least)
