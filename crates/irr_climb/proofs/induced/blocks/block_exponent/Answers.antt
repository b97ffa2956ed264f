-- The exponents at the place of x g^b.
use Rattle.std.proofs.Common.{ℕ, ◌+◌, ◌-◌, ◌*◌, ◌<◌, ◌≤◌, ◌∙◌, sym, subst, ap, Fits, arith, rules}
use mir.Syntax.{w32}
use native.Mathlib.Nat as Nat
use Rattle.irr_algebra.proofs.Indices.{from_nat, to_nat-from_nat}
use Rattle.irr_clifford.specs.Formulas.{coset}
use Rattle.irr_rep.specs.Twisted.{phase_table, place_count}
use Rattle.irr_climb.proofs.InducedBlocks.{at_most_three, coset_number, exponent_is, exponent_number, exponent_small}
use Rattle.irr_climb.proofs.InducedBlocks.{member_below, member_number, part_below}
use Rattle.irr_climb.proofs.InducedPhases.{power_sum}
use Rattle.irr_climb.proofs.induced.blocks.block_exponent.Goals as goal

fits_limited : (k : ℕ) → k ≤ 600000000 → Fits w32 k
fits_limited k l = search rules

back_limited : (order sum : ℕ) → order ≤ 12000 → sum ≤ 48000 → (order - 1) * sum ≤ 12000 * 48000
back_limited order sum l m = Nat.mul-le-mul (let k : order - 1 ≤ 12000 = omega (arith, l) in k) m

total : (second before few : ℕ) → few ≤ 3 → second ≤ few * 12000 → before < 12000 → second + before ≤ 48000
total second before few f s b = omega (arith, f, s, b)

pub index-exponent-requires : goal.index-exponent-requires
index-exponent-requires c =
    let is = c.requires.step.1 in
    let l = subst (λ k. c.image_place-image.result < k) (sym is.exponents_count) c.image_place-image.ensures.within in search rules

pub index-part-requires : goal.index-part-requires
index-part-requires c =
    let is = c.requires.step.1 in
    let l = subst (λ k. c.image_place-image.result < k) (sym is.parts_count) c.image_place-image.ensures.within in search rules

pub index-member-requires : goal.index-member-requires
index-member-requires c =
    let is = c.requires.step.1 in
    let o = place_count c.args.step.now.outer in
    let k = c.image_place-image.result in
    let y = from_nat o k c.image_place-image.ensures.within in
    let l = subst (λ n. c.index-part.result.now < n) (sym is.members_count)
    (part_below is y k (to_nat-from_nat o k c.image_place-image.ensures.within) c.index-part.result.now c.index-part.ensures) in search rules

pub phase-before-requires-clause-column : goal.phase-before-requires-clause-column
phase-before-requires-clause-column c =
    let is = c.requires.step.1 in
    let o = place_count c.args.step.now.outer in
    let k = c.image_place-image.result in
    let y = from_nat o k c.image_place-image.ensures.within in
    member_below is y k (to_nat-from_nat o k c.image_place-image.ensures.within) c.index-part.result.now c.index-member.result.now
    c.index-part.ensures c.index-member.ensures

pub exponents_of_powers-first-requires-clause-few : goal.exponents_of_powers-first-requires-clause-few
exponents_of_powers-first-requires-clause-few c =
    let is = c.requires.step.1 in
    at_most_three is.quotient.index c.args.b is.two_or_three (subst (λ k. c.args.b < k) is.index c.requires.block)

pub exponents_of_powers-second-requires-clause-few : goal.exponents_of_powers-second-requires-clause-few
exponents_of_powers-second-requires-clause-few c =
    let is = c.requires.step.1 in
    let o = place_count c.args.step.now.outer in
    let k = c.image_place-image.result in
    let y = from_nat o k c.image_place-image.ensures.within in
    exponent_small is y k (to_nat-from_nat o k c.image_place-image.ensures.within) c.index-exponent.result.now c.index-exponent.ensures

pub overflow_add-result-2 : goal.overflow_add-result-2
overflow_add-result-2 c =
    let is = c.requires.step.1 in
    let o = place_count c.args.step.now.outer in
    let k = c.image_place-image.result in
    let y = from_nat o k c.image_place-image.ensures.within in
    let few = exponent_small is y k (to_nat-from_nat o k c.image_place-image.ensures.within) c.index-exponent.result.now c.index-exponent.ensures in
    let sum = total c.exponents_of_powers-second.result c.phase-before.result c.index-exponent.result.now few
    c.exponents_of_powers-second.ensures.small c.phase-before.ensures.limited in
    fits_limited (c.exponents_of_powers-second.result + c.phase-before.result) (omega (arith, sum))

pub overflow_mul-result : goal.overflow_mul-result
overflow_mul-result c =
    let is = c.requires.step.1 in
    let o = place_count c.args.step.now.outer in
    let k = c.image_place-image.result in
    let y = from_nat o k c.image_place-image.ensures.within in
    let few = exponent_small is y k (to_nat-from_nat o k c.image_place-image.ensures.within) c.index-exponent.result.now c.index-exponent.ensures in
    let sum = total c.exponents_of_powers-second.result c.phase-before.result c.index-exponent.result.now few
    c.exponents_of_powers-second.ensures.small c.phase-before.ensures.limited in
    let back = back_limited c.order-order.result (c.exponents_of_powers-second.result + c.phase-before.result) c.order-order.ensures.within sum in
    fits_limited ((c.order-order.result - 1) * (c.exponents_of_powers-second.result + c.phase-before.result)) (omega (arith, back))

pub overflow_add-result-3 : goal.overflow_add-result-3
overflow_add-result-3 c =
    let is = c.requires.step.1 in
    let o = place_count c.args.step.now.outer in
    let k = c.image_place-image.result in
    let y = from_nat o k c.image_place-image.ensures.within in
    let few = exponent_small is y k (to_nat-from_nat o k c.image_place-image.ensures.within) c.index-exponent.result.now c.index-exponent.ensures in
    let sum = total c.exponents_of_powers-second.result c.phase-before.result c.index-exponent.result.now few
    c.exponents_of_powers-second.ensures.small c.phase-before.ensures.limited in
    let back = back_limited c.order-order.result (c.exponents_of_powers-second.result + c.phase-before.result) c.order-order.ensures.within sum in
    let three = at_most_three is.quotient.index c.args.b is.two_or_three (subst (λ k. c.args.b < k) is.index c.requires.block) in
    let front = total c.exponents_of_powers-first.result c.phase-behind.result c.args.b three c.exponents_of_powers-first.ensures.small
    c.phase-behind.ensures.limited in
    fits_limited (c.exponents_of_powers-first.result + c.phase-behind.result
    + (c.order-order.result - 1) * (c.exponents_of_powers-second.result + c.phase-before.result)) (omega (arith, front, back))

pub returns : goal.returns
returns c M is p a e f =
    let T = phase_table c.args.step.now.outer in
    let k = c.image_place-image.result in
    let y = T.product p (coset is.quotient a) in
    let image = sym (c.image_place-image.ensures.image M is p a e f) in
    let n = c.index-exponent.result.now in
    let exponent = exponent_number is y k image n c.index-exponent.ensures in
    exponent_is is p a c.exponents_of_powers-first.result c.phase-behind.result c.order-order.result c.exponents_of_powers-second.result
    c.phase-before.result
    (c.exponents_of_powers-first.ensures.sum M is ∙ ap (power_sum T M is.outer_divides is.quotient) (sym f))
    (c.phase-behind.ensures.exponent p (coset is.quotient a) e
    (coset_number is a c.args.b c.generator_power-power.result f (c.generator_power-power.ensures.power M is)))
    c.order-order.ensures.order
    (c.exponents_of_powers-second.ensures.sum M is ∙ ap (power_sum T M is.outer_divides is.quotient) exponent)
    (c.phase-before.ensures.exponent (coset is.quotient (is.quotient.exponent y)) (is.part.place (is.quotient.part y))
    (coset_number is (is.quotient.exponent y) n c.generator_power-top.result (sym exponent) (c.generator_power-top.ensures.power M is))
    (sym (member_number is y k image c.index-part.result.now c.index-member.result.now c.index-part.ensures c.index-member.ensures)))
