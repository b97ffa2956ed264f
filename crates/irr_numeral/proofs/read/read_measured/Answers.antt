-- The faults are those of the terms, and else the number is that of the scaled terms.
use Rattle.std.proofs.Common.{subst, refl, map, ◌∙◌, ◌<◌, ◌≤◌, arith}
use Rattle.irr_numeral.specs.declared.limits.TheConstants.{COEFFICIENT_LIMIT}
use Rattle.irr_numeral.specs.TermPlaces.{written_term}
use Rattle.irr_numeral.proofs.ReadSizes.{read-denominator, read-size}
use Rattle.irr_numeral.proofs.ReadNumbers.{read-of, small-terms, denominator-fault, size-fault, measured-as, read-as, scaled-exponents, scaled-size}
use Rattle.irr_numeral.proofs.read.read_measured.Goals as goal

pub common_denominator-requires : goal.common_denominator-requires
common_denominator-requires g c = small-terms c.args.order.now.n c.args.text.now (map written_term c.as_slice-terms.result.now)
    (read-of c.args.order.now.n c.n.result c.args.text.now c.in_ok-read.read.items c.as_slice-terms.result.now c.n.ensures.value
    c.as_slice-terms.ensures.value c.in_ok-read.ensures.are_terms c.in_ok-read.ensures.spells c.in_ok-read.ensures.ordered c.in_ok-read.ensures.not_zero
    c.in_ok-read.ensures.within)

pub size_within-requires-clause-small : goal.size_within-requires-clause-small
size_within-requires-clause-small g c = small-terms c.args.order.now.n c.args.text.now (map written_term c.as_slice-terms.result.now)
    (read-of c.args.order.now.n c.n.result c.args.text.now c.in_ok-read.read.items c.as_slice-terms.result.now c.n.ensures.value
    c.as_slice-terms.ensures.value c.in_ok-read.ensures.are_terms c.in_ok-read.ensures.spells c.in_ok-read.ensures.ordered c.in_ok-read.ensures.not_zero
    c.in_ok-read.ensures.within)

pub scaled_terms-requires-clause-small : goal.scaled_terms-requires-clause-small
scaled_terms-requires-clause-small g c = small-terms c.args.order.now.n c.args.text.now (map written_term c.as_slice-terms.result.now)
    (read-of c.args.order.now.n c.n.result c.args.text.now c.in_ok-read.read.items c.as_slice-terms.result.now c.n.ensures.value
    c.as_slice-terms.ensures.value c.in_ok-read.ensures.are_terms c.in_ok-read.ensures.spells c.in_ok-read.ensures.ordered c.in_ok-read.ensures.not_zero
    c.in_ok-read.ensures.within)

pub returns-in_default-clause-fault : goal.returns-in_default-clause-fault
returns-in_default-clause-fault g c = denominator-fault c.args.order.now.n c.args.text.now (map written_term c.as_slice-terms.result.now)
    (read-of c.args.order.now.n c.n.result c.args.text.now c.in_ok-read.read.items c.as_slice-terms.result.now c.n.ensures.value
    c.as_slice-terms.ensures.value c.in_ok-read.ensures.are_terms c.in_ok-read.ensures.spells c.in_ok-read.ensures.ordered c.in_ok-read.ensures.not_zero
    c.in_ok-read.ensures.within) (c.in_default.ensures.none refl)

pub returns-in_default-size_within-clause-fault : goal.returns-in_default-size_within-clause-fault
returns-in_default-size_within-clause-fault g c = size-fault c.args.order.now.n c.args.text.now (map written_term c.as_slice-terms.result.now)
    (read-of c.args.order.now.n c.n.result c.args.text.now c.in_ok-read.read.items c.as_slice-terms.result.now c.n.ensures.value
    c.as_slice-terms.ensures.value c.in_ok-read.ensures.are_terms c.in_ok-read.ensures.spells c.in_ok-read.ensures.ordered c.in_ok-read.ensures.not_zero
    c.in_ok-read.ensures.within) c.in-Some.den c.in-Some.ensures.common
    (λ h. (let over = c.in_default-size_within.ensures.none refl in omega (arith, over, h)))

pub from_terms-requires-clause-exponents : goal.from_terms-requires-clause-exponents
from_terms-requires-clause-exponents g c = scaled-exponents c.args.order.now.n c.args.text.now (map written_term c.as_slice-terms.result.now)
    (read-of c.args.order.now.n c.n.result c.args.text.now c.in_ok-read.read.items c.as_slice-terms.result.now c.n.ensures.value
    c.as_slice-terms.ensures.value c.in_ok-read.ensures.are_terms c.in_ok-read.ensures.spells c.in_ok-read.ensures.ordered c.in_ok-read.ensures.not_zero
    c.in_ok-read.ensures.within) c.in-Some.den c.as_slice.result.now (subst (λ k. 0 < k) c.n.ensures.value c.n.ensures.positive) (c.as_slice.ensures.value
    ∙ c.in_ok-scaled.ensures)

pub from_terms-requires-clause-size : goal.from_terms-requires-clause-size
from_terms-requires-clause-size g c = scaled-size c.args.order.now.n c.args.text.now (map written_term c.as_slice-terms.result.now)
    (read-of c.args.order.now.n c.n.result c.args.text.now c.in_ok-read.read.items c.as_slice-terms.result.now c.n.ensures.value
    c.as_slice-terms.ensures.value c.in_ok-read.ensures.are_terms c.in_ok-read.ensures.spells c.in_ok-read.ensures.ordered c.in_ok-read.ensures.not_zero
    c.in_ok-read.ensures.within) c.in-Some.den c.as_slice.result.now (subst (λ s. s ≤ COEFFICIENT_LIMIT) c.in-Some-size_within.ensures.size c.in-Some-size_within.ensures.within) (c.as_slice.ensures.value
    ∙ c.in_ok-scaled.ensures)

pub returns-clause-read : goal.returns-clause-read
returns-clause-read g c = read-as c.args.order.now.n c.args.text.now (map written_term c.as_slice-terms.result.now)
    (read-of c.args.order.now.n c.n.result c.args.text.now c.in_ok-read.read.items c.as_slice-terms.result.now c.n.ensures.value
    c.as_slice-terms.ensures.value c.in_ok-read.ensures.are_terms c.in_ok-read.ensures.spells c.in_ok-read.ensures.ordered c.in_ok-read.ensures.not_zero
    c.in_ok-read.ensures.within) c.in-Some.den (g.S.Scalar.value c.args.order.now.n c.in_ok-number.number) c.as_slice.result.now
    (subst (λ k. 0 < k) c.n.ensures.value c.n.ensures.positive) c.in-Some.ensures.common c.in-Some.ensures.within
    (subst (λ s. s ≤ COEFFICIENT_LIMIT) c.in-Some-size_within.ensures.size c.in-Some-size_within.ensures.within) (c.as_slice.ensures.value ∙ c.in_ok-scaled.ensures) c.in_ok-number.ensures.value

pub returns-clause-measured : goal.returns-clause-measured
returns-clause-measured g c = measured-as c.args.order.now.n c.args.text.now (map written_term c.as_slice-terms.result.now)
    (read-of c.args.order.now.n c.n.result c.args.text.now c.in_ok-read.read.items c.as_slice-terms.result.now c.n.ensures.value
    c.as_slice-terms.ensures.value c.in_ok-read.ensures.are_terms c.in_ok-read.ensures.spells c.in_ok-read.ensures.ordered c.in_ok-read.ensures.not_zero
    c.in_ok-read.ensures.within) c.in-Some.den c.in-Some-size_within.size c.in-Some.ensures.common c.in-Some.ensures.within
    c.in-Some-size_within.ensures.size c.in-Some-size_within.ensures.within

pub returns-clause-denominator : goal.returns-clause-denominator
returns-clause-denominator g c = read-denominator c.args.order.now.n c.args.text.now (g.S.Scalar.value c.args.order.now.n c.in_ok-number.number) (returns-clause-read g c)
    (subst (λ k. 0 < k) c.n.ensures.value c.n.ensures.positive)

pub returns-clause-size : goal.returns-clause-size
returns-clause-size g c = read-size c.args.order.now.n c.args.text.now (g.S.Scalar.value c.args.order.now.n c.in_ok-number.number) (returns-clause-read g c)
    (subst (λ k. 0 < k) c.n.ensures.value c.n.ensures.positive)
