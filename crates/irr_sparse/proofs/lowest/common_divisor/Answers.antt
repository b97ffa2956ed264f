-- From one coefficient to the next.
use Rattle.std.proofs.Common.{◌≡◌, ◌∙◌, ap, subst, rules, ◌<◌, ◌≤◌, ◌^◌, ◌%◌, length, unsigned_abs, arith}
use Rattle.std.proofs.lemmas.Int.{to_z-of_z}
use Rattle.std.specs.Int.{IsGcd}
use Rattle.std.specs.Int.RustNames.{FitsSigned}
use mir.Syntax.{w128}
use native.Mathlib.Nat as Nat
use Rattle.irr_sparse.specs.TermList.{coefficient_at}
use Rattle.irr_sparse.proofs.Divisors.{divisor-one, divisor-start, divisor-step}
use Rattle.irr_sparse.proofs.lowest.common_divisor.Goals as goal

pub loop-coefficient-init : goal.loop-coefficient-init
loop-coefficient-init c = divisor-start c.args.terms.now c.args.den c.requires

pub loop-coefficient-preserved : goal.loop-coefficient-preserved
loop-coefficient-preserved c =
    let fits : FitsSigned w128 (coefficient_at c.args.terms.now c.loop-coefficient.coefficient-index) = search rules in
    let value : c.unsigned_abs.result ≡ unsigned_abs (coefficient_at c.args.terms.now c.loop-coefficient.coefficient-index) = c.unsigned_abs.ensures.value ∙ ap unsigned_abs (to_z-of_z w128 (coefficient_at c.args.terms.now c.loop-coefficient.coefficient-index) fits) in
    let by : c.from.result ≡ c.loop-coefficient.divisor = c.from.ensures in
    divisor-step c.args.terms.now c.args.den c.loop-coefficient.coefficient-index c.loop-coefficient.divisor c.gcd-divisor.result c.loop-coefficient.invariant
    (subst (λ x. IsGcd c.loop-coefficient.divisor x c.gcd-divisor.result) (λ i. value i % by i) c.gcd-divisor.ensures)

pub overflow_cast-rest : goal.overflow_cast-rest
overflow_cast-rest c =
    let le : c.loop-coefficient.divisor ≤ c.args.den = Nat.le_of_dvd c.requires c.loop-coefficient.invariant.denominator in
    let lt : c.unsigned_abs.result % c.loop-coefficient.divisor < c.loop-coefficient.divisor = Nat.mod-lt c.unsigned_abs.result c.loop-coefficient.invariant.positive in
    let same : c.unsigned_abs.result % c.from.result ≡ c.unsigned_abs.result % c.loop-coefficient.divisor = ap (λ x. c.unsigned_abs.result % x) c.from.ensures in
    let den : c.args.den < 2 ^ 64 = search rules in
    let below : c.unsigned_abs.result % c.from.result < 2 ^ 64 = omega arith in
    search rules

pub returns-then-divisor-eq1-clause-denominator : goal.returns-then-divisor-eq1-clause-denominator
returns-then-divisor-eq1-clause-denominator c = (divisor-one c.args.terms.now c.args.den c.loop-coefficient.coefficient-index (length c.args.terms.now) c.loop-coefficient.divisor c.loop-coefficient.auto.coefficient-index-end c.if-divisor-eq1.true c.loop-coefficient.invariant).denominator

pub returns-then-divisor-eq1-clause-each : goal.returns-then-divisor-eq1-clause-each
returns-then-divisor-eq1-clause-each c = (divisor-one c.args.terms.now c.args.den c.loop-coefficient.coefficient-index (length c.args.terms.now) c.loop-coefficient.divisor c.loop-coefficient.auto.coefficient-index-end c.if-divisor-eq1.true c.loop-coefficient.invariant).each

pub returns-then-divisor-eq1-clause-greatest : goal.returns-then-divisor-eq1-clause-greatest
returns-then-divisor-eq1-clause-greatest c = (divisor-one c.args.terms.now c.args.den c.loop-coefficient.coefficient-index (length c.args.terms.now) c.loop-coefficient.divisor c.loop-coefficient.auto.coefficient-index-end c.if-divisor-eq1.true c.loop-coefficient.invariant).greatest
