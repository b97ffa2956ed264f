-- From one number p to the next.
use Rattle.std.proofs.Common.{rules, ◌≡◌, sym, subst, ◌+◌, ◌-◌, ◌<◌, ◌≤◌, ◌^◌, length, arith}
use native.Mathlib.Nat as Nat
use Rattle.irr_canonical.specs.Reduction.{IsReducedAt}
use Rattle.irr_cyc.specs.Form.{at}
use Rattle.irr_cyc.specs.Part.{IsPart}
use Rattle.irr_cyc.proofs.Factors.{Reached, least-le, reached-end, reached-other, reached-part, reached-pass, reached-start, rest-le}
use Rattle.irr_cyc.proofs.reduction.reduce.Goals as goal
use Rattle.irr_cyc.proofs.reduction.reduce.Goals.{then-rest-p-eq0, else-rest-p-eq0}

pub loop-rest-init : goal.loop-rest-init
loop-rest-init c = reached-start (length c.args.coefficients.now) (2 ^ 110) c.requires.some (at c.args.coefficients.now) c.requires.small

pub reduce_at-requires-clause-part : goal.reduce_at-requires-clause-part
reduce_at-requires-clause-part c = subst (λ n. IsPart n c.loop-rest.p c.factor_out-factored.result.base) (sym c.loop-rest.auto.coefficients)
    (reached-part (length c.args.coefficients.now) (2 ^ 110) c.requires.some (at c.args.coefficients.now) (at c.loop-rest.coefficients) c.loop-rest.p c.loop-rest.rest c.loop-rest.invariant
    c.factor_out-factored.result.base c.factor_out-factored.ensures.power.0 c.factor_out-factored.result.rest c.factor_out-factored.ensures.power.1 c.factor_out-factored.ensures.equal c.factor_out-factored.ensures.other)

pub overflow_add-p : goal.overflow_add-p
overflow_add-p c =
    let a : c.loop-rest.p ≤ c.loop-rest.rest = least-le (length c.args.coefficients.now) (2 ^ 110) c.requires.some (at c.args.coefficients.now) (at c.loop-rest.coefficients) c.loop-rest.p c.loop-rest.rest c.loop-rest.invariant c.loop-rest-test.true in
    let b : c.loop-rest.rest ≤ length c.args.coefficients.now = rest-le (length c.args.coefficients.now) (2 ^ 110) c.requires.some (at c.args.coefficients.now) (at c.loop-rest.coefficients) c.loop-rest.p c.loop-rest.rest c.loop-rest.invariant in
    let d : length c.args.coefficients.now ≤ 12000 = c.requires.few in
    let e : c.loop-rest.p + 1 < 2 ^ 64 = omega arith in
    search rules

pub loop-rest-smaller : goal.loop-rest-smaller
loop-rest-smaller c =
    let a : c.loop-rest.p ≤ c.loop-rest.rest = least-le (length c.args.coefficients.now) (2 ^ 110) c.requires.some (at c.args.coefficients.now) (at c.loop-rest.coefficients) c.loop-rest.p c.loop-rest.rest c.loop-rest.invariant c.loop-rest-test.true in
    let b : c.loop-rest.rest ≤ length c.args.coefficients.now = rest-le (length c.args.coefficients.now) (2 ^ 110) c.requires.some (at c.args.coefficients.now) (at c.loop-rest.coefficients) c.loop-rest.p c.loop-rest.rest c.loop-rest.invariant in
    let d : length c.args.coefficients.now + 1 - (c.loop-rest.p + 1) < length c.args.coefficients.now + 1 - c.loop-rest.p = omega arith in
    d

pub loop-rest-preserved : goal.loop-rest-preserved
loop-rest-preserved c =
    let len : length c.loop-rest.coefficients ≡ length c.args.coefficients.now = c.loop-rest.auto.coefficients in
    elim c.if-rest-p-eq0.branch [
      | then-rest-p-eq0 w ↦ subst (λ r. Reached (length c.args.coefficients.now) (2 ^ 110) (at c.args.coefficients.now) (at c.if-rest-p-eq0.coefficients) (c.loop-rest.p + 1) r) (sym w.rest-is)
          (subst (λ xs. Reached (length c.args.coefficients.now) (2 ^ 110) (at c.args.coefficients.now) (at xs) (c.loop-rest.p + 1) w.factor_out-factored.result.rest) (sym w.coefficients-is)
          (reached-pass (length c.args.coefficients.now) (2 ^ 110) c.requires.some (at c.args.coefficients.now) (at c.loop-rest.coefficients) c.loop-rest.p c.loop-rest.rest c.loop-rest.invariant
          w.factor_out-factored.result.base w.factor_out-factored.ensures.power.0 w.factor_out-factored.result.rest w.factor_out-factored.ensures.power.1 w.factor_out-factored.ensures.equal w.factor_out-factored.ensures.other
          (at w.reduce_at.new.coefficients) (subst (λ n. IsReducedAt n c.loop-rest.p (at c.loop-rest.coefficients) (at w.reduce_at.new.coefficients)) len w.reduce_at.ensures)))
      | else-rest-p-eq0 w ↦ subst (λ r. Reached (length c.args.coefficients.now) (2 ^ 110) (at c.args.coefficients.now) (at c.if-rest-p-eq0.coefficients) (c.loop-rest.p + 1) r) (sym w.rest-is)
          (subst (λ xs. Reached (length c.args.coefficients.now) (2 ^ 110) (at c.args.coefficients.now) (at xs) (c.loop-rest.p + 1) c.loop-rest.rest) (sym w.coefficients-is)
          (reached-other (length c.args.coefficients.now) (2 ^ 110) c.requires.some (at c.args.coefficients.now) (at c.loop-rest.coefficients) c.loop-rest.p c.loop-rest.rest c.loop-rest.invariant
          (λ d. w.if-rest-p-eq0.false (Nat.mod-eq-zero_of_dvd c.loop-rest.p d))))
    ]

pub returns-clause-basis : goal.returns-clause-basis
returns-clause-basis c = reached-end (length c.args.coefficients.now) (2 ^ 110) c.requires.some (at c.args.coefficients.now) (at c.loop-rest.coefficients) c.loop-rest.p c.loop-rest.rest c.loop-rest.invariant (omega (arith, c.loop-rest-test.false))
