-- From one factor to the next.
use Rattle.std.proofs.Common.{◌≢◌, ◌∙◌, ap, ◌≤◌, ◌%◌, arith}
use native.Mathlib.Nat as Nat
use Rattle.irr_sparse.proofs.Steps.{least_le, no_prime_below, no_prime_next}
use Rattle.irr_sparse.proofs.parts.least_factor.Goals as goal

pub loop-factor-init : goal.loop-factor-init
loop-factor-init c = record { from = Nat.le_refl c.args.p; within = least_le c.args.number c.args.p c.requires.some c.requires.left; left = c.requires.left }

pub returns-then-factor-number-clause-left : goal.returns-then-factor-number-clause-left
returns-then-factor-number-clause-left c = no_prime_below c.args.number c.loop-factor.factor (omega (arith, c.requires.some)) c.if-factor-number.true c.loop-factor.invariant.left

pub loop-factor-preserved : goal.loop-factor-preserved
loop-factor-preserved c =
    let inv = c.loop-factor.invariant in
    let ne : c.loop-factor.factor ≢ c.args.number = (λ e. c.loop-factor-test.true (ap (λ x. c.args.number % x) e ∙ Nat.mod_self c.args.number)) in
    let le : c.loop-factor.factor ≤ c.args.number = inv.within in
    let from : c.args.p ≤ c.loop-factor.factor = inv.from in
    record { from = omega arith; within = omega (arith, ne); left = no_prime_next c.args.number c.loop-factor.factor inv.left c.loop-factor-test.true }
