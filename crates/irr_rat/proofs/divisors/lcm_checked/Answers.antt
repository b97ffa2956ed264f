use Rattle.std.proofs.Common.{◌≡◌, refl, sym, subst, ℕ, Some, arith, lit<}
use Rattle.irr_number.proofs.Primes.{divisor_pos}
use Rattle.irr_rat.specs.Lcm.{IsLcm}
use Rattle.irr_rat.proofs.Multiples.{checked_lcm, lcm_of_gcd, lcm_zero}
use Rattle.irr_rat.proofs.divisors.lcm_checked.Goals as goal

of_zero : (a b : ℕ) → a ≡ 0 → IsLcm a b 0
of_zero a b e = subst (λ n. IsLcm n b 0) (sym e) (lcm_zero b)

pub returns-then-a-eq0-clause-least : goal.returns-then-a-eq0-clause-least
returns-then-a-eq0-clause-least c = of_zero c.args.a c.args.b c.if-a-eq0.true

pub returns-then-a-eq0-clause-none : goal.returns-then-a-eq0-clause-none
returns-then-a-eq0-clause-none c = (checked_lcm c.args.a c.args.b 0 (Some 0) (of_zero c.args.a c.args.b c.if-a-eq0.true) (lit< tt, refl)).1

pub nonzero_div-a : goal.nonzero_div-a
nonzero_div-a c = divisor_pos c.gcd-divisor.result c.args.a (omega (arith, c.if-a-eq0.false)) c.gcd-divisor.ensures.0

pub returns-clause-least : goal.returns-clause-least
returns-clause-least c = (checked_lcm c.args.a c.args.b _ c.checked_mul.result (lcm_of_gcd c.args.a c.args.b c.gcd-divisor.result (omega (arith, c.if-a-eq0.false)) c.gcd-divisor.ensures) c.checked_mul.ensures).0

pub returns-clause-none : goal.returns-clause-none
returns-clause-none c = (checked_lcm c.args.a c.args.b _ c.checked_mul.result (lcm_of_gcd c.args.a c.args.b c.gcd-divisor.result (omega (arith, c.if-a-eq0.false)) c.gcd-divisor.ensures) c.checked_mul.ensures).1
