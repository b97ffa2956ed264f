use Rattle.std.proofs.Common.{◌*◌, ◌≤◌, ◌^◌, length, arith}
use native.Mathlib.Nat as Nat
use Rattle.irr_real.proofs.waves.cell.Goals as goal

pub overflow_mul-result : goal.overflow_mul-result
overflow_mul-result c = let b : c.args.den * length c.args.centrings.now ≤ 10 ^ 7 * 32 = Nat.mul-le-mul
    c.requires.small c.requires.few in record {
      fits = omega arith;
    }

pub returns-clause-positive : goal.returns-clause-positive
returns-clause-positive c = Nat.mul-pos c.requires.positive c.requires.some

pub returns-clause-small : goal.returns-clause-small
returns-clause-small c = let b : c.args.den * length c.args.centrings.now ≤ 10 ^ 7 * 32 = Nat.mul-le-mul
    c.requires.small c.requires.few in omega
    arith
