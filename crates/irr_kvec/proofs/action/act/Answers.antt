use native.Mathlib.Nat as Nat
use Rattle.std.proofs.Common.{arith}
use Rattle.irr_space.specs.Operation.{turned}
use Rattle.irr_seitz.specs.Rotation.{rotation_of}
use Rattle.irr_kvec.proofs.Actions.{row_back, row_lowest, row_small, inverse_left, inverse_within}
use Rattle.irr_kvec.proofs.action.act.Goals as goal

pub invariant_of-rotation : goal.invariant_of-rotation
invariant_of-rotation c = record { lowest = record { positive = omega arith; lowest = λ d v w. Nat.eq-one_of_dvd-one v } }

pub row_product-num-requires-clause-within : goal.row_product-num-requires-clause-within
row_product-num-requires-clause-within c = inverse_within _ _ c.inverse-inverse.ensures c.requires.unimodular c.requires.entries

pub invariant_of-result : goal.invariant_of-result
invariant_of-result c = record {
  lowest = row_lowest c.args.k.now.num c.row_product-num.result c.inverse-inverse.result.rot c.row_product-num.ensures (rotation_of c.args.op.now.rot) (inverse_left _ _ c.inverse-inverse.ensures)
      c.args.k.now.den c.args.k.now.lowest;
}

pub returns-clause-turned_back : goal.returns-clause-turned_back
unfolding turned
returns-clause-turned_back c = row_back c.args.k.now.num c.row_product-num.result c.inverse-inverse.result.rot c.row_product-num.ensures (rotation_of c.args.op.now.rot) (inverse_left _ _ c.inverse-inverse.ensures)
    c.args.k.now.den

pub returns-clause-size : goal.returns-clause-size
returns-clause-size c = λ b h. row_small c.args.k.now.num c.row_product-num.result c.inverse-inverse.result.rot c.row_product-num.ensures b h
    (inverse_within _ _ c.inverse-inverse.ensures c.requires.unimodular c.requires.entries)
