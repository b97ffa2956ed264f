-- One more power that the number is not.
use Rattle.std.proofs.Common.{◌≡◌}
use Rattle.irr_number.specs.Number.{root_power}
use Rattle.irr_mono.proofs.ColumnPowers.{none-more}
use Rattle.irr_mono.proofs.Truth.{not-true}
use Rattle.irr_mono.proofs.columns.exponent_of.Goals as goal

pub loop-exponent-preserved : goal.loop-exponent-preserved
loop-exponent-preserved g c =
    let n = c.args.order.now.n in
    none-more (λ e. g.S.Scalar.value n c.args.x.now ≡ root_power n e) c.loop-exponent.exponent c.loop-exponent.invariant
    (λ same. not-true c.in_ok-is_power-2.field-0 c.if-branch-2.false (c.in_ok-is_power-2.ensures.1 same))
