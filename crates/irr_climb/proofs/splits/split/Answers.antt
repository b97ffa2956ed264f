-- The next power of the generator.
use Rattle.std.proofs.Common.{◌∙◌, arith}
use Rattle.irr_rep.specs.Twisted.{phase_table}
use Rattle.irr_climb.specs.Splits.{IsSplit}
use Rattle.irr_climb.proofs.SplitSearch.{below_or_last, power_start, power_step, split_none}
use Rattle.irr_climb.proofs.splits.split.Goals as goal

pub loop-e-init : goal.loop-e-init
loop-e-init c = record {
  within = c.args.t.now.not_empty;
  is_power = λ a d. power_start (phase_table c.args.t.now) a;
  none = λ e n l s. absurd (omega (arith, l));
}

pub loop-e-preserved : goal.loop-e-preserved
loop-e-preserved c =
    let T = phase_table c.args.t.now in
    let members = c.args.members.now in
    let left = c.loop-e.power in
    let none = rw c.in-None.is at c.member_for.ensures in
    record {
      within = c.table-power.ensures.within;
      is_power = λ a d. power_step T a c.loop-e.e left c.table-power.result (c.loop-e.invariant.is_power a d)
          (λ p q r s. c.table-power.ensures.product p q (r ∙ d) s);
      none = λ e n l. below_or_last (λ e. IsSplit T members c.args.g c.args.p c.args.x e n → ⊥) e c.loop-e.e l (c.loop-e.invariant.none e n)
          (split_none T members c.requires.members c.args.g c.args.p c.args.x c.loop-e.e left c.requires.generator
          c.loop-e.invariant.is_power none n);
    }

pub unreachable-requires : goal.unreachable-requires
unreachable-requires c =
    let split = c.requires.exists.2 in
    let stop = c.loop-e-test.false in
    let below = split.exponent_below in
    c.loop-e.invariant.none c.requires.exists.0 c.requires.exists.1 (omega (arith, stop, below)) split
