-- The next power.
use Rattle.std.proofs.Common.{sym, ◌∙◌, ap}
use Rattle.irr_algebra.specs.Fin.{to_nat}
use Rattle.irr_rep.specs.Twisted.{phase_table}
use Rattle.irr_chain.specs.Quotient.{power}
use Rattle.irr_chain.proofs.Walks.{power-more, power-none}
use Rattle.irr_chain.proofs.quotient.power.Goals as goal

pub loop-e-init : goal.loop-e-init
loop-e-init c =
    let T = phase_table c.args.t.now in
    record {
      within = c.args.t.now.not_empty;
      is_power = λ q e. sym (ap to_nat (power-none T q) ∙ T.start_first);
    }

pub loop-e-preserved : goal.loop-e-preserved
loop-e-preserved c =
    let T = phase_table c.args.t.now in
    let e = c.loop-e._e in
    record {
      within = c.table-power.ensures.within;
      is_power = λ q s. c.table-power.ensures.product q (power T q e) s (sym (c.loop-e.invariant.is_power q s)) ∙ ap to_nat (sym (power-more T q e));
    }
