-- The trace as a sum of roots.
use Rattle.irr_eigen.proofs.KeptSums.{trace-root, kept_sum}
use Rattle.irr_eigen.proofs.trace_by_roots.Goals as goal

pub returns : goal.returns
returns g c = record {
  trace = λ p d k z x r v u w times pos primitive r-ne e h different occurs. trace-root g.N.InField.field p z x r w times pos primitive r-ne e h different occurs;
  kept_sum = λ p d k z x v u w times two_or_three primitive h different occurs t.
      kept_sum g.N.InField.field p z x w times two_or_three primitive h different occurs t;
}
