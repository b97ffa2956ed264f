-- How often eigenvalues occur.
use Rattle.irr_eigen.proofs.Occurrences.{occurs, trace-occurs}
use Rattle.irr_eigen.proofs.MeanTraces.{occurs-mean}
use Rattle.irr_eigen.proofs.eigenvalue_occurs.Goals as goal

pub returns : goal.returns
returns g c = record {
  dimension = λ d k v values e different a.
      let o = occurs g.N.InField.field e different a in
      (o.0, o.1, trace-occurs g.N.InField.field e different a o.0 o.1);
  only_dimension = λ d k v values e different a n o. trace-occurs g.N.InField.field e different a n o;
  mean = λ n d v t z ne h e i y inverse m o. occurs-mean g.N.InField.field n v t z ne h e i y inverse m o;
}
