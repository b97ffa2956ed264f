-- The conjugates by their traces.
use Rattle.irr_ascent.proofs.Turned.{conjugate-trace, turned_by_traces, member_with_traces, one_with_traces}
use Rattle.irr_ascent.proofs.turn_by_traces.Goals as goal

pub returns : goal.returns
returns g c = record {
  row = λ T H Q d D n. conjugate-trace Q D n;
  turns = λ T H Q L l m f e. turned_by_traces g.N.InField.field Q L f l m e;
  exists = λ T H Q L l f. member_with_traces g.N.InField.field Q L f l;
  one = λ T H Q L l m k f e h. one_with_traces g.N.InField.field Q L f l m k e h;
}
