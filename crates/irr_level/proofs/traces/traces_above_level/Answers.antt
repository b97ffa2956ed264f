-- The traces of extensions and of induced families.
use Rattle.irr_level.proofs.LevelTraces.{induced_traces, multiple_extension, only_exponent}
use Rattle.irr_level.proofs.traces.traces_above_level.Goals as goal

pub returns : goal.returns
returns g c = record {
  extension = λ T H Q d D u E w h one. multiple_extension Q D u E w h one;
  exponent = λ T H Q x a n e. only_exponent Q x a n e;
  induced = λ T H Q L turn turns l. induced_traces Q L turn turns l;
}
