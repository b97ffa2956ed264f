-- Traces up to a root of 1.
use Rattle.irr_extension.proofs.Forced.{forced_by_three, forced_by_two, traces_forced}
use Rattle.irr_extension.proofs.traces_are_forced.Goals as goal

pub returns-clause-powers : goal.returns-clause-powers
returns-clause-powers g c = λ T H Q d D s t l simple extension m s_ne q index same.
    traces_forced g.N.InField.field Q D l simple t extension s m s_ne q index same

pub returns-clause-two : goal.returns-clause-two
returns-clause-two g c = λ T H Q d D s t l simple extension index position at_member m s_ne same.
    forced_by_two g.N.InField.field Q D l simple t extension position at_member s m s_ne index same

pub returns-clause-three : goal.returns-clause-three
returns-clause-three g c = λ T H Q d D s t l simple extension index position at_member m s_ne same.
    forced_by_three g.N.InField.field Q D l simple t extension position at_member s m s_ne index same
