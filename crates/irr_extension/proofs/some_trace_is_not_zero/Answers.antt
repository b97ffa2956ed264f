-- A trace that is not 0.
use Rattle.irr_extension.proofs.Forced.{some_three, some_trace_of_extension, some_two}
use Rattle.irr_extension.proofs.some_trace_is_not_zero.Goals as goal

pub returns-clause-trace : goal.returns-clause-trace
returns-clause-trace g c = λ T H Q d D t l simple extension. some_trace_of_extension g.N.InField.field Q D l simple t extension

pub returns-clause-two : goal.returns-clause-two
returns-clause-two g c = λ T H Q d D t l simple extension index position at_member.
    some_two g.N.InField.field Q D l simple t extension position at_member index

pub returns-clause-three : goal.returns-clause-three
returns-clause-three g c = λ T H Q d D t l simple extension index position at_member.
    some_three g.N.InField.field Q D l simple t extension position at_member index
