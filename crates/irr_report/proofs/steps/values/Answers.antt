use Rattle.std.proofs.Common.{◌∙◌, ◌++◌, length, get_or}
use Rattle.std.proofs.Math.Logic.{∥∥₁_elim}
use Rattle.irr_report.proofs.Each.{untruncated}
use Rattle.irr_report.proofs.steps.values.Goals as goal

pub returns-in-Ok-clause-count : goal.returns-in-Ok-clause-count
returns-in-Ok-clause-count g c = untruncated (length c.in-Ok.numbers.items) c.args.count c.requires.scaled (λ s. let r = c.in-Ok.ensures.read s.0 s.1 in r.read.count ∙ r.are.count_is)

pub returns-in-Ok-clause-orders : goal.returns-in-Ok-clause-orders
returns-in-Ok-clause-orders g c = λ k d lt. untruncated (g.S.Scalar.order_of (get_or c.in-Ok.numbers.items k d)) c.args.order.now.n c.requires.scaled (λ s. (c.in-Ok.ensures.read s.0 s.1).read.orders k d lt)

pub returns-in-Ok-clause-scaled : goal.returns-in-Ok-clause-scaled
returns-in-Ok-clause-scaled g c = ∥∥₁_elim c.requires.scaled squash₁ (λ s. let r = c.in-Ok.ensures.read s.0 s.1 in ∣ (s.0 ++ r.texts, r.scale_is) ∣₁)

pub returns-in-Err-clause-fault : goal.returns-in-Err-clause-fault
returns-in-Err-clause-fault g c = record { fault = λ earlier h. c.step_error.ensures c.args.order.now.n earlier c.args.count c.args.text.now (c.in-Err.ensures.fault.fault earlier h) }
