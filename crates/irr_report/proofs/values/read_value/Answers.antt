-- A number that is read, and the faults of its text.
use Rattle.irr_report.proofs.ValueReads.{beyond-more, value-of-read, value-of-beyond, shape-outside, zero-outside}
use Rattle.irr_report.proofs.values.read_value.Goals as goal

pub with_number-requires : goal.with_number-requires
with_number-requires g c = (c.args.text.now, c.in-Ok.ensures.measured)

pub returns-in_ok-values-in-Ok-clause-value : goal.returns-in_ok-values-in-Ok-clause-value
returns-in_ok-values-in-Ok-clause-value g c = value-of-read c.args.order.now.n c.args.text.now (g.S.Scalar.value c.args.order.now.n c.in-Ok.measured.number) c.in-Ok.ensures.read

pub returns-in-Err-Range-clause-value : goal.returns-in-Err-Range-clause-value
returns-in-Err-Range-clause-value g c = value-of-beyond c.args.order.now.n c.args.text.now c.in-Err-Range.field-0-0
    (rw c.in-Err-Range.field-0-is at c.in-Err-Range.ensures.fault)

pub returns-in-Err-Range-clause-more : goal.returns-in-Err-Range-clause-more
returns-in-Err-Range-clause-more g c = λ earlier texts h. beyond-more c.args.order.now.n earlier texts c.args.text.now
    (c.in-Err-Range.field-0-0, rw c.in-Err-Range.field-0-is at c.in-Err-Range.ensures.fault)

pub returns-in-Err-Shape-clause-fault : goal.returns-in-Err-Shape-clause-fault
returns-in-Err-Shape-clause-fault g c = shape-outside c.args.text.now c.in-Err-Shape.field-0-0
    (rw c.in-Err-Shape.field-0-is at c.in-Err-Shape.ensures.fault)

pub returns-in-Err-Zero-clause-fault : goal.returns-in-Err-Zero-clause-fault
returns-in-Err-Zero-clause-fault g c = zero-outside c.args.text.now c.in-Err-Zero.field-0-0
    (rw c.in-Err-Zero.field-0-is at c.in-Err-Zero.ensures.fault)
