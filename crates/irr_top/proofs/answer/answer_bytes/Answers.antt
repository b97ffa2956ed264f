-- How a request ends on an input of known bytes.
use Rattle.irr_top.specs.Asked.AsksOfBytes.{too_long, lines}
use Rattle.irr_top.specs.Outcome.Serves.{serves}
use Rattle.irr_top.proofs.Outcomes.{serves_more}
use Rattle.irr_top.proofs.answer.answer_bytes.Goals as goal

pub returns-then-bytes-gt-INPUT_LIMIT : goal.returns-then-bytes-gt-INPUT_LIMIT
returns-then-bytes-gt-INPUT_LIMIT g c = serves (too_long c.if-bytes-gt-INPUT_LIMIT.true) c.refuse.ensures

pub returns : goal.returns
returns g c = serves_more (λ s text a. lines c.if-bytes-gt-INPUT_LIMIT.false a) c.answer_lines.ensures
