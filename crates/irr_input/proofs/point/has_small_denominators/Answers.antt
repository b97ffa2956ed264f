-- What is read is small exactly where what is written is.
use Rattle.std.proofs.Common.{IsTrue, false, subst}
use Rattle.irr_input.proofs.PointTexts.{read_of_small, small_of_read}
use Rattle.irr_input.proofs.point.has_small_denominators.Goals as goal

pub returns-then-not-has_small_denominator : goal.returns-then-not-has_small_denominator
returns-then-not-has_small_denominator c = λ w s. let read = c.fractions.ensures.parts w s in (
  (λ t. absurd (let u : IsTrue false = t in cc)),
  λ h. subst IsTrue c.if-not-has_small_denominator.true
      (c.has_small_denominator.ensures.1 (read_of_small c.fractions.result.0 w.x read.0 h.0)),
)

pub returns-then-not-has_small_denominator-2 : goal.returns-then-not-has_small_denominator-2
returns-then-not-has_small_denominator-2 c = λ w s. let read = c.fractions.ensures.parts w s in (
  (λ t. absurd (let u : IsTrue false = t in cc)),
  λ h. subst IsTrue c.if-not-has_small_denominator-2.true
      (c.has_small_denominator-2.ensures.1 (read_of_small c.fractions.result.1 w.y read.1 h.1)),
)

pub returns : goal.returns
returns c = λ w s. let read = c.fractions.ensures.parts w s in (
  (λ t. (
    small_of_read c.fractions.result.0 w.x read.0 (c.has_small_denominator.ensures.0 c.if-not-has_small_denominator.false),
    small_of_read c.fractions.result.1 w.y read.1 (c.has_small_denominator-2.ensures.0 c.if-not-has_small_denominator-2.false),
    small_of_read c.fractions.result.2 w.z read.2 (c.has_small_denominator-3.ensures.0 t),
  )),
  λ h. c.has_small_denominator-3.ensures.1 (read_of_small c.fractions.result.2 w.z read.2 h.2),
)
