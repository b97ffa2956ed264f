use Rattle.std.proofs.Common.{IsTrue, subst}
use Rattle.irr_input.proofs.PointTexts.{beyond-point, no_fault-point, point_read, small_point}
use Rattle.irr_input.proofs.point.point_of.Goals as goal

pub returns-in-Err-clause-none : goal.returns-in-Err-clause-none
returns-in-Err-clause-none c = λ e x h. no_fault-point c.args.word.now c.in-Err.field-0 x c.in-Err.ensures.fault h

pub returns-then-row-gt-POINT_LIMIT-clause-none : goal.returns-then-row-gt-POINT_LIMIT-clause-none
returns-then-row-gt-POINT_LIMIT-clause-none c = λ e x h. beyond-point c.args.word.now c.in-Ok.row x c.in-Ok.ensures.read c.if-row-gt-POINT_LIMIT.true h

pub returns-then-not-has_small_denominators-clause-none : goal.returns-then-not-has_small_denominators-clause-none
returns-then-not-has_small_denominators-clause-none c = λ e x h.
    let t = subst IsTrue c.if-not-has_small_denominators.true ((c.has_small_denominators.ensures h.row.wave h.row.spells).1 h.small.3) in cc

pub returns-clause-some : goal.returns-clause-some
returns-clause-some c = point_read c.args.word.now c.in-Ok.row c.in-Ok.ensures.wave c.in-Ok.ensures.read c.if-row-gt-POINT_LIMIT.false
    (λ w s. (c.has_small_denominators.ensures w s).0 c.if-not-has_small_denominators.false)

pub returns-clause-limits : goal.returns-clause-limits
returns-clause-limits c = record {
  numerators = small_point c.args.word.now c.in-Ok.row c.in-Ok.ensures.wave c.in-Ok.ensures.read c.if-row-gt-POINT_LIMIT.false;
  denominator = c.if-row-gt-POINT_LIMIT.false;
}
