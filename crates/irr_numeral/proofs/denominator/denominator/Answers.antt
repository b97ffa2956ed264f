-- A denominator that is not 0 is above 0.
use Rattle.std.proofs.Common.{sym, subst, ap, ◌<◌}
use Rattle.std.specs.Option.{option_copied}
use Rattle.irr_numeral.proofs.CommonDenominators.{positive-of}
use Rattle.irr_numeral.proofs.denominator.denominator.Goals as goal

pub returns-in-Some-clause-positive : goal.returns-in-Some-clause-positive
returns-in-Some-clause-positive c = subst (λ n. 0 < n) (sym c.value_within.ensures)
    (positive-of (option_copied c.args.term.now.denominator) c.in-Some.digits.now (ap option_copied c.in-Some.is) c.requires.0.denominator c.requires.1)
