-- Where there is a term.
use Rattle.std.proofs.Common.{◌≡◌, sym, ◌∙◌, subst, ◌≤◌, map, arith}
use Rattle.std.specs.Prelude.{Option, Some, None}
use Rattle.irr_number.specs.Number.{Number, numbers}
use Rattle.irr_canonical.specs.RootSum.{IsRootSum}
use Rattle.irr_canonical.proofs.RootSums.{IsRootSum-more, IsRootSum-zero}
use Rattle.irr_site.specs.Traces.{FitsIn, FitsRow, rest_term}
use Rattle.irr_site.proofs.TermForms.{fits_some, term_none, term_some}
use Rattle.irr_site.proofs.traces.term_or_zero.Goals as goal

pub term-requires-clause-fits : goal.term-requires-clause-fits
term-requires-clause-fits g c = fits_some c.args.order.now.n _ c.args.rest c.in-Some.rest c.in-Some.is c.requires.fits

pub returns-in_ok-number-in-Some-clause-value : goal.returns-in_ok-number-in-Some-clause-value
returns-in_ok-number-in-Some-clause-value g c =
    c.in_ok-number-in-Some.ensures.value ∙ sym (term_some c.args.order.now.n _ c.args.rest c.in-Some.rest c.in-Some.is)

pub returns-in_ok-zero-in-None-clause-few : goal.returns-in_ok-zero-in-None-clause-few
returns-in_ok-zero-in-None-clause-few g c =
    let n = c.args.order.now.n in
    subst (IsRootSum n 48 1) (sym c.in_ok-zero-in-None.ensures.value) (IsRootSum-more n 48 (omega arith) (IsRootSum-zero n 1 (omega arith)))

pub returns-in_ok-zero-in-None-clause-value : goal.returns-in_ok-zero-in-None-clause-value
returns-in_ok-zero-in-None-clause-value g c =
    c.in_ok-zero-in-None.ensures.value ∙ sym (term_none c.args.order.now.n _ c.args.rest c.in-None.is)
