-- In lowest terms the numerators fit where they did before, and the denominator is the least one.
use Rattle.std.proofs.Common.{sym, ◌∙◌, subst, ℤ, pos, get_or}
use Rattle.irr_algebra.specs.Fin.{Fin}
use Rattle.irr_rational.specs.Ratio.{AreLowest, entry}
use Rattle.irr_rational.proofs.ListedRatios.{ratios-at}
use Rattle.irr_rat.proofs.Vectors.{narrow_entries, vector_of-entries, vector_of-same}
use Rattle.irr_token.proofs.Narrowing.{narrow-fits, cast-fits, least-below}
use Rattle.irr_token.proofs.common.narrowed.Goals as goal

pub returns-then-least-gt-DENOMINATOR_LIMIT-clause-none : goal.returns-then-least-gt-DENOMINATOR_LIMIT-clause-none
returns-then-least-gt-DENOMINATOR_LIMIT-clause-none c = λ f low least h e.
    let r = c.lowest_terms.result in
    least-below (entry r.0) low r.1 least 100000 c.lowest_terms.ensures.lowest h
    (λ i. sym (ratios-at r.0 r.1 i) ∙ c.lowest_terms.ensures.same i ∙ ratios-at c.args.num c.args.den i ∙ sym (e i)) c.if-least-gt-DENOMINATOR_LIMIT.true

pub overflow_cast-result : goal.overflow_cast-result
overflow_cast-result c = let r = c.lowest_terms.result in
    cast-fits (get_or r.0 0 (pos 0)) (narrow-fits c.args.num r.0 c.args.den r.1 c.lowest_terms.ensures.lowest c.lowest_terms.ensures.same c.requires.positive c.requires.fits).0

pub overflow_cast-result-2 : goal.overflow_cast-result-2
overflow_cast-result-2 c = let r = c.lowest_terms.result in
    cast-fits (get_or r.0 1 (pos 0)) (narrow-fits c.args.num r.0 c.args.den r.1 c.lowest_terms.ensures.lowest c.lowest_terms.ensures.same c.requires.positive c.requires.fits).1

pub overflow_cast-result-3 : goal.overflow_cast-result-3
overflow_cast-result-3 c = let r = c.lowest_terms.result in
    cast-fits (get_or r.0 2 (pos 0)) (narrow-fits c.args.num r.0 c.args.den r.1 c.lowest_terms.ensures.lowest c.lowest_terms.ensures.same c.requires.positive c.requires.fits).2

pub invariant_of-result : goal.invariant_of-result
invariant_of-result c = let r = c.lowest_terms.result in
    let f = narrow-fits c.args.num r.0 c.args.den r.1 c.lowest_terms.ensures.lowest c.lowest_terms.ensures.same c.requires.positive c.requires.fits in
    record { lowest = subst (λ (a : Fin 3 → ℤ). AreLowest a r.1) (narrow_entries r.0 f) c.lowest_terms.ensures.lowest }

pub returns-clause-same : goal.returns-clause-same
returns-clause-same c = let r = c.lowest_terms.result in
    let f = narrow-fits c.args.num r.0 c.args.den r.1 c.lowest_terms.ensures.lowest c.lowest_terms.ensures.same c.requires.positive c.requires.fits in
    sym (vector_of-entries r.0 _ r.1 (narrow_entries r.0 f)) ∙ vector_of-same c.args.num r.0 c.args.den r.1 c.lowest_terms.ensures.same
