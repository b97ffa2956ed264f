-- The parts of a term are its text.
use Rattle.std.proofs.Common.{◌∙◌, ap, List, ℕ, ◌++◌}
use Rattle.std.specs.Int.{w128}
use Rattle.std.proofs.lemmas.Int.{to_z-of_z}
use Rattle.irr_rational.specs.Rational.{ratio}
use Rattle.irr_numeral.proofs.PrintedTerms.{term-printed}
use Rattle.irr_numeral.proofs.print.push_term.Goals as goal

pub returns : goal.returns
returns c =
    let same = c.new-coefficient.ensures.same ∙ ap (λ a. ratio a c.args.den) (to_z-of_z w128 c.args.coefficient c.ranges.coefficient) in
    c.in_ok-extend_from_slice.ensures.items ∙ ap (λ (l : List ℕ). c.args.text.now.items ++ l) (c.as_bytes.ensures.value ∙ c.in_ok-format.ensures.ok
    ∙ term-printed c.args.coefficient c.args.den c.args.exponent c.new-coefficient.result.num c.new-coefficient.result.den c.requires.some c.requires.positive c.new-coefficient.ensures.lowest same)
