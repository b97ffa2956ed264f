-- A coefficient 0 adds nothing.
use Rattle.std.proofs.Common.{rules, ◌≡◌, sym, ◌∙◌, ap, pos, FitsSigned, to_z}
use Rattle.std.proofs.lemmas.Int.{to_z-of_z}
use mir.Syntax.{w64}
use Rattle.irr_number.specs.Number.{numbers}
use Rattle.irr_cyc.specs.Terms.{terms_sum}
use Rattle.irr_sparse.proofs.Sums.{term_value, value-none}
use Rattle.irr_sparse.proofs.combinations.add_whole.Goals as goal

pub returns-then-coefficient-eq0-clause-sum : goal.returns-then-coefficient-eq0-clause-sum
returns-then-coefficient-eq0-clause-sum c =
    let fits : FitsSigned w64 c.args.coefficient = search rules in
    let zero : c.args.coefficient ≡ pos 0 = sym (to_z-of_z w64 c.args.coefficient fits) ∙ ap (to_z w64) c.if-coefficient-eq0.true in
    sym (ap ((numbers c.args.n).add (terms_sum c.args.n c.args.sums.now.items)) (ap (term_value c.args.n c.args.exponent) zero ∙ value-none c.args.n c.args.exponent) ∙ (numbers c.args.n).add-zero (terms_sum c.args.n c.args.sums.now.items))

pub add_power-requires-clause-free : goal.add_power-requires-clause-free
add_power-requires-clause-free c = c.requires.all c.args.exponent
