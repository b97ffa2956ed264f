-- A list of no term, of one, and of more.
use Rattle.std.proofs.Common.{rules, ◌≡◌, sym, ◌∙◌, ap, ℕ, ℤ, List, [], ◌∷◌, length, FitsSigned, arith}
use Rattle.std.proofs.lemmas.Int.{to_z-of_z}
use Rattle.std.proofs.lemmas.List.{nil_from_length}
use mir.Syntax.{w128}
use Rattle.irr_sparse.specs.TermList.{coefficient_at, exponent_at}
use Rattle.irr_sparse.proofs.combinations.copied.Goals as goal

only-one : (ts us : List (ℕ × ℤ)) → length ts ≡ 1 → us ≡ (exponent_at ts 0, coefficient_at ts 0) ∷ [] → us ≡ ts
only-one [] us e is = absurd (omega arith)
only-one (t ∷ []) us e is = is
only-one (t ∷ u ∷ ts) us e is = absurd (omega arith)

pub returns-then-count-eq0 : goal.returns-then-count-eq0
returns-then-count-eq0 c = c.new.ensures.items ∙ sym (nil_from_length c.args.terms.now c.if-count-eq0.true)

pub returns-then-count-eq1 : goal.returns-then-count-eq1
returns-then-count-eq1 c =
    let fits : FitsSigned w128 (coefficient_at c.args.terms.now 0) = search rules in
    only-one c.args.terms.now c.from_buf.result.items c.if-count-eq1.true (c.from_buf.ensures.items ∙ ap (λ x. (exponent_at c.args.terms.now 0, x) ∷ []) (to_z-of_z w128 (coefficient_at c.args.terms.now 0) fits))

pub returns : goal.returns
returns c = c.in_ok-copy.ensures.ok
