-- A coefficient that is not zero is the next term.
use Rattle.std.proofs.Common.{◌≡◌, refl, sym, ◌∙◌, ap, ap₂, rules, ℕ, ℤ, pos, negsuc, zero, suc, ◌+◌, List, [], ◌∷◌, ◌++◌, add-one, append-nil, FitsSigned, Vec, Global, to_z, of_z}
use Rattle.std.proofs.lemmas.Int.{to_z-of_z}
use mir.Syntax.{w128}
use Rattle.irr_cyc.specs.Form.{at}
use Rattle.irr_cyc.specs.Terms.{nonzero_terms, term}
use Rattle.irr_cyc.proofs.polynomials.nonzero.Goals as goal
use Rattle.irr_cyc.proofs.polynomials.nonzero.Goals.{then-xs-i-ne0+in_ok-push, else-xs-i-ne0}

terms-step : (i : ℕ) (f : ℕ → ℤ) → nonzero_terms (i + 1) f ≡ nonzero_terms i f ++ term i (f i)
unfolding nonzero_terms
terms-step i f = ap (λ n. nonzero_terms n f) (add-one i)

some-term : (i : ℕ) (z : ℤ) → (z ≡ pos 0 → ⊥) → term i z ≡ (i, z) ∷ []
unfolding term
some-term i (pos zero) n = absurd (n refl)
some-term i (pos (suc k)) n = refl
some-term i (negsuc k) n = refl

no-term : (i : ℕ) (z : ℤ) → z ≡ pos 0 → term i z ≡ []
unfolding term
no-term i z e = ap (term i) e

pub loop-i-init : goal.loop-i-init
unfolding nonzero_terms
loop-i-init c = c.new-terms.ensures.items

pub loop-i-preserved : goal.loop-i-preserved
loop-i-preserved c =
    let fits : FitsSigned w128 (at c.args.xs.now c.loop-i.i) = search rules in
    let value : to_z w128 (of_z w128 (at c.args.xs.now c.loop-i.i)) ≡ at c.args.xs.now c.loop-i.i = to_z-of_z w128 (at c.args.xs.now c.loop-i.i) fits in
    elim c.if-xs-i-ne0.branch [
      | then-xs-i-ne0+in_ok-push w ↦ ap (λ (v : Vec (ℕ × ℤ) Global). v.items) w.terms-is ∙ w.in_ok-push.ensures.items
          ∙ ap₂ (λ (ts : List (ℕ × ℤ)) (z : ℤ). ts ++ ((c.loop-i.i, z) ∷ [])) c.loop-i.invariant value
          ∙ ap (λ ts. nonzero_terms c.loop-i.i (at c.args.xs.now) ++ ts) (sym (some-term c.loop-i.i (at c.args.xs.now c.loop-i.i) (λ z. w.if-xs-i-ne0.true (ap (of_z w128) z))))
          ∙ sym (terms-step c.loop-i.i (at c.args.xs.now))
      | else-xs-i-ne0 w ↦ ap (λ (v : Vec (ℕ × ℤ) Global). v.items) w.terms-is ∙ c.loop-i.invariant
          ∙ sym (append-nil (nonzero_terms c.loop-i.i (at c.args.xs.now)))
          ∙ ap (λ ts. nonzero_terms c.loop-i.i (at c.args.xs.now) ++ ts) (sym (no-term c.loop-i.i (at c.args.xs.now c.loop-i.i) (sym value ∙ ap (to_z w128) w.if-xs-i-ne0.false)))
          ∙ sym (terms-step c.loop-i.i (at c.args.xs.now))
    ]
