-- Lowest terms of coefficients in the basis are a form.
use Rattle.std.proofs.Common.{◌≡◌, sym, ◌∙◌, ap, subst, ℕ, ℤ, pos, ◌<◌, ◌*ℤ◌, List, length}
use Rattle.irr_canonical.specs.Coefficient.{number_of}
use Rattle.irr_cyc.specs.Form.{IsForm, at}
use Rattle.irr_cyc.proofs.Values.{lowest-form, lowest-value, written-back}
use Rattle.irr_cyc.proofs.coefficients.Dense.in_basis.Goals as goal

pub invariant_of-result : goal.invariant_of-result
invariant_of-result c = record {
  form = subst (λ xs. IsForm xs c.to_lowest_terms-den.result)
      (sym (written-back c.args.coefficients.items c.to_lowest_terms-den.new.coefficients c.args.coefficients.len (c.to_lowest_terms-den.auto.coefficients ∙ c.as_mut_slice.ensures.len)))
      (lowest-form c.as_mut_slice.result.now c.args.coefficients.items c.to_lowest_terms-den.new.coefficients c.to_lowest_terms-den.result c.as_mut_slice.ensures.value c.to_lowest_terms-den.auto.coefficients
      c.requires.some c.requires.few c.to_lowest_terms-den.ensures.positive c.requires.basis c.to_lowest_terms-den.ensures.zeros c.to_lowest_terms-den.ensures.lowest);
}

pub returns-clause-value : goal.returns-clause-value
returns-clause-value c =
    ap (λ xs. number_of (length c.args.coefficients.items) xs c.to_lowest_terms-den.result)
    (written-back c.args.coefficients.items c.to_lowest_terms-den.new.coefficients c.args.coefficients.len (c.to_lowest_terms-den.auto.coefficients ∙ c.as_mut_slice.ensures.len))
    ∙ lowest-value (length c.args.coefficients.items) c.args.coefficients.items c.to_lowest_terms-den.new.coefficients c.args.den c.to_lowest_terms-den.result c.requires.positive c.to_lowest_terms-den.ensures.positive
    (subst (λ (s : List ℤ). (j : ℕ) → j < length s → pos c.args.den *ℤ at c.to_lowest_terms-den.new.coefficients j ≡ pos c.to_lowest_terms-den.result *ℤ at s j) c.as_mut_slice.ensures.value c.to_lowest_terms-den.ensures.same)
