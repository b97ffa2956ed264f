-- Sizes of the matrices of an induced family.
--   inner_few                the smaller table has at most half as many places
--   outer_count, two_or_more, twice_inner      the larger table has as many places as the index times the smaller one
--   bound_grows              the bound does not fall
--   induced_within           the entries of an induced matrix
--   product_few              what a product of a power of z with an entry asks
use Rattle.std.proofs.Common.{◌≡◌, sym, ◌∙◌, ap, subst, ℕ, ◌*◌, ◌^◌, ◌<◌, ◌≤◌, ◌⊎◌, inl, inr, arith}
use native.Mathlib.Nat as Nat
use Rattle.irr_algebra.specs.Fin.{Fin}
use Rattle.irr_algebra.specs.Sum.{delta}
use Rattle.irr_algebra.proofs.Fields.{whole_inj}
use Rattle.irr_algebra.proofs.Indices.{same_or_not, to_nat-lt}
use Rattle.irr_algebra.proofs.Rings.{one-mul, zero-mul}
use Rattle.irr_algebra.proofs.Sums.{delta-eq, delta-ne}
use Rattle.irr_algebra.proofs.Whole.{whole-mul}
use Rattle.irr_number.specs.Number.{Number, numbers}
use Rattle.irr_number.proofs.NumberField.{number_field}
use Rattle.irr_theory.specs.FactorSystem.{Representation}
use Rattle.irr_clifford.specs.Formulas.{block_phase, coset, induced_matrix}
use Rattle.irr_clifford.proofs.Squares.{places-index}
use Rattle.irr_canonical.specs.RootSum.{IsRootSum}
use Rattle.irr_canonical.proofs.RootSums.{IsRootSum-more, IsRootSum-mul, IsRootSum-zero}
use Rattle.irr_mat.specs.Size.{IsWithin}
use Rattle.irr_rep.specs.Twisted.{phase_table, place_count}
use Rattle.irr_climb.specs.declared.step.Step.{Step}
use Rattle.irr_climb.specs.Sizes.{size_bound}
use Rattle.irr_climb.specs.Steps.{IsStep, small}
use Rattle.irr_climb.proofs.ExtensionSizes.{size_grows, size_limited}
use Rattle.irr_climb.proofs.InducedEntries.{block_value, entries_all}
use Rattle.irr_climb.proofs.InducedPhases.{block_phase_power}

-- a power of z times an entry
pub product_few : (N b : ℕ) → N ≤ 12000 → b ≤ 18200 → 1 * N * (b * b * N) ≤ 2 ^ 100
product_few N b limited few =
    let k : 1 * N * (b * b * N) ≤ 1 * 12000 * (18200 * 18200 * 12000) =
    Nat.mul-le-mul (Nat.mul-le-mul_left 1 limited) (Nat.mul-le-mul (Nat.mul-le-mul few few) limited) in
    let l : 1 * 12000 * (18200 * 18200 * 12000) ≤ 2 ^ 100 = omega arith in
    Nat.le_trans k l

module _ {M : ℕ} {step : Step} (is : IsStep M step) where
  pub outer_count : place_count step.outer ≡ is.quotient.index * place_count step.inner
  outer_count = whole_inj (number_field M is.positive) (place_count step.outer) (is.quotient.index * place_count step.inner)
      (places-index (numbers M) is.quotient ∙ sym (whole-mul (numbers M) is.quotient.index (place_count step.inner)))

  pub two_or_more : 2 ≤ is.quotient.index
  two_or_more = above is.two_or_three
    where
      above : (is.quotient.index ≡ 2) ⊎ (is.quotient.index ≡ 3) → 2 ≤ is.quotient.index
      above (inl e) = omega (arith, e)
      above (inr e) = omega (arith, e)

  pub twice_inner : 2 * place_count step.inner ≤ place_count step.outer
  twice_inner = subst (λ k. 2 * place_count step.inner ≤ k) (sym outer_count) (Nat.mul-le-mul_right (place_count step.inner) two_or_more)

  inner_positive : 1 ≤ place_count step.inner
  inner_positive = let l = to_nat-lt (phase_table step.inner).start in omega (arith, l)

  pub bound_grows : size_bound (place_count step.inner) ≤ size_bound (place_count step.outer)
  bound_grows =
      let h = place_count step.inner in
      let few : h ≤ 24 = let l = twice_inner in let m = step.outer.places_within in half h (place_count step.outer) l m in
      let one : 1 * size_bound h ≤ h * size_bound h = Nat.mul-le-mul_right (size_bound h) inner_positive in
      Nat.le_trans (subst (λ k. k ≤ h * size_bound h) (Nat.one-mul (size_bound h)) one)
      (size_grows h (place_count step.outer) twice_inner few)
    where
      half : (h o : ℕ) → 2 * h ≤ o → o ≤ 48 → h ≤ 24
      half h o l m = omega (arith, l, m)

  pub inner_limited : size_bound (place_count step.inner) ≤ 18200
  inner_limited = size_limited (place_count step.inner) step.inner.places_within

  module _ {d : ℕ} (D : Representation (small is) d) (s den : ℕ) (positive : 0 < den)
      (within : (i : Fin (place_count step.inner)) → IsWithin M s den (D.at i)) (x : Fin (place_count step.outer)) where
    -- a block's entries
    value_within : (a : Fin is.quotient.index) (k : Fin d) (b : Fin is.quotient.index) (l : Fin d)
        → IsRootSum M s den (block_value is.quotient D x a k b l)
    value_within a k b l = at (same_or_not a (is.quotient.exponent y))
      where
        y : Fin (place_count step.outer)
        y = (phase_table step.outer).product x (coset is.quotient b)

        turned : Number M
        turned = (numbers M).mul (block_phase is.quotient x b) ((D.at (is.quotient.part y)).at k l)

        powers : IsRootSum M (1 * s) (1 * den) turned
        powers = IsRootSum-mul M (block_phase_power (phase_table step.outer) M is.outer_divides is.quotient x b)
            ((within (is.quotient.part y)).entry k l)

        same : IsRootSum M s den turned
        same = subst (λ n. IsRootSum M n den turned) (Nat.one-mul s) (subst (λ n. IsRootSum M (1 * s) n turned) (Nat.one-mul den) powers)

        at : (a ≡ is.quotient.exponent y) ⊎ (a ≡ is.quotient.exponent y → ⊥)
            → IsRootSum M s den ((numbers M).mul (delta (numbers M) a (is.quotient.exponent y)) turned)
        at (inl e) = subst (IsRootSum M s den)
            (sym (ap (λ k. (numbers M).mul k turned) (delta-eq (numbers M) a (is.quotient.exponent y) e) ∙ one-mul (numbers M) turned)) same
        at (inr n) = subst (IsRootSum M s den)
            (sym (ap (λ k. (numbers M).mul k turned) (delta-ne (numbers M) a (is.quotient.exponent y) n) ∙ zero-mul (numbers M) turned))
            (IsRootSum-more M s (let l : 0 ≤ s = omega arith in l) (IsRootSum-zero M den positive))

    pub induced_within : 0 < d → IsWithin M s den (induced_matrix is.quotient D x)
    induced_within few = record {
      positive = positive;
      entry = λ u v. entries_all is.quotient D x (IsRootSum M s den) few value_within u v;
    }
