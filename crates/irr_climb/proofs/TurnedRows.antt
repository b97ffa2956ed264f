-- The row of the conjugate, from the row of a family.
--   turned                   z^(x(n,g) - x(g,n')) times the number of the row at n', where n g = g n'
--   turned_small             its numbers are sums of few powers of z
--   turned_conjugate         of the traces of a family they are the traces of the conjugate
--   same_order               the orders of a row's numbers are one
use Rattle.std.specs.Prelude.{ℕ, ◌≡◌, ◌<◌, ◌*◌, ◌/◌, List, length, map}
use Rattle.std.proofs.Common.{sym, ◌∙◌, ap, subst, get_or}
use Rattle.std.proofs.lemmas.List.Elements.{All-get_or}
use Rattle.irr_algebra.specs.Fin.{Fin}
use Rattle.irr_algebra.specs.Matrix.{trace}
use Rattle.irr_number.specs.Number.{Number, numbers}
use Rattle.irr_theory.specs.FactorSystem.{Representation}
use Rattle.irr_clifford.specs.Cyclic.{conjugate}
use Rattle.irr_level.specs.Scalar.{conjugate_exponent, phase_number}
use Rattle.irr_level.proofs.Phases.{conjugate_trace_at}
use Rattle.irr_canonical.specs.RootSum.{IsRootSum}
use Rattle.irr_canonical.proofs.RootSums.{IsRootSum-mul, IsRootSum-root}
use Rattle.irr_rep.specs.Twisted.{phase_table, place_count}
use Rattle.irr_char.specs.Rows.{row_of}
use Rattle.irr_char.specs.Characters.{IsRowOf, IsSmallRow}
use Rattle.irr_climb.specs.declared.step.Step.{Step}
use Rattle.irr_climb.specs.Steps.{IsStep, small}

module _ {S : Type 0} (order : S → ℕ) (value : (n : ℕ) → S → Number n) {M : ℕ} {step : Step} (is : IsStep M step) (row : List S) where
  -- the number of the conjugate's character at a member
  abbrev pub turned : Fin (place_count step.inner) → Number M
  turned p = (numbers M).mul
      (phase_number (phase_table step.outer) M (conjugate_exponent (phase_table step.outer) (is.part.place p) is.quotient.generator
      (is.part.place (is.quotient.conj p)))) (row_of M (map (value M) row) (is.quotient.conj p))

  pub turned_small : IsSmallRow order value M (place_count step.inner) row → (made : List S) → IsRowOf order value M turned made
      → IsSmallRow order value M (place_count step.inner) made
  turned_small few made r = record {
    count = r.count;
    orders = r.orders;
    small = λ p. subst (IsRootSum M 48 1) (sym (r.numbers_at p)) (IsRootSum-mul M
        (IsRootSum-root M (M / (phase_table step.outer).order * conjugate_exponent (phase_table step.outer) (is.part.place p) is.quotient.generator
        (is.part.place (is.quotient.conj p)))) (few.small (is.quotient.conj p)));
  }

  pub turned_conjugate : {d : ℕ} (D : Representation (small is) d) → IsRowOf order value M (λ i. trace (D.at i)) row → (made : List S)
      → IsRowOf order value M turned made → IsRowOf order value M (λ i. trace (conjugate is.quotient D i)) made
  turned_conjugate D traces made r = record {
    count = r.count;
    orders = r.orders;
    numbers_at = λ p. r.numbers_at p
        ∙ ap ((numbers M).mul (phase_number (phase_table step.outer) M
        (conjugate_exponent (phase_table step.outer) (is.part.place p) is.quotient.generator
        (is.part.place (is.quotient.conj p))))) (traces.numbers_at (is.quotient.conj p))
        ∙ sym (conjugate_trace_at (phase_table step.outer) M is.outer_divides is.quotient D p);
  }

-- the rows of one list have one order
pub same_order : {S : Type 0} (order : S → ℕ) (value : (n : ℕ) → S → Number n) {h : ℕ} (row : List S) (m n : ℕ) (f : Fin h → Number n) → 0 < h
    → (x : S)
    → x ≡ get_or row 0 x → IsSmallRow order value m h row → IsRowOf order value n f row → IsSmallRow order value n h row
same_order order value {h} row m n f positive x is few traces =
    let within : 0 < length row = subst (λ k. 0 < k) (sym traces.count) positive in
    subst (λ k. IsSmallRow order value k h row)
    (sym (All-get_or (λ y. order y ≡ m) row 0 x within few.orders) ∙ All-get_or (λ y. order y ≡ n) row 0 x within traces.orders) few
