-- On the table of one place the list of the 1 by 1 unit matrix is full and complete, over each ring.
use Rattle.std.proofs.Common.{◌≡◌, sym, ◌∙◌, ap, refl, ℕ, zero, suc, ◌<◌, arith}
use Rattle.irr_algebra.specs.Ring.{Ring}
use Rattle.irr_algebra.specs.Fin.{Fin}
use Rattle.irr_algebra.specs.Fin.Fin.{first, next}
use Rattle.irr_algebra.specs.Sum.{delta}
use Rattle.irr_algebra.specs.Matrix.{Matrix, ◌·◌, scale, unit, null, combination, column}
use Rattle.irr_algebra.specs.Span.{IsIndependent}
use Rattle.irr_algebra.specs.Action.{IsInvariant, IsIrreducible, Equivalent, IsSimple}
use Rattle.irr_algebra.proofs.Indices.{only_first}
use Rattle.irr_algebra.proofs.Sums.{sum-delta, delta-refl}
use Rattle.irr_algebra.proofs.Matrices.{matrix-ext, mul-unit, unit-mul, entry_of_null, scale-at, unit-at}
use Rattle.irr_algebra.proofs.Totals.{combination-single}
use Rattle.irr_algebra.proofs.Spans.{independent_of_left_inverse}
use Rattle.irr_algebra.proofs.Actions.{unit-intertwines, invariant_of_matrix}
use Rattle.irr_theory.specs.FactorSystem.{Representation}
use Rattle.irr_theory.specs.Representations.{count_total, IsFull, IsComplete}
use Rattle.irr_theory.specs.OnePlace.{one_place, one_family, one_list}

module _ (R : Ring) where
  -- a 1 by 1 matrix is its entry times the unit matrix
  scale-entry : (x : Matrix R 1 1) → scale R (x.at first first) (unit R 1) ≡ x
  unfolding scale unit delta
  scale-entry x = matrix-ext entries
    where
      entries : (i j : Fin 1) → R.mul (x.at first first) (delta R i j) ≡ x.at i j
      entries first first = R.mul-one (x.at first first)
      entries first (next j) = elim j [ ]
      entries (next i) j = elim i [ ]

  pub one_family-simple : IsSimple (one_family R).at
  one_family-simple = record {
    members = λ k. unit R 1;
    are_intertwiners = λ k. unit-intertwines (one_family R).at;
    independent = λ c e k. ap c (sym (only_first k)) ∙ number c e;
    spanning = λ x h. (λ k. x.at first first, sym (scale-entry x) ∙ sym (combination-single R (λ k. x.at first first) (λ k. unit R 1)));
  }
    where
      number : (c : Fin 1 → R.Carrier) → combination R 1 c (λ k. unit R 1) ≡ null → c first ≡ R.zero
      number c e =
          sym (R.mul-one (c first)) ∙ ap (R.mul (c first)) (sym (delta-refl R first) ∙ sym (unit-at R first first)) ∙ sym (scale-at R (c first) (unit R 1) first first)
          ∙ entry_of_null first first (sym (combination-single R c (λ k. unit R 1)) ∙ e)

  pub one_list-full : IsFull (one_list R)
  unfolding count_total
  one_list-full = record {
    positive = λ m. omega arith;
    simple = λ m. one_family-simple;
    inequivalent = λ m n d e. d (sym (only_first m) ∙ only_first n);
    squares = refl;
  }

  -- each matrix of a family on the table is the unit matrix
  at-unit : {a : ℕ} (A : Representation (one_place R) a) (i : Fin 1) → A.at i ≡ unit R a
  at-unit A i = ap A.at (sym (only_first i)) ∙ A.at-start

  -- the first unit vector spans an invariant space
  basis : (n : ℕ) → Matrix R (suc n) 1
  basis n = column (unit R (suc n)) first

  -- and the first row of the unit matrix is its left inverse
  row : (n : ℕ) → Matrix R 1 (suc n)
  row n = record { at = λ i k. delta R first k }

  basis-independent : (n : ℕ) → IsIndependent (basis n)
  unfolding basis row column unit ◌·◌ delta
  basis-independent n = independent_of_left_inverse (basis n) (row n) (matrix-ext entries)
    where
      entries : (i j : Fin 1) → (row n · basis n).at i j ≡ (unit R 1).at i j
      entries first first = sum-delta R (suc n) first (λ k. delta R k first)
      entries first (next j) = elim j [ ]
      entries (next i) j = elim i [ ]

  basis-invariant : {n : ℕ} (A : Representation (one_place R) (suc n)) → IsInvariant A.at (basis n)
  basis-invariant {n} A = invariant_of_matrix A.at (basis n) (λ i. (
    unit R 1,
    mul-unit (basis n) ∙ sym (ap (λ (m : Matrix R (suc n) (suc n)). m · basis n) (at-unit A i) ∙ unit-mul (basis n)),
  ))

  -- so an irreducible family has size 1 and is the member
  irreducible-one : (a : ℕ) (A : Representation (one_place R) a) → 0 < a → IsIrreducible A.at → Equivalent A.at (one_family R).at
  irreducible-one zero A l h = absurd (omega arith)
  irreducible-one (suc zero) A l h = record {
    forward = unit R 1;
    backward = unit R 1;
    is_intertwiner = record { intertwines = λ i. ap (λ (m : Matrix R 1 1). unit R 1 · m) (sym (at-unit A i)) };
    forward-backward = unit-mul (unit R 1);
    backward-forward = unit-mul (unit R 1);
  }
  irreducible-one (suc (suc n)) A l h = absurd (h.no_invariant 1 (basis (suc n)) (omega arith) (omega arith) (basis-independent (suc n)) (basis-invariant A))

  pub one_list-complete : IsComplete (one_list R)
  one_list-complete = record {
    positive = λ m. omega arith;
    irreducible = λ m. record { no_invariant = λ r p positive below independent invariant. omega arith };
    inequivalent = λ m n d e. d (sym (only_first m) ∙ only_first n);
    all = λ {a} A l h. (first, irreducible-one a A l h);
  }
