-- Each space of intertwiners has a dimension.
use Rattle.std.proofs.Common.{◌≡◌, sym, ◌∙◌, ap, subst, ℕ}
use mathlib.Core.Path.{fun_ext}
use Rattle.irr_algebra.specs.Field.{Field}
use Rattle.irr_algebra.specs.Fin.{Fin}
use Rattle.irr_algebra.specs.Fin.Fin.{first}
use Rattle.irr_algebra.specs.Sum.{sum}
use Rattle.irr_algebra.specs.Matrix.{Matrix, ◌·◌, scale, null, total, combination, single}
use Rattle.irr_algebra.specs.Action.{IsIntertwiner, HasDimension}
use Rattle.irr_algebra.specs.Pair.{times, pair, on_pairs}
use Rattle.irr_algebra.proofs.Sums.{sum-ext}
use Rattle.irr_algebra.proofs.Matrices.{matrix-ext, mul_assoc, mul-at, entry_of_null}
use Rattle.irr_algebra.proofs.Totals.{total-at, total-single_entries, combination-at}
use Rattle.irr_algebra.proofs.Rank.{Factored, factored}
use Rattle.irr_algebra.proofs.Spans.{independent_of_left_inverse}
use Rattle.irr_algebra.proofs.Folding.{folded, flat, folded-null, folded-ext, folded-combination, folded-flat}
use Rattle.irr_algebra.proofs.Pairs.{on_pairs-pair, sum-times}
use Rattle.irr_theory.specs.FactorSystem.{FactorSystem, Representation}
use Rattle.irr_theory.proofs.Averages.{average, average-intertwines, average-total, average-scale, average_of_intertwiner}

module _ (F : Field) {T : FactorSystem F.ring} {a b : ℕ} (A : Representation T a) (B : Representation T b) where
  open F use {ring as R}

  -- entry i j of an average, by the averages of the matrices of one entry
  average-entry : (y : Matrix R b a) (i : Fin b) (j : Fin a)
      → sum R b (λ r. sum R a (λ s. R.mul ((average F A B (single r s)).at i j) (y.at r s))) ≡ (average F A B y).at i j
  average-entry y i j =
      sum-ext R b (λ r. sum R a (λ s. R.mul ((average F A B (single r s)).at i j) (y.at r s))) (λ r. (average F A B (total a (λ s. scale R (y.at r s) (single r s)))).at i j) (λ r.
      sum-ext R a (λ s. R.mul ((average F A B (single r s)).at i j) (y.at r s)) (λ s. R.mul (y.at r s) ((average F A B (single r s)).at i j)) (λ s.
      R.mul_comm ((average F A B (single r s)).at i j) (y.at r s))
      ∙ sym (combination-at R a (λ s. y.at r s) (λ s. average F A B (single r s)) i j)
      ∙ ap (λ (m : Matrix R b a). m.at i j) (ap (total a) (fun_ext (λ s. sym (average-scale F A B (y.at r s) (single r s)))) ∙ sym (average-total F A B a (λ s. scale R (y.at r s) (single r s)))))
      ∙ sym (total-at b (λ r. average F A B (total a (λ s. scale R (y.at r s) (single r s)))) i j)
      ∙ ap (λ (m : Matrix R b a). m.at i j) (sym (average-total F A B b (λ r. total a (λ s. scale R (y.at r s) (single r s)))) ∙ ap (average F A B) (total-single_entries y))

  -- the average as a matrix on the pairs of a row and a column
  operator : Matrix R (times b a) (times b a)
  operator = record { at = λ p q. on_pairs b a (λ i j. on_pairs b a (λ r s. (average F A B (single r s)).at i j) q) p }

  operator-at : (i r : Fin b) (j s : Fin a) → operator.at (pair a i j) (pair a r s) ≡ (average F A B (single r s)).at i j
  unfolding operator
  operator-at i r j s =
      on_pairs-pair a (λ x y. on_pairs b a (λ z w. (average F A B (single z w)).at x y) (pair a r s)) i j
      ∙ on_pairs-pair a (λ z w. (average F A B (single z w)).at i j) r s

  -- the operator takes the average of each column
  folded-operator : {n : ℕ} (p : Matrix R (times b a) n) (k : Fin n) → folded b a (operator · p) k ≡ average F A B (folded b a p k)
  unfolding folded
  folded-operator {n} p k = matrix-ext (λ i j.
      mul-at operator p (pair a i j) k
      ∙ sum-times R b a (λ x. R.mul (operator.at (pair a i j) x) (p.at x k))
      ∙ sum-ext R b (λ r. sum R a (λ s. R.mul (operator.at (pair a i j) (pair a r s)) (p.at (pair a r s) k)))
      (λ r. sum R a (λ s. R.mul ((average F A B (single r s)).at i j) ((folded b a p k).at r s))) (λ r.
      sum-ext R a (λ s. R.mul (operator.at (pair a i j) (pair a r s)) (p.at (pair a r s) k))
      (λ s. R.mul ((average F A B (single r s)).at i j) ((folded b a p k).at r s)) (λ s. ap (λ x. R.mul x (p.at (pair a r s) k)) (operator-at i r j s)))
      ∙ average-entry (folded b a p k) i j)

  -- the matrix as one column
  abbrev vector : Matrix R b a → Matrix R (times b a) 1
  vector x = flat b a (λ k. x)

  -- some independent intertwiners span all of them
  pub dimension_exists : (n : ℕ) × HasDimension A.at B.at n
  dimension_exists =
      let f : Factored operator = factored F (times b a) operator in (
        f.rank,
        record {
          members = λ k. folded b a f.basis k;
          are_intertwiners = λ k. member f k;
          independent = λ c e k. only_zero f c e k;
          spanning = λ x h. (λ k. (f.coordinates · vector x).at k first, spanned f x h);
        },
      )
    where
      member : (f : Factored operator) (k : Fin f.rank) → IsIntertwiner A.at B.at (folded b a f.basis k)
      member f k = subst (λ (m : Matrix R b a). IsIntertwiner A.at B.at m)
          (sym (ap (λ (m : Matrix R (times b a) f.rank). folded b a m k) f.is_chosen ∙ folded-operator f.choice k)) (average-intertwines F A B (folded b a f.choice k))

      only_zero : (f : Factored operator) (c : Fin f.rank → R.Carrier) → combination R f.rank c (folded b a f.basis) ≡ null → (k : Fin f.rank) → c k ≡ R.zero
      only_zero f c e k =
          let w : Matrix R f.rank 1 = record { at = λ l x. c l } in
          let z : f.basis · w ≡ null = folded-ext b a (f.basis · w) null (λ x. folded-combination b a f.basis w x ∙ e ∙ sym (folded-null b a x)) in
          entry_of_null k first ((independent_of_left_inverse f.basis f.left f.is_left).only_zero w z)

      spanned : (f : Factored operator) (x : Matrix R b a) → IsIntertwiner A.at B.at x
          → x ≡ combination R f.rank (λ k. (f.coordinates · vector x).at k first) (folded b a f.basis)
      spanned f x h =
          sym (average_of_intertwiner F A B x h) ∙ ap (average F A B) (sym (folded-flat b a (λ k. x) first)) ∙ sym (folded-operator (vector x) first)
          ∙ ap (λ (m : Matrix R (times b a) 1). folded b a m first) (ap (λ (m : Matrix R (times b a) (times b a)). m · vector x) f.is_product ∙ mul_assoc f.basis f.coordinates (vector x))
          ∙ folded-combination b a f.basis (f.coordinates · vector x) first
