-- The dimension of a space of intertwiners is an average of traces.
use Rattle.std.proofs.Common.{◌≡◌, sym, ◌∙◌, ap, ℕ}
use Rattle.irr_algebra.specs.Ring.{whole}
use Rattle.irr_algebra.specs.Field.{Field}
use Rattle.irr_algebra.specs.Fin.{Fin}
use Rattle.irr_algebra.specs.Sum.{sum, delta}
use Rattle.irr_algebra.specs.Matrix.{Matrix, scale, total, combination, single}
use Rattle.irr_algebra.specs.Action.{HasDimension}
use Rattle.irr_algebra.proofs.Fields.{mul-inverse_left}
use Rattle.irr_algebra.proofs.Sums.{sum-ext, sum_swap, sum-one, delta-refl}
use Rattle.irr_algebra.proofs.Totals.{total-ext, total-single_entries, combination-sum, combination-mul, combination-delta, combination-at}
use Rattle.irr_algebra.proofs.Actions.{combination_inj}
use Rattle.irr_theory.specs.FactorSystem.{FactorSystem, Representation}
use Rattle.irr_theory.specs.Traces.{trace_sum}
use Rattle.irr_theory.proofs.Inverses.{places-ne-zero}
use Rattle.irr_theory.proofs.Averages.{average, trace_average, average-intertwines, average-total, average-scale, average_of_intertwiner, average-trace}

module _ (F : Field) where
  open F use {ring as R}

  -- the dimension of the space of intertwiners is the scalar product of the characters
  pub dimension-average : {T : FactorSystem R} {a b n : ℕ} (A : Representation T a) (B : Representation T b) → HasDimension A.at B.at n → whole R n ≡ trace_average F A B
  dimension-average {T} {a} {b} {n} A B h = sym (sum-one R n) ∙ sum-ext R n (λ k. R.one) (λ k. double (λ i j. R.mul ((h.members k).at i j) (part i j k))) (λ k.
      sym (delta-refl R k) ∙ sym (parts k k))
      ∙ gathered ∙ average-trace F A B
    where
      double : (Fin b → Fin a → R.Carrier) → R.Carrier
      double f = sum R b (λ i. sum R a (λ j. f i j))

      -- the coordinates of the averages of the matrices of one entry
      part : Fin b → Fin a → Fin n → R.Carrier
      part i j = (h.spanning (average F A B (single i j)) (average-intertwines F A B (single i j))).0

      part-is : (i : Fin b) (j : Fin a) → average F A B (single i j) ≡ combination R n (part i j) h.members
      part-is i j = (h.spanning (average F A B (single i j)) (average-intertwines F A B (single i j))).1

      parts : (l k : Fin n) → double (λ i j. R.mul ((h.members l).at i j) (part i j k)) ≡ delta R l k
      parts l = combination_inj A.at B.at h (λ k. double (λ i j. R.mul ((h.members l).at i j) (part i j k))) (delta R l)
          (combination-sum R b n (λ i k. sum R a (λ j. R.mul ((h.members l).at i j) (part i j k))) h.members
          ∙ total-ext b (λ i. combination-sum R a n (λ j k. R.mul ((h.members l).at i j) (part i j k)) h.members
          ∙ total-ext a (λ j. combination-mul R n ((h.members l).at i j) (part i j) h.members
          ∙ ap (scale R ((h.members l).at i j)) (sym (part-is i j)) ∙ sym (average-scale F A B ((h.members l).at i j) (single i j)))
          ∙ sym (average-total F A B a (λ j. scale R ((h.members l).at i j) (single i j))))
          ∙ sym (average-total F A B b (λ i. total a (λ j. scale R ((h.members l).at i j) (single i j))))
          ∙ ap (average F A B) (total-single_entries (h.members l)) ∙ average_of_intertwiner F A B (h.members l) (h.are_intertwiners l)
          ∙ sym (combination-delta n l h.members))

      gathered : sum R n (λ k. double (λ i j. R.mul ((h.members k).at i j) (part i j k))) ≡ double (λ i j. (average F A B (single i j)).at i j)
      gathered =
          sum_swap R n b (λ k i. sum R a (λ j. R.mul ((h.members k).at i j) (part i j k)))
          ∙ sum-ext R b (λ i. sum R n (λ k. sum R a (λ j. R.mul ((h.members k).at i j) (part i j k)))) (λ i. sum R a (λ j. (average F A B (single i j)).at i j)) (λ i.
          sum_swap R n a (λ k j. R.mul ((h.members k).at i j) (part i j k))
          ∙ sum-ext R a (λ j. sum R n (λ k. R.mul ((h.members k).at i j) (part i j k))) (λ j. (average F A B (single i j)).at i j) (λ j.
          sum-ext R n (λ k. R.mul ((h.members k).at i j) (part i j k)) (λ k. R.mul (part i j k) ((h.members k).at i j)) (λ k. R.mul_comm ((h.members k).at i j) (part i j k))
          ∙ sym (combination-at R n (part i j) h.members i j) ∙ ap (λ (m : Matrix R b a). m.at i j) (sym (part-is i j))))

  -- the same with no division
  pub dimension-trace_sum : {T : FactorSystem R} {a b n : ℕ} (A : Representation T a) (B : Representation T b) → HasDimension A.at B.at n → R.mul (whole R T.places) (whole R n) ≡ trace_sum A B
  unfolding trace_average
  dimension-trace_sum {T} A B h = ap (R.mul (whole R T.places)) (dimension-average A B h) ∙ mul-inverse_left F (whole R T.places) (trace_sum A B) (places-ne-zero F T)
