-- Walking along the powers of a place, and back along its cosets.
--   power-more                   the next power
--   part-start, part-more        what is left of a place behind the powers
--   cover-none, cover-more       the cosets of the powers so far
use Rattle.std.specs.Prelude.{ℕ, suc, ◌≡◌, ◌+◌}
use Rattle.std.proofs.Common.{refl, sym, ◌∙◌, ap, subst, inl, inr, arith}
use Rattle.irr_number.specs.SumLaws.{same_or_not}
use Rattle.irr_algebra.specs.Fin.{Fin}
use Rattle.irr_space.specs.PhaseTable.{PhaseTable, place_power}
use Rattle.irr_chain.specs.Quotient.{Cover, power}
use Rattle.irr_chain.proofs.GroupLaws.{group_laws, opposite_of_product, power_commutes}

module _ {h : ℕ} (T : PhaseTable h) where
  pub power-more : (g : Fin h) (e : ℕ) → power T g (e + 1) ≡ T.product g (power T g e)
  unfolding place_power
  power-more g e = ap (power T g) (let s : e + 1 ≡ suc e = omega arith in s)

  pub power-none : (g : Fin h) → power T g 0 ≡ T.start
  unfolding place_power
  power-none g = refl

  pub part-start : (a b : Fin h) → b ≡ T.product (T.opposite (power T a 0)) b
  unfolding place_power
  part-start a b = simp (group_laws, T)

  pub part-more : (a b : Fin h) (e : ℕ) → T.product (T.opposite a) (T.product (T.opposite (power T a e)) b) ≡ T.product (T.opposite (power T a (e + 1))) b
  part-more a b e =
      sym (T.product_assoc (T.opposite a) (T.opposite (power T a e)) b)
      ∙ ap (λ k. T.product k b) (sym (opposite_of_product T (power T a e) a) ∙ ap T.opposite (sym (power_commutes T a e) ∙ sym (power-more a e)))

  module _ (K : Fin h → Type 0) (a b : Fin h) where
    pub cover-none : Cover T K 0 a b → ⊥
    cover-none (e, l, k) = omega arith

    pub cover-more : (e : ℕ) → (Cover T K e a b → ⊥) → (K (T.product (T.opposite (power T a e)) b) → ⊥) → Cover T K (e + 1) a b → ⊥
    cover-more e none out (d, l, k) = elim (same_or_not d e) [
      | inl s ↦ out (subst (λ n. K (T.product (T.opposite (power T a n)) b)) s k)
      | inr f ↦ none (d, omega (arith, f), k)
    ]
