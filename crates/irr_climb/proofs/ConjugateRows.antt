-- The character of the conjugate, by the numbers of a step.
--   part_of_product          the part of a power of the generator times a member is the member
--   conjugate_part           the part of n g is n', where n g = g n'
--   members_below, generator_below, parts_below      the places of a step
--   member_number, image_number      the place of a member n, and the number of n'
use Rattle.std.specs.Prelude.{ℕ, ◌≡◌, ◌<◌, ◌⊎◌, List, length, slice_index}
use Rattle.std.proofs.Common.{sym, ◌∙◌, ap, subst, inl, inr, get_or, arith}
use Rattle.std.proofs.lemmas.List.{get_or_default}
use Rattle.irr_algebra.specs.Ring.{Ring}
use Rattle.irr_algebra.specs.Fin.{Fin, to_nat}
use Rattle.irr_algebra.proofs.Indices.{from_nat, to_nat-from_nat, to_nat-lt}
use Rattle.irr_theory.specs.FactorSystem.{FactorSystem}
use Rattle.irr_clifford.specs.Subgroup.{Subgroup}
use Rattle.irr_clifford.specs.Cyclic.{CyclicQuotient, place_power}
use Rattle.irr_clifford.proofs.Split.{place_cancel}
use Rattle.irr_rep.specs.Twisted.{phase_table, place_count}
use Rattle.irr_climb.specs.declared.step.Step.{Step}
use Rattle.irr_climb.specs.Steps.{IsStep}

module _ {R : Ring} {T : FactorSystem R} {H : Subgroup T} (Q : CyclicQuotient H) where
  place : Fin Q.index → Fin H.table.places → Fin T.places
  place a n = T.product (place_power T Q.generator (to_nat a)) (H.member n)

  exponent_of_product : (a : Fin Q.index) (n : Fin H.table.places) → Q.exponent (place a n) ≡ a
  unfolding place
  exponent_of_product a n = Q.one_exponent (Q.exponent (place a n)) a (Q.part (place a n)) n (Q.splits (place a n))

  pub part_of_product : (a : Fin Q.index) (n : Fin H.table.places) → Q.part (T.product (place_power T Q.generator (to_nat a)) (H.member n)) ≡ n
  unfolding place
  part_of_product a n = H.injective (Q.part (place a n)) n
      (place_cancel T (place_power T Q.generator (to_nat a)) (H.member (Q.part (place a n))) (H.member n)
      (ap (λ b. T.product (place_power T Q.generator (to_nat b)) (H.member (Q.part (place a n)))) (sym (exponent_of_product a n))
      ∙ Q.splits (place a n)))

  above_one : (Q.index ≡ 2) ⊎ (Q.index ≡ 3) → 1 < Q.index
  above_one (inl e) = omega (arith, e)
  above_one (inr e) = omega (arith, e)

  first_power : place_power T Q.generator 1 ≡ Q.generator
  unfolding place_power
  first_power = T.product-start Q.generator

  pub conjugate_part : (Q.index ≡ 2) ⊎ (Q.index ≡ 3) → (n : Fin H.table.places) → Q.part (T.product (H.member n) Q.generator) ≡ Q.conj n
  conjugate_part small n =
      let one = from_nat Q.index 1 (above_one small) in
      ap Q.part (Q.member-generator n
      ∙ ap (λ a. T.product a (H.member (Q.conj n))) (sym (ap (place_power T Q.generator) (to_nat-from_nat Q.index 1 (above_one small))
      ∙ first_power)))
      ∙ part_of_product one (Q.conj n)

module _ {M : ℕ} {step : Step} (is : IsStep M step) where
  pub members_below : (i : Fin (place_count step.inner)) → slice_index step.members.items (to_nat i) < place_count step.outer
  members_below i = subst (λ k. k < place_count step.outer) (sym (is.members i)) (to_nat-lt (is.part.place i))

  pub generator_below : step.generator < place_count step.outer
  generator_below = subst (λ k. k < place_count step.outer) (sym is.generator) (to_nat-lt is.quotient.generator)

  pub parts_below : (x : Fin (place_count step.outer)) → slice_index step.parts.items (to_nat x) < place_count step.inner
  parts_below x = subst (λ k. k < place_count step.inner) (sym (is.parts x)) (to_nat-lt (is.quotient.part x))

  module _ (i : ℕ) (p : Fin (place_count step.inner)) (e : to_nat p ≡ i) where
    pub member_number : slice_index step.members.items i ≡ to_nat (is.part.place p)
    member_number = sym (ap (slice_index step.members.items) e) ∙ is.members p

    -- the part of n g
    pub image_number : (product : ℕ)
        → ((a b : Fin (place_count step.outer)) → to_nat a ≡ slice_index step.members.items i → to_nat b ≡ step.generator
        → product ≡ to_nat ((phase_table step.outer).product a b))
        → slice_index step.parts.items product ≡ to_nat (is.quotient.conj p)
    image_number product h =
        ap (slice_index step.parts.items) (h (is.part.place p) is.quotient.generator (sym member_number) (sym is.generator))
        ∙ is.parts ((phase_table step.outer).product (is.part.place p) is.quotient.generator)
        ∙ ap to_nat (conjugate_part is.quotient is.two_or_three p)

-- what is read inside a list
pub number_read : (xs : List ℕ) (i x n : ℕ) → x ≡ get_or xs i x → length xs ≡ n → i < n → x ≡ slice_index xs i
number_read xs i x n is count below = is ∙ get_or_default xs i x 0 (subst (λ k. i < k) (sym count) below)
