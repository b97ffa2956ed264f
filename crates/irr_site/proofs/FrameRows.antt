-- The rows of traces of the families of a site.
--   term_kept, term_moved         the term of a site, by what is left there
--   are_terms                     the terms of a row of traces
--   sum_is                        their sum over the sites
use Rattle.std.proofs.Common.{◌≡◌, sym, ◌∙◌, ap, ap₂, subst, refl, ℕ, List, get_or}
use Rattle.std.specs.Prelude.{Option, Some, None}
use Rattle.irr_algebra.specs.Fin.{Fin, to_nat}
use Rattle.irr_algebra.specs.Listed.{sum_below}
use Rattle.irr_algebra.specs.Matrix.{◌⊕◌, ◌⊖◌}
use Rattle.irr_algebra.specs.Sum.{sum}
use Rattle.irr_algebra.proofs.Listed.{sum-to_nat}
use Rattle.irr_number.specs.Number.{Number, numbers, root_power}
use Rattle.irr_space.specs.Operation.{Operation, Vector, WaveVector, ◌⊙◌, translation}
use Rattle.irr_space.specs.Reciprocal.{IsPhase, Sign}
use Rattle.irr_cocycle.specs.SpaceGroupLaws.{IsGroup}
use Rattle.irr_cocycle.proofs.Operations.{add-sub}
use Rattle.irr_cocycle.proofs.Phases.{phase_unique}
use Rattle.irr_orbit.specs.Site.{AreTogether, DifferBy, Orbit, carrier, image, site}
use Rattle.irr_orbit.specs.SiteFamily.{AreTerms}
use Rattle.irr_orbit.proofs.Sites.{rest_once}
use Rattle.irr_site.specs.Rests.{AreRests, IsKept, IsRestAt}
use Rattle.irr_site.specs.Traces.{IsSumOf, number_at, rest_term}
use Rattle.irr_site.specs.declared.rest.Rest.{Rest}

-- a vector is known by a sum
same_shift : (t u y : Vector) → t ⊕ y ≡ u ⊕ y → t ≡ u
same_shift t u y e = sym (add-sub t y) ∙ ap (λ v. v ⊖ y) e ∙ add-sub u y

module _ (G : Operation → Type 0) (group : IsGroup G) (s : Sign) (k : WaveVector) (n : ℕ) {x : Vector} (O : Orbit G x)
    (g : Operation) (row : List (Number n)) (c : Fin O.places → Number n)
    (reads : (l : Fin O.places) → number_at n row (to_nat l) ≡ c l) where
  term_kept : (a : Fin O.sites) (r : Option Rest) → IsRestAt s k n O g a r → (t : Vector) (e : ℕ) (l : Fin O.places)
      → DifferBy G t (image g (site O a)) (site O a) → IsPhase s n k t e
      → g ⊙ carrier O a ≡ (translation t ⊙ carrier O a) ⊙ O.operation l
      → rest_term n row r ≡ (numbers n).mul (root_power n e) (c l)
  unfolding IsRestAt rest_term
  term_kept a (Some q) at t e l differ phase product =
      let shift : at.translation_of ≡ t = same_shift at.translation_of t (site O a) (sym at.differ.is_sum ∙ differ.is_sum) in
      let exponent : q.exponent ≡ e = phase_unique s n k t q.exponent e
      (subst (λ v. IsPhase s n k v q.exponent) shift at.is_phase) phase in
      let place : at.place ≡ l = rest_once G group O (g ⊙ carrier O a) a a t differ.is_translation l at.place product
      (at.is_product ∙ ap (λ v. (translation v ⊙ carrier O a) ⊙ O.operation at.place) shift) in
      ap₂ (λ m z. (numbers n).mul (root_power n m) z) exponent
      (ap (number_at n row) (sym at.number) ∙ reads at.place ∙ ap c place)
  term_kept a None at t e l differ phase product = absurd (at (t, differ))

  term_moved : (a : Fin O.sites) (r : Option Rest) → IsRestAt s k n O g a r
      → (AreTogether G (image g (site O a)) (site O a) → ⊥) → rest_term n row r ≡ (numbers n).zero
  unfolding IsRestAt rest_term
  term_moved a (Some q) at apart = absurd (apart (at.translation_of, at.differ))
  term_moved a None at apart = refl

  module _ (rs : List (Option Rest)) (are : AreRests s k n O g rs) where
    abbrev term : Fin O.sites → Number n
    term a = rest_term n row (get_or rs (to_nat a) None)

    pub are_terms : AreTerms s k n O c g (λ a. rest_term n row (get_or rs (to_nat a) None))
    are_terms = record {
      kept = λ a t e l differ phase product. term_kept a (get_or rs (to_nat a) None) (are.each a None) t e l differ phase product;
      moved = λ a apart. term_moved a (get_or rs (to_nat a) None) (are.each a None) apart;
    }

    pub sum_is : (v : Number n) → IsSumOf n row rs v
        → v ≡ sum (numbers n) O.sites (λ a. rest_term n row (get_or rs (to_nat a) None))
    sum_is v e = e ∙ ap (λ m. sum_below (numbers n) m (λ a. rest_term n row (get_or rs a None))) are.count
        ∙ sym (sum-to_nat (numbers n) O.sites (λ a. rest_term n row (get_or rs a None)))
