-- Whether a place is the least of its orbit, by the list of turns.
--   not_least                not where its turn is not above it
--   least_two                for the index 2 this is all
--   least_three              for the index 3 the turn of the turn is compared too
use Rattle.std.specs.Prelude.{ℕ, ◌≡◌, ◌<◌, ◌≤◌, ◌⊎◌, ◌↔◌, List, slice_index}
use Rattle.std.proofs.Common.{sym, ◌∙◌, ap, subst, inl, inr, arith}
use Rattle.irr_algebra.specs.Fin.{Fin, to_nat}
use Rattle.irr_ascent.specs.Over.{IsLeastOfOrbit}
use Rattle.irr_ascent.proofs.Orbit.{least_of_three, least_of_two}

module _ (turns : List ℕ) (n : ℕ) (turn : Fin n → Fin n) (listed : (k : Fin n) → slice_index turns (to_nat k) ≡ to_nat (turn k)) (index l next : ℕ)
    (k : Fin n) (e : to_nat k ≡ l) (is : next ≡ slice_index turns l) where
  next_turn : next ≡ to_nat (turn k)
  next_turn = is ∙ ap (slice_index turns) (sym e) ∙ listed k

  pub not_least : (index ≡ 2) ⊎ (index ≡ 3) → next ≤ l → IsLeastOfOrbit turn index k → ⊥
  not_least (inl two) le least = let a = (least_of_two turn index two k).1 least in omega (arith, le, a, e, next_turn)
  not_least (inr three) le least = let a = ((least_of_three turn index three k).1 least).0 in omega (arith, le, a, e, next_turn)

  pub least_two : index ≡ 2 → l < next → IsLeastOfOrbit turn index k
  least_two two above = (least_of_two turn index two k).0 (let a : to_nat k < to_nat (turn k) = omega (arith, above, e, next_turn) in a)

  pub least_three : index ≡ 3 → l < next → (after : ℕ) → after ≡ slice_index turns next → (l < after) ↔ IsLeastOfOrbit turn index k
  least_three three above after read =
      let twice : after ≡ to_nat (turn (turn k)) = read ∙ ap (slice_index turns) next_turn ∙ listed (turn k) in (
        λ m. (least_of_three turn index three k).0 (
          (let a : to_nat k < to_nat (turn k) = omega (arith, above, e, next_turn) in a),
          (let b : to_nat k < to_nat (turn (turn k)) = omega (arith, m, e, twice) in b),
        ),
        λ least. let b = ((least_of_three turn index three k).1 least).1 in (let c : l < after = omega (arith, b, e, twice) in c),
      )

pub three_of : (index : ℕ) → (index ≡ 2) ⊎ (index ≡ 3) → (index ≡ 2 → ⊥) → index ≡ 3
three_of index (inl e) other = absurd (other e)
three_of index (inr e) other = e
