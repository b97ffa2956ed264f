-- Subgroups of a table of phases, given by the list of their places.
--   IsSubgroup T members         the members are a subgroup of the places, each once, with the unit first
--   IsRestriction T members S    S is T on the members, which are numbered by their position
use Rattle.std.specs.Prelude.{ℕ, ◌≡◌, ◌<◌, List, length, slice_index, EachIndex, Contains}
use Rattle.irr_algebra.specs.Fin.{Fin, to_nat}
use Rattle.irr_space.specs.PhaseTable.{PhaseTable}

-- the members are a subgroup, each place once, with the unit first
pub record IsSubgroup {h : ℕ} (T : PhaseTable h) (members : List ℕ) : Type 0 where
  pub below : EachIndex members (λ a. slice_index members a < h)
  pub distinct : (a b : ℕ) → a < length members → b < length members → slice_index members a ≡ slice_index members b → a ≡ b
  pub not_empty : 0 < length members
  pub unit_first : slice_index members 0 ≡ 0
  pub products_inside : (i j : Fin h) → Contains members (to_nat i) → Contains members (to_nat j) → Contains members (to_nat (T.product i j))
  pub opposites_inside : (i : Fin h) → Contains members (to_nat i) → Contains members (to_nat (T.opposite i))

-- S has the members as its places, in their order, with the products, exponents and order of T
pub record IsRestriction {h n : ℕ} (T : PhaseTable h) (members : List ℕ) (S : PhaseTable n) : Type 0 where
  pub count : n ≡ length members
  pub same_order : S.order ≡ T.order
  pub member : Fin n → Fin h
  pub member-number : (i : Fin n) → to_nat (member i) ≡ slice_index members (to_nat i)
  pub member-product : (i j : Fin n) → member (S.product i j) ≡ T.product (member i) (member j)
  pub same_exponent : (i j : Fin n) → S.exponent i j ≡ T.exponent (member i) (member j)
