-- Places of a table of phases whose products are all its places, given by the list of their numbers.
--   IsReached T generators i     the place i is a product of the generators, of any length
--   Generate T generators        each place is one
--   IsMarked marks k             the mark at k is set
--   Grows T generators old new   new has the marks of old, and others only at products of marked places with generators
use Rattle.std.specs.Prelude.{ℕ, ◌≡◌, List, Bool, Contains, true, false, length, slice_index_or}
use Rattle.irr_algebra.specs.Fin.{Fin, to_nat}
use Rattle.irr_space.specs.PhaseTable.{PhaseTable}

-- the smallest set that has the unit, and the products of its places with the generators
pub data IsReached {h : ℕ} (T : PhaseTable h) (generators : List ℕ) : Fin h → Type 0 where
  unit : IsReached T generators T.start
  product : {i g : Fin h} → IsReached T generators i → Contains generators (to_nat g) → IsReached T generators (T.product i g)

-- each place is a product of generators
abbrev pub Generate : {h : ℕ} → PhaseTable h → List ℕ → Type 0
Generate {h} T generators = (i : Fin h) → IsReached T generators i

-- the mark at k is set
abbrev pub IsMarked : List Bool → ℕ → Type 0
IsMarked marks k = slice_index_or marks k false ≡ true

-- new has the marks of old, and where these are at products of generators, so are those of new
pub record Grows {h : ℕ} (T : PhaseTable h) (generators : List ℕ) (old new : List Bool) : Type 0 where
  pub count : length new ≡ length old
  pub kept : (k : ℕ) → IsMarked old k → IsMarked new k
  pub reached : ((i : Fin h) → IsMarked old (to_nat i) → IsReached T generators i) → (i : Fin h) → IsMarked new (to_nat i) → IsReached T generators i
