-- Sets of places as marks, one for each place.
--   IsMarked marks k         the mark at k is set
--   Marked marks i           the place i is marked
--   unmarked marks           how many marks are not set
--   Grows T old new          new has the marks of old, and each subgroup that has the old places has the new ones
--   Generators T H p marks   the marked places are the p-th powers and the commutators of H
use Rattle.std.specs.Prelude.{ℕ, ◌≡◌, ◌⊎◌, List, Bool, true, false, not, length, slice_index_or, count_by}
use Rattle.irr_algebra.specs.Fin.{Fin, to_nat}
use Rattle.irr_space.specs.PhaseTable.{PhaseTable}
use Rattle.irr_rep.specs.Subgroup.{IsSubgroup}
use Rattle.irr_chain.specs.NormalSubgroup.{In}
use Rattle.irr_chain.specs.Quotient.{power, commutator}

-- the mark at k is set
abbrev pub IsMarked : List Bool → ℕ → Type 0
IsMarked marks k = slice_index_or marks k false ≡ true

-- the place is marked
abbrev pub Marked : {h : ℕ} → List Bool → Fin h → Type 0
Marked marks i = IsMarked marks (to_nat i)

-- how many marks are not set
abbrev pub unmarked : List Bool → ℕ
unmarked marks = count_by not marks

-- new has the places of old, and others only of the subgroup that these generate
pub record Grows {h : ℕ} (T : PhaseTable h) (old new : List Bool) : Type 0 where
  pub count : length new ≡ length old
  pub kept : (i : Fin h) → Marked old i → Marked new i
  pub within : (members : List ℕ) → IsSubgroup T members → ((i : Fin h) → Marked old i → In members i) → (i : Fin h) → Marked new i → In members i

-- the marked places are the p-th powers and the commutators of places of H
pub record Generators {h : ℕ} (T : PhaseTable h) (H : Fin h → Type 0) (p : ℕ) (marks : List Bool) : Type 0 where
  pub powers : (i : Fin h) → H i → Marked marks (power T i p)
  pub commutators : (i j : Fin h) → H i → H j → Marked marks (commutator T i j)
  pub only : (k : Fin h) → Marked marks k
      → ((i : Fin h) × H i × (k ≡ power T i p)) ⊎ ((i : Fin h) × (j : Fin h) × H i × H j × (k ≡ commutator T i j))
