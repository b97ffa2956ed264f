-- Parts of factor systems as subgroups.
--   as_subgroup part          the subgroup at the places of a part
--   as_part H                 a subgroup as a part
--   ArePositions inner outer at      the i-th member of one list is the member of the other at the position at(i)
use Rattle.std.specs.Prelude.{ℕ, ◌≡◌, List, slice_index}
use Rattle.irr_algebra.specs.Ring.{Ring}
use Rattle.irr_algebra.specs.Fin.{Fin, to_nat}
use Rattle.irr_theory.specs.FactorSystem.{FactorSystem}
use Rattle.irr_eigen.specs.Step.{Subtable}
use Rattle.irr_clifford.specs.Subgroup.{Subgroup}

-- the subgroup whose table is S, at the places of the part
abbrev pub as_subgroup : {R : Ring} {S T : FactorSystem R} → Subtable S T → Subgroup T
as_subgroup {R} {S} part = record {
  table = S;
  member = part.place;
  member-start = part.place-start;
  member-product = part.place-product;
  member-phase = part.place-phase;
  injective = part.injective;
}

-- the members as a part
abbrev pub as_part : {R : Ring} {T : FactorSystem R} (H : Subgroup T) → Subtable H.table T
as_part H = record {
  place = H.member;
  injective = H.injective;
  place-start = H.member-start;
  place-product = H.member-product;
  place-phase = H.member-phase;
}

-- the i-th member of `inner` is the member of `outer` at the position at(i)
abbrev pub ArePositions : {n m : ℕ} → List ℕ → List ℕ → (Fin n → Fin m) → Type 0
ArePositions {n} inner outer at = (i : Fin n) → slice_index outer (to_nat (at i)) ≡ slice_index inner (to_nat i)
