-- A subgroup of the places seen as a smaller table.
--   subtable_of: its members, with their products and phases
use Rattle.irr_algebra.specs.Ring.{Ring}
use Rattle.irr_theory.specs.FactorSystem.{FactorSystem}
use Rattle.irr_eigen.specs.Step.{Subtable}
use Rattle.irr_clifford.specs.Subgroup.{Subgroup}

-- the table of a subgroup in that of the whole
abbrev pub subtable_of : {R : Ring} {T : FactorSystem R} (H : Subgroup T) → Subtable H.table T
subtable_of H = record {
  place = H.member;
  injective = H.injective;
  place-start = H.member-start;
  place-product = H.member-product;
  place-phase = H.member-phase;
}
