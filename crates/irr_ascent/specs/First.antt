-- The list that a program has after the first members of a full list.
--
-- IsOverFirst  a list that holds the families over the first k members
use Rattle.std.specs.Prelude.{ℕ, ◌≡◌}
use Rattle.irr_algebra.specs.Ring.{Ring}
use Rattle.irr_algebra.specs.Fin.{Fin, to_nat}
use Rattle.irr_theory.specs.FactorSystem.{FactorSystem}
use Rattle.irr_theory.specs.Representations.{Representations}
use Rattle.irr_clifford.specs.Subgroup.{Subgroup}
use Rattle.irr_clifford.specs.Cyclic.{CyclicQuotient}
use Rattle.irr_ascent.specs.Joined.{IsUnion}
use Rattle.irr_ascent.specs.Over.{AreOver}

-- M holds the members of k lists, which are the lists over the first k members of L
pub record IsOverFirst {R : Ring} {T : FactorSystem R} {H : Subgroup T} (Q : CyclicQuotient H) (L : Representations H.table) (turn : Fin L.count → Fin L.count)
    (k : ℕ) (M : Representations T) : Type 0 where
  pub over : Fin k → Representations T
  pub are_over : (i : Fin k) (l : Fin L.count) → to_nat i ≡ to_nat l → AreOver Q L turn l (over i)
  pub union : IsUnion over M
