-- The families over one member of a full list.
--
-- IsLeastOfOrbit  the orbit of l under the first powers of a map has no index but l that is not above l
-- AreOver         the list of families over the member l: its extensions, where l is equivalent to its conjugate; the family
--                 induced from l, where l is the least of an orbit of several; none where it is another one of such an orbit
use Rattle.std.specs.Prelude.{ℕ, ◌≡◌, ◌<◌}
use Rattle.irr_algebra.specs.Ring.{Ring}
use Rattle.irr_algebra.specs.Fin.{Fin, to_nat}
use Rattle.irr_algebra.specs.Matrix.{trace}
use Rattle.irr_algebra.specs.Action.{Equivalent}
use Rattle.irr_theory.specs.Extension.{iterate}
use Rattle.irr_theory.specs.FactorSystem.{FactorSystem}
use Rattle.irr_theory.specs.Representations.{Representations}
use Rattle.irr_clifford.specs.Subgroup.{Subgroup, restrict}
use Rattle.irr_clifford.specs.Cyclic.{CyclicQuotient, IsInduced}

-- l is below its images under the powers 1, 2, .., p - 1 of the map
abbrev pub IsLeastOfOrbit : {n : ℕ} → (Fin n → Fin n) → ℕ → Fin n → Type 0
IsLeastOfOrbit turn p l = (a : ℕ) → 0 < a → a < p → to_nat l < to_nat (iterate turn a l)

-- M holds the families over the member l of L, where the conjugate of each member l is equivalent to the member `turn l`
pub record AreOver {R : Ring} {T : FactorSystem R} {H : Subgroup T} (Q : CyclicQuotient H) (L : Representations H.table) (turn : Fin L.count → Fin L.count)
    (l : Fin L.count) (M : Representations T) : Type 0 where
  -- as many extensions as the index says, with different traces
  pub extensions : turn l ≡ l → M.count ≡ Q.index
  pub extends : turn l ≡ l → (m : Fin M.count) → Equivalent (restrict H (M.member m)) (L.member l).at
  pub differ : turn l ≡ l → (m n : Fin M.count) → (m ≡ n → ⊥) → (x : Fin T.places) × (trace ((M.member m).at x) ≡ trace ((M.member n).at x) → ⊥)
  -- one induced family
  pub one_induced : (turn l ≡ l → ⊥) → IsLeastOfOrbit turn Q.index l → M.count ≡ 1
  pub induced : (turn l ≡ l → ⊥) → IsLeastOfOrbit turn Q.index l → (m : Fin M.count) → IsInduced Q (L.member l) (M.member m)
  -- none
  pub no_other : (turn l ≡ l → ⊥) → (IsLeastOfOrbit turn Q.index l → ⊥) → M.count ≡ 0
