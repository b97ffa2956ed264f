-- The step up: a list of families on a table from a full list on a normal subgroup with cyclic quotient.
use Rattle.std.specs.Prelude.{ℕ, ◌≡◌}
use Rattle.irr_algebra.specs.Ring.{Ring}
use Rattle.irr_algebra.specs.Fin.{Fin, to_nat}
use Rattle.irr_algebra.specs.Fin.Fin.{first, next}
use Rattle.irr_algebra.specs.Matrix.{Matrix, trace}
use Rattle.irr_algebra.specs.Action.{Equivalent}
use Rattle.irr_theory.specs.Extension.{iterate}
use Rattle.irr_theory.specs.Representations.{Representations, count_total}
use Rattle.irr_theory.specs.FactorSystem.{FactorSystem}
use Rattle.irr_clifford.specs.Subgroup.{Subgroup, restrict}
use Rattle.irr_clifford.specs.Cyclic.{CyclicQuotient, conjugate, StandsForGenerator, IsInduced}
use Rattle.irr_clifford.specs.Roots.{RootsOfOne}

-- 1 where the indices are the same, and 0 elsewhere
unfoldable pub one_at : {n : ℕ} → Fin n → Fin n → ℕ
one_at first first = 1
one_at first (next j) = 0
one_at (next i) first = 0
one_at (next i) (next j) = one_at i j

-- how often f takes the value l
unfoldable pub occurrences : {m n : ℕ} → (Fin m → Fin n) → Fin n → ℕ
occurrences {m} f l = count_total m (λ i. one_at (f i) l)

-- M holds `index` extensions of each member of L that is equivalent to its conjugate, and one induced family for each orbit
-- of the others
pub record IsClimb {R : Ring} {T : FactorSystem R} {H : Subgroup T} (Q : CyclicQuotient H) (L : Representations H.table) (M : Representations T) : Type 0 where
  -- the conjugate of the member l is equivalent to the member `turn l`
  pub turn : Fin L.count → Fin L.count
  pub turns : (l : Fin L.count) → Equivalent (conjugate Q (L.member l)) (L.member (turn l)).at
  -- each member of M lies over a member of L
  pub below : Fin M.count → Fin L.count
  pub extends : (m : Fin M.count) → turn (below m) ≡ below m → Equivalent (restrict H (M.member m)) (L.member (below m)).at
  pub induced : (m : Fin M.count) → (turn (below m) ≡ below m → ⊥) → IsInduced Q (L.member (below m)) (M.member m)
  -- extensions of one member have different traces, and there are `index` of them
  pub extensions_differ : (m n : Fin M.count) → (m ≡ n → ⊥) → turn (below m) ≡ below m → below m ≡ below n
      → (x : Fin T.places) × (trace ((M.member m).at x) ≡ trace ((M.member n).at x) → ⊥)
  pub all_extensions : (l : Fin L.count) → turn l ≡ l → occurrences below l ≡ Q.index
  -- each orbit has one induced family
  pub orbits_covered : (l : Fin L.count) → (turn l ≡ l → ⊥) → (m : Fin M.count) × (a : Fin Q.index) × (iterate turn (to_nat a) (below m) ≡ l)
  pub orbits_apart : (m n : Fin M.count) → (m ≡ n → ⊥) → (turn (below m) ≡ below m → ⊥) → (a : Fin Q.index) → iterate turn (to_nat a) (below m) ≡ below n → ⊥

-- what the step needs: the conjugates of the members among the members, `index` roots of 1, and for each member that is
-- equivalent to its conjugate a matrix that stands for the generator
pub record ClimbChoice {R : Ring} {T : FactorSystem R} {H : Subgroup T} (Q : CyclicQuotient H) (L : Representations H.table) : Type 0 where
  pub turn : Fin L.count → Fin L.count
  pub turns : (l : Fin L.count) → Equivalent (conjugate Q (L.member l)) (L.member (turn l)).at
  pub roots : RootsOfOne R Q.index
  pub matrix : (l : Fin L.count) → turn l ≡ l → Matrix R (L.size l) (L.size l)
  pub stands : (l : Fin L.count) (e : turn l ≡ l) → StandsForGenerator Q (L.member l) (matrix l e)
