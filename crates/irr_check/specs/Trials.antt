-- What families of matrices on a table of phases are tried for, whether they are a complete list of small representations
-- (Bradley and Cracknell, sections 3.7 and 3.8), and in which order: this project's own choice.
--   Trial c h                   a trial of c families at h places
--   turn t                      when it comes: trials come in the lexicographic order of these numbers
--   IsTriedBefore t u           t comes before u
--   Reading                     how the last three are read: as they are meant, or by dimensions of spaces of intertwiners and the sum of squares
--   Passes w T F t              the families pass the trial
--   IsFirstFailed before passes t     t is not passed, and each one before it is
use Rattle.std.specs.Prelude.{ℕ, ◌≡◌, ◌<◌, ◌*◌, ◌⊎◌, List, [], ◌∷◌}
use Rattle.std.specs.Int.{◌∣◌}
use Rattle.irr_algebra.specs.Action.{Equivalent, HasDimension, IsIrreducible, IsSimple}
use Rattle.irr_algebra.specs.Fin.{Fin, to_nat}
use Rattle.irr_algebra.specs.Matrix.{◌·◌, scale, trace, unit}
use Rattle.irr_number.specs.Number.{numbers}
use Rattle.irr_theory.specs.FactorSystem.{Representation}
use Rattle.irr_theory.specs.Representations.{count_total}
use Rattle.irr_space.specs.PhaseTable.{PhaseTable, phases_at, phases_over}
use Rattle.irr_check.specs.Families.{Families, at_order}

pub data Trial (c h : ℕ) : Type 0 where
  -- D(start) = 1
  at_unit : Fin c → Trial c h
  -- D(i)D(j) = z^x(i,j) D(l(i,j))
  at_product : Fin c → Fin h → Fin h → Trial c h
  -- the number in the row is the trace of D(i)
  at_trace : Fin c → Fin h → Trial c h
  -- the family is irreducible
  irreducible : Fin c → Trial c h
  -- two families are not equivalent
  inequivalent : Fin c → Fin c → Trial c h
  -- each irreducible small representation is equivalent to one of the families
  all : Trial c h

-- the families one by one, then the pairs, then whether all are there
unfoldable pub turn : {c h : ℕ} → Trial c h → List ℕ
turn (at_unit m) = 0 ∷ to_nat m ∷ 0 ∷ []
turn (at_product m i j) = 0 ∷ to_nat m ∷ 1 ∷ to_nat i ∷ to_nat j ∷ []
turn (at_trace m i) = 0 ∷ to_nat m ∷ 2 ∷ to_nat i ∷ []
turn (irreducible m) = 0 ∷ to_nat m ∷ 3 ∷ []
turn (inequivalent a b) = 1 ∷ to_nat a ∷ to_nat b ∷ []
turn all = 2 ∷ []

-- the lexicographic order of lists of numbers, none of which is the start of another
unfoldable pub IsBelow : List ℕ → List ℕ → Type 0
IsBelow [] ys = ⊥
IsBelow (x ∷ xs) [] = ⊥
IsBelow (x ∷ xs) (y ∷ ys) = (x < y) ⊎ ((x ≡ y) × IsBelow xs ys)

abbrev pub IsTriedBefore : {c h : ℕ} → Trial c h → Trial c h → Type 0
IsTriedBefore t u = IsBelow (turn t) (turn u)

pub record IsFirstFailed {A : Type 0} (before : A → A → Type 0) (passes : A → Type 0) (t : A) : Type 0 where
  pub fails : ¬ (passes t)
  pub earlier : (u : A) → before u t → passes u

pub data Reading : Type 0 where
  meaning : Reading
  dimensions : Reading

module _ {h : ℕ} (T : PhaseTable h) (F : Families T) where
  -- no invariant subspace over any order; or only the multiples of one matrix intertwine the family with itself
  unfoldable pub PassesIrreducible : Reading → Fin F.count → Type 0
  PassesIrreducible meaning m = (M : ℕ) (v : T.order ∣ M) → 0 < M → IsIrreducible (at_order T F M v m)
  PassesIrreducible dimensions m = IsSimple (F.matrix m)

  -- not equivalent; or only 0 intertwines them
  unfoldable pub PassesInequivalent : Reading → Fin F.count → Fin F.count → Type 0
  PassesInequivalent meaning a b = to_nat a < to_nat b → ¬ (Equivalent (F.matrix a) (F.matrix b))
  PassesInequivalent dimensions a b = to_nat a < to_nat b → HasDimension (F.matrix a) (F.matrix b) 0

  -- each irreducible small representation, over any order, is equivalent to one of the families; or the squared sizes add up to
  -- the number of places
  unfoldable pub PassesAll : Reading → Type 0
  PassesAll meaning = (M : ℕ) (v : T.order ∣ M) → 0 < M → (d : ℕ) (A : Representation (phases_over T M v) d) → 0 < d → IsIrreducible A.at
      → (m : Fin F.count) × Equivalent A.at (at_order T F M v m)
  PassesAll dimensions = count_total F.count (λ m. F.size m * F.size m) ≡ h

  unfoldable pub Passes : Reading → Trial F.count h → Type 0
  Passes w (at_unit m) = F.matrix m T.start ≡ unit (numbers T.order) (F.size m)
  Passes w (at_product m i j) = F.matrix m i · F.matrix m j ≡ scale (numbers T.order) ((phases_at T).phase i j) (F.matrix m (T.product i j))
  Passes w (at_trace m i) = F.character m i ≡ trace (F.matrix m i)
  Passes w (irreducible m) = PassesIrreducible w m
  Passes w (inequivalent a b) = PassesInequivalent w a b
  Passes w all = PassesAll w
