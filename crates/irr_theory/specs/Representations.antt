-- Lists of families on one table.
use Rattle.std.specs.Prelude.{ℕ, zero, suc, ◌≡◌, ◌<◌, ◌+◌, ◌*◌}
use Rattle.irr_algebra.specs.Ring.{Ring}
use Rattle.irr_algebra.specs.Fin.{Fin}
use Rattle.irr_algebra.specs.Fin.Fin.{first, next}
use Rattle.irr_algebra.specs.Action.{IsIrreducible, IsSimple, Equivalent}
use Rattle.irr_theory.specs.FactorSystem.{FactorSystem, Representation}

-- f at each index, added up
unfoldable pub count_total : (n : ℕ) → (Fin n → ℕ) → ℕ
count_total zero f = zero
count_total (suc n) f = f first + count_total n (λ i. f (next i))

-- a list of families, each with its size
pub record Representations {R : Ring} (T : FactorSystem R) : Type 0 where
  pub count : ℕ
  pub size : Fin count → ℕ
  pub member : (m : Fin count) → Representation T (size m)

-- simple, pairwise inequivalent, and squared sizes that add up to the number of places
pub record IsFull {R : Ring} {T : FactorSystem R} (L : Representations T) : Type 0 where
  pub positive : (m : Fin L.count) → 0 < L.size m
  pub simple : (m : Fin L.count) → IsSimple (L.member m).at
  pub inequivalent : (m n : Fin L.count) → (m ≡ n → ⊥) → Equivalent (L.member m).at (L.member n).at → ⊥
  pub squares : count_total L.count (λ m. L.size m * L.size m) ≡ T.places

-- irreducible, pairwise inequivalent, and each irreducible family is equivalent to a member
pub record IsComplete {R : Ring} {T : FactorSystem R} (L : Representations T) : Type 0 where
  pub positive : (m : Fin L.count) → 0 < L.size m
  pub irreducible : (m : Fin L.count) → IsIrreducible (L.member m).at
  pub inequivalent : (m n : Fin L.count) → (m ≡ n → ⊥) → Equivalent (L.member m).at (L.member n).at → ⊥
  pub all : {a : ℕ} (A : Representation T a) → 0 < a → IsIrreducible A.at → (m : Fin L.count) × Equivalent A.at (L.member m).at
