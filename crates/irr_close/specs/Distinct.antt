-- Generators in the unit cell, each once.
--   IsReduced s t          t is s with its vector in the unit cell
--   line s                 what tells operations apart: the rotation, the numerators, the denominator
--   HasOperation ts g      an operation of the list is that of g
--   IsWithOperation old g new   the new list has the operation of g, as the old one or at its end
--   AreReduced gs ts n     the first n of gs, brought into the cell, are in ts, and ts has no others
use Rattle.std.specs.Prelude.{ℕ, ℤ, ◌≡◌, ◌<◌, ◌^◌, ◌⊎◌, List, [], ◌∷◌, ◌++◌, length}
use Rattle.std.specs.List.{All, HoldsAt}
use Rattle.irr_algebra.specs.Matrix.{◌⊖◌}
use Rattle.irr_space.specs.CanonicalOperation.{IsInCell}
use Rattle.irr_seitz.specs.OperationMeaning.{operation, AreWithin}
use Rattle.irr_seitz.specs.declared.op.Op.{Op}
use Rattle.irr_close.specs.Whole.{IsWholeVector}

pub record IsReduced (s t : Op) : Type 0 where
  pub rotation : (operation t).rotation ≡ (operation s).rotation
  pub in_cell : IsInCell (operation t).vector
  pub whole : IsWholeVector ((operation s).vector ⊖ (operation t).vector)
  pub numerators : AreWithin (10 ^ 12) t.num

abbrev pub line : Op → List (List ℤ) × List ℤ × ℕ
line s = (s.rot, s.num, s.den)

abbrev pub HasOperation : List Op → Op → Type 0
HasOperation ts g = (k : ℕ) × (k < length ts) × HoldsAt (λ t. operation t ≡ operation g) ts k

abbrev pub IsWithOperation : List Op → Op → List Op → Type 0
IsWithOperation old g new = (HasOperation old g × (new ≡ old)) ⊎ (new ≡ old ++ g ∷ [])

-- brought into the cell, an operation of the first list is one of the second
abbrev pub HasReduced : List Op → Op → Type 0
HasReduced ts s = (k : ℕ) × (k < length ts) × HoldsAt (IsReduced s) ts k

-- an operation of the first list, brought into the cell
abbrev pub IsReducedOneOf : List Op → Op → Type 0
IsReducedOneOf gs t = (k : ℕ) × (k < length gs) × HoldsAt (λ s. IsReduced s t) gs k

pub record AreReduced (gs ts : List Op) (n : ℕ) : Type 0 where
  pub each : (j : ℕ) → j < n → HoldsAt (HasReduced ts) gs j
  pub from_list : All (IsReducedOneOf gs) ts
