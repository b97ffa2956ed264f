-- The operations of a report beside those with given places in a list.
--   AreSameAt all places ops k        both lists have a k-th operation, and it is the same
--   IsFirstOther all places ops r     None: the lists are the same; else the first number at which they differ, or one has ended
use Rattle.std.specs.Prelude.{ℕ, ◌≡◌, ◌<◌, ◌≤◌, List, length, slice_index, slice_index_or, Option, Some, None}
use Rattle.irr_seitz.specs.OperationMeaning.{operation}
use Rattle.irr_seitz.specs.declared.op.Op.{Op}

pub record AreSameAt (all : List Op) (places : List ℕ) (ops : List Op) (k : ℕ) : Type 0 where
  pub left : k < length places
  pub right : k < length ops
  pub same : (d e : Op) → operation (slice_index_or all (slice_index places k) d) ≡ operation (slice_index_or ops k e)

unfoldable pub IsFirstOther : List Op → List ℕ → List Op → Option ℕ → Type 0
IsFirstOther all places ops None = (length places ≡ length ops) × ((k : ℕ) → k < length places → AreSameAt all places ops k)
IsFirstOther all places ops (Some i) = (i ≤ length places) × (i ≤ length ops) × ¬ (AreSameAt all places ops i)
    × ((i ≡ length places) → (i ≡ length ops) → ⊥) × ((k : ℕ) → k < i → AreSameAt all places ops k)
