-- The numbers of the operations of a little group among the canonical operations of its group.
--   AreListed P n xs             xs are the numbers below n with P, in increasing order
--   IsLittlePlace group k p      kR is equivalent to k, for the rotation R of the operation with the number p
--   AreLittlePlaces group k xs   xs are the numbers of the operations of the little group of k, in increasing order
use Rattle.std.specs.Prelude.{ℕ, ◌<◌, List, length, slice_index, Contains}
use Rattle.std.specs.List.{HoldsAt}
use Rattle.irr_space.specs.Operation.{WaveVector, turned}
use Rattle.irr_space.specs.Reciprocal.{AreEquivalent}
use Rattle.irr_seitz.specs.OperationMeaning.{operation}
use Rattle.irr_close.specs.StandsFor.{stands_for}
use Rattle.irr_close.specs.declared.group.Group.{Group}

pub record AreListed (P : ℕ → Type 0) (n : ℕ) (xs : List ℕ) : Type 0 where
  pub increasing : (a b : ℕ) → a < b → b < length xs → slice_index xs a < slice_index xs b
  pub below : (p : ℕ) → Contains xs p → p < n
  pub holds : (p : ℕ) → Contains xs p → P p
  pub all : (p : ℕ) → p < n → P p → Contains xs p

abbrev pub IsLittlePlace : Group → WaveVector → ℕ → Type 0
IsLittlePlace group k p = HoldsAt (λ g. AreEquivalent (stands_for group) (turned k (operation g)) k) group.ops.items p

abbrev pub AreLittlePlaces : Group → WaveVector → List ℕ → Type 0
AreLittlePlaces group k xs = AreListed (IsLittlePlace group k) (length group.ops.items) xs
