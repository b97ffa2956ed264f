-- The numbers, among the canonical operations of a group, of those that carry k to -k.
--   IsReversingPlace group k p     kR is equivalent to -k, for the rotation R of the operation with the number p
--   AreReversingPlaces group k xs  xs are the numbers of all these operations, in increasing order
use Rattle.std.specs.Prelude.{ℕ, List, length}
use Rattle.std.specs.List.{HoldsAt}
use Rattle.irr_algebra.specs.Matrix.{◌⊖◌, null}
use Rattle.irr_space.specs.Operation.{WaveVector, turned}
use Rattle.irr_space.specs.Reciprocal.{AreEquivalent}
use Rattle.irr_seitz.specs.OperationMeaning.{operation}
use Rattle.irr_close.specs.StandsFor.{stands_for}
use Rattle.irr_close.specs.declared.group.Group.{Group}
use Rattle.irr_little.specs.Places.{AreListed}

abbrev pub IsReversingPlace : Group → WaveVector → ℕ → Type 0
IsReversingPlace group k p = HoldsAt (λ g. AreEquivalent (stands_for group) (turned k (operation g)) (null ⊖ k))
    group.ops.items p

abbrev pub AreReversingPlaces : Group → WaveVector → List ℕ → Type 0
AreReversingPlaces group k xs = AreListed (IsReversingPlace group k) (length group.ops.items) xs
