-- The translations so far.
use Rattle.std.proofs.Common.{◌≡◌, ◌++◌, take, map}
use Rattle.std.specs.List.{All}
use Rattle.irr_space.specs.Operation.{translation}
use Rattle.irr_seitz.specs.OperationMeaning.{operation}
use Rattle.irr_rat.specs.VectorMeaning.{vector}
use Rattle.irr_star.specs.Sizes.{HasSmallVector}
use Rattle.irr_full_text.proofs.generating.push_translations.Given as goal

abbrev pub invariant-loop-vector : goal.invariant-loop-vector
invariant-loop-vector l = (map operation l.ops.items ≡ map operation l.fn.ops.items
    ++ map (λ c. translation (vector c)) (take l.vector-index l.by))
    × (All HasSmallVector l.fn.ops.items → All HasSmallVector l.ops.items)
