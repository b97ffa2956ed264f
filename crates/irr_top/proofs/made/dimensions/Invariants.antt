-- The dimensions so far.
use Rattle.std.proofs.Common.{◌≡◌, map, take}
use Rattle.irr_rep.specs.declared.family.Family.{Family}
use Rattle.irr_top.proofs.made.dimensions.Given as goal

abbrev pub invariant-loop-family : goal.invariant-loop-family
invariant-loop-family g l = l.dims.items ≡ map (λ (f : Family _ _). f.dim) (take l.family-index l.families)
