-- The products so far.
use Rattle.std.proofs.Common.{◌≡◌, ◌*ℤ◌, map, take}
use Rattle.irr_sparse.proofs.combinations.scaled.Given as goal

abbrev pub invariant-loop-exponent : goal.invariant-loop-exponent
invariant-loop-exponent l = l.products.items ≡ map (λ t. (t.0, t.1 *ℤ l.fn.times)) (take l.exponent-index l.terms)
