-- The columns so far are those of the product.
use Rattle.irr_mono.proofs.Products.{AreProduct}
use Rattle.irr_mono.proofs.monomial.Mono.mul.Given as goal

abbrev pub invariant-loop-column : goal.invariant-loop-column
invariant-loop-column l = AreProduct l.order.n l.self.place.items l.self.exp.items l.other.place.items l.other.exp.items l.column l.place.items l.exp.items
