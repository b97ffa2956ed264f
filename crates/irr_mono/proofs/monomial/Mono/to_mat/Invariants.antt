-- The entries so far.
use Rattle.std.proofs.Common.{◌+◌, ◌*◌}
use Rattle.irr_mat.proofs.Entries.{Filled}
use Rattle.irr_mono.specs.Monomial.{monomial}
use Rattle.irr_mono.proofs.monomial.Mono.to_mat.Given as goal

abbrev pub invariant-loop-j : goal.invariant-loop-j
invariant-loop-j g l = Filled g.S.Scalar.order_of g.S.Scalar.value l.order.n (monomial l.order.n l.size l.self.place.items l.self.exp.items) (l.i * l.size + l.j) l.entries.items

abbrev pub invariant-loop-i : goal.invariant-loop-i
invariant-loop-i g l = Filled g.S.Scalar.order_of g.S.Scalar.value l.order.n (monomial l.order.n l.size l.self.place.items l.self.exp.items) (l.i * l.size) l.entries.items
