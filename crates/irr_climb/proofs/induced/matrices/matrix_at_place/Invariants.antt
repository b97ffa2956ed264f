-- The entries so far.
use Rattle.std.proofs.Common.{ℕ, ◌≡◌, ◌+◌, ◌*◌}
use Rattle.irr_algebra.specs.Fin.{Fin, to_nat}
use Rattle.irr_algebra.specs.Pair.{times}
use Rattle.irr_theory.specs.FactorSystem.{Representation}
use Rattle.irr_clifford.specs.Formulas.{induced_matrix}
use Rattle.irr_mat.proofs.Entries.{Filled}
use Rattle.irr_rep.specs.Twisted.{place_count}
use Rattle.irr_climb.specs.Families.{IsRead}
use Rattle.irr_climb.specs.Steps.{IsStep, small}
use Rattle.irr_climb.proofs.induced.matrices.matrix_at_place.Given as goal

abbrev pub invariant-loop-j : goal.invariant-loop-j
invariant-loop-j g l = (is : IsStep l.order.n l.step) (d : ℕ) (D : Representation (small is) d) → IsRead l.order.n (small is) D l.family
    → (p : Fin (place_count l.step.outer)) → to_nat p ≡ l.x
    → Filled g.S.Scalar.order_of g.S.Scalar.value l.order.n (induced_matrix is.quotient D p) (l.i * times is.quotient.index d + l.j) l.entries.items

abbrev pub invariant-loop-i : goal.invariant-loop-i
invariant-loop-i g l = (is : IsStep l.order.n l.step) (d : ℕ) (D : Representation (small is) d) → IsRead l.order.n (small is) D l.family
    → (p : Fin (place_count l.step.outer)) → to_nat p ≡ l.x
    → Filled g.S.Scalar.order_of g.S.Scalar.value l.order.n (induced_matrix is.quotient D p) (l.i * times is.quotient.index d) l.entries.items
