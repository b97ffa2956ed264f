-- The sums so far.
use Rattle.std.proofs.Common.{ℕ, ◌≡◌, ◌<◌, List, slice_index}
use Rattle.irr_algebra.specs.Matrix.{trace}
use Rattle.irr_number.specs.Number.{Number, numbers}
use Rattle.irr_rational.specs.Integer.{whole_matrix}
use Rattle.irr_seitz.specs.declared.op.Op.{Op}
use Rattle.irr_rep.specs.Twisted.{operation_places, place_count}
use Rattle.irr_site.specs.Products.{rotation_at}
use Rattle.irr_site.specs.Traces.{number_at}
use Rattle.irr_site.proofs.TraceLists.{SumsSoFar}
use Rattle.irr_site.proofs.traces.displacement_traces.Given as goal

abbrev pub invariant-loop-i : goal.invariant-loop-i
invariant-loop-i g l =
    let n = l.order.n in
    (row : ℕ → List (Number n)) → ((i p : ℕ) (d : Op) → i < place_count l.t → p < l.places → number_at n (row i) p
    ≡ trace (whole_matrix (numbers n) (rotation_at l.group (slice_index (operation_places l.t) i) d)))
    → SumsSoFar g.S.Scalar.order_of g.S.Scalar.value n row l.rows l.i l.numbers.items
