-- The numbers so far.
use Rattle.std.proofs.Common.{ℕ, ◌≡◌, ◌<◌, length, map}
use Rattle.std.specs.List.{All}
use Rattle.irr_algebra.specs.Matrix.{trace}
use Rattle.irr_number.specs.Number.{numbers}
use Rattle.irr_rational.specs.Integer.{whole_matrix}
use Rattle.irr_seitz.specs.OperationMeaning.{operation}
use Rattle.irr_site.specs.Traces.{number_at}
use Rattle.irr_site.proofs.traces.rotation_row.Given as goal

abbrev pub invariant-loop : goal.invariant-loop
invariant-loop g l =
    let n = l.order.n in
    record {
      size : length l.row.items ≡ l.counter;
      orders : All (λ x. g.S.Scalar.order_of x ≡ n) l.row.items;
      each : (p : ℕ) → p < l.counter → number_at n (map (g.S.Scalar.value n) l.row.items) p
          ≡ trace (whole_matrix (numbers n) (operation l.op).rotation);
    }
