-- The sum of the first terms.
use Rattle.std.proofs.Common.{ℕ, ◌≡◌, ◌*◌, get_or, map}
use Rattle.std.specs.Prelude.{None}
use Rattle.irr_algebra.specs.Listed.{sum_below}
use Rattle.irr_number.specs.Number.{numbers}
use Rattle.irr_canonical.specs.RootSum.{IsRootSum}
use Rattle.irr_site.specs.Traces.{rest_term}
use Rattle.irr_site.proofs.traces.trace.Given as goal

abbrev pub invariant-loop-i : goal.invariant-loop-i
invariant-loop-i g l =
    let n = l.order.n in
    record {
      has_order : g.S.Scalar.order_of l.sum ≡ n;
      few : IsRootSum n (l.i * 48) 1 (g.S.Scalar.value n l.sum);
      so_far : g.S.Scalar.value n l.sum ≡ sum_below (numbers n) l.i
          (λ a. rest_term n (map (g.S.Scalar.value n) l.row) (get_or l.rests a None));
    }
