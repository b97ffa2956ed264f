-- The entries so far are powers of z over the denominator.
use Rattle.std.proofs.Common.{◌≡◌, All, length}
use Rattle.irr_canonical.specs.RootSum.{IsRootSum}
use Rattle.irr_mat.proofs.tests.powers.Given as goal

abbrev pub invariant-loop-e : goal.invariant-loop-e
invariant-loop-e g l = record {
  count : length l.entries.items ≡ l.e-index;
  orders : All (λ x. g.S.Scalar.order_of x ≡ l.order.n) l.entries.items;
  sums : All (λ x. IsRootSum l.order.n 1 l.den (g.S.Scalar.value l.order.n x)) l.entries.items;
}
