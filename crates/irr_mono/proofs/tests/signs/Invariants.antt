-- The entries so far.
use Rattle.std.proofs.Common.{◌≡◌, All, length}
use Rattle.irr_canonical.specs.RootSum.{IsRootSum}
use Rattle.irr_mono.proofs.tests.signs.Given as goal

abbrev pub invariant-loop-sign : goal.invariant-loop-sign
invariant-loop-sign g l = record {
  count : length l.numbers.items ≡ l.sign-index;
  orders : All (λ x. g.S.Scalar.order_of x ≡ l.order.n) l.numbers.items;
  sums : All (λ x. IsRootSum l.order.n 1 1 (g.S.Scalar.value l.order.n x)) l.numbers.items;
}
