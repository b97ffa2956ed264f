-- The one trace is small.
use Rattle.std.proofs.Common.{sym, subst, ◌<◌, length, rules}
use Rattle.std.specs.List.{All}
use Rattle.std.proofs.lemmas.List.Elements.{All-get_or}
use Rattle.irr_root.specs.RootSums.{IsSmall}
use Rattle.irr_root.proofs.extensions.tests.extends_by_imaginary_unit.Goals as goal

pub is_imaginary_unit-requires-clause-small : goal.is_imaginary_unit-requires-clause-small
is_imaginary_unit-requires-clause-small g c =
    let small = IsSmall g.S.Scalar.order_of g.S.Scalar.value c.args.order.now.n 1 in
    let list = c.as_slice-list.result.now in
    let some : 0 < length list = search rules in
    subst small (sym c.index-list-0.is) (All-get_or small list 0 c.index-list-0.result some
    (subst (All small) (sym c.as_slice-list.ensures.value) c.in_ok-traces.ensures))
