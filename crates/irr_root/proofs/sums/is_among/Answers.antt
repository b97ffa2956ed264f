-- Two numbers of limited size.
use Rattle.std.proofs.Common.{rules, ◌≡◌, ◌<◌, length, subst, sym, ◌∙◌, arith}
use Rattle.std.proofs.lemmas.List.Elements.{All-get_or}
use Rattle.irr_root.specs.RootSums.{IsSmall}
use Rattle.irr_root.proofs.RootLists.{contains_at}
use Rattle.irr_root.proofs.Smalls.{is-true, denominators_of_small, sizes_of_small}
use Rattle.irr_root.proofs.sums.is_among.Goals as goal

pub equal-requires-clause-denominators : goal.equal-requires-clause-denominators
equal-requires-clause-denominators g c =
    let n = c.requires.numbers.0 in
    let k = c.loop-number.number-index in
    let l : k < length c.args.numbers.now = search rules in
    denominators_of_small g.S.Scalar.order_of g.S.Scalar.value (λ x. g.met.S.Scalar.admitted_positive (g.S.Scalar.order_of x) (g.met.S.Scalar.order_admitted x))
    (λ x. g.met.S.Scalar.admitted_limited (g.S.Scalar.order_of x) (g.met.S.Scalar.order_admitted x)) n 48 48 c.number-item.result c.args.x.now
    (subst (IsSmall g.S.Scalar.order_of g.S.Scalar.value n 48) (sym c.number-item.is)
    (All-get_or (IsSmall g.S.Scalar.order_of g.S.Scalar.value n 48) c.args.numbers.now k c.number-item.result l c.requires.numbers.1)) c.requires.numbers.2

pub equal-requires-clause-sizes : goal.equal-requires-clause-sizes
equal-requires-clause-sizes g c =
    let n = c.requires.numbers.0 in
    let k = c.loop-number.number-index in
    let l : k < length c.args.numbers.now = search rules in
    sizes_of_small g.S.Scalar.order_of g.S.Scalar.value (λ x. g.met.S.Scalar.admitted_positive (g.S.Scalar.order_of x) (g.met.S.Scalar.order_admitted x))
    (λ x. g.met.S.Scalar.admitted_limited (g.S.Scalar.order_of x) (g.met.S.Scalar.order_admitted x)) n 48 48 c.number-item.result c.args.x.now
    (subst (IsSmall g.S.Scalar.order_of g.S.Scalar.value n 48) (sym c.number-item.is)
    (All-get_or (IsSmall g.S.Scalar.order_of g.S.Scalar.value n 48) c.args.numbers.now k c.number-item.result l c.requires.numbers.1)) c.requires.numbers.2
    (omega arith) (omega arith)

pub returns-then-equal : goal.returns-then-equal
returns-then-equal g c = λ t n o.
    let value = g.S.Scalar.value in
    let m = c.requires.numbers.0 in
    let k = c.loop-number.number-index in
    let x = c.args.x.now in
    let y = c.number-item.result in
    let small : IsSmall g.S.Scalar.order_of g.S.Scalar.value m 48 c.number-item.result = subst (IsSmall g.S.Scalar.order_of g.S.Scalar.value m 48) (sym c.number-item.is)
    (All-get_or (IsSmall g.S.Scalar.order_of g.S.Scalar.value m 48) c.args.numbers.now k c.number-item.result c.loop-number-test.true c.requires.numbers.1) in
    contains_at (value n) c.args.numbers.now k y (value n x) c.loop-number-test.true c.number-item.is
    (subst (λ u. value u y ≡ value u x) (small.has_order ∙ sym c.requires.numbers.2.has_order ∙ o) (c.equal.ensures.0 (is-true c.equal.result c.if-equal.true)))
