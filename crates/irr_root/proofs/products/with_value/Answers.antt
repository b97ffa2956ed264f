-- A number 0 adds nothing, a number of the character itself needs no factor, and else the power of z is one.
use Rattle.std.proofs.Common.{◌≡◌, ◌+◌, ◌<◌, ◌*◌, ◌/◌, length, map, slice_index, ℕ, true, arith, rules}
use Rattle.std.specs.Prelude.{slice_index_or}
use Rattle.std.proofs.lemmas.List.Elements.{All-get_or}
use Rattle.irr_number.specs.Number.{numbers, root_power}
use Rattle.irr_rep.specs.Twisted.{phase_table}
use Rattle.irr_root.proofs.SandwichSums.{item-is-small, item-number, more-number, more-small, root-small, turned-number, zero-term}
use Rattle.irr_root.proofs.Smalls.{denominators_of_small, is-true, products_of_small, sizes_of_small, small-more, small-product}
use Rattle.irr_root.proofs.products.with_value.Goals as goal

pub mul-requires-clause-denominators : goal.mul-requires-clause-denominators
mul-requires-clause-denominators g c =
    let order = g.S.Scalar.order_of in
    let value = g.S.Scalar.value in
    let n = c.args.order.now.n in
    let row = c.args.character.now in
    let k = slice_index c.args.positions.now c.args.x.place in
    let l = All-get_or (λ (i : ℕ). i < length row) c.args.positions.now c.args.x.place 0 c.requires.place c.requires.positions in
    denominators_of_small order value (λ x. g.met.S.Scalar.admitted_positive (order x) (g.met.S.Scalar.order_admitted x))
    (λ x. g.met.S.Scalar.admitted_limited (order x) (g.met.S.Scalar.order_admitted x)) n 1 48 c.in_ok-turn.turn c.index-character-positions.result
    (root-small order value n (c.args.x.exponent * (n / (phase_table c.args.t.now).order)) c.in_ok-turn.turn c.in_ok-turn.ensures.order
    c.in_ok-turn.ensures.value)
    (item-is-small order value n (length row) row c.requires.row k l c.index-character-positions.result c.index-character-positions.is)

pub mul-requires-clause-sizes : goal.mul-requires-clause-sizes
mul-requires-clause-sizes g c =
    let order = g.S.Scalar.order_of in
    let value = g.S.Scalar.value in
    let n = c.args.order.now.n in
    let row = c.args.character.now in
    let k = slice_index c.args.positions.now c.args.x.place in
    let l = All-get_or (λ (i : ℕ). i < length row) c.args.positions.now c.args.x.place 0 c.requires.place c.requires.positions in
    products_of_small order value (λ x. g.met.S.Scalar.admitted_positive (order x) (g.met.S.Scalar.order_admitted x))
    (λ x. g.met.S.Scalar.admitted_limited (order x) (g.met.S.Scalar.order_admitted x)) n 1 48 c.in_ok-turn.turn c.index-character-positions.result
    (root-small order value n (c.args.x.exponent * (n / (phase_table c.args.t.now).order)) c.in_ok-turn.turn c.in_ok-turn.ensures.order
    c.in_ok-turn.ensures.value)
    (item-is-small order value n (length row) row c.requires.row k l c.index-character-positions.result c.index-character-positions.is)
    (omega arith) (omega arith)

pub returns-then-is_zero-clause-value : goal.returns-then-is_zero-clause-value
returns-then-is_zero-clause-value g c =
    let order = g.S.Scalar.order_of in
    let value = g.S.Scalar.value in
    let n = c.args.order.now.n in
    let row = c.args.character.now in
    let k = slice_index c.args.positions.now c.args.x.place in
    let l = All-get_or (λ (i : ℕ). i < length row) c.args.positions.now c.args.x.place 0 c.requires.place c.requires.positions in
    zero-term order value n (length row) row c.requires.row k l c.index-character-positions.result c.index-character-positions.is
    (c.args.x.exponent * (n / (phase_table c.args.t.now).order)) (value n c.args.sum) (c.is_zero.ensures.zero.0 (is-true c.is_zero.result (let e : c.is_zero.result ≡ true = search rules in e)))

pub returns-then-is_zero-clause-small : goal.returns-then-is_zero-clause-small
returns-then-is_zero-clause-small g c =
    λ s h. small-more g.S.Scalar.order_of g.S.Scalar.value c.args.order.now.n s (s + 48) c.args.sum (omega arith) h

pub add-requires-clause-denominators : goal.add-requires-clause-denominators
add-requires-clause-denominators g c =
    let order = g.S.Scalar.order_of in
    let value = g.S.Scalar.value in
    let n = c.args.order.now.n in
    let row = c.args.character.now in
    let k = slice_index c.args.positions.now c.args.x.place in
    let l = All-get_or (λ (i : ℕ). i < length row) c.args.positions.now c.args.x.place 0 c.requires.place c.requires.positions in
    denominators_of_small order value (λ x. g.met.S.Scalar.admitted_positive (order x) (g.met.S.Scalar.order_admitted x))
    (λ x. g.met.S.Scalar.admitted_limited (order x) (g.met.S.Scalar.order_admitted x)) n 2304 48 c.args.sum c.index-character-positions.result c.requires.sum
    (item-is-small order value n (length row) row c.requires.row k l c.index-character-positions.result c.index-character-positions.is)

pub add-requires-clause-sizes : goal.add-requires-clause-sizes
add-requires-clause-sizes g c =
    let order = g.S.Scalar.order_of in
    let value = g.S.Scalar.value in
    let n = c.args.order.now.n in
    let row = c.args.character.now in
    let k = slice_index c.args.positions.now c.args.x.place in
    let l = All-get_or (λ (i : ℕ). i < length row) c.args.positions.now c.args.x.place 0 c.requires.place c.requires.positions in
    sizes_of_small order value (λ x. g.met.S.Scalar.admitted_positive (order x) (g.met.S.Scalar.order_admitted x))
    (λ x. g.met.S.Scalar.admitted_limited (order x) (g.met.S.Scalar.order_admitted x)) n 2304 48 c.args.sum c.index-character-positions.result c.requires.sum
    (item-is-small order value n (length row) row c.requires.row k l c.index-character-positions.result c.index-character-positions.is) (omega arith) (omega arith)

pub returns-then-x-eq0-clause-small : goal.returns-then-x-eq0-clause-small
returns-then-x-eq0-clause-small g c =
    let order = g.S.Scalar.order_of in
    let value = g.S.Scalar.value in
    let n = c.args.order.now.n in
    let row = c.args.character.now in
    let k = slice_index c.args.positions.now c.args.x.place in
    let l = All-get_or (λ (i : ℕ). i < length row) c.args.positions.now c.args.x.place 0 c.requires.place c.requires.positions in
    more-small order value n c.args.sum c.index-character-positions.result c.in_ok-more.more
    (item-is-small order value n (length row) row c.requires.row k l c.index-character-positions.result c.index-character-positions.is)
    c.in_ok-more.ensures.order c.in_ok-more.ensures.value

pub returns-then-x-eq0-clause-value : goal.returns-then-x-eq0-clause-value
returns-then-x-eq0-clause-value g c =
    let order = g.S.Scalar.order_of in
    let value = g.S.Scalar.value in
    let n = c.args.order.now.n in
    let row = c.args.character.now in
    let k = slice_index c.args.positions.now c.args.x.place in
    let l = All-get_or (λ (i : ℕ). i < length row) c.args.positions.now c.args.x.place 0 c.requires.place c.requires.positions in
    more-number order value n c.args.sum c.index-character-positions.result c.in_ok-more.more
    ((numbers n).mul (root_power n (c.args.x.exponent * (n / (phase_table c.args.t.now).order))) (slice_index_or (map (value n) row) k (numbers n).zero)) c.requires.sum.has_order c.in_ok-more.ensures.value
    (item-number order value n (length row) row c.requires.row k l c.index-character-positions.result c.index-character-positions.is
    c.args.x.exponent (n / (phase_table c.args.t.now).order) c.if-x-eq0.true)

pub add-requires-2-clause-denominators : goal.add-requires-2-clause-denominators
add-requires-2-clause-denominators g c =
    let order = g.S.Scalar.order_of in
    let value = g.S.Scalar.value in
    let n = c.args.order.now.n in
    let row = c.args.character.now in
    let k = slice_index c.args.positions.now c.args.x.place in
    let l = All-get_or (λ (i : ℕ). i < length row) c.args.positions.now c.args.x.place 0 c.requires.place c.requires.positions in
    let product = small-product order value n 1 48 48 c.in_ok-turn.turn c.index-character-positions.result c.in_ok-product.product
    (root-small order value n (c.args.x.exponent * (n / (phase_table c.args.t.now).order)) c.in_ok-turn.turn c.in_ok-turn.ensures.order
    c.in_ok-turn.ensures.value)
    (item-is-small order value n (length row) row c.requires.row k l c.index-character-positions.result c.index-character-positions.is)
    (omega arith) c.in_ok-product.ensures.order c.in_ok-product.ensures.value in
    denominators_of_small order value (λ x. g.met.S.Scalar.admitted_positive (order x) (g.met.S.Scalar.order_admitted x))
    (λ x. g.met.S.Scalar.admitted_limited (order x) (g.met.S.Scalar.order_admitted x)) n 2304 48 c.args.sum c.in_ok-product.product c.requires.sum product

pub add-requires-2-clause-sizes : goal.add-requires-2-clause-sizes
add-requires-2-clause-sizes g c =
    let order = g.S.Scalar.order_of in
    let value = g.S.Scalar.value in
    let n = c.args.order.now.n in
    let row = c.args.character.now in
    let k = slice_index c.args.positions.now c.args.x.place in
    let l = All-get_or (λ (i : ℕ). i < length row) c.args.positions.now c.args.x.place 0 c.requires.place c.requires.positions in
    let product = small-product order value n 1 48 48 c.in_ok-turn.turn c.index-character-positions.result c.in_ok-product.product
    (root-small order value n (c.args.x.exponent * (n / (phase_table c.args.t.now).order)) c.in_ok-turn.turn c.in_ok-turn.ensures.order
    c.in_ok-turn.ensures.value)
    (item-is-small order value n (length row) row c.requires.row k l c.index-character-positions.result c.index-character-positions.is)
    (omega arith) c.in_ok-product.ensures.order c.in_ok-product.ensures.value in
    sizes_of_small order value (λ x. g.met.S.Scalar.admitted_positive (order x) (g.met.S.Scalar.order_admitted x))
    (λ x. g.met.S.Scalar.admitted_limited (order x) (g.met.S.Scalar.order_admitted x)) n 2304 48 c.args.sum c.in_ok-product.product c.requires.sum product (omega arith) (omega arith)

pub returns-clause-small : goal.returns-clause-small
returns-clause-small g c =
    let order = g.S.Scalar.order_of in
    let value = g.S.Scalar.value in
    let n = c.args.order.now.n in
    let row = c.args.character.now in
    let k = slice_index c.args.positions.now c.args.x.place in
    let l = All-get_or (λ (i : ℕ). i < length row) c.args.positions.now c.args.x.place 0 c.requires.place c.requires.positions in
    let product = small-product order value n 1 48 48 c.in_ok-turn.turn c.index-character-positions.result c.in_ok-product.product
    (root-small order value n (c.args.x.exponent * (n / (phase_table c.args.t.now).order)) c.in_ok-turn.turn c.in_ok-turn.ensures.order
    c.in_ok-turn.ensures.value)
    (item-is-small order value n (length row) row c.requires.row k l c.index-character-positions.result c.index-character-positions.is)
    (omega arith) c.in_ok-product.ensures.order c.in_ok-product.ensures.value in
    more-small order value n c.args.sum c.in_ok-product.product c.in_ok-more-2.more product c.in_ok-more-2.ensures.order c.in_ok-more-2.ensures.value

pub returns-clause-value : goal.returns-clause-value
returns-clause-value g c =
    let order = g.S.Scalar.order_of in
    let value = g.S.Scalar.value in
    let n = c.args.order.now.n in
    let row = c.args.character.now in
    let k = slice_index c.args.positions.now c.args.x.place in
    let l = All-get_or (λ (i : ℕ). i < length row) c.args.positions.now c.args.x.place 0 c.requires.place c.requires.positions in
    more-number order value n c.args.sum c.in_ok-product.product c.in_ok-more-2.more
    ((numbers n).mul (root_power n (c.args.x.exponent * (n / (phase_table c.args.t.now).order))) (slice_index_or (map (value n) row) k (numbers n).zero)) c.requires.sum.has_order c.in_ok-more-2.ensures.value
    (turned-number order value n (length row) row c.requires.row k l (c.args.x.exponent * (n / (phase_table c.args.t.now).order)) c.in_ok-turn.turn c.index-character-positions.result
    c.in_ok-product.product c.index-character-positions.is c.in_ok-turn.ensures.order c.in_ok-turn.ensures.value c.in_ok-product.ensures.value)
