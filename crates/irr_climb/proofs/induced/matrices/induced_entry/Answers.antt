-- An entry of the block that is not 0, or 0.
use Rattle.std.proofs.Common.{◌≡◌, ◌<◌, ◌≤◌, ◌*◌, ◌/◌, ◌%◌, ◌^◌, sym, ◌∙◌, ap, subst, arith, rules}
use Rattle.irr_algebra.specs.Fin.{Fin, to_nat}
use Rattle.irr_algebra.proofs.Indices.{from_nat, to_nat-from_nat}
use Rattle.irr_algebra.proofs.Pairs.{times-mul}
use Rattle.irr_number.specs.Number.{numbers}
use Rattle.irr_canonical.specs.RootSum.{IsRootSum}
use Rattle.irr_canonical.proofs.RootSums.{IsRootSum-root}
use Rattle.irr_mat.specs.Entries.{IsEntry}
use Rattle.irr_mat.proofs.Blocks.{quotient-lt, remainder-lt}
use Rattle.irr_mat.proofs.Sizes.{product_sizes, sum_denominators}
use Rattle.irr_rep.specs.Twisted.{phase_table, place_count}
use Rattle.irr_climb.specs.Sizes.{size_bound}
use Rattle.irr_climb.proofs.InducedBlocks.{exponent_number, image_of, part_below}
use Rattle.irr_climb.proofs.InducedReads.{block_entry, entry_is, entry_powers, family_within, part_matrix, turned_root, zero_entry}
use Rattle.irr_climb.proofs.InducedSizes.{inner_limited, product_few}
use Rattle.irr_climb.proofs.induced.matrices.induced_entry.Goals as goal

pub index-row-requires : goal.index-row-requires
index-row-requires g c =
    let is = c.requires.family.0 in
    let l = subst (λ k. c.image_place-image.result < k) (sym is.exponents_count) c.image_place-image.ensures.within in search rules

pub block_exponent-exponent-requires-clause-block : goal.block_exponent-exponent-requires-clause-block
block_exponent-exponent-requires-clause-block g c =
    let dim = c.args.family.now.dim in
    let index = c.args.step.now.index in
    quotient-lt index dim c.args.j c.requires.positive (subst (λ k. c.args.j < k) (sym (times-mul index dim)) c.requires.column)

pub index-part-requires : goal.index-part-requires
index-part-requires g c =
    let is = c.requires.family.0 in
    let l = subst (λ k. c.image_place-image.result < k) (sym is.parts_count) c.image_place-image.ensures.within in search rules

pub index-matrix-requires : goal.index-matrix-requires
index-matrix-requires g c =
    let is = c.requires.family.0 in
    let o = place_count c.args.step.now.outer in
    let k = c.image_place-image.result in
    let y = from_nat o k c.image_place-image.ensures.within in
    let l = subst (λ n. c.index-part.result.now < n) (sym c.requires.family.3.shape.count)
    (part_below is y k (to_nat-from_nat o k c.image_place-image.ensures.within) c.index-part.result.now c.index-part.ensures) in search rules

pub at-entry-requires-clause-row : goal.at-entry-requires-clause-row
at-entry-requires-clause-row g c =
    let r = c.requires.family in
    let o = place_count c.args.step.now.outer in
    let k = c.image_place-image.result in
    let y = from_nat o k c.image_place-image.ensures.within in
    let e = to_nat-from_nat o k c.image_place-image.ensures.within in
    let m = part_matrix r.0 r.2 c.args.family.now r.3 y k e c.index-part.result.now c.index-part.ensures c.index-matrix.result.now
    c.index-matrix.ensures in
    subst (λ n. c.args.i % c.args.family.now.dim < n) (r.3.size ∙ sym m.rows) (remainder-lt c.args.family.now.dim c.args.i c.requires.positive)

pub at-entry-requires-clause-column : goal.at-entry-requires-clause-column
at-entry-requires-clause-column g c =
    let r = c.requires.family in
    let o = place_count c.args.step.now.outer in
    let k = c.image_place-image.result in
    let y = from_nat o k c.image_place-image.ensures.within in
    let e = to_nat-from_nat o k c.image_place-image.ensures.within in
    let m = part_matrix r.0 r.2 c.args.family.now r.3 y k e c.index-part.result.now c.index-part.ensures c.index-matrix.result.now
    c.index-matrix.ensures in
    subst (λ n. c.args.j % c.args.family.now.dim < n) (r.3.size ∙ sym m.cols) (remainder-lt c.args.family.now.dim c.args.j c.requires.positive)

pub mul-requires-clause-orders : goal.mul-requires-clause-orders
mul-requires-clause-orders g c =
    let r = c.requires.family in
    let o = place_count c.args.step.now.outer in
    let k = c.image_place-image.result in
    let y = from_nat o k c.image_place-image.ensures.within in
    let e = to_nat-from_nat o k c.image_place-image.ensures.within in
    let m = part_matrix r.0 r.2 c.args.family.now r.3 y k e c.index-part.result.now c.index-part.ensures c.index-matrix.result.now
    c.index-matrix.ensures in
    c.at-entry.ensures.order ∙ m.order ∙ sym c.in_ok-root.ensures.order

pub mul-requires-clause-denominators : goal.mul-requires-clause-denominators
mul-requires-clause-denominators g c =
    let value = g.S.Scalar.value in
    let n = c.args.order.now.n in
    let r = c.requires.family in
    let step = c.args.step.now in
    let o = place_count step.outer in
    let k = c.image_place-image.result in
    let y = from_nat o k c.image_place-image.ensures.within in
    let e = to_nat-from_nat o k c.image_place-image.ensures.within in
    let q = r.0.quotient.part y in
    let m = part_matrix r.0 r.2 c.args.family.now r.3 y k e c.index-part.result.now c.index-part.ensures c.index-matrix.result.now
    c.index-matrix.ensures in
    let x = c.in_ok-root.root in
    let entry = c.at-entry.result.now in
    let b = size_bound (place_count step.inner) in
    let small : 1 * r.4.denominator ≤ 2 ^ 60 = let l = r.4.small in let k = inner_limited r.0 in omega (arith, l, k) in
    sum_denominators value (g.S.Scalar.order_of x) n (g.met.S.Scalar.admitted_positive (g.S.Scalar.order_of x) (g.met.S.Scalar.order_admitted x))
    c.in_ok-root.ensures.order
    1 1 (b * b) r.4.denominator x entry
    (subst (IsRootSum n 1 1) (sym c.in_ok-root.ensures.value) (IsRootSum-root n _))
    (entry_powers n r.1 (b * b) r.4.denominator (r.2.at q) (family_within r.0 r.2 c.args.family.now r.3 r.4 q)
    (c.args.i % c.args.family.now.dim) (c.args.j % c.args.family.now.dim)
    (subst (λ k. c.args.i % c.args.family.now.dim < k) r.3.size (remainder-lt c.args.family.now.dim c.args.i c.requires.positive))
    (subst (λ k. c.args.j % c.args.family.now.dim < k) r.3.size (remainder-lt c.args.family.now.dim c.args.j c.requires.positive))
    (value n entry) (entry_is n r.1 (r.2.at q) c.index-matrix.result.now m (c.args.i % c.args.family.now.dim) (c.args.j % c.args.family.now.dim)
    (value n entry) (c.at-entry.ensures.entry n)))
    (2 ^ 60) small

pub mul-requires-clause-sizes : goal.mul-requires-clause-sizes
mul-requires-clause-sizes g c =
    let value = g.S.Scalar.value in
    let n = c.args.order.now.n in
    let r = c.requires.family in
    let step = c.args.step.now in
    let o = place_count step.outer in
    let k = c.image_place-image.result in
    let y = from_nat o k c.image_place-image.ensures.within in
    let e = to_nat-from_nat o k c.image_place-image.ensures.within in
    let q = r.0.quotient.part y in
    let m = part_matrix r.0 r.2 c.args.family.now r.3 y k e c.index-part.result.now c.index-part.ensures c.index-matrix.result.now
    c.index-matrix.ensures in
    let x = c.in_ok-root.root in
    let entry = c.at-entry.result.now in
    let b = size_bound (place_count step.inner) in
    product_sizes value (g.S.Scalar.order_of x) n (g.met.S.Scalar.admitted_positive (g.S.Scalar.order_of x) (g.met.S.Scalar.order_admitted x))
    c.in_ok-root.ensures.order
    1 1 (b * b) r.4.denominator x entry
    (subst (IsRootSum n 1 1) (sym c.in_ok-root.ensures.value) (IsRootSum-root n _))
    (entry_powers n r.1 (b * b) r.4.denominator (r.2.at q) (family_within r.0 r.2 c.args.family.now r.3 r.4 q)
    (c.args.i % c.args.family.now.dim) (c.args.j % c.args.family.now.dim)
    (subst (λ k. c.args.i % c.args.family.now.dim < k) r.3.size (remainder-lt c.args.family.now.dim c.args.i c.requires.positive))
    (subst (λ k. c.args.j % c.args.family.now.dim < k) r.3.size (remainder-lt c.args.family.now.dim c.args.j c.requires.positive))
    (value n entry) (entry_is n r.1 (r.2.at q) c.index-matrix.result.now m (c.args.i % c.args.family.now.dim) (c.args.j % c.args.family.now.dim)
    (value n entry) (c.at-entry.ensures.entry n)))
    (2 ^ 100) (product_few n b c.args.order.now.limited (inner_limited r.0))

pub returns-then-row-i-clause-entry : goal.returns-then-row-i-clause-entry
returns-then-row-i-clause-entry g c is d D r p e =
    let step = c.args.step.now in
    let k = c.image_place-image.result in
    let row = c.index-row.result.now in
    zero_entry is D r.shape.positive p c.args.i c.args.j row (λ q. c.if-row-i.true (q ∙ ap (λ n. c.args.i / n) (sym r.size)))
    (λ b f. exponent_number is (image_of is p b) k
    (sym (c.image_place-image.ensures.image c.args.order.now.n is p b e (f ∙ ap (λ n. c.args.j / n) (sym r.size)))) row c.index-row.ensures)
    (g.S.Scalar.value c.args.order.now.n c.in_ok-none.none) c.in_ok-none.ensures.value

pub returns-clause-entry : goal.returns-clause-entry
returns-clause-entry g c is d D r p e =
    let value = g.S.Scalar.value in
    let n = c.args.order.now.n in
    let step = c.args.step.now in
    let T = phase_table step.outer in
    let f = c.args.family.now in
    let k = c.image_place-image.result in
    let row = c.index-row.result.now in
    let part = c.index-part.result.now in
    let root = c.in_ok-root.root in
    let entry = c.at-entry.result.now in
    let y : Fin is.quotient.index → Fin (place_count step.outer) = image_of is p in
    let block : (b : Fin is.quotient.index) → to_nat b ≡ c.args.j / d → to_nat b ≡ c.args.j / f.dim =
    λ b h. h ∙ ap (λ n. c.args.j / n) (sym r.size) in
    let image : (b : Fin is.quotient.index) → to_nat b ≡ c.args.j / d → to_nat (y b) ≡ k = λ b h.
    sym (c.image_place-image.ensures.image n is p b e (block b h)) in
    block_entry is D r.shape.positive p c.args.i c.args.j row (c.if-row-i.false ∙ ap (λ n. c.args.i / n) r.size)
    (λ b h. exponent_number is (y b) k (image b h) row c.index-row.ensures)
    (value n c.in_ok-product.product) (value n root) (value n entry)
    (subst (λ u. value u c.in_ok-product.product ≡ (numbers u).mul (value u root) (value u entry)) c.in_ok-root.ensures.order
    c.in_ok-product.ensures.value)
    (λ b h. (
      c.in_ok-root.ensures.value
          ∙ turned_root T.order n c.block_exponent-exponent.result c.order.result c.n.result c.order-2.result T.order_positive is.outer_divides
          c.order.ensures.order c.n.ensures.value c.order-2.ensures.order
          ∙ c.block_exponent-exponent.ensures n is p b e (block b h),
      subst (λ m. IsEntry (D.at (is.quotient.part (y b))) (c.args.i % m) (c.args.j % m) (value n entry)) r.size
          (entry_is n d (D.at (is.quotient.part (y b))) c.index-matrix.result.now
          (part_matrix is D f r (y b) k (image b h) part c.index-part.ensures c.index-matrix.result.now c.index-matrix.ensures)
          (c.args.i % f.dim) (c.args.j % f.dim) (value n entry) (c.at-entry.ensures.entry n)),
    ))
