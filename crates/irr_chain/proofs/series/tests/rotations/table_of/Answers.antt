-- The laws of a group, as they are asked for.
use Rattle.std.proofs.Common.{ℕ, ◌≡◌, ◌+◌, ◌*◌, ◌∙◌, ap, subst, vec_len, slice_index, arith}
use Rattle.irr_rep.specs.Table.{HasInverses, IsFactorSystem, IsGroup, entry}
use Rattle.irr_chain.proofs.PointGroups.{factors_of_one, zero_at}
use Rattle.irr_chain.proofs.series.tests.rotations.table_of.Goals as goal

pub new-requires-clause-full_table : goal.new-requires-clause-full_table
new-requires-clause-full_table c =
    let e : c.args.size ≡ vec_len c.loop-i.places = omega arith in
    c.requires.full ∙ ap (λ n. n * n) e

pub new-requires-clause-full_phase : goal.new-requires-clause-full_phase
new-requires-clause-full_phase c =
    let e : c.args.size ≡ vec_len c.loop-i.places = omega arith in
    c.in_ok-phases.ensures.len ∙ ap (λ n. n * n) e

pub new-requires-clause-group : goal.new-requires-clause-group
new-requires-clause-group c =
    let e : c.args.size ≡ vec_len c.loop-i.places = omega arith in
    subst (λ n. IsGroup n (entry n c.args.products.items)) e (record {
      product_below = c.requires.closed;
      unit-product = λ i l. (c.requires.unit i l).0;
      product-unit = λ i l. (c.requires.unit i l).1;
      product_assoc = λ i j k l m n. c.requires.associative i l j m k n;
    })

pub new-requires-clause-inverses : goal.new-requires-clause-inverses
new-requires-clause-inverses c =
    let e : c.args.size ≡ vec_len c.loop-i.places = omega arith in
    subst (λ n. HasInverses n (entry n c.args.products.items)) e c.requires.inverses

pub new-requires-clause-factors : goal.new-requires-clause-factors
new-requires-clause-factors c =
    let e : c.args.size ≡ vec_len c.loop-i.places = omega arith in
    let none : (k : ℕ) → slice_index c.in_ok-phases.phases.items k ≡ 0 =
    λ k. ap (λ v. slice_index v k) (c.in_ok-phases.ensures.items_if_clones_equal (λ y e. e)) ∙ zero_at (c.args.size * c.args.size) k in
    subst (λ n. IsFactorSystem 12 n (entry n c.args.products.items) (entry n c.in_ok-phases.phases.items)) e
    (factors_of_one 12 c.args.size (entry c.args.size c.args.products.items) (entry c.args.size c.in_ok-phases.phases.items) (omega arith)
    (λ i j. none (i * c.args.size + j)) c.requires.back)
