-- The products of the places, and the exponents of their phases.
use Rattle.std.proofs.Common.{◌≡◌, ◌+◌, ◌*◌, sym, ◌∙◌, ap, subst, [], ◌∷◌, length, slice_index, get_or, length-append, arith}
use Rattle.std.proofs.lemmas.List.Elements.{Contains-get_or}
use Rattle.irr_seitz.specs.OperationMeaning.{operation}
use Rattle.irr_seitz.specs.PhaseMeaning.{sign_of}
use Rattle.irr_rat.specs.VectorMeaning.{vector}
use Rattle.irr_kvec.specs.WaveMeaning.{wave_vector}
use Rattle.irr_cocycle.proofs.Phases.{order_at-positive}
use Rattle.irr_rep.proofs.Rows.{FilledRows, filled-push, filled-entries}
use Rattle.irr_close.specs.StandsFor.{stands_for}
use Rattle.irr_close.proofs.Bareness.{first_of}
use Rattle.irr_little.specs.Products.{IsProduct}
use Rattle.irr_little.specs.Entries.{IsProductEntry, IsPhaseEntry}
use Rattle.irr_little.proofs.Spaces.{form_of, canonical_at}
use Rattle.irr_little.proofs.SubgroupTables.{product_translation, turns_whole}
use Rattle.irr_close.proofs.SpaceGroups.{space_group}
use Rattle.irr_little.proofs.table.entries.Goals as goal

pub product-both-requires-clause-left : goal.product-both-requires-clause-left
product-both-requires-clause-left c = c.requires.closed.below (slice_index c.args.places.now c.loop-i.i-index)
    (Contains-get_or c.args.places.now c.loop-i.i-index 0 c.loop-i-test.true)

pub product-both-requires-clause-right : goal.product-both-requires-clause-right
product-both-requires-clause-right c = c.requires.closed.below (slice_index c.args.places.now c.loop-j.j-index)
    (Contains-get_or c.args.places.now c.loop-j.j-index 0 c.loop-j-test.true)

pub position-requires-clause-short : goal.position-requires-clause-short
position-requires-clause-short c = c.requires.closed.few

pub position-requires-clause-inside : goal.position-requires-clause-inside
position-requires-clause-inside c = c.requires.closed.products (slice_index c.args.places.now c.loop-i.i-index)
    (slice_index c.args.places.now c.loop-j.j-index)
    c.product-both.result.op (vector c.product-both.result.shift)
    (Contains-get_or c.args.places.now c.loop-i.i-index 0 c.loop-i-test.true)
    (Contains-get_or c.args.places.now c.loop-j.j-index 0 c.loop-j-test.true) c.product-both.ensures.product

pub theta-requires-clause-positive : goal.theta-requires-clause-positive
theta-requires-clause-positive c = order_at-positive (stands_for c.args.group.now) (sign_of c.args.group.now.phase)
    (wave_vector c.args.k.now) c.args.order c.requires.order

pub theta-requires-clause-whole : goal.theta-requires-clause-whole
theta-requires-clause-whole c =
    let group = c.args.group.now in
    let i = slice_index c.args.places.now c.loop-i.i-index in
    let j = slice_index c.args.places.now c.loop-j.j-index in
    let d = first_of group.ops.items (form_of group).nonempty in
    turns_whole (stands_for group) (wave_vector c.args.k.now) c.args.order c.requires.order (vector c.product-both.result.shift)
    (product_translation (stands_for group) (space_group c.args.group.now).is_group (operation (get_or group.ops.items i d)) (operation
    (get_or group.ops.items j d)) (operation (get_or group.ops.items c.product-both.result.op d))
    (vector c.product-both.result.shift)
    (canonical_at group d i (c.requires.closed.below i (Contains-get_or c.args.places.now c.loop-i.i-index 0 c.loop-i-test.true))).member
    (canonical_at group d j (c.requires.closed.below j (Contains-get_or c.args.places.now c.loop-j.j-index 0 c.loop-j-test.true))).member
    (canonical_at group d c.product-both.result.op c.product-both.ensures.product.below).member
    (c.product-both.ensures.product.is d))

pub loop-j-preserved : goal.loop-j-preserved
loop-j-preserved c =
    let places = c.args.places.now in
    let k = wave_vector c.args.k.now in
    let p = c.position.result in
    let x = c.theta.result in
    let longer : length c.push.new.self.items ≡ length c.loop-j.products.items + 1 = ap length c.in_ok-push.ensures.items
    ∙ length-append c.loop-j.products.items (p ∷ []) in
    let phases_longer : length c.push-in-loop-j.new.self.items ≡ length c.loop-j.exponents.items + 1 = ap length c.in_ok-push-2.ensures.items
    ∙ length-append c.loop-j.exponents.items (x ∷ []) in
    record {
      count = omega (arith, longer, c.loop-j.invariant.count);
      rows = subst (FilledRows (length places) (IsProductEntry c.args.group.now places)) (sym c.in_ok-push.ensures.items)
          (filled-push (length places) (IsProductEntry c.args.group.now places) c.loop-j.products.items c.loop-i.i-index c.loop-j.j-index p
          c.loop-j.invariant.rows c.loop-j.invariant.count c.loop-j-test.true (
            c.position.ensures.within,
            (
              vector c.product-both.result.shift,
              subst (λ n. IsProduct c.args.group.now (slice_index places c.loop-i.i-index) (slice_index places c.loop-j.j-index) n
                  (vector c.product-both.result.shift))
                  (sym c.position.ensures.value) c.product-both.ensures.product,
            ),
          ));
      phase_count = omega (arith, phases_longer, c.loop-j.invariant.phase_count);
      phases = subst (FilledRows (length places) (IsPhaseEntry c.args.group.now k c.args.order places)) (sym c.in_ok-push-2.ensures.items)
          (filled-push (length places)
          (IsPhaseEntry c.args.group.now k c.args.order places) c.loop-j.exponents.items c.loop-i.i-index c.loop-j.j-index x
          c.loop-j.invariant.phases c.loop-j.invariant.phase_count c.loop-j-test.true
          (c.product-both.result.op, vector c.product-both.result.shift, c.product-both.ensures.product, c.theta.ensures));
    }

pub returns-clause-products : goal.returns-clause-products
returns-clause-products c =
    let places = c.args.places.now in
    let done : c.loop-i.i-index ≡ length places = omega arith in
    filled-entries (length places) (IsProductEntry c.args.group.now places) c.loop-i.products.items c.loop-i.invariant.rows
    (c.loop-i.invariant.count ∙ ap (λ k. k * length places) done)

pub returns-clause-exponents : goal.returns-clause-exponents
returns-clause-exponents c =
    let places = c.args.places.now in
    let done : c.loop-i.i-index ≡ length places = omega arith in
    filled-entries (length places) (IsPhaseEntry c.args.group.now
    (wave_vector c.args.k.now) c.args.order places) c.loop-i.exponents.items c.loop-i.invariant.phases
    (c.loop-i.invariant.phase_count ∙ ap (λ k. k * length places) done)
