-- The products of the places, and exponents 0.
use Rattle.std.proofs.Common.{◌≡◌, ◌+◌, ◌*◌, sym, ◌∙◌, ap, subst, refl, [], ◌∷◌, ◌<◌, length, slice_index, get_or, length-append, rules, arith}
use Rattle.std.proofs.lemmas.List.Elements.{Contains-get_or}
use Rattle.irr_rep.proofs.Rows.{FilledRows, filled-nil, filled-push, filled-entries}
use Rattle.irr_site.specs.Products.{IsRotationProduct}
use Rattle.irr_site.specs.Tables.{IsPlaceProduct}
use Rattle.irr_site.proofs.SiteGroups.{listed_below}
use Rattle.irr_site.proofs.TableLaws.{few_places, place_of_product}
use Rattle.irr_site.proofs.table.entries.Goals as goal

pub read-number-requires-clause-left : goal.read-number-requires-clause-left
read-number-requires-clause-left c = listed_below c.args.group.now c.requires.places.0 c.args.places.now c.requires.places.1
    c.loop-i.i-index c.loop-i-test.true

pub read-number-requires-clause-right : goal.read-number-requires-clause-right
read-number-requires-clause-right c = listed_below c.args.group.now c.requires.places.0 c.args.places.now c.requires.places.1
    c.loop-j.j-index c.loop-j-test.true

pub position-requires-clause-short : goal.position-requires-clause-short
position-requires-clause-short c = few_places c.args.group.now c.requires.places.0 c.args.places.now c.requires.places.1

pub position-requires-clause-inside : goal.position-requires-clause-inside
position-requires-clause-inside c = place_of_product c.args.group.now c.requires.places.0 c.args.places.now c.requires.places.1
    (slice_index c.args.places.now c.loop-i.i-index) (slice_index c.args.places.now c.loop-j.j-index) c.read-number.result
    (Contains-get_or c.args.places.now c.loop-i.i-index 0 c.loop-i-test.true)
    (Contains-get_or c.args.places.now c.loop-j.j-index 0 c.loop-j-test.true) c.read-number.ensures

pub loop-j-preserved : goal.loop-j-preserved
loop-j-preserved c =
    let places = c.args.places.now in
    let p = c.position.result in
    let longer : length c.push.new.self.items ≡ length c.loop-j.table.items + 1 = ap length c.in_ok-push.ensures.items
    ∙ length-append c.loop-j.table.items (p ∷ []) in
    let exponents_longer : length c.push-in-loop-j.new.self.items ≡ length c.loop-j.exponents.items + 1 = ap length c.in_ok-push-2.ensures.items
    ∙ length-append c.loop-j.exponents.items (0 ∷ []) in
    record {
      count = omega (arith, longer, c.loop-j.invariant.count);
      rows = subst (FilledRows (length places) (IsPlaceProduct c.args.group.now places)) (sym c.in_ok-push.ensures.items)
          (filled-push (length places) (IsPlaceProduct c.args.group.now places) c.loop-j.table.items c.loop-i.i-index c.loop-j.j-index p
          c.loop-j.invariant.rows c.loop-j.invariant.count c.loop-j-test.true (
            c.position.ensures.within,
            subst (IsRotationProduct c.args.group.now (slice_index places c.loop-i.i-index) (slice_index places c.loop-j.j-index))
                (sym c.position.ensures.number) c.read-number.ensures,
          ));
      exponent_count = omega (arith, exponents_longer, c.loop-j.invariant.exponent_count);
      exponent_rows = subst (FilledRows (length places) (λ a b x. x ≡ 0)) (sym c.in_ok-push-2.ensures.items)
          (filled-push (length places) (λ a b x. x ≡ 0) c.loop-j.exponents.items c.loop-i.i-index c.loop-j.j-index 0
          c.loop-j.invariant.exponent_rows c.loop-j.invariant.exponent_count c.loop-j-test.true refl);
    }

pub returns-clause-products : goal.returns-clause-products
returns-clause-products c =
    let places = c.args.places.now in
    let done : c.loop-i.i-index ≡ length places = omega arith in
    filled-entries (length places) (IsPlaceProduct c.args.group.now places) c.loop-i.table.items c.loop-i.invariant.rows
    (c.loop-i.invariant.count ∙ ap (λ k. k * length places) done)

pub returns-clause-exponents : goal.returns-clause-exponents
returns-clause-exponents c =
    let places = c.args.places.now in
    let done : c.loop-i.i-index ≡ length places = omega arith in
    filled-entries (length places) (λ a b x. x ≡ 0) c.loop-i.exponents.items c.loop-i.invariant.exponent_rows
    (c.loop-i.invariant.exponent_count ∙ ap (λ k. k * length places) done)
