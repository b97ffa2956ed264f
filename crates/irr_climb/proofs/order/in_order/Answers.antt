-- The rows, their order, and the families in this order.
use Rattle.std.proofs.Common.{◌≡◌, ◌<◌, ◌∙◌, sym, ap, subst, ℕ, get_or, length, map, slice_index, arith}
use Rattle.std.specs.List.{range_with_len}
use Rattle.std.specs.List.Sorted.{IsPermutation}
use Rattle.std.proofs.lemmas.List.{length-map}
use Rattle.irr_rep.specs.declared.family.Family.{Family}
use Rattle.irr_rep.specs.Twisted.{phase_table, place_count}
use Rattle.irr_space.specs.PhaseTable.{phases_over}
use Rattle.irr_char.specs.Rows as Rows
use Rattle.irr_char.specs.Rows.{AreInOrder}
use Rattle.irr_char.proofs.PlaceOrders.{places_differ}
use Rattle.irr_climb.specs.Families.{AreRead}
use Rattle.irr_climb.specs.Sizes.{AreSized}
use Rattle.irr_climb.proofs.ClimbedLevel.{few_members}
use Rattle.irr_climb.proofs.InOrder.{places_inside, rows_meet, small_list}
use Rattle.irr_climb.proofs.order.in_order.Goals as goal

pub characters-requires : goal.characters-requires
characters-requires g c =
    let T = phase_table c.args.t.now in
    let v = c.requires.full.0 in
    let f = c.requires.full.1 in
    let P = phases_over T T.order v in (
      T.order,
      P,
      f.list,
      f.full,
      subst (λ xs. AreRead T.order P f.list xs) (sym c.as_slice.ensures.value) f.read,
      subst (λ xs. AreSized T.order (place_count c.args.t.now) xs) (sym c.as_slice.ensures.value) c.requires.sized,
      c.args.t.now.places_within,
    )

pub order_rows-requires : goal.order_rows-requires
order_rows-requires g c =
    let T = phase_table c.args.t.now in
    let v = c.requires.full.0 in
    let f = c.requires.full.1 in
    let P = phases_over T T.order v in
    let are = c.in_ok-rows.ensures T.order P f.list (subst (λ xs. AreRead T.order P f.list xs) (sym c.as_slice.ensures.value) f.read) in
    let count : length c.as_slice-2.result.now ≡ f.list.count =
    ap length c.as_slice-2.ensures.value ∙ sym (length-map c.in_ok-rows.rows.items (λ row. row.items)) ∙ are.count in
    omega (arith, count, few_members f.list f.full, c.args.t.now.places_within)

pub rearranged-requires-clause-within : goal.rearranged-requires-clause-within
rearranged-requires-clause-within g c =
    let T = phase_table c.args.t.now in
    let v = c.requires.full.0 in
    let f = c.requires.full.1 in
    let P = phases_over T T.order v in
    let are = c.in_ok-rows.ensures T.order P f.list (subst (λ xs. AreRead T.order P f.list xs) (sym c.as_slice.ensures.value) f.read) in
    let lists = map (λ row. row.items) c.in_ok-rows.rows.items in
    let places = c.in_ok-places.places.items in
    let order = subst (λ n. IsPermutation (range_with_len 0 n) places)
    (ap length c.as_slice-2.ensures.value ∙ sym (length-map c.in_ok-rows.rows.items (λ row. row.items))) c.in_ok-places.ensures.permutation in
    subst (λ ps. (a : ℕ) → a < length ps → slice_index ps a < length c.args.families.items) (sym c.as_slice-3.ensures.value)
    (λ a l. subst (λ n. slice_index places a < n) (sym f.read.count) (places_inside T v c.args.families.items f lists are places order a l))

pub rearranged-requires-clause-distinct : goal.rearranged-requires-clause-distinct
rearranged-requires-clause-distinct g c =
    subst (λ ps. (a b : ℕ) → a < b → b < length ps → slice_index ps a ≡ slice_index ps b → ⊥) (sym c.as_slice-3.ensures.value)
    (places_differ (length c.as_slice-2.result.now) c.in_ok-places.places.items c.in_ok-places.ensures.permutation)

pub returns : goal.returns
returns g c =
    let T = phase_table c.args.t.now in
    let v = c.requires.full.0 in
    let f = c.requires.full.1 in
    let P = phases_over T T.order v in
    let fs = c.args.families.items in
    let value = g.S.Scalar.value in
    let are = c.in_ok-rows.ensures T.order P f.list (subst (λ xs. AreRead T.order P f.list xs) (sym c.as_slice.ensures.value) f.read) in
    let lists = map (λ row. row.items) c.in_ok-rows.rows.items in
    let places = c.in_ok-places.places.items in
    let same = c.as_slice-2.ensures.value in
    let order = subst (λ n. IsPermutation (range_with_len 0 n) places)
    (ap length same ∙ sym (length-map c.in_ok-rows.rows.items (λ row. row.items))) c.in_ok-places.ensures.permutation in
    let meet = subst (λ xs. Rows.AreRows g.S.Scalar.order_of T.order (place_count c.args.t.now) (value T.order) (map (λ row. row.items) xs))
    (sym same)
    (rows_meet T v fs f lists are) in
    let ordered = subst (λ xs. AreInOrder T.order T.start (map (map (value T.order)) (map (λ row. row.items) xs)) places) same
    (c.in_ok-places.ensures.ordered T.order (place_count c.args.t.now) T.start T.start_first meet) in
    let gs = c.in_ok-ordered.ordered.items in
    small_list T v fs f lists are places order ordered c.requires.sized gs (c.in_ok-ordered.ensures.count ∙ ap length c.as_slice-3.ensures.value)
    (subst (λ ps. (a : ℕ) (e : Family g.row.S.Denot g.S.Scalar) → a < length ps → get_or gs a e ≡ get_or fs (slice_index ps a) e)
    c.as_slice-3.ensures.value
    c.in_ok-ordered.ensures.items)
