-- The parts of the answer, one after another.
use Rattle.std.proofs.Common.{◌≡◌, sym, ◌∙◌, ap, subst, refl, ℕ, ◌<◌, ◌≤◌, List, length, map, get_or, slice_index, arith}
use native.Mathlib.Nat as Nat
use Rattle.irr_rat.specs.VectorMeaning.{vector}
use Rattle.irr_seitz.specs.PhaseMeaning.{sign_of}
use Rattle.irr_kvec.specs.WaveMeaning.{wave_vector}
use Rattle.irr_close.specs.StandsFor.{stands_for}
use Rattle.irr_little.specs.Places.{IsLittlePlace}
use Rattle.irr_rep.specs.Twisted.{operation_places, phase_table, place_count}
use Rattle.irr_site.specs.Content.{sites_content}
use Rattle.irr_site.specs.Families.{HasRows}
use Rattle.irr_site.specs.Points.{AreSitePlaces}
use Rattle.irr_site.specs.SiteContent.{IsSitesOf}
use Rattle.irr_site.specs.declared.part.Sites.{Sites}
use Rattle.irr_site.proofs.AnswerFrames.{answer_frame, displaced_for, few_sites, induced_for, little_steps, ops_are, ops_count, order_exponent, order_here, points_are, points_count, site_order, site_steps, the_orbit, the_places, the_sites}
use Rattle.irr_site.proofs.AnswerLaws.{answer_content}
use Rattle.irr_site.proofs.Cosets.{some_op}
use Rattle.irr_site.proofs.FrameFits.{listed_all}
use Rattle.irr_site.proofs.OrbitLaws.{site_list_below}
use Rattle.irr_site.proofs.SiteGroups.{all_below}
use Rattle.irr_site.proofs.answer.sites_at.Goals as goal

pub table_characters-requires-clause-steps : goal.table_characters-requires-clause-steps
table_characters-requires-clause-steps g c = little_steps c.args.group.now (wave_vector c.args.k.now) c.args.t.now c.requires.table

pub table_characters-requires-clause-order : goal.table_characters-requires-clause-order
table_characters-requires-clause-order g c = sym (c.in_ok-order.ensures ∙ c.order.ensures.order)

pub site_ops-requires-clause-places : goal.site_ops-requires-clause-places
site_ops-requires-clause-places g c =
    let group = c.args.group.now in
    let x = vector c.args.x.now in
    all_below group x c.as_slice.result.now (subst (AreSitePlaces group x) (sym c.as_slice.ensures.value) c.in_ok-places.ensures)

pub site_numbers-requires-clause-places : goal.site_numbers-requires-clause-places
site_numbers-requires-clause-places g c = let x = vector c.args.x.now in
    (x, subst (AreSitePlaces c.args.group.now x) (sym c.as_slice-3.ensures.value) c.in_ok-places.ensures)

pub site_points-requires-clause-sites : goal.site_points-requires-clause-sites
site_points-requires-clause-sites g c =
    let group = c.args.group.now in
    let x = vector c.args.x.now in
    subst (λ vs. (k : ℕ) (d : ℕ) → k < length vs → get_or vs k d < length group.ops.items) (sym c.as_slice-4.ensures.value)
    (site_list_below group x c.in_ok-sites.sites.items
    (c.in_ok-sites.ensures x (subst (AreSitePlaces group x) (sym c.as_slice-3.ensures.value) c.in_ok-places.ensures)))

pub site_table-requires-clause-places : goal.site_table-requires-clause-places
site_table-requires-clause-places g c = let x = vector c.args.x.now in
    (x, subst (AreSitePlaces c.args.group.now x) (sym (c.in_ok-listed.ensures.items ∙ c.deref.ensures.value)) c.in_ok-places.ensures)

pub site_table-requires-clause-divides : goal.site_table-requires-clause-divides
site_table-requires-clause-divides g c =
    order_exponent c.args.group.now (wave_vector c.args.k.now) c.args.t.now c.requires.table c.order-2.result c.order-2.ensures.order

pub table_characters-requires-2-clause-steps : goal.table_characters-requires-2-clause-steps
table_characters-requires-2-clause-steps g c =
    let group = c.args.group.now in
    let x = vector c.args.x.now in
    let t = c.args.t.now in
    let xs = c.in_ok-places.places.items in
    let places = c.in_ok-places.ensures in
    let ys = c.in_ok-sites.sites.items in
    let numbers = c.in_ok-sites.ensures x (subst (AreSitePlaces group x) (sym c.as_slice-3.ensures.value) places) in
    let table = c.in_ok-table.table in
    let zs = c.in_ok-listed.listed.items in
    let same = c.in_ok-listed.ensures.items ∙ c.deref.ensures.value in
    let listed = c.in_ok-table.ensures.places in
    let n = c.in_ok-order.order.n in
    let order = c.in_ok-order.ensures in
    let second = c.order-2.ensures.order ∙ sym (order ∙ c.order.ensures.order) in
    let is = c.in_ok-table.ensures.table x (subst (AreSitePlaces group x) (sym same) places) in
    site_steps group x xs places ys numbers table zs listed same n c.order-2.result second is

pub table_characters-requires-2-clause-order : goal.table_characters-requires-2-clause-order
table_characters-requires-2-clause-order g c =
    let group = c.args.group.now in
    let x = vector c.args.x.now in
    let t = c.args.t.now in
    let xs = c.in_ok-places.places.items in
    let places = c.in_ok-places.ensures in
    let ys = c.in_ok-sites.sites.items in
    let numbers = c.in_ok-sites.ensures x (subst (AreSitePlaces group x) (sym c.as_slice-3.ensures.value) places) in
    let table = c.in_ok-table.table in
    let zs = c.in_ok-listed.listed.items in
    let same = c.in_ok-listed.ensures.items ∙ c.deref.ensures.value in
    let listed = c.in_ok-table.ensures.places in
    let n = c.in_ok-order.order.n in
    let order = c.in_ok-order.ensures in
    let second = c.order-2.ensures.order ∙ sym (order ∙ c.order.ensures.order) in
    let is = c.in_ok-table.ensures.table x (subst (AreSitePlaces group x) (sym same) places) in
    site_order group x xs places ys numbers table zs listed same n c.order-2.result second is

pub all_rests-requires-clause-order : goal.all_rests-requires-clause-order
all_rests-requires-clause-order g c =
    order_here c.args.group.now (wave_vector c.args.k.now) c.args.t.now c.requires.table c.order-3.result c.order-3.ensures.order

pub all_rests-requires-clause-little : goal.all_rests-requires-clause-little
all_rests-requires-clause-little g c =
    listed_all (IsLittlePlace c.args.group.now (wave_vector c.args.k.now)) (length c.args.group.now.ops.items)
    (operation_places c.args.t.now) c.requires.table.places

pub all_rests-requires-clause-orbit : goal.all_rests-requires-clause-orbit
all_rests-requires-clause-orbit g c =
    let group = c.args.group.now in
    let x = vector c.args.x.now in
    let t = c.args.t.now in
    let xs = c.in_ok-places.places.items in
    let places = c.in_ok-places.ensures in
    let ys = c.in_ok-sites.sites.items in
    let numbers = c.in_ok-sites.ensures x (subst (AreSitePlaces group x) (sym c.as_slice-3.ensures.value) places) in
    let table = c.in_ok-table.table in
    let zs = c.in_ok-listed.listed.items in
    let same = c.in_ok-listed.ensures.items ∙ c.deref.ensures.value in
    let listed = c.in_ok-table.ensures.places in
    let n = c.in_ok-order.order.n in
    let order = c.in_ok-order.ensures in
    let second = c.order-2.ensures.order ∙ sym (order ∙ c.order.ensures.order) in
    let is = c.in_ok-table.ensures.table x (subst (AreSitePlaces group x) (sym same) places) in (
      the_orbit group x xs places ys numbers table zs listed same,
      the_places group x xs places ys numbers table zs listed same,
      the_sites group x xs places ys numbers table zs listed same,
    )

pub overflow_cast-count : goal.overflow_cast-count
overflow_cast-count g c =
    let group = c.args.group.now in
    let x = vector c.args.x.now in
    let t = c.args.t.now in
    let xs = c.in_ok-places.places.items in
    let places = c.in_ok-places.ensures in
    let ys = c.in_ok-sites.sites.items in
    let numbers = c.in_ok-sites.ensures x (subst (AreSitePlaces group x) (sym c.as_slice-3.ensures.value) places) in
    let table = c.in_ok-table.table in
    let zs = c.in_ok-listed.listed.items in
    let same = c.in_ok-listed.ensures.items ∙ c.deref.ensures.value in
    let listed = c.in_ok-table.ensures.places in
    let n = c.in_ok-order.order.n in
    let order = c.in_ok-order.ensures in
    let second = c.order-2.ensures.order ∙ sym (order ∙ c.order.ensures.order) in
    let is = c.in_ok-table.ensures.table x (subst (AreSitePlaces group x) (sym same) places) in
    let count = c.len-count.ensures ∙ c.in_ok-points.points.ok.0
    ∙ points_count group x xs places ys numbers table zs listed same c.as_slice-4.result.now c.as_slice-4.ensures.value
    c.in_ok-points.points.items c.in_ok-points.ensures in
    let few = few_sites group x ys numbers in
    omega (arith, count, few)

pub induced_parts-requires-clause-admitted : goal.induced_parts-requires-clause-admitted
induced_parts-requires-clause-admitted g c =
    g.met.S.Lift.admits_each c.in_ok-order.order.n c.in_ok-order.order.positive c.in_ok-order.order.limited

pub induced_parts-requires-clause-frame : goal.induced_parts-requires-clause-frame
induced_parts-requires-clause-frame g c =
    let group = c.args.group.now in
    let x = vector c.args.x.now in
    let t = c.args.t.now in
    let xs = c.in_ok-places.places.items in
    let places = c.in_ok-places.ensures in
    let ys = c.in_ok-sites.sites.items in
    let numbers = c.in_ok-sites.ensures x (subst (AreSitePlaces group x) (sym c.as_slice-3.ensures.value) places) in
    let table = c.in_ok-table.table in
    let zs = c.in_ok-listed.listed.items in
    let same = c.in_ok-listed.ensures.items ∙ c.deref.ensures.value in
    let listed = c.in_ok-table.ensures.places in
    let n = c.in_ok-order.order.n in
    let order = c.in_ok-order.ensures in
    let second = c.order-2.ensures.order ∙ sym (order ∙ c.order.ensures.order) in
    let is = c.in_ok-table.ensures.table x (subst (AreSitePlaces group x) (sym same) places) in
    let orbit = the_orbit group x xs places ys numbers table zs listed same in
    let third = c.order-3.ensures.order ∙ sym (order ∙ c.order.ensures.order) in
    let rests = c.in_ok-rows.ensures orbit (the_places group x xs places ys numbers table zs listed same)
    (the_sites group x xs places ys numbers table zs listed same) (some_op group) in
    let count = c.len-count.ensures ∙ c.in_ok-points.points.ok.0
    ∙ points_count group x xs places ys numbers table zs listed same c.as_slice-4.result.now c.as_slice-4.ensures.value
    c.in_ok-points.points.items c.in_ok-points.ensures in (
      group,
      x,
      wave_vector c.args.k.now,
      answer_frame group x xs places ys numbers table zs listed same n c.order-2.result second is g.S.Scalar.order_of g.S.Scalar.value
          (wave_vector c.args.k.now) t c.requires.table c.in_ok-small.small.items c.in_ok-small.ensures
          c.in_ok-characters.characters.items c.in_ok-characters.ensures c.in_ok-rows.rows.items c.order-3.result third rests
          c.as_slice-6.result.now c.as_slice-6.ensures.value c.as_slice-7.result.now c.as_slice-7.ensures.value
          c.as_slice-8.result.now c.as_slice-8.ensures.value c.len-count.result count,
    )

pub displaced_parts-requires-clause-admitted : goal.displaced_parts-requires-clause-admitted
displaced_parts-requires-clause-admitted g c =
    g.met.S.Lift.admits_each c.in_ok-order.order.n c.in_ok-order.order.positive c.in_ok-order.order.limited

pub displaced_parts-requires-clause-frame : goal.displaced_parts-requires-clause-frame
displaced_parts-requires-clause-frame g c =
    let group = c.args.group.now in
    let x = vector c.args.x.now in
    let t = c.args.t.now in
    let xs = c.in_ok-places.places.items in
    let places = c.in_ok-places.ensures in
    let ys = c.in_ok-sites.sites.items in
    let numbers = c.in_ok-sites.ensures x (subst (AreSitePlaces group x) (sym c.as_slice-3.ensures.value) places) in
    let table = c.in_ok-table.table in
    let zs = c.in_ok-listed.listed.items in
    let same = c.in_ok-listed.ensures.items ∙ c.deref.ensures.value in
    let listed = c.in_ok-table.ensures.places in
    let n = c.in_ok-order.order.n in
    let order = c.in_ok-order.ensures in
    let second = c.order-2.ensures.order ∙ sym (order ∙ c.order.ensures.order) in
    let is = c.in_ok-table.ensures.table x (subst (AreSitePlaces group x) (sym same) places) in
    let orbit = the_orbit group x xs places ys numbers table zs listed same in
    let third = c.order-3.ensures.order ∙ sym (order ∙ c.order.ensures.order) in
    let rests = c.in_ok-rows.ensures orbit (the_places group x xs places ys numbers table zs listed same)
    (the_sites group x xs places ys numbers table zs listed same) (some_op group) in
    let count = c.len-count.ensures ∙ c.in_ok-points.points.ok.0
    ∙ points_count group x xs places ys numbers table zs listed same c.as_slice-4.result.now c.as_slice-4.ensures.value
    c.in_ok-points.points.items c.in_ok-points.ensures in (
      x,
      wave_vector c.args.k.now,
      c.in_ok-characters.characters.items,
      answer_frame group x xs places ys numbers table zs listed same n c.order-2.result second is g.S.Scalar.order_of g.S.Scalar.value
          (wave_vector c.args.k.now) t c.requires.table c.in_ok-small.small.items c.in_ok-small.ensures
          c.in_ok-characters.characters.items c.in_ok-characters.ensures c.in_ok-rows.rows.items c.order-3.result third rests
          c.as_slice-9.result.now c.as_slice-9.ensures.value c.as_slice-10.result.now c.as_slice-10.ensures.value
          c.in_ok-characters.characters.items refl c.len-count.result count,
      sym (c.len.ensures ∙ c.in_ok-ops.ops.ok.0 ∙ ops_count group x xs places ys numbers table zs listed same c.as_slice.result.now
          c.as_slice.ensures.value c.in_ok-ops.ops.items c.in_ok-ops.ensures),
    )

pub returns : goal.returns
returns g c =
    let group = c.args.group.now in
    let x = vector c.args.x.now in
    let t = c.args.t.now in
    let xs = c.in_ok-places.places.items in
    let places = c.in_ok-places.ensures in
    let ys = c.in_ok-sites.sites.items in
    let numbers = c.in_ok-sites.ensures x (subst (AreSitePlaces group x) (sym c.as_slice-3.ensures.value) places) in
    let table = c.in_ok-table.table in
    let zs = c.in_ok-listed.listed.items in
    let same = c.in_ok-listed.ensures.items ∙ c.deref.ensures.value in
    let listed = c.in_ok-table.ensures.places in
    let n = c.in_ok-order.order.n in
    let order = c.in_ok-order.ensures in
    let second = c.order-2.ensures.order ∙ sym (order ∙ c.order.ensures.order) in
    let is = c.in_ok-table.ensures.table x (subst (AreSitePlaces group x) (sym same) places) in
    let orbit = the_orbit group x xs places ys numbers table zs listed same in
    let third = c.order-3.ensures.order ∙ sym (order ∙ c.order.ensures.order) in
    let rests = c.in_ok-rows.ensures orbit (the_places group x xs places ys numbers table zs listed same)
    (the_sites group x xs places ys numbers table zs listed same) (some_op group) in
    let count = c.len-count.ensures ∙ c.in_ok-points.points.ok.0
    ∙ points_count group x xs places ys numbers table zs listed same c.as_slice-4.result.now c.as_slice-4.ensures.value
    c.in_ok-points.points.items c.in_ok-points.ensures in
    let order_of = g.S.Scalar.order_of in
    let value = g.S.Scalar.value in
    let small = c.in_ok-small.small.items in
    let rows = c.in_ok-rows.rows.items in
    let cs = c.in_ok-characters.characters.items in
    let sites = c.len-count.result in
    let k = wave_vector c.args.k.now in
    let f = answer_frame group x xs places ys numbers table zs listed same n c.order-2.result second is g.S.Scalar.order_of g.S.Scalar.value
    (wave_vector c.args.k.now) t c.requires.table c.in_ok-small.small.items c.in_ok-small.ensures
    c.in_ok-characters.characters.items c.in_ok-characters.ensures c.in_ok-rows.rows.items c.order-3.result third rests
    c.in_ok-small.small.items refl c.in_ok-rows.rows.items refl
    c.in_ok-characters.characters.items refl c.len-count.result count in
    let of_ops = ops_count group x xs places ys numbers table zs listed same c.as_slice.result.now
    c.as_slice.ensures.value c.in_ok-ops.ops.items c.in_ok-ops.ensures in
    let induced = induced_for order_of value n t sites small c.as_slice-6.result.now c.as_slice-6.ensures.value
    rows c.as_slice-7.result.now c.as_slice-7.ensures.value cs c.as_slice-8.result.now c.as_slice-8.ensures.value
    c.in_ok-induced.induced.items c.in_ok-induced.ensures group x k f in
    let displaced = displaced_for order_of value n t sites small c.as_slice-9.result.now c.as_slice-9.ensures.value
    rows c.as_slice-10.result.now c.as_slice-10.ensures.value group c.len.result c.in_ok-displace.displace c.in_ok-displace.ensures x k cs f
    (sym (c.len.ensures ∙ c.in_ok-ops.ops.ok.0 ∙ of_ops)) in
    let own = order ∙ c.order.ensures.order in
    let a : Sites = record {
      ops = c.in_ok-ops.ops;
      points = c.in_ok-points.points;
      induced = c.in_ok-induced.induced;
      displace = c.in_ok-displace.displace;
    } in
    subst (λ m. IsSitesOf (sign_of group.phase) (stands_for group) x k (sites_content m a)) own
    (answer_content f (sym own) a of_ops
    (ops_are group x xs places ys numbers table zs listed same c.as_slice.result.now c.as_slice.ensures.value c.in_ok-ops.ops.items c.in_ok-ops.ensures)
    (points_count group x xs places ys numbers table zs listed same c.as_slice-4.result.now c.as_slice-4.ensures.value
    c.in_ok-points.points.items c.in_ok-points.ensures)
    (points_are group x xs places ys numbers table zs listed same c.as_slice-4.result.now c.as_slice-4.ensures.value
    c.in_ok-points.points.items c.in_ok-points.ensures)
    induced displaced)
