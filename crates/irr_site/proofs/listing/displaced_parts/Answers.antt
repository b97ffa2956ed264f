-- The traces of displacements, and the parts.
use Rattle.std.proofs.Common.{◌≡◌, sym, ◌∙◌, ap, subst, refl, ℕ, ◌*◌, ◌<◌, ◌≤◌, length, get_or, slice_index, rules, arith}
use Rattle.irr_algebra.specs.Fin.{Fin, to_nat}
use Rattle.irr_little.specs.Places.{AreListed, IsLittlePlace}
use Rattle.irr_rep.specs.Twisted.{operation_places}
use Rattle.irr_site.proofs.FrameFits.{listed_all, rows_within}
use Rattle.irr_site.specs.Traces.{AreSumsOf}
use Rattle.irr_site.proofs.DisplacedCalls.{displaced_asked, displaced_made}
use Rattle.irr_site.proofs.listing.displaced_parts.Goals as goal

pub displacement_traces-requires-clause-places : goal.displacement_traces-requires-clause-places
displacement_traces-requires-clause-places g c =
    let f = c.requires.frame.3 in
    listed_all (IsLittlePlace c.args.group.now c.requires.frame.1) (length c.args.group.now.ops.items) (operation_places c.args.t.now) f.little.places

pub displacement_traces-requires-clause-rows : goal.displacement_traces-requires-clause-rows
displacement_traces-requires-clause-rows g c = c.requires.frame.3.rests.count

pub displacement_traces-requires-clause-fit : goal.displacement_traces-requires-clause-fit
displacement_traces-requires-clause-fit g c = rows_within c.requires.frame.3 c.args.places c.requires.frame.4

pub parts_of-requires : goal.parts_of-requires
parts_of-requires g c =
    let n = c.args.order.now.n in
    let f = c.requires.frame.3 in
    let xs = c.as_slice.result.now in
    displaced_asked f c.args.places c.requires.frame.4 xs
    (λ row are. subst (AreSumsOf g.S.Scalar.order_of g.S.Scalar.value n row c.args.rows.now) (sym c.as_slice.ensures.value)
    (c.in_ok-traces.ensures row are))

pub returns : goal.returns
returns g c x k cs f same =
    let n = c.args.order.now.n in
    let xs = c.as_slice.result.now in
    displaced_made f c.args.places same xs
    (λ row are. subst (AreSumsOf g.S.Scalar.order_of g.S.Scalar.value n row c.args.rows.now) (sym c.as_slice.ensures.value)
    (c.in_ok-traces.ensures row are)) _ refl refl c.in_ok-parts.ensures
