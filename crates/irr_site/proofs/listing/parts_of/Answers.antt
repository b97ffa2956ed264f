-- Part by part.
use Rattle.std.proofs.Common.{rules, ◌≡◌, refl, sym, subst, ◌<◌, length, arith}
use Rattle.irr_site.proofs.Parts.{SoFar, all_members, characters, none_so_far, one_more}
use Rattle.irr_site.proofs.listing.parts_of.Goals as goal

pub loop-i-init : goal.loop-i-init
loop-i-init g c M h r mult dimension = subst (SoFar g.S.Scalar.order_of g.S.Scalar.value h r mult dimension 0)
    (sym c.new-parts.ensures.items) (none_so_far g.S.Scalar.order_of g.S.Scalar.value h r mult dimension)

pub multiplicity-requires : goal.multiplicity-requires
multiplicity-requires g c =
    let l : c.loop-i.i < length c.args.small.now = search rules in
    characters g.S.Scalar.order_of g.S.Scalar.value c.requires.1 c.loop-i.i l c.index-small-i.result
    c.index-small-i.is c.requires.2
    c.as_slice.result.now c.as_slice.ensures.value

pub loop-i-preserved : goal.loop-i-preserved
loop-i-preserved g c M h r mult dimension =
    let order = g.S.Scalar.order_of in
    let value = g.S.Scalar.value in
    let l : c.loop-i.i < length c.args.small.now = search rules in
    let x = c.index-small-i.result in
    let is = c.index-small-i.is in
    one_more order value h r mult dimension c.loop-i.i l x is c.in_ok-mult.mult
    (c.in_ok-mult.ensures (characters order value h c.loop-i.i l x is r c.as_slice.result.now c.as_slice.ensures.value))
    _ refl refl refl c.loop-i.parts.items c.push_part.new.parts.items
    c.in_ok-push_part.ensures.absent c.in_ok-push_part.ensures.present (c.loop-i.invariant M h r mult dimension)

pub returns : goal.returns
returns g c M h r mult dimension =
    let done : c.loop-i.i ≡ length c.args.small.now = search rules in
    all_members g.S.Scalar.order_of g.S.Scalar.value h r mult dimension c.loop-i.i done
    c.loop-i.parts.items
    (c.loop-i.invariant M h r mult dimension)
