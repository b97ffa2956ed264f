-- Part by part.
use Rattle.std.proofs.Common.{rules, ◌≡◌, refl, ◌<◌, length, arith}
use Rattle.irr_mult.proofs.StarListings.{all_members, characters, none_so_far, one_more, small_product}
use Rattle.irr_mult.proofs.listing.push_parts.Goals as goal

pub loop-i-init : goal.loop-i-init
loop-i-init g c M h r mult dimension = none_so_far g.S.Scalar.order_of g.S.Scalar.value h r mult dimension
    c.args.parts.now.items

pub multiplicity-requires : goal.multiplicity-requires
multiplicity-requires g c =
    let l : c.loop-i.i < length c.args.star.now.characters.items = search rules in
    characters g.S.Scalar.order_of g.S.Scalar.value c.requires.1 c.loop-i.i l c.index-character.result.now
    c.index-character.ensures c.requires.2
    c.as_slice.result.now c.as_slice.ensures.value

pub overflow_mul-part : goal.overflow_mul-part
overflow_mul-part g c =
    let l : c.loop-i.i < length c.args.star.now.characters.items = search rules in
    let small = small_product g.S.Scalar.order_of g.S.Scalar.value c.requires.1 c.loop-i.i l
    c.index-character.result.now c.index-character.ensures in
    omega (arith, small)

pub loop-i-preserved : goal.loop-i-preserved
loop-i-preserved g c M h r mult dimension =
    let order = g.S.Scalar.order_of in
    let value = g.S.Scalar.value in
    let l : c.loop-i.i < length c.args.star.now.characters.items = search rules in
    let x = c.index-character.result.now in
    let is = c.index-character.ensures in
    one_more order value h r mult dimension c.loop-i.i l x is c.in_ok-mult.mult
    (c.in_ok-mult.ensures (characters order value h c.loop-i.i l x is r c.as_slice.result.now c.as_slice.ensures.value))
    _ refl refl refl refl c.args.parts.now.items c.loop-i.parts.items c.push_part.new.parts.items
    c.in_ok-push_part.ensures.absent c.in_ok-push_part.ensures.present (c.loop-i.invariant M h r mult dimension)

pub returns : goal.returns
returns g c M h r mult dimension =
    let done : c.loop-i.i ≡ length c.args.star.now.characters.items = search rules in
    all_members g.S.Scalar.order_of g.S.Scalar.value h r mult dimension c.loop-i.i done c.args.parts.now.items
    c.loop-i.parts.items
    (c.loop-i.invariant M h r mult dimension)
