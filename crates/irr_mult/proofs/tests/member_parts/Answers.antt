-- The part is the member itself.
use Rattle.std.proofs.Common.{arith}
use Rattle.irr_space.specs.CompleteList.{over}
use Rattle.irr_rep.specs.Twisted.{phase_table}
use Rattle.irr_mult.proofs.StarListings.{left_row, member}
use Rattle.irr_mult.proofs.tests.member_parts.Goals as goal

pub push_parts-requires : goal.push_parts-requires
push_parts-requires g c =
    let order = g.S.Scalar.order_of in
    let value = g.S.Scalar.value in
    let star = c.args.star.now in
    let M = c.requires.characters.0 in
    let h = c.requires.characters.1 in
    let k = c.args.member in
    let x = c.index-character.result.now in
    let m = member order value h k c.requires.member x c.index-character.ensures in (
      M,
      h,
      record {
        count = h.list.size m;
        few = (let few = h.small m in omega (arith, few));
        part = over (phase_table star.table) M h.divides (h.list.member m);
        row = left_row order value h k c.requires.member x c.index-character.ensures c.as_slice.result.now c.as_slice.ensures.value;
      },
    )
