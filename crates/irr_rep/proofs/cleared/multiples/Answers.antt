-- Matrix by matrix.
use Rattle.std.proofs.Common.{◌<◌, ◌≡◌, subst, get_or, length, rules}
use Rattle.irr_rep.specs.Family.{matrix_at}
use Rattle.irr_rep.proofs.Clearing.{part-matrix, part-place, part-within}
use Rattle.irr_rep.proofs.MatrixForms.{item-matrix}
use Rattle.irr_rep.proofs.MultiplesSoFar.{multiples-all, multiples-more}
use Rattle.irr_rep.proofs.cleared.multiples.Goals as goal

pub multiple_of_matrix-requires : goal.multiple_of_matrix-requires
multiple_of_matrix-requires g c =
    let f = c.args.f.now in
    let k = c.loop-m.m-index in
    let m = c.m-item.result in
    let b : k < length f.mats.items = search rules in
    let is = subst (λ xs. m ≡ get_or xs k m) c.as_slice-m-items.ensures.value c.m-item.is in
    let r = c.requires in
    let l = r.3 in (
      r.0,
      f.dim,
      r.2,
      matrix_at r.0 f.dim f.mats.items (part-place r.0 r.1 f.dim r.2 f.mats.items l k m b is),
      part-matrix r.0 r.1 f.dim r.2 f.mats.items l k m b is,
      part-within r.0 r.1 f.dim r.2 f.mats.items l k m b is,
      l.limited,
      r.4,
    )

pub loop-m-preserved : goal.loop-m-preserved
loop-m-preserved g c =
    let f = c.args.f.now in
    let k = c.loop-m.m-index in
    let m = c.m-item.result in
    let b : k < length f.mats.items = search rules in
    let is = subst (λ xs. m ≡ get_or xs k m) c.as_slice-m-items.ensures.value c.m-item.is in
    multiples-more f.dim c.args.number f.mats.items k c.loop-m.multiples.items c.push.new.self.items c.in_ok-multiple.multiple c.loop-m.invariant
    c.in_ok-push.ensures.items
    (λ n h s i e. c.in_ok-multiple.ensures n f.dim (matrix_at n f.dim f.mats.items i) (item-matrix n f.dim f.mats.items k m b is s i e))

pub returns : goal.returns
returns g c n h d l =
    let f = c.args.f.now in
    let e : c.loop-m.m-index ≡ length f.mats.items = search rules in
    multiples-all f.dim c.args.number f.mats.items c.loop-m.m-index c.loop-m.multiples.items c.loop-m.invariant e n h l.shape
