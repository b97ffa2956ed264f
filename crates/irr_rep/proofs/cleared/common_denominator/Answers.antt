-- Matrix by matrix.
use Rattle.std.proofs.Common.{◌<◌, ◌≡◌, subst, get_or, length, rules}
use native.Mathlib.Nat as Nat
use Rattle.irr_rep.specs.Family.{matrix_at}
use Rattle.irr_rep.proofs.Clearing.{part-matrix, part-place, part-within}
use Rattle.irr_rep.proofs.cleared.common_denominator.Goals as goal

pub loop-m-init : goal.loop-m-init
loop-m-init g c n h d l = Nat.one-dvd d

pub clearing_matrix-requires : goal.clearing_matrix-requires
clearing_matrix-requires g c =
    let f = c.args.f.now in
    let k = c.loop-m.m-index in
    let m = c.m-item.result in
    let b : k < length f.mats.items = search rules in
    let is = subst (λ xs. m ≡ get_or xs k m) c.as_slice-m-items.ensures.value c.m-item.is in
    let r = c.requires in
    let l = r.3 in (
      r.0,
      f.dim,
      r.2,
      matrix_at r.0 f.dim f.mats.items (part-place r.0 r.1 f.dim r.2 f.mats.items l k m b is),
      part-matrix r.0 r.1 f.dim r.2 f.mats.items l k m b is,
      part-within r.0 r.1 f.dim r.2 f.mats.items l k m b is,
      l.limited,
      c.loop-m.invariant r.0 r.1 r.2 l,
    )

pub loop-m-preserved : goal.loop-m-preserved
loop-m-preserved g c n h d l =
    let f = c.args.f.now in
    let k = c.loop-m.m-index in
    let m = c.m-item.result in
    let b : k < length f.mats.items = search rules in
    let is = subst (λ xs. m ≡ get_or xs k m) c.as_slice-m-items.ensures.value c.m-item.is in
    c.in_ok-common.ensures n f.dim d (matrix_at n f.dim f.mats.items (part-place n h f.dim d f.mats.items l k m b is))
    (part-matrix n h f.dim d f.mats.items l k m b is) (part-within n h f.dim d f.mats.items l k m b is) (c.loop-m.invariant n h d l)
