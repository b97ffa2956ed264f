-- One more trace, and all of them.
use Rattle.std.proofs.Common.{rules, ◌≡◌, ◌<◌, ◌∙◌, get_or, length, subst}
use Rattle.irr_algebra.proofs.Indices.{from_nat, to_nat-from_nat}
use Rattle.irr_rep.proofs.Families.{item-order, item-trace, item-trace_fits}
use Rattle.irr_char.proofs.Traces.{traces-more, traces-all}
use Rattle.irr_char.proofs.characters.character.Goals as goal

pub trace-requires-clause-sizes : goal.trace-requires-clause-sizes
trace-requires-clause-sizes g c =
    let f = c.args.f.now in
    let k = c.loop-m.m-index in
    let l : k < length f.mats.items = search rules in
    let is = subst (λ xs. c.m-item.result ≡ get_or xs k c.m-item.result) c.as_slice-m-items.ensures.value c.m-item.is in
    let p = from_nat (length f.mats.items) k l in
    item-trace_fits c.requires.shape.0 f.dim f.mats.items k c.m-item.result l is c.requires.shape.1 p (to_nat-from_nat (length f.mats.items) k l)
    (c.requires.sizes c.requires.shape.0 (length f.mats.items) c.requires.shape.1 p)

pub loop-m-preserved : goal.loop-m-preserved
loop-m-preserved g c =
    let f = c.args.f.now in
    let k = c.loop-m.m-index in
    let l : k < length f.mats.items = search rules in
    let is = subst (λ xs. c.m-item.result ≡ get_or xs k c.m-item.result) c.as_slice-m-items.ensures.value c.m-item.is in
    traces-more f.dim f.mats.items k c.loop-m.traces.items c.push.new.self.items c.in_ok-trace.trace c.loop-m.invariant c.in_ok-push.ensures.items
    (λ n h s. c.in_ok-trace.ensures.order ∙ item-order n f.dim f.mats.items k c.m-item.result l is s)
    (λ n h s i e. item-trace n f.dim f.mats.items k c.m-item.result l is s c.in_ok-trace.trace i e c.in_ok-trace.ensures.value)

pub returns : goal.returns
returns g c n h s =
    let f = c.args.f.now in
    let e : c.loop-m.m-index ≡ length f.mats.items = search rules in
    traces-all f.dim f.mats.items c.loop-m.m-index c.loop-m.traces.items c.loop-m.invariant e n h s
