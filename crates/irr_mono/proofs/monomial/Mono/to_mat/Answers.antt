-- One more entry, and all of them.
use Rattle.std.proofs.Common.{◌≡◌, sym, ◌∙◌, ap, subst, ◌<◌, length, rules}
use Rattle.irr_mat.specs.Entries.{first_order, IsEntry, matrix_of}
use Rattle.irr_mat.proofs.Entries.{filled-done, filled-matrix, filled-orders, filled-push}
use Rattle.irr_mono.specs.Monomial.{monomial}
use Rattle.irr_mono.proofs.monomial.Mono.to_mat.Goals as goal

pub loop-j-preserved : goal.loop-j-preserved
loop-j-preserved g c =
    let n = c.args.order.now.n in
    let d = c.len-size.result in
    let p = c.args.self.now.place.items in
    let e = c.args.self.now.exp.items in
    let size : d ≡ length p = (let l = c.len-size.ensures in search rules) in
    let x = g.S.Scalar.value n c.in_ok-entry.entry in
    filled-push g.S.Scalar.order_of g.S.Scalar.value n d d (monomial n d p e) c.loop-i.i c.loop-j.j c.loop-j.entries.items c.push.new.self.items c.in_ok-entry.entry
    c.loop-j.invariant c.in_ok-push.ensures.items c.loop-j-test.true c.in_ok-entry.ensures.order
    (subst (λ k. IsEntry (monomial n k p e) c.loop-i.i c.loop-j.j x) (sym size) c.in_ok-entry.ensures.entry)

pub from_entries-requires-clause-one_order : goal.from_entries-requires-clause-one_order
from_entries-requires-clause-one_order g c =
    let n = c.args.order.now.n in
    let d = c.len-size.result in
    let a = monomial n d c.args.self.now.place.items c.args.self.now.exp.items in
    let size : d ≡ length c.args.self.now.place.items = (let l = c.len-size.ensures in search rules) in
    let some : 0 < d = subst (λ k. 0 < k) (sym size) c.requires.rules.some in
    (filled-orders g.S.Scalar.order_of g.S.Scalar.value n d d a c.loop-i.entries.items
    (filled-done g.S.Scalar.order_of g.S.Scalar.value n d d a c.loop-i.i c.loop-i.entries.items c.loop-i.invariant c.loop-i-test.false c.loop-i.auto.i-end) some some).1

pub returns-clause-order : goal.returns-clause-order
returns-clause-order g c =
    let n = c.args.order.now.n in
    let d = c.len-size.result in
    let a = monomial n d c.args.self.now.place.items c.args.self.now.exp.items in
    let size : d ≡ length c.args.self.now.place.items = (let l = c.len-size.ensures in search rules) in
    let some : 0 < d = subst (λ k. 0 < k) (sym size) c.requires.rules.some in
    ap (first_order g.S.Scalar.order_of) c.from_entries.ensures.entries
    ∙ (filled-orders g.S.Scalar.order_of g.S.Scalar.value n d d a c.loop-i.entries.items
    (filled-done g.S.Scalar.order_of g.S.Scalar.value n d d a c.loop-i.i c.loop-i.entries.items c.loop-i.invariant c.loop-i-test.false c.loop-i.auto.i-end) some some).0

pub returns-clause-value : goal.returns-clause-value
returns-clause-value g c =
    let n = c.args.order.now.n in
    let d = c.len-size.result in
    let p = c.args.self.now.place.items in
    let e = c.args.self.now.exp.items in
    let size : d ≡ length p = (let l = c.len-size.ensures in search rules) in
    subst (λ k. matrix_of g.S.Scalar.value n k k c.from_entries.result.entries.items ≡ monomial n k p e) size
    (ap (matrix_of g.S.Scalar.value n d d) c.from_entries.ensures.entries
    ∙ filled-matrix g.S.Scalar.order_of g.S.Scalar.value n d d (monomial n d p e) c.loop-i.entries.items
    (filled-done g.S.Scalar.order_of g.S.Scalar.value n d d (monomial n d p e) c.loop-i.i c.loop-i.entries.items c.loop-i.invariant c.loop-i-test.false c.loop-i.auto.i-end))
