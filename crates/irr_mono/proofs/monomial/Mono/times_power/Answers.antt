-- All columns: the multiple.
use Rattle.std.proofs.Common.{◌≡◌, subst, length, rules, arith}
use Rattle.irr_mono.proofs.Multiples.{AreMultiple, monomial-times}
use Rattle.irr_mono.proofs.monomial.Mono.times_power.Goals as goal

pub returns-clause-value : goal.returns-clause-value
returns-clause-value c =
    let N = c.args.order.now.n in
    let p = c.args.self.now.place.items in
    let x = c.args.self.now.exp.items in
    let columns : c.len-column-end.result ≡ length p = (let l = c.len-column-end.ensures in search rules) in
    let all : c.loop-column.column ≡ length p = omega (arith, columns, c.loop-column-test.false, c.loop-column.auto.column-end) in
    monomial-times N c.args.e p x (length p) c.loop-column.place.items c.loop-column.exp.items
    (subst (λ k. AreMultiple N c.args.e p x k c.loop-column.place.items c.loop-column.exp.items) all c.loop-column.invariant)
