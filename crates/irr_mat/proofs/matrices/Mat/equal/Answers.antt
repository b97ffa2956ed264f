-- Equality entry by entry.
use Rattle.std.proofs.Common.{◌≡◌, sym, subst, refl, ◌+◌, ◌*◌, ◌^◌, Bool, true, false, IsTrue, Some, arith, rules}
use Rattle.std.specs.Prelude.{slice_get}
use Rattle.irr_mat.specs.Entries.{first_order}
use Rattle.irr_mat.proofs.Entries.{agree-push, agree-matrix, entry-equal}
use Rattle.irr_mat.proofs.Sizes.{within-at, sum_denominators, sum_sizes}
use Rattle.irr_mat.proofs.matrices.Mat.equal.Goals as goal

is-true : (b : Bool) → b ≡ true → IsTrue b
is-true b e = search rules

not-true : (b : Bool) → b ≡ false → IsTrue b → ⊥
not-true b e t = search rules

pub equal-requires-clause-denominators : goal.equal-requires-clause-denominators
equal-requires-clause-denominators g c =
    let value = g.S.Scalar.value in
    let a = c.args.self.now in
    let b = c.args.other.now in
    let n = first_order g.S.Scalar.order_of a.entries.items in
    let fit = c.requires.sizes in
    let x = c.at.result.now in
    let y = c.at-in-loop-j.result.now in
    sum_denominators value (g.S.Scalar.order_of x) n (g.met.S.Scalar.admitted_positive (g.S.Scalar.order_of x) (g.met.S.Scalar.order_admitted x)) c.at.ensures.order fit.s fit.d fit.t fit.e x y
    (within-at value n a.rows a.cols fit.s fit.d a.entries.items c.loop-i.i c.loop-j.j x fit.left c.loop-i-test.true c.loop-j-test.true c.at.ensures.place)
    (within-at value n b.rows b.cols fit.t fit.e b.entries.items c.loop-i.i c.loop-j.j y fit.right (omega arith) (omega arith) c.at-in-loop-j.ensures.place)
    (2 ^ 60) fit.denominators

pub equal-requires-clause-sizes : goal.equal-requires-clause-sizes
equal-requires-clause-sizes g c =
    let value = g.S.Scalar.value in
    let a = c.args.self.now in
    let b = c.args.other.now in
    let n = first_order g.S.Scalar.order_of a.entries.items in
    let fit = c.requires.sizes in
    let x = c.at.result.now in
    let y = c.at-in-loop-j.result.now in
    sum_sizes value (g.S.Scalar.order_of x) n (g.met.S.Scalar.admitted_positive (g.S.Scalar.order_of x) (g.met.S.Scalar.order_admitted x)) c.at.ensures.order fit.s fit.d fit.t fit.e x y
    (within-at value n a.rows a.cols fit.s fit.d a.entries.items c.loop-i.i c.loop-j.j x fit.left c.loop-i-test.true c.loop-j-test.true c.at.ensures.place)
    (within-at value n b.rows b.cols fit.t fit.e b.entries.items c.loop-i.i c.loop-j.j y fit.right (omega arith) (omega arith) c.at-in-loop-j.ensures.place)
    (2 ^ 110) fit.sizes

pub loop-j-preserved : goal.loop-j-preserved
loop-j-preserved g c =
    let value = g.S.Scalar.value in
    let a = c.args.self.now in
    let b = c.args.other.now in
    let n = first_order g.S.Scalar.order_of a.entries.items in
    let x = c.at.result.now in
    let y = c.at-in-loop-j.result.now in
    agree-push value n a.cols c.loop-i.i c.loop-j.j a.entries.items b.entries.items x y c.loop-j.invariant c.at.ensures.place
    (subst (λ k. slice_get b.entries.items (c.loop-i.i * k + c.loop-j.j) ≡ Some y) (sym c.if-self-other-2.false) c.at-in-loop-j.ensures.place)
    (subst (λ k. value k x ≡ value k y) c.at.ensures.order (c.equal.ensures.0 (is-true c.equal.result c.if-not-equal.false)))

pub returns-then-not-equal : goal.returns-then-not-equal
returns-then-not-equal g c =
    let value = g.S.Scalar.value in
    let a = c.args.self.now in
    let b = c.args.other.now in
    let n = first_order g.S.Scalar.order_of a.entries.items in
    let x = c.at.result.now in
    let y = c.at-in-loop-j.result.now in (
      λ t. absurd (not-true false refl t),
      λ same. absurd (not-true c.equal.result c.if-not-equal.true (c.equal.ensures.1
          (subst (λ k. value k x ≡ value k y) (sym c.at.ensures.order)
          (entry-equal value n a.rows a.cols c.loop-i.i c.loop-j.j a.entries.items b.entries.items x y same.2 c.loop-i-test.true c.loop-j-test.true c.at.ensures.place
          (subst (λ k. slice_get b.entries.items (c.loop-i.i * k + c.loop-j.j) ≡ Some y) (sym c.if-self-other-2.false) c.at-in-loop-j.ensures.place))))),
    )

pub returns : goal.returns
returns g c =
    let a = c.args.self.now in
    let n = first_order g.S.Scalar.order_of a.entries.items in
    (λ t. (c.if-self-other.false, c.if-self-other-2.false, agree-matrix g.S.Scalar.value n a.rows a.cols c.loop-i.i a.entries.items c.args.other.now.entries.items c.loop-i.invariant c.loop-i-test.false), λ same. refl)
