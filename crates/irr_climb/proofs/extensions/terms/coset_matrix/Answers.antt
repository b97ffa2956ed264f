-- The multiple of the sum of the terms.
use Rattle.std.proofs.Common.{◌≡◌, sym, ◌∙◌, ap, subst, refl, Result, Ok, Err, IfOk, arith}
use Rattle.irr_algebra.specs.Ring.{whole}
use Rattle.irr_algebra.specs.Matrix.{total}
use Rattle.irr_algebra.proofs.Indices.{from_nat, to_nat-from_nat}
use Rattle.irr_number.specs.Number.{numbers}
use Rattle.irr_rep.specs.Defects.{IsMatrix}
use Rattle.irr_rep.specs.Twisted.{place_count}
use Rattle.irr_rep.proofs.MatrixForms.{multiple_fits, scaled}
use Rattle.irr_climb.specs.Extensions.{trace_term}
use Rattle.irr_climb.proofs.ExtensionFits.{few_rows, ratio_fits}
use Rattle.irr_climb.proofs.ExtensionTerms.{matrix_is}
use Rattle.irr_climb.proofs.extensions.terms.coset_matrix.Goals as goal

if_ok_all : {A E : Type 0} (r : Result A E) (P Q R V W : A → Type 0) → ((x : A) → P x → Q x → R x → V x → W x) → IfOk r P → IfOk r Q → IfOk r R
    → IfOk r V → IfOk r W
if_ok_all (Ok x) P Q R V W f p q s v = f x p q s v
if_ok_all (Err e) P Q R V W f p q s v = p

pub ratio-requires-clause-few : goal.ratio-requires-clause-few
ratio-requires-clause-few g c =
    let e = c.requires.extension in
    let l = few_rows e c.args.order.now.limited in
    let q = e.fixed.read.size in
    omega (arith, l, q)

pub scale-requires-clause-orders : goal.scale-requires-clause-orders
scale-requires-clause-orders g c =
    let e = c.requires.extension in
    let o = place_count c.args.step.now.outer in
    c.in_ok-ratio.ensures.order ∙ sym (c.in_ok-sum.ensures e (from_nat o c.args.x c.requires.place)
    (to_nat-from_nat o c.args.x c.requires.place)).order

pub scale-requires-clause-sizes : goal.scale-requires-clause-sizes
scale-requires-clause-sizes g c =
    let value = g.S.Scalar.value in
    let M = c.args.order.now.n in
    let e = c.requires.extension in
    let h = place_count c.args.step.now.inner in
    let o = place_count c.args.step.now.outer in
    let p = from_nat o c.args.x c.requires.place in
    let y = value M c.in_ok-ratio.ratio in
    let r = subst (λ k. (numbers M).mul (whole (numbers M) k) y ≡ whole (numbers M) e.d) c.len.ensures.count
    (c.in_ok-ratio.ensures.value ∙ ap (whole (numbers M)) e.fixed.read.size) in
    multiple_fits M e.d (total h (trace_term e.is e.D e.E p)) c.in_ok-sum.sum
    (c.in_ok-sum.ensures e p (to_nat-from_nat o c.args.x c.requires.place)) c.in_ok-ratio.ratio (ratio_fits e c.args.order.now.limited p y r)

pub returns : goal.returns
returns g c e p a =
    let value = g.S.Scalar.value in
    let M = c.args.order.now.n in
    let h = place_count c.args.step.now.inner in
    let y = value M c.in_ok-ratio.ratio in
    let r = subst (λ k. (numbers M).mul (whole (numbers M) k) y ≡ whole (numbers M) e.d) c.len.ensures.count
    (c.in_ok-ratio.ensures.value ∙ ap (whole (numbers M)) e.fixed.read.size) in
    if_ok_all c.scale.result _ _ _ _ _ (λ z s k o v.
    subst (λ u. IsMatrix M e.d u z) (matrix_is e.is e.D e.E e.fixed e.at-member p y r)
    (scaled M e.d (total h (trace_term e.is e.D e.E p)) c.in_ok-sum.sum (c.in_ok-sum.ensures e p a) c.in_ok-ratio.ratio y refl z s k o v))
    c.scale.ensures.rows c.scale.ensures.cols c.scale.ensures.order c.scale.ensures.value
