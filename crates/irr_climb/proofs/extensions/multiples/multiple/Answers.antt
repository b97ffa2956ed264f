-- A copy where the power is 1, and else a multiple.
use Rattle.std.proofs.Common.{◌∙◌, sym, ap, subst, Result, Ok, Err, IfOk}
use Rattle.irr_algebra.specs.Matrix.{scale}
use Rattle.irr_algebra.proofs.Matrices.{scale-one}
use Rattle.irr_number.specs.Number.{numbers, root_power}
use Rattle.irr_number.proofs.RootPowers.{root_power-zero}
use Rattle.irr_canonical.specs.RootSum.{IsRootSum}
use Rattle.irr_canonical.proofs.RootSums.{IsRootSum-root}
use Rattle.irr_rep.specs.Defects.{IsMatrix}
use Rattle.irr_rep.proofs.MatrixForms.{multiple_fits, scaled}
use Rattle.irr_climb.proofs.extensions.multiples.multiple.Goals as goal

if_ok_all : {A E : Type 0} (r : Result A E) (P Q R V W : A → Type 0) → ((x : A) → P x → Q x → R x → V x → W x) → IfOk r P → IfOk r Q → IfOk r R
    → IfOk r V → IfOk r W
if_ok_all (Ok x) P Q R V W f p q s v = f x p q s v
if_ok_all (Err e) P Q R V W f p q s v = p

pub times-requires-clause-orders : goal.times-requires-clause-orders
times-requires-clause-orders g c = c.in_ok-root.ensures.order ∙ sym c.requires.multiple.2.order

pub times-requires-clause-sizes : goal.times-requires-clause-sizes
times-requires-clause-sizes g c =
    let M = c.args.order.now.n in
    let r = c.requires.multiple in
    multiple_fits M r.0 r.1 c.args.m.now r.2 c.in_ok-root.root (r.3 (g.S.Scalar.value M c.in_ok-root.root)
    (subst (IsRootSum M 1 1) (sym c.in_ok-root.ensures.value) (IsRootSum-root M c.args.e)))

pub returns-then-e-eq0 : goal.returns-then-e-eq0
returns-then-e-eq0 g c d a is =
    let M = c.args.order.now.n in
    subst (λ b. IfOk c.copied.result (IsMatrix M d b))
    (sym (ap (λ k. scale (numbers M) (root_power M k) a) c.if-e-eq0.true ∙ ap (λ u. scale (numbers M) u a) (root_power-zero M) ∙ scale-one a))
    (c.copied.ensures M d a is)

pub returns : goal.returns
returns g c d a is =
    let M = c.args.order.now.n in
    if_ok_all c.times.result _ _ _ _ _ (λ z r k o v.
    scaled M d a c.args.m.now is c.in_ok-root.root (root_power M c.args.e) c.in_ok-root.ensures.value z r k o v)
    c.times.ensures.rows c.times.ensures.cols c.times.ensures.order c.times.ensures.value
