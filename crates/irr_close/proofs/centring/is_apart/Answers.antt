use Rattle.std.proofs.Common.{◌≡◌, sym, ◌∙◌, subst, refl, IsTrue, true, false, ℕ, ◌≤◌, arith}
use Rattle.std.proofs.lemmas.List.{get_or_default}
use Rattle.irr_algebra.specs.Matrix.{◌⊖◌}
use Rattle.irr_rat.specs.Lcm.{IsLcm}
use Rattle.irr_rat.specs.VectorMeaning.{vector}
use Rattle.irr_rat.specs.declared.vec3.Vec3.{Vec3}
use Rattle.irr_close.specs.Whole.{IsWholeVector}
use Rattle.irr_close.proofs.LeastVectors.{apart_by, none_apart}
use Rattle.irr_close.proofs.centring.is_apart.Goals as goal

not_true : IsTrue false → ⊥
not_true h = let e : false ≡ true = h in cc

pub difference-requires-clause-denominator : goal.difference-requires-clause-denominator
difference-requires-clause-denominator c = subst (λ (x : Vec3). (m : ℕ) → IsLcm c.args.a.now.den x.den m → m ≤ 100000) (sym c.centring-item.is)
    (c.requires.common c.loop-centring.centring-index c.centring-item.result c.loop-centring-test.true)

pub returns-then-is_same : goal.returns-then-is_same
returns-then-is_same c = (
  λ _. (
    c.loop-centring.centring-index,
    c.loop-centring-test.true,
    λ f. subst (λ (x : Vec3). IsWholeVector ((vector c.args.a.now ⊖ vector c.args.b.now) ⊖ vector x)) (c.centring-item.is
        ∙ get_or_default c.args.centrings.now c.loop-centring.centring-index c.centring-item.result f c.loop-centring-test.true)
        (apart_by (vector c.args.a.now) c.centring-item.result (vector c.difference.result) (vector c.args.b.now) c.difference.ensures.whole
        (c.is_same.ensures.0 c.if-is_same.true)),
  ),
  λ h. refl,
)

pub loop-centring-preserved : goal.loop-centring-preserved
loop-centring-preserved c = none_apart (vector c.args.a.now) (vector c.args.b.now) c.args.centrings.now c.centring-item.result
    (vector c.difference.result) c.loop-centring.centring-index c.loop-centring.invariant c.loop-centring-test.true c.centring-item.is
    c.difference.ensures.in_cell c.requires.other_in_cell c.difference.ensures.whole
    (λ e. let t : c.is_same.result ≡ true = c.is_same.ensures.1 e in let f : c.is_same.result ≡ false = c.if-is_same.false in absurd (cc))

pub returns : goal.returns
returns c = (
  λ t. absurd (not_true t),
  λ h. let l = c.loop-centring-test.false in
      absurd (c.loop-centring.invariant h.0 (omega (arith, h.1, l)) c.args.a.now (h.2 c.args.a.now)),
)
