-- Lifted families multiply, and have the same intertwiners.
use Rattle.std.proofs.Common.{◌≡◌, sym, ◌∙◌, ap, ℕ}
use Rattle.irr_algebra.specs.Ring.{Ring}
use Rattle.irr_algebra.specs.Matrix.{Matrix, ◌·◌, scale}
use Rattle.irr_algebra.specs.Action.{IsIntertwiner}
use Rattle.irr_algebra.proofs.Matrices.{scale-mul, mul-scale, scale-scale, scale-one}
use Rattle.irr_theory.specs.FactorSystem.{FactorSystem, Representation}
use Rattle.irr_theory.specs.Lifted.{Lifted, lifted_product, lifted}

pub lifted-multiplies : {R : Ring} {T : FactorSystem R} {d : ℕ} (A : Representation T d) (x y : Lifted T) → lifted A x · lifted A y ≡ lifted A (lifted_product x y)
unfolding lifted lifted_product
lifted-multiplies {R} {T} A x y =
    scale-mul R x.number (A.at x.place) (scale R y.number (A.at y.place)) ∙ ap (scale R x.number) (mul-scale R y.number (A.at x.place) (A.at y.place)
    ∙ ap (scale R y.number) (A.at-product x.place y.place))
    ∙ simp (scale-scale, R.mul_assoc)

-- the intertwiners are the same
pub lifted-intertwiner : {R : Ring} {T : FactorSystem R} {a b : ℕ} (A : Representation T a) (B : Representation T b) (x : Matrix R b a) → IsIntertwiner A.at B.at x → IsIntertwiner (lifted A) (lifted B) x
unfolding lifted
lifted-intertwiner {R} A B x h = record { intertwines = λ l. simp (scale-mul, mul-scale) (ap (scale R l.number) (h.intertwines l.place)) }

pub intertwiner_of_lifted : {R : Ring} {T : FactorSystem R} {a b : ℕ} (A : Representation T a) (B : Representation T b) (x : Matrix R b a) → IsIntertwiner (lifted A) (lifted B) x → IsIntertwiner A.at B.at x
unfolding lifted
intertwiner_of_lifted {R} {T} {a} {b} A B x h = record {
  intertwines = λ i.
      ap (λ (z : Matrix R b b). z · x) (sym (scale-one (B.at i))) ∙ h.intertwines (record { number = R.one; place = i }) ∙ ap (λ (z : Matrix R a a). x · z) (scale-one (A.at i));
}
