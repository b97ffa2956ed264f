-- Steps with the scalar 1: what extensions of a family are, and what a kept sum gives.
use Rattle.std.proofs.Common.{◌≡◌, sym, ◌∙◌, ap, ap₂, ℕ}
use Rattle.irr_algebra.specs.Ring.{Ring}
use Rattle.irr_algebra.specs.Field.{Field}
use Rattle.irr_algebra.specs.Fin.{Fin}
use Rattle.irr_algebra.specs.Matrix.{Matrix, ◌·◌, scale, trace}
use Rattle.irr_algebra.proofs.Matrices.{scale-mul, mul-scale, scale-scale, scale-one}
use Rattle.irr_theory.specs.FactorSystem.{FactorSystem, Representation}
use Rattle.irr_theory.specs.Lifted.{lifted}
use Rattle.irr_theory.specs.Extension.{matrix_power}
use Rattle.irr_eigen.specs.Power.{power}
use Rattle.irr_eigen.specs.Step.{at_place, lifted_power, Subtable, IsStep, restricted, top_matrix}
use Rattle.irr_eigen.proofs.LiftedPowers.{matrix_power-lifted}
use Rattle.irr_eigen.proofs.KeptSums.{multiple-power}

-- the matrix at g of a family on T is a step from its restriction to S, with the scalar 1
pub family-step : {R : Ring} {S T : FactorSystem R} (part : Subtable S T) {d : ℕ} (A : Representation T d) (g : Fin T.places) (p : ℕ) (top : Fin S.places)
    → part.place top ≡ (lifted_power (at_place T g) p).place → IsStep part (restricted part A) g p R.one (A.at g)
unfolding lifted restricted
family-step {R} {S} {T} part {d} A g p top in-s = record {
  top = top;
  place-top = in-s;
  carries = λ n m e.
      let x : R.Carrier = T.phase (part.place m) g in
      let y : R.Carrier = T.phase g (part.place n) in
      ap (scale R x) (A.at-product g (part.place n)) ∙ scale-scale R x y (A.at (T.product g (part.place n)))
      ∙ ap₂ (λ (c : R.Carrier) (i : Fin T.places). scale R c (A.at i)) (R.mul_comm x y) (sym e) ∙ sym (scale-scale R y x (A.at (T.product (part.place m) g)))
      ∙ ap (scale R y) (sym (A.at-product (part.place m) g));
  power-multiple =
      ap (λ (u : Matrix R d d). matrix_power u p) (sym (scale-one (A.at g))) ∙ matrix_power-lifted A (at_place T g) p
      ∙ ap (λ i. scale R (lifted_power (at_place T g) p).number (A.at i)) (sym in-s) ∙ sym (scale-one (top_matrix T (restricted part A) g p top));
}

-- from a sum that meets the trace, a multiple of u that is a step with the scalar 1
pub multiple-step : (F : Field) {S T : FactorSystem F.ring} (part : Subtable S T) {d : ℕ} (D : Representation S d) (g : Fin T.places) (p : ℕ) (c s : F.Carrier) (u : Matrix F.ring d d)
    → IsStep part D g p c u → (trace u ≡ F.zero → ⊥) → F.mul (power F.ring s p) c ≡ power F.ring (trace u) p
    → IsStep part D g p F.one (scale F.ring (F.mul s (F.inverse (trace u))) u)
multiple-step F {S} {T} part {d} D g p c s u h t-ne e = record {
  top = h.top;
  place-top = h.place-top;
  carries = λ n m k.
      let y : F.Carrier = F.mul s (F.inverse (trace u)) in
      let swap : (x : F.Carrier) (a : Matrix F.ring d d) → scale F.ring x (scale F.ring y a) ≡ scale F.ring y (scale F.ring x a) = λ x a.
      scale-scale F.ring x y a ∙ ap (λ z. scale F.ring z a) (F.ring.mul_comm x y) ∙ sym (scale-scale F.ring y x a) in
      ap (scale F.ring (T.phase (part.place m) g)) (scale-mul F.ring y u (D.at n)) ∙ swap (T.phase (part.place m) g) (u · D.at n)
      ∙ ap (scale F.ring y) (h.carries n m k) ∙ sym (swap (T.phase g (part.place n)) (D.at m · u))
      ∙ ap (scale F.ring (T.phase g (part.place n))) (sym (mul-scale F.ring y (D.at m) u));
  power-multiple = multiple-power F p c s (top_matrix T D g p h.top) u t-ne h.power-multiple e ∙ sym (scale-one (top_matrix T D g p h.top));
}
