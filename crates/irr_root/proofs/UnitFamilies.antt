-- The family of one unit matrix of one row on a table of one place.
--   alone                    the places are one
--   unit_family              the family
--   unit_simple              only multiples of one matrix intertwine it with itself
--   unit_fixed               it is equivalent to its conjugate
use Rattle.std.specs.Prelude.{◌≡◌, ◌<◌}
use Rattle.std.proofs.Common.{sym, ◌∙◌, ap, ap₂, refl, arith}
use Rattle.irr_algebra.specs.Ring.{IsInvertible, Ring}
use Rattle.irr_algebra.specs.Fin.{Fin, to_nat}
use Rattle.irr_algebra.specs.Matrix.{◌·◌, Matrix, scale, unit}
use Rattle.irr_algebra.specs.Action.{Equivalent, IsSimple}
use Rattle.irr_algebra.proofs.Indices.{to_nat-lt, to_nat_inj}
use Rattle.irr_algebra.proofs.Matrices.{mul-unit, scale-one, unit-mul}
use Rattle.irr_theory.specs.FactorSystem.{FactorSystem, Representation}
use Rattle.irr_theory.proofs.OnePlace.{one_family-simple}
use Rattle.irr_clifford.specs.Subgroup.{Subgroup}
use Rattle.irr_clifford.specs.Cyclic.{conjugate, CyclicQuotient}

module _ {R : Ring} (P : FactorSystem R) (one : P.places ≡ 1) where
  pub alone : (i j : Fin P.places) → i ≡ j
  alone i j =
      let a : to_nat i < P.places = to_nat-lt i in
      let b : to_nat j < P.places = to_nat-lt j in
      to_nat_inj i j (omega (arith, one, a, b))

  abbrev pub unit_family : Representation P 1
  unit_family = record {
    at = λ i. unit R 1;
    at-start = refl;
    at-product = λ i j. unit-mul (unit R 1) ∙ sym (ap (λ c. scale R c (unit R 1)) (ap (P.phase i) (alone j P.start) ∙ P.phase-start i)
        ∙ scale-one (unit R 1));
  }

  pub unit_simple : IsSimple unit_family.at
  unit_simple =
      let s = one_family-simple R in
      record {
        members = s.members;
        are_intertwiners = λ k. record { intertwines = λ i. unit-mul (s.members k) ∙ sym (mul-unit (s.members k)) };
        independent = s.independent;
        spanning = λ x h. s.spanning x (record { intertwines = λ i. unit-mul x ∙ sym (mul-unit x) });
      }

inverse_of_one : {R : Ring} (x : R.Carrier) (i : IsInvertible R x) → x ≡ R.one → i.inverse ≡ R.one
inverse_of_one {R} x i e =
    sym (R.mul-one i.inverse) ∙ R.mul_comm i.inverse R.one ∙ ap (λ y. R.mul y i.inverse) (sym e) ∙ i.mul-inverse

module _ {R : Ring} {P : FactorSystem R} (H : Subgroup P) (Q : CyclicQuotient H) (one : H.table.places ≡ 1) where
  at_start : (n : Fin H.table.places) → H.member n ≡ P.start
  at_start n = ap H.member (alone H.table one n H.table.start) ∙ H.member-start

  -- the phases of the unit are 1
  unit_conjugate : (n : Fin H.table.places) → conjugate Q (unit_family H.table one) n ≡ unit R 1
  unfolding conjugate
  unit_conjugate n =
      let left : P.phase (H.member n) Q.generator ≡ R.one = ap (λ x. P.phase x Q.generator) (at_start n) ∙ P.start-phase Q.generator in
      let right : P.phase Q.generator (H.member (Q.conj n)) ≡ R.one = ap (P.phase Q.generator) (at_start (Q.conj n)) ∙ P.phase-start Q.generator in
      let inverse = inverse_of_one (P.phase Q.generator (H.member (Q.conj n))) (P.phase-invertible Q.generator (H.member (Q.conj n))) right in
      ap (λ c. scale R c (unit R 1)) (ap₂ R.mul left inverse ∙ R.mul-one R.one) ∙ scale-one (unit R 1)

  pub unit_fixed : Equivalent (conjugate Q (unit_family H.table one)) (unit_family H.table one).at
  unit_fixed = record {
    forward = unit R 1;
    backward = unit R 1;
    is_intertwiner = record { intertwines = λ i. ap (λ (m : Matrix R 1 1). unit R 1 · m) (sym (unit_conjugate i)) };
    forward-backward = unit-mul (unit R 1);
    backward-forward = unit-mul (unit R 1);
  }
