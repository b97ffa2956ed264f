-- An example: on the table of two places with no phases the step gives a full list of two families.
use Rattle.std.proofs.Common.{◌≡◌, sym, ◌∙◌, ap, refl, inl}
use Rattle.irr_algebra.specs.Ring.{Ring, whole}
use Rattle.irr_algebra.specs.Field.{Field}
use Rattle.irr_algebra.specs.Fin.{Fin, to_nat}
use Rattle.irr_algebra.specs.Fin.Fin.{first, next}
use Rattle.irr_algebra.specs.Matrix.{Matrix, ◌·◌, unit, scale}
use Rattle.irr_algebra.proofs.Rings.{neg-mul, mul-neg, neg-neg}
use Rattle.irr_algebra.proofs.Indices.{only_first}
use Rattle.irr_algebra.proofs.Matrices.{unit-mul, scale-one}
use Rattle.irr_theory.specs.Extension.{matrix_power}
use Rattle.irr_theory.specs.FactorSystem.{FactorSystem}
use Rattle.irr_theory.specs.Representations.{IsFull}
use Rattle.irr_theory.specs.OnePlace.{one_place, one_family, one_list}
use Rattle.irr_theory.proofs.OnePlace.{one_list-full}
use Rattle.irr_clifford.specs.Subgroup.{Subgroup}
use Rattle.irr_clifford.specs.Cyclic.{CyclicQuotient, conjugate, place_power, power_phase, StandsForGenerator}
use Rattle.irr_clifford.specs.Roots.{number_power, RootsOfOne}
use Rattle.irr_clifford.specs.Climb.{ClimbChoice}
use Rattle.irr_clifford.proofs.ClimbList.{equivalent_of_same, climb_list, climb_list_full}

flip : Fin 2 → Fin 2
flip first = next first
flip (next i) = first

add : Fin 2 → Fin 2 → Fin 2
add first j = j
add (next i) j = flip j

flip-flip : (i : Fin 2) → flip (flip i) ≡ i
unfolding flip
flip-flip first = refl
flip-flip (next first) = refl
flip-flip (next (next i)) = elim i [ ]

add_start : (i : Fin 2) → add first i ≡ i
unfolding add
add_start i = refl

add-first : (i : Fin 2) → add i first ≡ i
unfolding add flip
add-first first = refl
add-first (next first) = refl
add-first (next (next i)) = elim i [ ]

add_assoc : (i j k : Fin 2) → add (add i j) k ≡ add i (add j k)
unfolding add flip
add_assoc first j k = refl
add_assoc (next i) first k = refl
add_assoc (next i) (next j) k = sym (flip-flip k)

add_self : (i : Fin 2) → add i i ≡ first
unfolding add flip
add_self first = refl
add_self (next i) = refl

-- the group of two elements
abbrev two_places : (R : Ring) → FactorSystem R
two_places R = record {
  places = 2;
  start = first;
  product = add;
  opposite = λ i. i;
  phase = λ i j. R.one;
  start-product = λ i. add_start i;
  product-start = add-first;
  product_assoc = add_assoc;
  opposite-product = add_self;
  product-opposite = add_self;
  phase-start = λ i. refl;
  start-phase = λ i. refl;
  phase_assoc = λ i j k. refl;
  phase-invertible = λ i j. record { inverse = R.one; mul-inverse = R.mul-one R.one };
}

-- its subgroup of one
abbrev trivial : (R : Ring) → Subgroup (two_places R)
trivial R = record {
  table = one_place R;
  member = λ i. first;
  member-start = refl;
  member-product = λ i j. sym (add_start first);
  member-phase = λ i j. refl;
  injective = λ i j e. sym (only_first i) ∙ only_first j;
}

generator-power : (R : Ring) (i : Fin 2) → add (place_power (two_places R) (next first) (to_nat i)) first ≡ i
unfolding place_power to_nat add flip
generator-power R first = refl
generator-power R (next first) = refl
generator-power R (next (next i)) = elim i [ ]

generator-square : (R : Ring) → place_power (two_places R) (next first) 2 ≡ first
unfolding place_power add flip
generator-square R = refl

-- with two cosets
abbrev two_cosets : (R : Ring) → CyclicQuotient (trivial R)
two_cosets R = record {
  index = 2;
  generator = next first;
  conj = λ n. n;
  member-generator = λ n. add_start (next first) ∙ sym (add-first (next first));
  conj_back = λ n. n;
  generator-member = λ n. add-first (next first) ∙ sym (add_start (next first));
  top = first;
  power-index = generator-square R;
  exponent = λ x. x;
  part = λ x. first;
  splits = generator-power R;
  one_exponent = λ a b m n e. sym (generator-power R a) ∙ e ∙ generator-power R b;
}

sign : (R : Ring) → Fin 2 → R.Carrier
sign R first = R.one
sign R (next i) = R.neg R.one

sign-power : (R : Ring) (i : Fin 2) → number_power R (sign R i) 2 ≡ R.one
unfolding number_power sign
sign-power R first = ap (R.mul R.one) (R.mul-one R.one) ∙ R.mul-one R.one
sign-power R (next i) = ap (R.mul (R.neg R.one)) (R.mul-one (R.neg R.one)) ∙ neg-mul R R.one (R.neg R.one) ∙ ap R.neg (mul-neg R R.one R.one) ∙ neg-neg R (R.mul R.one R.one) ∙ R.mul-one R.one

one-ne-neg : (F : Field) → F.one ≡ F.neg F.one → ⊥
unfolding whole
one-ne-neg F e = F.characteristic_zero 1 (ap (F.add F.one) (F.add-zero F.one ∙ e) ∙ F.add-neg F.one)

sign_inj : (F : Field) (i j : Fin 2) → sign F.ring i ≡ sign F.ring j → i ≡ j
unfolding sign
sign_inj F first first e = refl
sign_inj F first (next j) e = absurd (one-ne-neg F e)
sign_inj F (next i) first e = absurd (one-ne-neg F (sym e))
sign_inj F (next i) (next j) e = ap next (sym (only_first i) ∙ only_first j)

-- 1 and -1
abbrev signs : (F : Field) → RootsOfOne F.ring 2
signs F = record { root = sign F.ring; power = sign-power F.ring; injective = sign_inj F }

conjugate-one : (R : Ring) (n : Fin 1) → conjugate (two_cosets R) (one_family R) n ≡ unit R 1
unfolding conjugate
conjugate-one R n = ap (λ c. scale R c (unit R 1)) (R.mul-one R.one) ∙ scale-one (unit R 1)

unit-stands : (R : Ring) → StandsForGenerator (two_cosets R) (one_family R) (unit R 1)
unfolding matrix_power power_phase
unit-stands R = record {
  intertwines = record { intertwines = λ n. ap (λ (m : Matrix R 1 1). unit R 1 · m) (sym (conjugate-one R n)) };
  power = unit-mul (unit R 1 · unit R 1) ∙ unit-mul (unit R 1) ∙ sym (ap (λ c. scale R c (unit R 1)) (R.mul-one (R.mul R.one R.one) ∙ R.mul-one R.one) ∙ scale-one (unit R 1));
}

module _ (F : Field) where
  open F use {ring as R}

  abbrev choice : ClimbChoice (two_cosets R) (one_list R)
  choice = record {
    turn = λ l. l;
    turns = λ l. equivalent_of_same (conjugate (two_cosets R) (one_family R)) (one_family R).at (conjugate-one R);
    roots = signs F;
    matrix = λ l e. unit R 1;
    stands = λ l e. unit-stands R;
  }

  -- the step gives a full list
  two_places_full : IsFull (climb_list F (two_cosets R) (one_list R) choice)
  two_places_full = climb_list_full F (two_cosets R) (one_list R) choice (inl refl) (one_list-full R)
