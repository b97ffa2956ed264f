-- Powers of numbers with places.
use Rattle.std.proofs.Common.{◌≡◌, sym, ◌∙◌, ap, refl, ℕ, zero, suc, ◌+◌, ◌*◌, zero-add as zero-add_ℕ, suc-add, zero-mul as zero-mul_ℕ, suc-mul}
use Rattle.std.proofs.Math.Nat.{add_comm}
use Rattle.irr_algebra.specs.Ring.{Ring}
use Rattle.irr_algebra.specs.Field.{Field}
use Rattle.irr_algebra.specs.Fin.{Fin}
use Rattle.irr_algebra.specs.Matrix.{Matrix, ◌·◌, unit}
use Rattle.irr_algebra.proofs.Rings.{ring_laws, one-mul, zero-mul}
use Rattle.irr_algebra.proofs.Fields.{mul-ne-zero, one-ne-zero}
use Rattle.irr_algebra.proofs.Matrices.{scale-one}
use Rattle.irr_theory.specs.FactorSystem.{FactorSystem, Representation}
use Rattle.irr_theory.specs.Lifted.{Lifted, lifted, lifted_product}
use Rattle.irr_theory.specs.Extension.{matrix_power}
use Rattle.irr_theory.proofs.Lifted.{lifted-multiplies}
use Rattle.irr_eigen.specs.Step.{at_place, lifted_power, Subtable}

pub lifted-ext : {R : Ring} {T : FactorSystem R} {x y : Lifted T} → x.number ≡ y.number → x.place ≡ y.place → x ≡ y
lifted-ext e f = λ k. record { number = e k; place = f k }

phases_regrouped : (R : Ring) (a b c p q s t : R.Carrier) → R.mul p q ≡ R.mul s t
    → R.mul (R.mul (R.mul (R.mul a b) p) c) q ≡ R.mul (R.mul a (R.mul (R.mul b c) s)) t
phases_regrouped R a b c p q s t e =
    let left : R.mul (R.mul (R.mul (R.mul a b) p) c) q ≡ R.mul (R.mul a (R.mul b c)) (R.mul p q) = simp (ring_laws, R) in
    let right : R.mul (R.mul a (R.mul (R.mul b c) s)) t ≡ R.mul (R.mul a (R.mul b c)) (R.mul s t) = simp (ring_laws, R) in
    left ∙ ap (R.mul (R.mul a (R.mul b c))) e ∙ sym right

-- the numbers with places are a group
lifted_product_assoc : {R : Ring} {T : FactorSystem R} (x y z : Lifted T) → lifted_product (lifted_product x y) z ≡ lifted_product x (lifted_product y z)
unfolding lifted_product
lifted_product_assoc {R} {T} x y z = lifted-ext (phases_regrouped R x.number y.number z.number _ _ _ _ (T.phase_assoc x.place y.place z.place)) (T.product_assoc x.place y.place z.place)

start-lifted_product : {R : Ring} {T : FactorSystem R} (x : Lifted T) → lifted_product (at_place T T.start) x ≡ x
unfolding lifted_product
start-lifted_product {R} {T} x = lifted-ext (ap (R.mul (R.mul R.one x.number)) (T.start-phase x.place) ∙ R.mul-one (R.mul R.one x.number) ∙ one-mul R x.number) (T.start-product x.place)

lifted_product-start : {R : Ring} {T : FactorSystem R} (x : Lifted T) → lifted_product x (at_place T T.start) ≡ x
unfolding lifted_product
lifted_product-start {R} {T} x = lifted-ext (ap (R.mul (R.mul x.number R.one)) (T.phase-start x.place) ∙ R.mul-one (R.mul x.number R.one) ∙ R.mul-one x.number) (T.product-start x.place)

pub lifted_power-add : {R : Ring} {T : FactorSystem R} (x : Lifted T) (m n : ℕ) → lifted_power x (m + n) ≡ lifted_product (lifted_power x m) (lifted_power x n)
unfolding lifted_power
lifted_power-add x zero n = ap (lifted_power x) (zero-add_ℕ n) ∙ sym (start-lifted_product (lifted_power x n))
lifted_power-add x (suc m) n = ap (lifted_power x) (suc-add m n) ∙ ap (lifted_product x) (lifted_power-add x m n) ∙ sym (lifted_product_assoc x (lifted_power x m) (lifted_power x n))

lifted_power-one : {R : Ring} {T : FactorSystem R} (x : Lifted T) → lifted_power x 1 ≡ x
unfolding lifted_power
lifted_power-one x = lifted_product-start x

-- a power commutes with what it is a power of
pub lifted_power_comm : {R : Ring} {T : FactorSystem R} (x : Lifted T) (n : ℕ) → lifted_product (lifted_power x n) x ≡ lifted_product x (lifted_power x n)
unfolding lifted_power
lifted_power_comm x n =
    ap (lifted_product (lifted_power x n)) (sym (lifted_power-one x)) ∙ sym (lifted_power-add x n 1) ∙ ap (lifted_power x) (add_comm n 1)
    ∙ lifted_power-add x 1 n ∙ ap (λ y. lifted_product y (lifted_power x n)) (lifted_power-one x)

pub lifted_power-mul : {R : Ring} {T : FactorSystem R} (x : Lifted T) (m n : ℕ) → lifted_power x (m * n) ≡ lifted_power (lifted_power x n) m
unfolding lifted_power
lifted_power-mul x zero n = ap (lifted_power x) (zero-mul_ℕ n)
lifted_power-mul x (suc m) n =
    ap (lifted_power x) (suc-mul m n ∙ add_comm (m * n) n) ∙ lifted_power-add x n (m * n) ∙ ap (lifted_product (lifted_power x n)) (lifted_power-mul x m n)

pub phase-ne-zero : (F : Field) (T : FactorSystem F.ring) (i j : Fin T.places) → T.phase i j ≡ F.zero → ⊥
phase-ne-zero F T i j e = let h = T.phase-invertible i j in
    one-ne-zero F (sym h.mul-inverse ∙ ap (λ x. F.mul x h.inverse) e ∙ zero-mul F.ring h.inverse)

-- the number of a power is not 0 where that of x is not
pub lifted_power-ne-zero : (F : Field) {T : FactorSystem F.ring} (x : Lifted T) → (x.number ≡ F.zero → ⊥) → (n : ℕ) → (lifted_power x n).number ≡ F.zero → ⊥
unfolding lifted_power lifted_product
lifted_power-ne-zero F {T} x h zero = one-ne-zero F
lifted_power-ne-zero F {T} x h (suc n) =
    mul-ne-zero F (F.mul x.number (lifted_power x n).number) (T.phase x.place (lifted_power x n).place) (mul-ne-zero F x.number (lifted_power x n).number h (lifted_power-ne-zero F x h n)) (phase-ne-zero F T x.place (lifted_power x n).place)

pub lifted-start : {R : Ring} {T : FactorSystem R} {d : ℕ} (A : Representation T d) → lifted A (at_place T T.start) ≡ unit R d
unfolding lifted
lifted-start {T = T} A = scale-one (A.at T.start) ∙ A.at-start

-- the power of a matrix of a family
pub matrix_power-lifted : {R : Ring} {T : FactorSystem R} {d : ℕ} (A : Representation T d) (x : Lifted T) (n : ℕ) → matrix_power (lifted A x) n ≡ lifted A (lifted_power x n)
unfolding matrix_power lifted_power
matrix_power-lifted A x zero = sym (lifted-start A)
matrix_power-lifted {R} {T} {d} A x (suc n) = ap (λ (y : Matrix R d d). lifted A x · y) (matrix_power-lifted A x n) ∙ lifted-multiplies A x (lifted_power x n)

-- a number with a place of S, in T
abbrev pub in_table : {R : Ring} {S T : FactorSystem R} → Subtable S T → Lifted S → Lifted T
in_table part x = record { number = x.number; place = part.place x.place }

in_table-product : {R : Ring} {S T : FactorSystem R} (part : Subtable S T) (x y : Lifted S) → in_table part (lifted_product x y) ≡ lifted_product (in_table part x) (in_table part y)
unfolding lifted_product
in_table-product {R} part x y = lifted-ext (ap (R.mul (R.mul x.number y.number)) (part.place-phase x.place y.place)) (part.place-product x.place y.place)

pub in_table-power : {R : Ring} {S T : FactorSystem R} (part : Subtable S T) (x : Lifted S) (n : ℕ) → in_table part (lifted_power x n) ≡ lifted_power (in_table part x) n
unfolding lifted_power
in_table-power part x zero = lifted-ext refl part.place-start
in_table-power part x (suc n) = in_table-product part x (lifted_power x n) ∙ ap (lifted_product (in_table part x)) (in_table-power part x n)
