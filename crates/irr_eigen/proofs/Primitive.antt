-- Powers of primitive roots of 1.
use Rattle.std.proofs.Common.{◌≡◌, sym, ◌∙◌, ap, refl, subst, ℕ, zero, suc, ◌<◌, ◌≤◌, ◌+◌, ◌*◌, ◌-◌, zero-mul as zero-mul_ℕ, arith}
use Rattle.std.proofs.Math.Nat.{mul-lt-mul_of_pos_right}
use native.Mathlib.Decide.{dec_le}
use Rattle.irr_algebra.specs.Ring.{Ring}
use Rattle.irr_algebra.specs.Field.{Field}
use Rattle.irr_algebra.specs.Fin.{Fin, to_nat}
use Rattle.irr_algebra.specs.Fin.Fin.{first, next}
use Rattle.irr_algebra.proofs.Rings.{zero-mul}
use Rattle.irr_algebra.proofs.Fields.{mul_cancel, one-ne-zero}
use Rattle.irr_eigen.specs.Power.{power, IsPrimitiveRoot}
use Rattle.irr_eigen.proofs.Powers.{power-suc, power-add, power-mul, power-ne-zero}
use Rattle.irr_eigen.proofs.RootsOfOne.{to_nat-lt}

pub power-zero_pos : (R : Ring) (n : ℕ) → 0 < n → power R R.zero n ≡ R.zero
power-zero_pos R zero l = absurd (omega arith)
power-zero_pos R (suc n) l = power-suc R R.zero n ∙ zero-mul R (power R R.zero n)

-- the m-th power of a primitive root of order n * m has order n
pub primitive-power : {R : Ring} (n m : ℕ) (z : R.Carrier) → 0 < m → IsPrimitiveRoot R (n * m) z → IsPrimitiveRoot R n (power R z m)
primitive-power {R} n m z l h = record {
  power-one = sym (power-mul R z n m) ∙ h.power-one;
  lower = λ j pos below o. h.lower (j * m) (subst (λ k. k < j * m) (zero-mul_ℕ m) (mul-lt-mul_of_pos_right pos l)) (mul-lt-mul_of_pos_right below l) (power-mul R z j m ∙ o);
}

pub primitive-ne-zero : (F : Field) (n : ℕ) (z : F.Carrier) → 0 < n → IsPrimitiveRoot F.ring n z → z ≡ F.zero → ⊥
primitive-ne-zero F n z l h e = one-ne-zero F (sym h.power-one ∙ ap (λ x. power F.ring x n) e ∙ power-zero_pos F.ring n l)

-- its powers below the order are different
primitive-different : (F : Field) (n : ℕ) (z : F.Carrier) → IsPrimitiveRoot F.ring n z → (i k : ℕ) → i + suc k < n → power F.ring z i ≡ power F.ring z (i + suc k) → ⊥
primitive-different F n z h i k l e =
    let z-ne : z ≡ F.zero → ⊥ = primitive-ne-zero F n z (omega arith) h in
    h.lower (suc k) (omega arith) (omega arith)
    (sym (mul_cancel F (power F.ring z i) F.one (power F.ring z (suc k)) (power-ne-zero F z z-ne i) (F.ring.mul-one (power F.ring z i) ∙ e ∙ power-add F.ring z i (suc k))))

pub to_nat_inj : {n : ℕ} (i j : Fin n) → to_nat i ≡ to_nat j → i ≡ j
unfolding to_nat
to_nat_inj first first e = refl
to_nat_inj first (next j) e = absurd (omega arith)
to_nat_inj (next i) first e = absurd (omega arith)
to_nat_inj (next i) (next j) e = ap next (to_nat_inj i j (omega arith))

pub primitive_inj : (F : Field) (n : ℕ) (z : F.Carrier) → IsPrimitiveRoot F.ring n z → (i j : Fin n) → power F.ring z (to_nat i) ≡ power F.ring z (to_nat j) → i ≡ j
primitive_inj F n z h i j e = to_nat_inj i j (cases (dec_le (suc (to_nat i)) (to_nat j)) (dec_le (suc (to_nat j)) (to_nat i)))
  where
    less : (a b : ℕ) → suc a ≤ b → b < n → power F.ring z a ≡ power F.ring z b → ⊥
    less a b l m o = let gap : b ≡ a + suc (b - suc a) = omega arith in primitive-different F n z h a (b - suc a) (omega (arith, gap)) (o ∙ ap (power F.ring z) gap)

    cases : Dec (suc (to_nat i) ≤ to_nat j) → Dec (suc (to_nat j) ≤ to_nat i) → to_nat i ≡ to_nat j
    cases (yes l) d = absurd (less (to_nat i) (to_nat j) l (to_nat-lt j) e)
    cases (no l) (yes m) = absurd (less (to_nat j) (to_nat i) m (to_nat-lt i) (sym e))
    cases (no l) (no m) = omega arith
