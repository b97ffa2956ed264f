-- The first two powers of a number.
--   power_one, power_two     what they are
--   power-small              their size
use Rattle.std.proofs.Common.{◌≡◌, sym, ap, subst, ℕ, ◌⊎◌, inl, inr, arith}
use Rattle.irr_algebra.specs.Ring.{Ring}
use Rattle.irr_number.specs.Number.{Number, numbers}
use Rattle.irr_canonical.specs.RootSum.{IsRootSum}
use Rattle.irr_canonical.proofs.RootSums.{IsRootSum-more, IsRootSum-mul}
use Rattle.irr_clifford.specs.Roots.{number_power}

pub power_one : (R : Ring) (x : R.Carrier) → number_power R x 1 ≡ x
unfolding number_power
power_one R x = R.mul-one x

pub power_two : (R : Ring) (x : R.Carrier) → number_power R x 2 ≡ R.mul x x
unfolding number_power
power_two R x = ap (R.mul x) (R.mul-one x)

pub power-small : (n q : ℕ) (x : Number n) → (q ≡ 1) ⊎ (q ≡ 2) → IsRootSum n 48 1 x → IsRootSum n 2304 1 (number_power (numbers n) x q)
power-small n q x (inl e) h = subst (λ k. IsRootSum n 2304 1 (number_power (numbers n) x k)) (sym e)
    (subst (IsRootSum n 2304 1) (sym (power_one (numbers n) x)) (IsRootSum-more n 2304 (omega arith) h))
power-small n q x (inr e) h = subst (λ k. IsRootSum n 2304 1 (number_power (numbers n) x k)) (sym e)
    (subst (IsRootSum n 2304 1) (sym (power_two (numbers n) x)) (IsRootSum-mul n h h))
