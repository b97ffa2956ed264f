-- How often an eigenvalue occurs, by a character.
--   power_at: the power p of a place x, which is a member, with its number
--   occurrence_sum: m times as often as z^(i p) occurs at that power, where the m-th power there is 1
use Rattle.std.specs.Prelude.{ℕ, ◌-◌, ◌*◌}
use Rattle.irr_algebra.specs.Ring.{Ring}
use Rattle.irr_algebra.specs.Fin.{Fin, to_nat}
use Rattle.irr_algebra.specs.Sum.{sum}
use Rattle.irr_theory.specs.FactorSystem.{FactorSystem}
use Rattle.irr_theory.specs.Lifted.{Lifted}
use Rattle.irr_eigen.specs.Power.{power}
use Rattle.irr_eigen.specs.Step.{at_place, lifted_power}

-- the member at `top` with the number of the power p of x
abbrev pub power_at : {R : Ring} {S : FactorSystem R} (T : FactorSystem R) → Fin T.places → ℕ → Fin S.places → Lifted S
power_at T x p top = record { number = (lifted_power (at_place T x) p).number; place = top }

-- the character at the powers j of v, each times z^(- i p j), added up
unfoldable pub occurrence_sum : {R : Ring} (S : FactorSystem R) → (Fin S.places → R.Carrier) → Lifted S → R.Carrier → ℕ → ℕ → ℕ → R.Carrier
occurrence_sum {R} S character v z p m i = sum R m (λ j.
    R.mul (power R z (to_nat j * ((m - i) * p))) (R.mul (lifted_power v (to_nat j)).number (character (lifted_power v (to_nat j)).place)))
