-- What the character of a simple family says of the traces of its extensions, for a subgroup of index p = 2 or 3.
--   IsProductSum H p f position x y c    c is the sum of the character f that is t(x) t(y)^(p-1) up to whole numbers, for the traces t of
--                                        each extension: the sum of two places for p = 2, and that of three for p = 3
--   MeetsProduct R h d q r s c           r s^q is that product for a subgroup of h members and matrices of d rows: h^q r s^q = d^q c
use Rattle.std.specs.Prelude.{ℕ, ◌≡◌}
use Rattle.irr_algebra.specs.Ring.{Ring}
use Rattle.irr_algebra.specs.Fin.{Fin}
use Rattle.irr_theory.specs.FactorSystem.{FactorSystem}
use Rattle.irr_clifford.specs.Subgroup.{Subgroup}
use Rattle.irr_clifford.specs.Roots.{number_power}
use Rattle.irr_extension.specs.Product.{three_sum, two_sum}

-- for p = 2 or 3
pub record IsProductSum {R : Ring} {T : FactorSystem R} (H : Subgroup T) (p : ℕ) (character : Fin H.table.places → R.Carrier)
    (position : Fin T.places → Fin H.table.places) (x y : Fin T.places) (c : R.Carrier) : Type 0 where
  pub two : p ≡ 2 → c ≡ two_sum H character position x y
  pub three : p ≡ 3 → c ≡ three_sum H character position x y

-- h^q r s^q = d^q c
abbrev pub MeetsProduct : (R : Ring) (h d : R.Carrier) (q : ℕ) (r s c : R.Carrier) → Type 0
MeetsProduct R h d q r s c = R.mul (number_power R h q) (R.mul r (number_power R s q)) ≡ R.mul (number_power R d q) c
