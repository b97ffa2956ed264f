-- Operations without their vectors.
--   AreBare ops bare n     the first n operations with the vector 0
use Rattle.std.specs.Prelude.{ℕ, ◌≡◌, ◌<◌, List, length}
use Rattle.std.specs.List.{All, HoldsAt}
use Rattle.irr_seitz.specs.OperationMeaning.{operation, AreWithin}
use Rattle.irr_seitz.specs.declared.op.Op.{Op}

pub record IsBare (g : Op) : Type 0 where
  pub numerators : AreWithin 0 g.num
  pub denominator : g.den ≡ 1

pub record AreBare (ops bare : List Op) (n : ℕ) : Type 0 where
  pub long : length bare ≡ n
  pub bare_all : All IsBare bare
  pub same : (j : ℕ) → j < n → HoldsAt (λ g. HoldsAt (λ h. (operation h).rotation ≡ (operation g).rotation) bare j) ops j
