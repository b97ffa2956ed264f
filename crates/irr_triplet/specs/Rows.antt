-- One row of an operation.
--   IsRow g i x y z a b     row i of the rotation is x, y and z, and the component of the vector there is a over b
use Rattle.std.specs.Prelude.{ℕ, ℤ, ◌≡◌}
use Rattle.irr_algebra.specs.Fin.{Fin}
use Rattle.irr_algebra.specs.Fin.Fin.{first, next}
use Rattle.irr_rational.specs.Rational.{ratio}
use Rattle.irr_space.specs.Operation.{Operation, component}

pub record IsRow (g : Operation) (i : Fin 3) (x y z a : ℤ) (b : ℕ) : Type 0 where
  pub at_x : g.rotation.at i first ≡ x
  pub at_y : g.rotation.at i (next first) ≡ y
  pub at_z : g.rotation.at i (next (next first)) ≡ z
  pub shift : component g.vector i ≡ ratio a b
