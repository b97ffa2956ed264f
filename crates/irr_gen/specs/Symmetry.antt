-- Operations that permute the axes, with or without signs, and translate by quarters; products modulo the whole translations.
--   row a                          the row of a rotation that an axis with its sign stands for
--   symmetry x y z v               the operation with these three rows, and v in quarters
--   IsReducedProduct g h f         f is the product g h (first h), with its vector in the unit cell
use Rattle.std.specs.Prelude.{ℤ, pos, negsuc, List, [], ◌∷◌, ◌≡◌}
use Rattle.irr_algebra.specs.Matrix.{◌⊖◌}
use Rattle.irr_space.specs.Operation.{Operation, ◌⊙◌}
use Rattle.irr_space.specs.CanonicalOperation.{IsInCell}
use Rattle.irr_rat.specs.VectorMeaning.{vector_of}
use Rattle.irr_seitz.specs.Rotation.{rotation_of}
use Rattle.irr_close.specs.Whole.{IsWholeVector}
use Rattle.irr_gen.specs.declared.symmetry.Axis.{Axis}
use Rattle.irr_gen.specs.declared.symmetry.Axis.TheVariants.{X, Y, Z, MinusX, MinusY, MinusZ}

abbrev pub row : Axis → List ℤ
row X = pos 1 ∷ pos 0 ∷ pos 0 ∷ []
row Y = pos 0 ∷ pos 1 ∷ pos 0 ∷ []
row Z = pos 0 ∷ pos 0 ∷ pos 1 ∷ []
row MinusX = negsuc 0 ∷ pos 0 ∷ pos 0 ∷ []
row MinusY = pos 0 ∷ negsuc 0 ∷ pos 0 ∷ []
row MinusZ = pos 0 ∷ pos 0 ∷ negsuc 0 ∷ []

abbrev pub symmetry : Axis → Axis → Axis → List ℤ → Operation
symmetry x y z quarters = record { rotation = rotation_of (row x ∷ row y ∷ row z ∷ []); vector = vector_of quarters 4 }

pub record IsReducedProduct (g h f : Operation) : Type 0 where
  pub rotation : f.rotation ≡ (g ⊙ h).rotation
  pub in_cell : IsInCell f.vector
  pub whole : IsWholeVector ((g ⊙ h).vector ⊖ f.vector)
