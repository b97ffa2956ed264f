-- The columns of a basis.
--   column_vector     three numerators over the denominator are a column
use Rattle.std.proofs.Common.{◌≡◌, sym, refl, ◌∙◌, ap, ℕ, List, ℤ}
use Rattle.irr_algebra.specs.Fin.{Fin}
use Rattle.irr_algebra.specs.Matrix.{column}
use Rattle.irr_rational.specs.Rational.{ratio}
use Rattle.irr_rational.specs.Ratio.{entry}
use Rattle.irr_space.specs.Operation.{component}
use Rattle.irr_rat.specs.VectorMeaning.{vector_of}
use Rattle.irr_rat.proofs.Vectors.{component-vector_of, vector-ext}
use Rattle.irr_seitz.specs.Rotation.{rotation_of}
use Rattle.irr_setting.specs.Setting.{basis_of}

component-column : (num : List (List ℤ)) (den : ℕ) (p i : Fin 3) → component (column (basis_of num den) p) i ≡ ratio ((rotation_of num).at i p) den
unfolding component column basis_of
component-column num den p i = refl

pub column_vector : (num : List (List ℤ)) (den : ℕ) (p : Fin 3) (xs : List ℤ) → ((i : Fin 3) → entry xs i ≡ (rotation_of num).at i p) → vector_of xs den ≡ column (basis_of num den) p
column_vector num den p xs e = vector-ext (vector_of xs den) (column (basis_of num den) p) (λ i. component-vector_of xs den i ∙ ap (λ k. ratio k den) (e i) ∙ sym (component-column num den p i))
