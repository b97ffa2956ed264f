-- Changes of basis and origin (International Tables A, section 1.5): the new basis is (a',b',c') = (a,b,c)P, and x = P x' + p.
--   basis_of num den     three rows of whole numbers over one denominator, as a matrix
--   basis s, origin s    P and p
--   IsSingular s         the determinant of P is 0
--   IsSmallSetting s     the numbers of P and p are within the limits of an input
--   IsSmall g            entries at most 9, numerators at most 10^10 over a denominator of at most 100,000
--   HasSmallVector v     the components have a common denominator of at most 100,000
--   AreQuotients num rot F   F is P R P^-1, with entries of at most 9
--   image_number s g rot i    a numerator of its vector
--   image_vector s g F   the vector P v + p - F p
--   MayBeImage s g f     f is the image of g, with entries of at most 9 and such a vector
use Rattle.std.specs.Prelude.{ℕ, ℤ, List, ◌≡◌, ◌<◌, ◌≤◌, ◌^◌, ◌*◌, ◌+ℤ◌, ◌-ℤ◌, ◌*ℤ◌, pos, [], slice_index_or, unsigned_abs}
use Rattle.irr_algebra.specs.Fin.{Fin}
use Rattle.irr_algebra.specs.Matrix.{Matrix, ◌·◌, ◌⊕◌, ◌⊖◌}
use Rattle.irr_algebra.specs.Ring.{whole}
use Rattle.irr_number.specs.Integers.{integers}
use Rattle.irr_rational.specs.Integer.{whole_matrix}
use Rattle.irr_rational.specs.Rational.{rationals, ratio, IsWhole}
use Rattle.irr_space.specs.Operation.{Operation, Rotation, Vector, component}
use Rattle.irr_rat.specs.VectorMeaning.{vector}
use Rattle.irr_seitz.specs.Rotation.{rotation_of, IsWithin}
use Rattle.irr_seitz.specs.OperationMeaning.{operation, AreWithin}
use Rattle.irr_seitz.specs.declared.op.Op.{Op}
use Rattle.irr_full.specs.Restriction.{IsImage}
use Rattle.irr_setting.specs.Determinant.{determinant_in, adjugate, row_dot}
use Rattle.irr_setting.specs.declared.setting.Setting.{Setting}

unfoldable pub basis_of : List (List ℤ) → ℕ → Matrix rationals 3 3
basis_of num den = record { at = λ i j. ratio ((rotation_of num).at i j) den }

abbrev pub basis : Setting → Matrix rationals 3 3
basis s = basis_of s.num s.den

abbrev pub origin : Setting → Vector
origin s = vector s.shift

abbrev pub IsSingular : Setting → Type 0
IsSingular s = determinant_in rationals (basis s) ≡ rationals.zero

-- numbers of at most 100 over denominators of at most 100, where the least common one is at most 100; for p the limit is 1,000
pub record IsSmallSetting (s : Setting) : Type 0 where
  pub basis : IsWithin (10 ^ 4) (rotation_of s.num)
  pub denominator : s.den ≤ 100
  pub origin : AreWithin (10 ^ 6) s.shift.num
  pub near : AreWithin (1000 * s.shift.den) s.shift.num
  pub origin_denominator : s.shift.den ≤ 1000

pub record IsSmall (g : Op) : Type 0 where
  pub within : IsWithin 9 (operation g).rotation
  pub numerators : AreWithin (10 ^ 10) g.num
  pub denominator : g.den ≤ 100000

pub record HasSmallVector (v : Vector) : Type 0 where
  pub common : ℕ
  pub positive : 0 < common
  pub small : common ≤ 100000
  pub multiple : (i : Fin 3) → IsWhole (rationals.mul (whole rationals common) (component v i))

pub record MayBeImage (s : Setting) (g f : Operation) : Type 0 where
  pub is_image : IsImage (basis s) (origin s) g f
  pub within : IsWithin 9 f.rotation
  pub vector : HasSmallVector f.vector

-- the entries of P R P^-1 are whole numbers of at most 9: the determinant of P's numerators times them is a product of whole numbers
abbrev pub AreQuotients : List (List ℤ) → List (List ℤ) → Rotation → Type 0
AreQuotients num rot F = (i j : Fin 3) → (determinant_in integers (rotation_of num) *ℤ F.at i j ≡ ((rotation_of num · rotation_of rot) · adjugate (rotation_of num)).at i j)
    × (unsigned_abs (F.at i j) ≤ 9)

-- a numerator of the image's vector, over the product of the denominators of P, of v and of p
abbrev pub image_number : Setting → Op → List (List ℤ) → ℕ → ℤ
image_number s g rot i = (row_dot (slice_index_or s.num i []) g.num *ℤ pos s.shift.den)
    +ℤ ((slice_index_or s.shift.num i (pos 0) -ℤ row_dot (slice_index_or rot i []) s.shift.num) *ℤ pos (s.den * g.den))

-- P v + (p - F p)
unfoldable pub image_vector : Setting → Operation → Rotation → Vector
image_vector s g F = (basis s · g.vector) ⊕ (origin s ⊖ (whole_matrix rationals F · origin s))
