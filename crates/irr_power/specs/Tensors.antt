-- Tensors (Bradley and Cracknell, section 5.6): the vector representation sends (R|v) to R, and tensors of rank r are its r-fold
-- direct product.
--   form_size f              the number of components of the tensors of a form
--   form_matrix R f g        the matrix of g on them over the ring R
--   origin                   the wave vector 0
--   TensorEntry, tensor_entry p      a number of components and parts, and what the program's value stands for
--   IsTensorOf s G M f p     p has the number of components and the parts of the tensors of the form f, over the numbers of order M
--   IsTensorAt group f p     so for the group of the program, over the order at the wave vector 0
use Rattle.std.specs.Prelude.{ℕ, ◌≡◌, ◌<◌, ◌≤◌, List, map}
use Rattle.irr_algebra.specs.Ring.{Ring}
use Rattle.irr_algebra.specs.Matrix.{Matrix, null}
use Rattle.irr_number.specs.Number.{numbers}
use Rattle.irr_space.specs.Operation.{Operation, WaveVector}
use Rattle.irr_space.specs.Reciprocal.{Sign, IsOrder}
use Rattle.irr_cyc.specs.declared.orders.TheConstants.{ORDER_LIMIT}
use Rattle.irr_seitz.specs.PhaseMeaning.{sign_of}
use Rattle.irr_close.specs.StandsFor.{stands_for}
use Rattle.irr_close.specs.declared.group.Group.{Group}
use Rattle.irr_full.specs.Parts.{ArePartsOf, Part}
use Rattle.irr_forms.specs.Square.{upper, strict}
use Rattle.irr_reality.specs.Squares.{symmetric_squares, skew_squares}
use Rattle.irr_reality.specs.Tensors.{tensors, tensor_size, vector_representation}
use Rattle.irr_mult.specs.Listing.{item}
use Rattle.irr_mult.specs.StarParts.{part_of}
use Rattle.irr_input.specs.declared.form.Form.{Form}
use Rattle.irr_input.specs.declared.form.Form.TheVariants.{Rank1, Rank2, Rank3, Rank4, Sym2, Anti2}
use Rattle.irr_power.specs.declared.parts.TensorParts.{TensorParts}

abbrev pub form_size : Form → ℕ
form_size Rank1 = tensor_size 0
form_size Rank2 = tensor_size 1
form_size Rank3 = tensor_size 2
form_size Rank4 = tensor_size 3
form_size Sym2 = upper 3
form_size Anti2 = strict 3

abbrev pub form_matrix : (R : Ring) (f : Form) → Operation → Matrix R (form_size f) (form_size f)
form_matrix R Rank1 = tensors R 0
form_matrix R Rank2 = tensors R 1
form_matrix R Rank3 = tensors R 2
form_matrix R Rank4 = tensors R 3
form_matrix R Sym2 = symmetric_squares (vector_representation R)
form_matrix R Anti2 = skew_squares (vector_representation R)

abbrev pub origin : WaveVector
origin = null

pub record TensorEntry : Type 0 where
  pub size : ℕ
  pub parts : List Part

abbrev pub tensor_entry : TensorParts → TensorEntry
tensor_entry p = record { size = p.dim; parts = map part_of p.parts.items }

pub record IsTensorOf (s : Sign) (G : Operation → Type 0) (M : ℕ) (f : Form) (p : TensorEntry) : Type 0 where
  pub size : p.size ≡ form_size f
  pub parts : (positive : 0 < M) → ArePartsOf s G positive (form_matrix (numbers M) f) (item p.parts)

pub record IsTensorAt (group : Group) (f : Form) (p : TensorParts) : Type 0 where
  pub order : ℕ
  pub is_order : IsOrder (stands_for group) origin order
  pub within : order ≤ ORDER_LIMIT
  pub tensor : IsTensorOf (sign_of group.phase) (stands_for group) order f (tensor_entry p)
