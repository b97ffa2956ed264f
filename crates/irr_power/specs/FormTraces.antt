-- Traces of tensors at operations.
--   rotation_trace R             the trace of a rotation
--   principal_minors R           the sum of its principal minors of two rows
--   IsFormRow .. f ops row       row has the traces of the matrices of a form at the operations ops, in order
--   IsStarRow .. group f wave row     so for the operations of the little group of a wave vector
use Rattle.std.specs.Prelude.{ℕ, ℤ, List, length, ◌+ℤ◌, ◌-ℤ◌, ◌*ℤ◌}
use Rattle.irr_algebra.specs.Fin.{Fin}
use Rattle.irr_algebra.specs.Fin.Fin.{first, next}
use Rattle.irr_algebra.specs.Matrix.{trace}
use Rattle.irr_number.specs.Number.{Number, numbers}
use Rattle.irr_space.specs.Operation.{Rotation}
use Rattle.irr_space.specs.CanonicalOperation.{IsNumbering}
use Rattle.irr_space.specs.Star.{IsInLittleGroup}
use Rattle.irr_seitz.specs.OperationMeaning.{operation}
use Rattle.irr_seitz.specs.declared.op.Op.{Op}
use Rattle.irr_kvec.specs.WaveMeaning.{wave_vector}
use Rattle.irr_kvec.specs.declared.wave.Wave.{Wave}
use Rattle.irr_close.specs.StandsFor.{stands_for}
use Rattle.irr_close.specs.declared.group.Group.{Group}
use Rattle.irr_char.specs.Characters.{IsRowOf}
use Rattle.irr_mult.specs.Listing.{item}
use Rattle.irr_power.specs.Tensors.{form_matrix}
use Rattle.irr_input.specs.declared.form.Form.{Form}

abbrev pub rotation_trace : Rotation → ℤ
rotation_trace R = (R.at first first +ℤ R.at (next first) (next first)) +ℤ R.at (next (next first)) (next (next first))

abbrev pub minor : Rotation → Fin 3 → Fin 3 → ℤ
minor R i j = (R.at i i *ℤ R.at j j) -ℤ (R.at i j *ℤ R.at j i)

abbrev pub principal_minors : Rotation → ℤ
principal_minors R = (minor R first (next first) +ℤ minor R first (next (next first))) +ℤ minor R (next first) (next (next first))

abbrev pub IsFormRow : {X : Type 0} (order : X → ℕ) (value : (n : ℕ) → X → Number n) (M : ℕ) → Form → List Op → List X → Type 0
IsFormRow order value M f ops row = IsRowOf {h = length ops} order value M
    (λ p. trace (form_matrix (numbers M) f (operation (item ops p)))) row

pub record IsStarRow {X : Type 0} (order : X → ℕ) (value : (n : ℕ) → X → Number n) (M : ℕ) (group : Group) (f : Form) (wave : Wave)
    (row : List X) : Type 0 where
  pub ops : List Op
  pub numbering : IsNumbering (stands_for group) (IsInLittleGroup (stands_for group) (wave_vector wave))
      (λ (p : Fin (length ops)). operation (item ops p))
  pub is_row : IsFormRow order value M f ops row
