-- The type of the full representation of a small one, as the program answers it.
--   IsTypeOf S M v D r         r is the number (1, -1 or 0) of the one type of the full representations of D over the
--                              star S
--   IsTypeOverEach S M v D r   the same over each multiple of the order M, for a small representation D over the order
--                              of the table
use Rattle.std.specs.Prelude.{ℕ, ℤ, ◌≡◌, ◌<◌}
use Rattle.std.specs.Int.{◌∣◌}
use Rattle.irr_algebra.specs.Matrix.{Matrix}
use Rattle.irr_algebra.specs.Pair.{times}
use Rattle.irr_number.specs.Number.{numbers}
use Rattle.irr_theory.specs.FactorSystem.{Representation}
use Rattle.irr_space.specs.Operation.{Operation, WaveVector}
use Rattle.irr_space.specs.Reciprocal.{Sign}
use Rattle.irr_space.specs.PhaseTable.{phases_at, phases_over}
use Rattle.irr_space.specs.CompleteList.{over}
use Rattle.irr_full.specs.Star.{Star}
use Rattle.irr_full.specs.Full.{IsFullOf}
use Rattle.irr_full.specs.GroupRepresentation.{family, raised}
use Rattle.irr_forms.specs.Form.{FormType, HasType, type_integer}

pub record IsTypeOf {s : Sign} {G : Operation → Type 0} {k : WaveVector} (S : Star s G k) (M : ℕ)
    (v : S.table.order ∣ M) {d : ℕ}
    (D : Representation (phases_over S.table M v) d) (r : ℤ) : Type 0 where
  pub form_type : FormType
  pub number : r ≡ type_integer form_type
  pub has_type : (A : Operation → Matrix (numbers M) (times S.arms d) (times S.arms d)) → IsFullOf S M v D A
      → HasType form_type (family G A)
  pub only : (A : Operation → Matrix (numbers M) (times S.arms d) (times S.arms d)) → IsFullOf S M v D A
      → (x : FormType) → HasType x (family G A) → x ≡ form_type

pub record IsTypeOverEach {s : Sign} {G : Operation → Type 0} {k : WaveVector} (S : Star s G k) (M : ℕ)
    (v : S.table.order ∣ M) {d : ℕ}
    (D : Representation (phases_at S.table) d) (r : ℤ) : Type 0 where
  pub form_type : FormType
  pub number : r ≡ type_integer form_type
  pub has_type : (positive : 0 < M) (K : ℕ) → 0 < K → (w : M ∣ K) → S.table.order ∣ K
      → (A : Operation → Matrix (numbers M) (times S.arms d) (times S.arms d)) → IsFullOf S M v (over S.table M v D) A
      → HasType form_type (family G (raised M K positive w A))
