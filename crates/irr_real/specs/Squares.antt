-- The squares of operations g that carry k to -k, and the sum of their traces (Bradley and Cracknell, sections 4.6
-- and 7.6).
--   IsSquareAt group k t M p q x      for the canonical operation g with the number p: g g = (1|v) g_q, for the
--                                     operation g_q at the place q of t, and z^x = exp(2 pi i s k.v), a number of order M
--   IsSquareTrace group k t M D p c   c is tr D(g g) = z^x tr D(q)
--   IsReversalSum group k t M D c     c is the sum of these over all canonical operations that carry k to -k
use Rattle.std.specs.Prelude.{ℕ, ◌≡◌, ◌<◌, List, length, slice_index, slice_index_or}
use Rattle.irr_algebra.specs.Fin.{Fin, to_nat}
use Rattle.irr_algebra.specs.Listed.{sum_below}
use Rattle.irr_algebra.specs.Matrix.{Matrix, trace}
use Rattle.irr_number.specs.Number.{Number, numbers, root_power}
use Rattle.irr_space.specs.Operation.{Vector, WaveVector, ◌⊙◌, translation}
use Rattle.irr_space.specs.Reciprocal.{IsPhase}
use Rattle.irr_seitz.specs.OperationMeaning.{operation}
use Rattle.irr_seitz.specs.PhaseMeaning.{sign_of}
use Rattle.irr_seitz.specs.declared.op.Op.{Op}
use Rattle.irr_rep.specs.Twisted.{operation_places, place_count}
use Rattle.irr_rep.specs.declared.table.Twisted.{Twisted}
use Rattle.irr_close.specs.declared.group.Group.{Group}
use Rattle.irr_real.specs.Places.{AreReversingPlaces}

pub record IsSquareAt (group : Group) (k : WaveVector) (t : Twisted) (M p q x : ℕ) : Type 0 where
  pub vector : Vector
  pub below : q < place_count t
  pub is_product : (d : Op) → operation (slice_index_or group.ops.items p d) ⊙ operation
      (slice_index_or group.ops.items p d)
      ≡ translation vector ⊙ operation (slice_index_or group.ops.items (slice_index (operation_places t) q) d)
  pub is_phase : IsPhase (sign_of group.phase) M k vector x

pub record IsSquareTrace (group : Group) (k : WaveVector) (t : Twisted) (M : ℕ) {h d : ℕ}
    (D : Fin h → Matrix (numbers M) d d) (p : ℕ)
    (c : Number M) : Type 0 where
  pub place : Fin h
  pub exponent : ℕ
  pub square : IsSquareAt group k t M p (to_nat place) exponent
  pub is : c ≡ (numbers M).mul (root_power M exponent) (trace (D place))

-- places are the numbers of the operations
pub record IsReversalSum (group : Group) (k : WaveVector) (t : Twisted) (M : ℕ) {h d : ℕ}
    (D : Fin h → Matrix (numbers M) d d) (c : Number M) : Type 0 where
  pub places : List ℕ
  pub reversing : AreReversingPlaces group k places
  pub term : ℕ → Number M
  pub each : (j : ℕ) → j < length places → IsSquareTrace group k t M D (slice_index places j) (term j)
  pub is_sum : c ≡ sum_below (numbers M) (length places) term
