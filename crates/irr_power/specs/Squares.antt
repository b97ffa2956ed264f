-- Squares of full representations (Bradley and Cracknell, section 4.7).
--   SquareEntry               a label, the numbers of rows of both squares, and their parts
--   square_entry p            what the program's value stands for
--   IsSquareOf s G M m F p    p is the entry of the member m of a list, whose full representation is F: its label, from 1, and the
--                             numbers of rows and the parts of the symmetric and of the antisymmetric square of F
--   AreSquares s G k M ps     ps are the entries of the members of a complete list in canonical order at k, by label, with the full
--                             representations over the numbers of order M
--   AreSquaresAt group k ps   so for the group of the program, over the order of k
--   IsRefused G k e           n, the order of k, is above the limit; want of memory says nothing
use Rattle.std.specs.Prelude.{ℕ, suc, ◌≡◌, ◌<◌, ◌≤◌, List, length, map, slice_index_or}
use Rattle.std.specs.Int.{◌∣◌}
use Rattle.irr_algebra.specs.Fin.{Fin, to_nat}
use Rattle.irr_algebra.specs.Matrix.{Matrix}
use Rattle.irr_algebra.specs.Pair.{times}
use Rattle.irr_number.specs.Number.{numbers}
use Rattle.irr_theory.specs.Representations.{Representations}
use Rattle.irr_space.specs.Operation.{Operation, WaveVector}
use Rattle.irr_space.specs.Reciprocal.{Sign, IsOrder}
use Rattle.irr_space.specs.PhaseTable.{phases_at}
use Rattle.irr_space.specs.CompleteList.{IsCompleteList, IsInOrder, over}
use Rattle.irr_cyc.specs.declared.orders.TheConstants.{ORDER_LIMIT}
use Rattle.irr_seitz.specs.PhaseMeaning.{sign_of}
use Rattle.irr_close.specs.StandsFor.{stands_for}
use Rattle.irr_close.specs.declared.group.Group.{Group}
use Rattle.irr_full.specs.Star.{Star}
use Rattle.irr_full.specs.Full.{IsFullOf}
use Rattle.irr_full.specs.Parts.{ArePartsOf, Part}
use Rattle.irr_forms.specs.Square.{upper, strict}
use Rattle.irr_reality.specs.Squares.{symmetric_squares, skew_squares}
use Rattle.irr_mult.specs.Listing.{item}
use Rattle.irr_mult.specs.StarParts.{part_of}
use Rattle.irr_mult.specs.declared.error.WorkError.{WorkError}
use Rattle.irr_mult.specs.declared.error.WorkError.TheVariants.{OrderTooLarge, Memory}
use Rattle.irr_power.specs.declared.parts.SquareParts.{SquareParts}

pub record SquareEntry : Type 0 where
  pub label : ℕ
  pub symmetric_size : ℕ
  pub antisymmetric_size : ℕ
  pub symmetric : List Part
  pub antisymmetric : List Part

abbrev pub square_entry : SquareParts → SquareEntry
square_entry p = record {
  label = p.label;
  symmetric_size = p.sym_dim;
  antisymmetric_size = p.anti_dim;
  symmetric = map part_of p.sym.items;
  antisymmetric = map part_of p.anti.items;
}

pub record IsSquareOf (s : Sign) (G : Operation → Type 0) (M : ℕ) {d : ℕ} (m : ℕ)
    (F : Operation → Matrix (numbers M) d d) (p : SquareEntry) : Type 0 where
  pub label : p.label ≡ suc m
  pub symmetric_size : p.symmetric_size ≡ upper d
  pub antisymmetric_size : p.antisymmetric_size ≡ strict d
  pub symmetric : (positive : 0 < M) → ArePartsOf s G positive (symmetric_squares F) (item p.symmetric)
  pub antisymmetric : (positive : 0 < M) → ArePartsOf s G positive (skew_squares F) (item p.antisymmetric)

pub record AreSquares (s : Sign) (G : Operation → Type 0) (k : WaveVector) (M : ℕ) (ps : List SquareEntry) : Type 0 where
  pub star : Star s G k
  pub list : Representations (phases_at star.table)
  pub complete : IsCompleteList star.table list
  pub ordered : IsInOrder star.table list
  -- the full representations
  pub divides : star.table.order ∣ M
  pub full : (m : Fin list.count) → Operation → Matrix (numbers M) (times star.arms (list.size m))
      (times star.arms (list.size m))
  pub is_full : (m : Fin list.count) → IsFullOf star M divides (over star.table M divides (list.member m)) (full m)
  -- the entries
  pub count : length ps ≡ list.count
  pub square : (m : Fin list.count) (none : SquareEntry)
      → IsSquareOf s G M (to_nat m) (full m) (slice_index_or ps (to_nat m) none)

pub record AreSquaresAt (group : Group) (k : WaveVector) (ps : List SquareParts) : Type 0 where
  pub order : ℕ
  pub is_order : IsOrder (stands_for group) k order
  pub within : order ≤ ORDER_LIMIT
  pub squares : AreSquares (sign_of group.phase) (stands_for group) k order (map square_entry ps)

abbrev pub IsRefused : (Operation → Type 0) → WaveVector → WorkError → Type 0
IsRefused G k (OrderTooLarge n) = (ORDER_LIMIT < n) × IsOrder G k n
IsRefused G k Memory = Unit {0}
