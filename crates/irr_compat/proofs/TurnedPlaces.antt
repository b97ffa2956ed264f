-- The operations of a line group at one of its points.
--   line_operations, point_operations     the operations of both tables
--   tables_at                  both tables
--   order_of_point             the order at the point divides that of the line
--   stands_at                  the operation at a place of the line has a place at the point
--   whole_at                   what `step_phase` asks of its vector
--   first_multiple, point_multiple     and of both points
--   multiple_of_point, multiple_of_first, number_of, stands_of, whole_of     the same for two wave vectors
--   read_vector                the vector that the program reads
use Rattle.std.proofs.Common.{◌≡◌, sym, ◌∙◌, ap, ap₂, subst, subst₂, ℕ, suc, ◌<◌, pos, List, length, get_or, slice_index, Contains}
use Rattle.std.specs.Int.{◌∣◌}
use Rattle.std.proofs.lemmas.List.{get_or_default}
use Rattle.std.proofs.lemmas.List.Elements.{Contains-get_or}
use Rattle.irr_algebra.specs.Fin.{Fin}
use Rattle.irr_algebra.specs.Fin.Fin.{first}
use Rattle.irr_algebra.specs.Matrix.{◌⊖◌}
use Rattle.irr_rational.specs.Integer.{integer}
use Rattle.irr_rational.specs.Rational.{rationals, IsWhole}
use Rattle.irr_rational.proofs.Integers.{integer-pos}
use Rattle.irr_space.specs.Operation.{Operation, WaveVector, dot}
use Rattle.irr_rat.specs.VectorMeaning.{vector, vector_of}
use Rattle.irr_rat.specs.declared.vec3.Vec3.{Vec3}
use Rattle.irr_seitz.specs.OperationMeaning.{operation}
use Rattle.irr_seitz.specs.PhaseMeaning.{sign_of}
use Rattle.irr_seitz.specs.declared.op.Op.{Op}
use Rattle.irr_rep.specs.Twisted.{operation_places, phase_table, place_count}
use Rattle.irr_rep.specs.declared.table.Twisted.{Twisted}
use Rattle.irr_close.specs.StandsFor.{stands_for}
use Rattle.irr_close.specs.declared.group.Group.{Group}
use Rattle.irr_close.proofs.SpaceGroups.{space_group}
use Rattle.irr_line.specs.Reading.{AreTablesAt}
use Rattle.irr_line.proofs.LineGroups.{line_little}
use Rattle.irr_line.proofs.LinePhases.{whole_turns}
use Rattle.irr_line.proofs.Orders.{point_order-divides}
use Rattle.irr_line.proofs.Tables.{line_order_at}
use Rattle.irr_little.specs.Line.{IsLineGroupTable}
use Rattle.irr_little.specs.Steps.{IsWholeMultiple}
use Rattle.irr_little.specs.Table.{IsLittleTable, listed_operations}
use Rattle.irr_little.proofs.StepNumbers.{order_multiple}
use Rattle.irr_compat.specs.Turns.{IsPointOfLine}

module _ (group : Group) (line table : Twisted) (d : Op) where
  abbrev pub line_operations : Fin (place_count line) → Operation
  line_operations = listed_operations group (place_count line) (operation_places line) d

  abbrev pub point_operations : Fin (place_count table) → Operation
  point_operations = listed_operations group (place_count table) (operation_places table) d

  module _ {n : ℕ} (point : Fin (suc n) → WaveVector) (i : Fin (suc n))
      (is_line : IsLineGroupTable group point (operation_places line) (phase_table line))
      (is_little : IsLittleTable group (point i) (operation_places table) (phase_table table)) where
    pub tables_at : AreTablesAt (sign_of group.phase) (stands_for group) point i line_operations (phase_table line) point_operations (phase_table table)
    tables_at = record {
      line_numbering = is_line.numbering d;
      line_table = is_line.table d;
      numbering = is_little.numbering d;
      table = is_little.table d;
    }

    pub order_of_point : (phase_table table).order ∣ (phase_table line).order
    order_of_point = point_order-divides (stands_for group) point i (phase_table table).order (phase_table line).order
        (is_little.table d).is_order (is_line.table d).is_order

    pub point_multiple : IsWholeMultiple (phase_table line).order (point i)
    point_multiple = order_multiple group (point i) (phase_table line).order
        (line_order_at (stands_for group) point (phase_table line).order (is_line.table d).is_order i)

    pub first_multiple : IsWholeMultiple (phase_table line).order (point first)
    first_multiple = order_multiple group (point first) (phase_table line).order
        (line_order_at (stands_for group) point (phase_table line).order (is_line.table d).is_order first)

    module _ (a : ℕ) (l : a < place_count line) where
      abbrev number : ℕ
      number = slice_index (operation_places line) a

      inside : Contains (operation_places line) number
      inside = Contains-get_or (operation_places line) a 0 (subst (λ m. a < m) is_line.count l)

      pub number_below : number < length group.ops.items
      number_below = is_line.places.below number inside

      pub stands_at : Contains (operation_places table) number
      stands_at = is_little.places.all number number_below (λ o. (line_little (stands_for group) point i
          (operation (get_or group.ops.items number o)) (is_line.places.holds number inside o)).keeps)

      pub whole_at : IsWhole (rationals.mul (integer rationals (pos (phase_table line).order)) (dot (point first ⊖ point i) (operation (get_or group.ops.items number d)).vector))
      whole_at = subst (λ x. IsWhole (rationals.mul x (dot (point first ⊖ point i) (operation (get_or group.ops.items number d)).vector)))
          (sym (integer-pos rationals (phase_table line).order))
          (whole_turns (stands_for group) point i (space_group group).is_group (phase_table line).order (is_line.table d).is_order
          (operation (get_or group.ops.items number d)) (is_line.places.holds number inside d))

-- the same for two wave vectors that are points of a line
module _ (group : Group) (line table : Twisted) (k l : WaveVector) (e : IsPointOfLine group line table k l) (d : Op) where
  little_there : IsLittleTable group (e.point e.place) (operation_places table) (phase_table table)
  little_there = subst (λ w. IsLittleTable group w (operation_places table) (phase_table table)) (sym e.at_place) e.is_little

  pub multiple_of_point : IsWholeMultiple (phase_table line).order l
  multiple_of_point = subst (IsWholeMultiple (phase_table line).order) e.at_place (point_multiple group line table d e.point e.place e.is_line little_there)

  pub multiple_of_first : IsWholeMultiple (phase_table line).order k
  multiple_of_first = subst (IsWholeMultiple (phase_table line).order) e.at_first (first_multiple group line table d e.point e.place e.is_line little_there)

  pub number_of : (a : ℕ) → a < place_count line → slice_index (operation_places line) a < length group.ops.items
  number_of a b = number_below group line table d e.point e.place e.is_line little_there a b

  pub stands_of : (a : ℕ) → a < place_count line → Contains (operation_places table) (slice_index (operation_places line) a)
  stands_of a b = stands_at group line table d e.point e.place e.is_line little_there a b

  pub whole_of : (a : ℕ) → a < place_count line → IsWhole (rationals.mul (integer rationals (pos (phase_table line).order))
      (dot (k ⊖ l) (operation (get_or group.ops.items (slice_index (operation_places line) a) d)).vector))
  whole_of a b = subst₂ (λ x y. IsWhole (rationals.mul (integer rationals (pos (phase_table line).order))
      (dot (x ⊖ y) (operation (get_or group.ops.items (slice_index (operation_places line) a) d)).vector))) e.at_first e.at_place
      (whole_at group line table d e.point e.place e.is_line little_there a b)

-- the vector of an operation that the program reads
pub read_vector : (ops items : List Op) (p n : ℕ) (g d : Op) (v : Vec3) → p < length items → ops ≡ items → p ≡ n → g ≡ get_or ops p g
    → v.num ≡ g.num → v.den ≡ g.den → vector v ≡ (operation (get_or items n d)).vector
read_vector ops items p n g d v l same number is num den = ap₂ vector_of num den
    ∙ ap (λ (h : Op). (operation h).vector) (is ∙ ap (λ (xs : List Op). get_or xs p g) same ∙ get_or_default items p g d l ∙ ap (λ m. get_or items m d) number)
