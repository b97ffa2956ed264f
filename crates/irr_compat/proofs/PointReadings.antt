-- The small representations at a point of a line, read at its first point.
--   readings_at              their characters are turned to those of the readings
--   relations_at             the relations at the point
use Rattle.std.proofs.Common.{◌≡◌, sym, ◌∙◌, ap, subst, ℕ, suc, ◌<◌, ◌≤◌, List, length, get_or, slice_index}
use Rattle.std.specs.Int.{◌∣◌}
use Rattle.irr_algebra.specs.Fin.{Fin, to_nat}
use Rattle.irr_algebra.specs.Fin.Fin.{first}
use Rattle.irr_algebra.specs.Matrix.{◌⊖◌, trace}
use Rattle.irr_algebra.specs.Action.{HasDimension}
use Rattle.irr_algebra.proofs.Homomorphisms.{map-trace}
use Rattle.irr_algebra.proofs.Indices.{to_nat-lt}
use Rattle.irr_number.specs.Number.{Number, numbers, root_power}
use Rattle.irr_number.specs.Lift.{lift}
use Rattle.irr_number.proofs.NumberField.{number_field}
use Rattle.irr_theory.specs.FactorSystem.{Representation}
use Rattle.irr_theory.specs.Representations.{Representations, IsFull}
use Rattle.irr_theory.specs.Scalars.{map_family}
use Rattle.irr_theory.proofs.Existence.{dimension_exists}
use Rattle.irr_space.specs.Operation.{WaveVector}
use Rattle.irr_space.specs.PhaseTable.{PhaseTable, phases_at}
use Rattle.irr_space.specs.CompleteList.{IsCompleteList, IsInOrder, over}
use Rattle.irr_space.specs.Star.{IsInLittleGroup}
use Rattle.irr_seitz.specs.OperationMeaning.{operation}
use Rattle.irr_seitz.specs.PhaseMeaning.{sign_of}
use Rattle.irr_seitz.specs.declared.op.Op.{Op}
use Rattle.irr_rep.specs.Twisted.{operation_places, phase_table, place_count}
use Rattle.irr_rep.specs.declared.table.Twisted.{Twisted}
use Rattle.irr_close.specs.StandsFor.{stands_for}
use Rattle.irr_close.specs.declared.group.Group.{Group}
use Rattle.irr_close.proofs.SpaceGroups.{space_group}
use Rattle.irr_line.proofs.Readings.{reading, reading-is_reading}
use Rattle.irr_line.proofs.ReadingLaws.{reading-trace}
use Rattle.irr_little.specs.Line.{IsLineGroupTable}
use Rattle.irr_little.specs.Table.{IsLittleTable}
use Rattle.irr_little.proofs.Spaces.{has_canonical}
use Rattle.irr_full.proofs.RegularCharacter.{sizes_add_up}
use Rattle.irr_line.specs.Reading.{IsReading}
use Rattle.irr_mult.specs.StarParts.{IsCharacterOf}
use Rattle.irr_mult.specs.declared.star.SmallCharacter.{SmallCharacter}
use Rattle.irr_compat.specs.Readings.{AreTurnedBy}
use Rattle.irr_compat.specs.Relations.{PointRelations}
use Rattle.irr_compat.specs.Rows.{AreReadings}
use Rattle.irr_compat.specs.Turns.{AreTurns}
use Rattle.irr_compat.specs.declared.turns.Turn.{Turn}
use Rattle.irr_compat.proofs.TurnedPlaces.{line_operations, point_operations, tables_at, order_of_point}

module _ (group : Group) (line table : Twisted) (d : Op) {n : ℕ} (point : Fin (suc n) → WaveVector) (i : Fin (suc n))
    (is_line : IsLineGroupTable group point (operation_places line) (phase_table line))
    (is_little : IsLittleTable group (point i) (operation_places table) (phase_table table)) where
  abbrev L : PhaseTable (place_count line)
  L = phase_table line

  abbrev T : PhaseTable (place_count table)
  T = phase_table table

  abbrev pub divides_at : (phase_table table).order ∣ (phase_table line).order
  divides_at = order_of_point group line table d point i is_line is_little

  pub read_at : {e : ℕ} → Representation (phases_at (phase_table table)) e → Representation (phases_at (phase_table line)) e
  read_at D = reading (stands_for group) (space_group group).is_group (has_canonical group) (sign_of group.phase) point i
      (line_operations group line table d) L (point_operations group line table d) T (tables_at group line table d point i is_line is_little) divides_at D

  pub is_read : {e : ℕ} (D : Representation (phases_at (phase_table table)) e) → IsReading (sign_of group.phase) (point first ⊖ point i)
      (line_operations group line table d) (phase_table line) (point_operations group line table d) (phase_table table) divides_at D (read_at D)
  unfolding read_at
  is_read D = reading-is_reading (stands_for group) (space_group group).is_group (has_canonical group) (sign_of group.phase) point i
      (line_operations group line table d) L (point_operations group line table d) T (tables_at group line table d point i is_line is_little) divides_at D

  module _ (ts : List Turn) (are : AreTurns group line table (point first) (point i) ts) where
    pub turned_at : {e : ℕ} (D : Representation (phases_at (phase_table table)) e) → AreTurnedBy (phase_table line).order ts
        (λ b. trace ((over (phase_table table) (phase_table line).order divides_at D).at b)) (λ a. trace ((read_at D).at a))
    unfolding map_family
    turned_at D = record { count = are.count; is = each }
      where
        each : (a : Fin (place_count line)) (b : Fin (place_count table)) (t : Turn) → to_nat b ≡ (get_or ts (to_nat a) t).place
            → trace ((read_at D).at a) ≡ (numbers L.order).mul (root_power L.order (get_or ts (to_nat a) t).exponent) (trace ((over T L.order divides_at D).at b))
        each a b t e =
            let turn = are.turn (to_nat a) t (subst (λ m. to_nat a < m) (sym are.count) (to_nat-lt a)) in
            reading-trace (stands_for group) (IsInLittleGroup (stands_for group) (point i)) (sign_of group.phase) (point first ⊖ point i)
            (line_operations group line table d) L (point_operations group line table d) T ((tables_at group line table d point i is_line is_little).numbering) divides_at
            D (read_at D) (is_read D)
            a b (get_or ts (to_nat a) t).exponent
            (ap (λ p. operation (get_or group.ops.items p d)) (ap (slice_index (operation_places table)) e ∙ turn.same)) (turn.is_phase d)
            ∙ ap ((numbers L.order).mul (root_power L.order (get_or ts (to_nat a) t).exponent)) (map-trace (lift T.order L.order T.order_positive divides_at) (D.at b))

    module _ {S : Type 0} (order : S → ℕ) (value : (m : ℕ) → S → Number m) (members : Representations (phases_at (phase_table table)))
        (cs : List (SmallCharacter S)) (few : members.count ≤ 48) (small : (m : Fin members.count) → members.size m ≤ 48) (count : length cs ≡ members.count)
        (character : (m : Fin members.count) (e : SmallCharacter S) → IsCharacterOf order value (phase_table table) (phase_table line).order divides_at (members.member m) (get_or cs (to_nat m) e)) where
      abbrev pub readings_at : AreReadings order value (phase_table line) ts cs
      readings_at = record {
        places = place_count table;
        table = phase_table table;
        divides = divides_at;
        members = members;
        few = few;
        small = small;
        count = count;
        character = character;
        below = λ a t l. (are.turn a t l).below;
        within = λ a t l. ((are.turn a t l).is_phase d).below;
        reading = λ m. read_at (members.member m);
        turned = λ m. turned_at (members.member m);
      }

  module _ (list : Representations (phases_at (phase_table line))) (full : IsFull list) (members : Representations (phases_at (phase_table table)))
      (complete : IsCompleteList (phase_table table) members) (in_order : IsInOrder (phase_table table) members) where
    pub stands : (m : Fin members.count) (j : Fin list.count) → (q : ℕ) × HasDimension (list.member j).at (read_at (members.member m)).at q
    stands m j = dimension_exists (number_field L.order L.order_positive) (list.member j) (read_at (members.member m))

    abbrev pub relations_at : PointRelations (sign_of group.phase) (stands_for group) point (line_operations group line table d) (phase_table line) list i
    relations_at = record {
      places = place_count table;
      little = point_operations group line table d;
      numbering = is_little.numbering d;
      table = phase_table table;
      is_table = is_little.table d;
      members = members;
      complete = complete;
      in_order = in_order;
      divides = divides_at;
      reading = λ m. read_at (members.member m);
      is_reading = λ m. is_read (members.member m);
      mult = λ m j. (stands m j).0;
      is_mult = λ m j. (stands m j).1;
      adds_up = λ m. sizes_add_up (number_field L.order L.order_positive) list full (read_at (members.member m)) (λ j. (stands m j).0) (λ j. (stands m j).1);
    }
