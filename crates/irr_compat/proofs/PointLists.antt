-- The list at a point of a line, as the program made it.
--   here_readings           its characters, and those of the readings
--   here_relations          the relations at the point
use Rattle.std.proofs.Common.{◌≡◌, subst, ℕ, suc, ◌<◌, ◌≤◌, List, length, get_or}
use Rattle.std.specs.Int.{◌∣◌}
use native.Mathlib.Nat as Nat
use Rattle.irr_algebra.specs.Fin.{Fin, to_nat}
use Rattle.irr_seitz.specs.PhaseMeaning.{sign_of}
use Rattle.irr_rep.specs.Twisted.{operation_places, phase_table}
use Rattle.irr_rep.specs.declared.table.Twisted.{Twisted}
use Rattle.irr_rep.specs.declared.family.Family.{Family}
use Rattle.irr_cyc.specs.declared.scalars.Scalar.{Ghosts}
use Rattle.irr_kvec.specs.WaveMeaning.{wave_vector}
use Rattle.irr_kvec.specs.declared.wave.Wave.{Wave}
use Rattle.irr_close.specs.StandsFor.{stands_for}
use Rattle.irr_close.specs.declared.group.Group.{Group}
use Rattle.irr_little.specs.Table.{IsLittleTable}
use Rattle.irr_climb.specs.Lists.{IsSmallList}
use Rattle.irr_climb.proofs.ClimbedLevel.{few_members}
use Rattle.irr_climb.proofs.FullRows.{size_few}
use Rattle.irr_mult.specs.StarParts.{IsCharacterOf}
use Rattle.irr_mult.specs.declared.star.SmallCharacter.{SmallCharacter}
use Rattle.irr_mult.proofs.StarFacts.{full_list}
use Rattle.irr_compat.specs.LineTables.{IsLineHere, here_operation, here_point}
use Rattle.irr_compat.specs.Relations.{PointRelations}
use Rattle.irr_compat.specs.Rows.{AreReadings}
use Rattle.irr_compat.specs.Turns.{AreTurns}
use Rattle.irr_compat.specs.declared.turns.Turn.{Turn}
use Rattle.irr_compat.proofs.LinePoints.{is_little_here, turns_here}
use Rattle.irr_compat.proofs.PointReadings.{divides_at, readings_at, relations_at}

module _ {S : Type 0} {V : Ghosts S} {group : Group} {points : List Wave} {line : Twisted} {members : List (SmallCharacter S)}
    (e : IsLineHere V.order_of V.value group points line members) (i : ℕ) (l : i < length points) (x : Wave) (is : x ≡ get_or points i x) (start : 0 < length points)
    (y : Wave) (at : y ≡ get_or points 0 y) (p : Fin (suc e.others)) (f : to_nat p ≡ i) (table : Twisted)
    (little : IsLittleTable group (wave_vector x) (operation_places table) (phase_table table)) (fs : List (Family S V)) (s : IsSmallList (phase_table table) fs) where
  abbrev pub here_relations : PointRelations (sign_of group.phase) (stands_for group) (here_point e) (here_operation e) (phase_table line) e.known.list p
  here_relations = relations_at group line table e.some (here_point e) p e.is_line (is_little_here e i l x is p f table little) e.known.list e.known.full s.list s.complete s.ordered

  module _ (ts : List Turn) (are : AreTurns group line table (wave_vector y) (wave_vector x) ts) (cs : List (SmallCharacter S)) (n : ℕ) (same : n ≡ (phase_table line).order)
      (count : length cs ≡ s.list.count)
      (characters : (v : (phase_table table).order ∣ n) (m : Fin s.list.count) (c : SmallCharacter S)
      → IsCharacterOf V.order_of V.value (phase_table table) n v (s.list.member m) (get_or cs (to_nat m) c)) where
    pub few_here : s.list.count ≤ 48
    few_here = Nat.le_trans (few_members s.list (full_list (phase_table table) fs s)) table.places_within

    pub small_here : (m : Fin s.list.count) → s.list.size m ≤ 48
    small_here m = size_few s.list (full_list (phase_table table) fs s) m table.places_within

    pub at_line : (m : Fin s.list.count) (c : SmallCharacter S) → IsCharacterOf V.order_of V.value (phase_table table) (phase_table line).order
        (divides_at group line table e.some (here_point e) p e.is_line (is_little_here e i l x is p f table little)) (s.list.member m) (get_or cs (to_nat m) c)
    at_line = subst (λ M. (v : (phase_table table).order ∣ M) (m : Fin s.list.count) (c : SmallCharacter S)
        → IsCharacterOf V.order_of V.value (phase_table table) M v (s.list.member m) (get_or cs (to_nat m) c)) same characters
        (divides_at group line table e.some (here_point e) p e.is_line (is_little_here e i l x is p f table little))

    abbrev pub here_readings : AreReadings V.order_of V.value (phase_table line) ts cs
    here_readings = readings_at group line table e.some (here_point e) p e.is_line (is_little_here e i l x is p f table little) ts
        (turns_here e i l x is start y at p f table ts are) V.order_of V.value s.list cs few_here small_here count at_line
