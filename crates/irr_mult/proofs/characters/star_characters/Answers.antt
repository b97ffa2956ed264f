-- The table, the list and its characters make a star with its characters.
use Rattle.std.proofs.Common.{sym, ◌∙◌, ap, subst, length}
use native.Mathlib.Nat as Nat
use Rattle.irr_space.specs.PhaseTable.{phases_at}
use Rattle.irr_seitz.specs.PhaseMeaning.{sign_of}
use Rattle.irr_rep.specs.Twisted.{phase_table, place_count}
use Rattle.irr_kvec.specs.WaveMeaning.{wave_vector}
use Rattle.irr_close.specs.StandsFor.{stands_for}
use Rattle.irr_climb.specs.Families.{AreRead}
use Rattle.irr_climb.specs.Lists.{IsSmallList}
use Rattle.irr_climb.proofs.ClimbedLevel.{few_members}
use Rattle.irr_climb.proofs.FullRows.{size_few}
use Rattle.irr_mult.specs.Traced.{StarOn}
use Rattle.irr_mult.proofs.StarFacts.{full_list, order_divides, star_here, steps_here}
use Rattle.irr_mult.proofs.characters.star_characters.Goals as goal

pub little_table-requires-clause-order : goal.little_table-requires-clause-order
little_table-requires-clause-order g c =
    let r = c.requires.order in
    let order = c.args.order.now in
    (r.0, r.1, Nat.le_trans (Nat.le_of_dvd order.positive r.2) order.limited)

pub complete_list-requires-clause-steps : goal.complete_list-requires-clause-steps
complete_list-requires-clause-steps g c =
    let r = c.requires.order in
    steps_here c.args.group.now c.args.wave.now c.in_ok-table.table c.in_ok-table.ensures c.args.order.now.n r.0 r.1 r.2

pub complete_list-requires-clause-within : goal.complete_list-requires-clause-within
complete_list-requires-clause-within g c =
    let r = c.requires.order in
    let order = c.args.order.now in
    Nat.le_trans (Nat.le_of_dvd order.positive
    (order_divides c.args.group.now c.args.wave.now c.in_ok-table.table c.in_ok-table.ensures order.n r.0 r.1 r.2))
    order.limited

pub small_characters-requires : goal.small_characters-requires
small_characters-requires g c =
    let r = c.requires.order in
    let t = c.in_ok-table.table in (
      place_count t,
      phase_table t,
      t.places_within,
      order_divides c.args.group.now c.args.wave.now t c.in_ok-table.ensures c.args.order.now.n r.0 r.1 r.2,
      subst (IsSmallList (phase_table t)) (sym c.as_slice.ensures.value) c.in_ok-families.ensures,
    )

pub returns-clause-characters : goal.returns-clause-characters
returns-clause-characters g c =
    let r = c.requires.order in
    let group = c.args.group.now in
    let wave = c.args.wave.now in
    let order = c.args.order.now in
    let t = c.in_ok-table.table in
    let little = c.in_ok-table.ensures in
    let arms = c.in_ok-arms.ensures.arms in
    let s = c.in_ok-families.ensures in
    let full = full_list (phase_table t) c.in_ok-families.families.items s in
    let divides = order_divides group wave t little order.n r.0 r.1 r.2 in record {
      star = subst (StarOn (sign_of group.phase) (stands_for group) (wave_vector wave) (phase_table t)) arms.1
          (star_here group wave arms.0 t arms.2 little);
      characters = record {
        positive = order.positive;
        divides = divides;
        list = s.list;
        few = Nat.le_trans (few_members s.list full) t.places_within;
        small = λ m. size_few s.list full m t.places_within;
        few_arms = c.in_ok-arms.ensures.few;
        count = c.in_ok-characters.ensures.count ∙ ap length c.as_slice.ensures.value ∙ s.read.count;
        character = c.in_ok-characters.ensures.characters (place_count t) (phase_table t) divides s.list
            (subst (AreRead (phase_table t).order (phases_at (phase_table t)) s.list) (sym c.as_slice.ensures.value)
            s.read);
      };
      complete = s.complete;
      ordered = s.ordered;
    }
