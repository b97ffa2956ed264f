-- A complete list, and its characters.
use Rattle.std.proofs.Common.{sym, ◌∙◌, ap, subst, ◌≤◌, length}
use native.Mathlib.Nat as Nat
use Rattle.irr_space.specs.PhaseTable.{phases_at}
use Rattle.irr_rep.specs.Twisted.{phase_table, place_count}
use Rattle.irr_climb.specs.Families.{AreRead}
use Rattle.irr_climb.specs.Lists.{IsSmallList}
use Rattle.irr_climb.proofs.ClimbedLevel.{few_members}
use Rattle.irr_climb.proofs.FullRows.{size_few}
use Rattle.irr_mult.proofs.StarFacts.{full_list}
use Rattle.irr_site.specs.Families.{HasRows}
use Rattle.irr_site.proofs.characters.table_characters.Goals as goal

pub complete_list-requires-clause-within : goal.complete_list-requires-clause-within
complete_list-requires-clause-within g c = subst (λ n. n ≤ 12000) (sym c.requires.order) c.args.order.now.limited

pub small_characters-requires : goal.small_characters-requires
small_characters-requires g c =
    let t = c.args.t.now in (
      place_count t,
      phase_table t,
      t.places_within,
      subst (IsSmallList (phase_table t)) (sym c.as_slice.ensures.value) c.in_ok-families.ensures,
    )

pub returns : goal.returns
returns g c =
    let t = c.args.t.now in
    let s = c.in_ok-families.ensures in
    let full = full_list (phase_table t) c.in_ok-families.families.items s in
    let own = Nat.dvd_refl (phase_table t).order in
    subst (λ n. HasRows g.S.Scalar.order_of g.S.Scalar.value n (phase_table t) c.in_ok-characters.characters.items) c.requires.order
    (record {
      positive = (phase_table t).order_positive;
      divides = own;
      list = s.list;
      complete = s.complete;
      ordered = s.ordered;
      full = full;
      few = Nat.le_trans (few_members s.list full) t.places_within;
      small = λ m. size_few s.list full m t.places_within;
      count = c.in_ok-characters.ensures.count ∙ ap length c.as_slice.ensures.value ∙ s.read.count;
      character = c.in_ok-characters.ensures.characters (place_count t) (phase_table t) own s.list
          (subst (AreRead (phase_table t).order (phases_at (phase_table t)) s.list) (sym c.as_slice.ensures.value)
          s.read);
    })
