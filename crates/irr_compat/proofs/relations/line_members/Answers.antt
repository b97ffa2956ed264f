-- A complete list, and its characters over its own order.
use Rattle.std.proofs.Common.{sym, ◌∙◌, ap, subst, length}
use Rattle.std.specs.Int.{◌∣◌}
use native.Mathlib.Nat as Nat
use Rattle.irr_space.specs.PhaseTable.{phases_at}
use Rattle.irr_rep.specs.Twisted.{phase_table, place_count}
use Rattle.irr_climb.specs.Families.{AreRead}
use Rattle.irr_climb.specs.Lists.{IsSmallList}
use Rattle.irr_compat.proofs.LineLists.{line_list_here}
use Rattle.irr_compat.proofs.relations.line_members.Goals as goal

pub small_characters-requires : goal.small_characters-requires
small_characters-requires g c =
    let t = c.args.line.now in (
      place_count t,
      phase_table t,
      t.places_within,
      subst (λ m. (phase_table t).order ∣ m) (sym (c.in_ok-order.ensures ∙ c.order.ensures.order)) (Nat.dvd_refl (phase_table t).order),
      subst (IsSmallList (phase_table t)) (sym c.deref.ensures.value) c.in_ok-families.ensures,
    )

pub returns : goal.returns
returns g c =
    let t = c.args.line.now in
    let s = c.in_ok-families.ensures in
    line_list_here (phase_table t) t.places_within c.in_ok-families.families.items s c.in_ok-order.order.n (c.in_ok-order.ensures ∙ c.order.ensures.order)
    c.in_ok-members.members.items (c.in_ok-members.ensures.count ∙ ap length c.deref.ensures.value ∙ s.read.count)
    (λ v m x. c.in_ok-members.ensures.characters (place_count t) (phase_table t) v s.list
    (subst (AreRead (phase_table t).order (phases_at (phase_table t)) s.list) (sym c.deref.ensures.value) s.read) m x)
