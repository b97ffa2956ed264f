-- By membership in the group.
use Rattle.std.proofs.Common.{◌≡◌, sym, ◌∙◌, ap, subst, List, ℕ, ◌<◌, length, get_or}
use Rattle.std.proofs.lemmas.List.{get_or_default}
use Rattle.irr_rat.specs.VectorMeaning.{vector}
use Rattle.irr_seitz.specs.OperationMeaning.{operation}
use Rattle.irr_seitz.specs.declared.op.Op.{Op}
use Rattle.irr_close.specs.StandsFor.{stands_for}
use Rattle.irr_little.proofs.Shifts.{entries_at}
use Rattle.irr_site.specs.Points.{fixing}
use Rattle.irr_site.proofs.Cosets.{some_op}
use Rattle.irr_site.proofs.OperationLists.{in_length, read_at}
use Rattle.irr_site.proofs.operations.fixes.Goals as goal

pub fixing_op-requires-clause-entries : goal.fixing_op-requires-clause-entries
fixing_op-requires-clause-entries c = entries_at c.ops-ops.result.now c.args.group.now.centrings.items
    c.ops-ops.ensures.canonical c.args.place c.index-ops-place.result
    (in_length c.ops-ops.result.now c.args.group.now.ops.items c.ops-ops.ensures.list c.args.place c.requires.place)
    c.index-ops-place.is

pub returns : goal.returns
returns c = (
  λ t d. subst (stands_for c.args.group.now) (same c d) (c.contains.ensures.0 t),
  λ h. c.contains.ensures.1 (subst (stands_for c.args.group.now) (sym (same c (some_op c.args.group.now)))
      (h (some_op c.args.group.now))),
)
  where
    same : (c : goal.After-contains) (d : Op) → operation c.fixing_op.result
        ≡ fixing (operation (get_or c.args.group.now.ops.items c.args.place d)) (vector c.args.x.now)
    same c d = c.fixing_op.ensures ∙ ap (λ (g : Op). fixing (operation g) (vector c.args.x.now))
        (read_at c.ops-ops.result.now c.args.group.now.ops.items c.ops-ops.ensures.list c.args.place
        c.index-ops-place.result d c.requires.place c.index-ops-place.is)
