use Rattle.std.proofs.Common.{◌≡◌, sym, ◌∙◌, ap₂, subst}
use Rattle.std.specs.Ordering.{MatchOrdering, ordering_then}
use Rattle.irr_space.specs.CanonicalOperation.{IsRotationBelow}
use Rattle.irr_seitz.specs.Rotation.{rotation_of}
use Rattle.irr_seitz.proofs.RotationOrder.{match_of_rotations}
use Rattle.irr_seitz.proofs.rotation.cmp.Goals as goal

pub returns : goal.returns
returns c = subst (λ o. MatchOrdering o (IsRotationBelow (rotation_of c.args.a.now) (rotation_of c.args.b.now)) (rotation_of c.args.a.now ≡ rotation_of c.args.b.now)
    (IsRotationBelow (rotation_of c.args.b.now) (rotation_of c.args.a.now)))
    (sym (c.then-2.ensures ∙ ap₂ ordering_then (c.then.ensures ∙ ap₂ ordering_then c.cmp_row.ensures c.cmp_row-2.ensures) c.cmp_row-3.ensures))
    (match_of_rotations c.args.a.now c.args.b.now)
