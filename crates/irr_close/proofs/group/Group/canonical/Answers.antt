use Rattle.std.proofs.Common.{◌≡◌, sym, subst, refl, true, false, List}
use Rattle.irr_seitz.specs.Rotation.{rotation_of}
use Rattle.irr_seitz.specs.declared.op.Op.{Op}
use Rattle.irr_close.specs.Closing.{HasRotation}
use Rattle.irr_close.specs.StandsFor.{stands_for}
use Rattle.irr_close.proofs.Untruncated.{untruncated}
use Rattle.irr_close.proofs.Members.{has_rotation, rotation_has}
use Rattle.irr_close.proofs.group.Group.canonical.Goals as goal

pub returns-in-Some-clause-none : goal.returns-in-Some-clause-none
unfolding stands_for
returns-in-Some-clause-none c = (
  λ e. absurd (let t : true ≡ false = e in cc),
  λ h.
      let there : HasRotation c.args.self.now.ops.items (rotation_of c.args.rot.now) = subst (λ (xs : List Op). HasRotation xs
      (rotation_of c.args.rot.now)) c.as_slice.ensures.value (c.in-Some.k, c.in-Some.ensures.within, c.in-Some.ensures.found) in
      let g = has_rotation c.args.self.now.ops.items c.args.self.now.centrings.items
      (untruncated c.args.self.now.ops.items c.args.self.now.centrings.items c.args.self.now.form) (rotation_of c.args.rot.now) there in
      absurd (h g.0 g.1 g.2),
)

pub returns-in-None-clause-none : goal.returns-in-None-clause-none
unfolding stands_for
returns-in-None-clause-none c = (
  λ _ g s r. c.in-None.ensures.none refl (subst (λ (xs : List Op). HasRotation xs (rotation_of c.args.rot.now)) (sym c.as_slice.ensures.value)
      (subst (HasRotation c.args.self.now.ops.items) r (rotation_has c.args.self.now.ops.items c.args.self.now.centrings.items g s))),
  λ h. refl,
)
