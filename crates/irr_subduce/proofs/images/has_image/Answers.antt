use Rattle.std.proofs.Common.{refl}
use Rattle.irr_seitz.specs.OperationMeaning.{operation}
use Rattle.irr_subduce.proofs.Memberships.{image_decides, no_image}
use Rattle.irr_subduce.proofs.images.has_image.Goals as goal

pub returns-in-Some : goal.returns-in-Some
returns-in-Some c =
    let t = image_decides c.args.group.now c.args.setting.now c.requires.regular (operation c.args.op.now) (operation c.in-Some.made) c.in-Some.ensures.some in
    (λ e. t.0 (c.contains.ensures.0 e), λ h. c.contains.ensures.1 (t.1 h))

pub returns-in-None : goal.returns-in-None
returns-in-None c = (λ e. absurd (cc e), λ h. absurd (no_image c.args.group.now c.args.setting.now (operation c.args.op.now) (c.in-None.ensures.none refl) h))
