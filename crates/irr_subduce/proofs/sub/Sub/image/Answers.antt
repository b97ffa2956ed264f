use Rattle.std.proofs.Common.{refl, subst}
use Rattle.std.proofs.Math.Logic.{∥∥₁_elim}
use Rattle.irr_space.specs.Operation.{Operation}
use Rattle.irr_seitz.specs.OperationMeaning.{operation}
use Rattle.irr_close.specs.StandsFor.{stands_for}
use Rattle.irr_full.proofs.Images.{image_unique}
use Rattle.irr_setting.specs.Setting.{basis, origin}
use Rattle.irr_subduce.proofs.Memberships.{small_member}
use Rattle.irr_subduce.proofs.sub.Sub.image.Goals as goal

pub image-requires-clause-op : goal.image-requires-clause-op
image-requires-clause-op c = small_member c.args.self.now.group c.args.op.now c.requires.member c.requires.numerators

pub unreachable-requires : goal.unreachable-requires
unreachable-requires c = ∥∥₁_elim c.args.self.now.images (λ a b. absurd a) (λ f. let t = f (operation c.args.op.now) c.requires.member in c.in-None.ensures.none refl t.0 t.1)

pub returns-clause-image : goal.returns-clause-image
returns-clause-image c = c.in-Some.ensures.some.is_image

pub returns-clause-member : goal.returns-clause-member
returns-clause-member c = λ group gens s. subst (stands_for group)
    (image_unique (basis c.args.self.now.setting) (origin c.args.self.now.setting) s.subgroup.inverse s.subgroup.basis-inverse (operation c.args.op.now) (s.image (operation c.args.op.now)) (operation c.in-Some.made)
    (s.subgroup.is_image (operation c.args.op.now) c.requires.member) c.in-Some.ensures.some.is_image)
    (s.subgroup.member (operation c.args.op.now) c.requires.member)
