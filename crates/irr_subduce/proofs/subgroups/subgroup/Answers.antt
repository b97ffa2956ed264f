use Rattle.std.proofs.Common.{◌≡◌, refl, sym, ◌∙◌, ap, subst}
use Rattle.std.specs.Prelude.{◌↔◌}
use Rattle.irr_space.specs.Operation.{Operation}
use Rattle.irr_space.specs.SpaceGroup.{Generated}
use Rattle.irr_close.specs.Limits.{operations}
use Rattle.irr_close.specs.StandsFor.{stands_for}
use Rattle.irr_close.specs.declared.group.Group.{Group}
use Rattle.irr_full.specs.Restriction.{IsSubgroup}
use Rattle.irr_setting.specs.Setting.{basis, origin}
use Rattle.irr_subduce.specs.Subgroup.{IsRefused}
use Rattle.irr_subduce.proofs.Memberships.{have_images, is_subgroup, Q, invertible}
use Rattle.irr_subduce.proofs.SubgroupImages.{image_of}
use Rattle.irr_subduce.proofs.Refusals.{refused_generators}
use Rattle.irr_subduce.proofs.subgroups.subgroup.Goals as goal

pub new-requires-clause-images : goal.new-requires-clause-images
new-requires-clause-images c = have_images c.args.group.now c.args.setting.now (λ s. absurd (cc (c.if-det_is_zero.ensures.1 s))) (c.has_columns.ensures.0 c.if-not-has_columns.false)
    c.args.gens.now (c.in_default.ensures.none refl) c.in-Ok.inner c.in-Ok.ensures.group

pub returns-in-Ok-clause-sub : goal.returns-in-Ok-clause-sub
returns-in-Ok-clause-sub c = record {
  inside = record { regular = λ s. absurd (cc (c.if-det_is_zero.ensures.1 s)); columns = c.has_columns.ensures.0 c.if-not-has_columns.false; images = c.in_default.ensures.none refl };
  accepted = c.in-Ok.ensures.accepted;
  generated = subst (λ (G : Group). (g : Operation) → stands_for G g ↔ Generated (operations c.args.gens.now) g) (sym c.new.ensures.group) c.in-Ok.ensures.group;
  phase = ap (λ (G : Group). G.phase) c.new.ensures.group ∙ c.in-Ok.ensures.phase ∙ c.phase.ensures;
  setting = c.new.ensures.setting;
  image = image_of (basis c.args.setting.now) (origin c.args.setting.now) (Q c.args.group.now c.args.setting.now (λ s. absurd (cc (c.if-det_is_zero.ensures.1 s))))
      (invertible c.args.group.now c.args.setting.now (λ s. absurd (cc (c.if-det_is_zero.ensures.1 s))));
  subgroup = subst (λ (G : Group). IsSubgroup (basis c.args.setting.now) (origin c.args.setting.now) (stands_for G) (stands_for c.args.group.now)
      (image_of (basis c.args.setting.now) (origin c.args.setting.now) (Q c.args.group.now c.args.setting.now (λ s. absurd (cc (c.if-det_is_zero.ensures.1 s))))
      (invertible c.args.group.now c.args.setting.now (λ s. absurd (cc (c.if-det_is_zero.ensures.1 s)))))) (sym c.new.ensures.group)
      (is_subgroup c.args.group.now c.args.setting.now (λ s. absurd (cc (c.if-det_is_zero.ensures.1 s))) (c.has_columns.ensures.0 c.if-not-has_columns.false)
      c.args.gens.now (c.in_default.ensures.none refl) c.in-Ok.inner c.in-Ok.ensures.group);
}

pub returns-in-Err-clause-refused : goal.returns-in-Err-clause-refused
returns-in-Err-clause-refused c = subst (IsRefused c.args.group.now c.args.setting.now c.args.gens.now) (sym c.of_close.ensures)
    (refused_generators c.args.group.now c.args.setting.now c.args.gens.now c.in-Err.error
    (record { regular = λ s. absurd (cc (c.if-det_is_zero.ensures.1 s)); columns = c.has_columns.ensures.0 c.if-not-has_columns.false; images = c.in_default.ensures.none refl })
    c.in-Err.ensures.refused)
