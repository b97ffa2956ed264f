-- The text of restrictions, from those at the reduced wave vector.
--   not_refused             an order within the limit is not refused
--   restriction_text_at     the text is that of the restrictions
--   subduce_reply_of        the text is the reply for the group of generators
--   subduce_refused         the order is above the limit
--   none_reply_of           no subgroup, in the group of generators
use Rattle.std.proofs.Common.{◌≡◌, ap, sym, subst, subst₂, refl, ℕ, ◌<◌, ◌≤◌, List, map}
use Rattle.std.specs.Prelude.{◌↔◌}
use Rattle.irr_space.specs.Operation.{Operation, WaveVector}
use Rattle.irr_space.specs.SpaceGroup.{Generated}
use Rattle.irr_space.specs.Reciprocal.{IsOrder, IsReduced, Sign}
use Rattle.irr_space.specs.Reciprocal.Sign.{minus}
use Rattle.irr_seitz.specs.PhaseMeaning.{sign_of}
use Rattle.irr_seitz.specs.declared.op.Op.{Op}
use Rattle.irr_seitz.specs.declared.phase.Phase.TheVariants.{Minus}
use Rattle.irr_close.specs.StandsFor.{stands_for}
use Rattle.irr_close.specs.declared.group.Group.{Group}
use Rattle.irr_cyc.specs.declared.orders.TheConstants.{ORDER_LIMIT}
use Rattle.irr_check.proofs.OneTable.{order_unique}
use Rattle.irr_full.specs.Restriction.{IsSubgroup}
use Rattle.irr_mult.specs.declared.error.WorkError.TheVariants.{OrderTooLarge}
use Rattle.irr_mult.specs.declared.part.RepParts.{RepParts}
use Rattle.irr_setting.specs.Setting.{basis, origin}
use Rattle.irr_subduce.specs.Restrictions.{AreRestrictions, AreRestrictionsAt, IsOrderRefused, rep_content}
use Rattle.irr_subduce.specs.SubduceText.{IsSubduceContent, SubduceContent, subduce_text}
use Rattle.irr_subduce.specs.declared.sub.Sub.{Sub}
use Rattle.irr_input.specs.Stages.{SubContent}
use Rattle.irr_top.specs.Answer.{AreWithin, IsTooLargeAt, order_limit}
use Rattle.irr_top.specs.GroupOf.{IsGroupOf, group_of}
use Rattle.irr_top.specs.RefusalText.{refusal_text}
use Rattle.irr_top.specs.Question.Question.{subduce}
use Rattle.irr_top.specs.Sections.{IsSubOf}
use Rattle.irr_top.specs.SubgroupOf.{GivesNone, GivesSubgroup, subgroup_of}
use Rattle.irr_top.specs.SubduceCommand.{IsRestrictionText, IsSubduceReply}
use Rattle.irr_top.specs.SubduceCommand.IsSubduceReply.{none, restrictions}
use Rattle.irr_top.specs.declared.status.Status.{Status}
use Rattle.irr_top.specs.declared.status.Status.TheVariants.{Done}
use Rattle.irr_top.proofs.FullTexts.{reduced_through}
use Rattle.irr_top.proofs.OneSubgroup.{subgroup_or_none}
use Rattle.irr_top.proofs.Orders.{first_above, within_or_above}
use Rattle.irr_top.proofs.SmallTexts.{order_there}
use Rattle.irr_top.proofs.SubgroupsAlong.{content_along, gives_along, none_along, subgroup_along}
use Rattle.irr_top.proofs.Subgroups.{gives_of}

pub not_refused : (G : Operation → Type 0) (k : WaveVector) (n : ℕ) {m : ℕ} → IsOrder G k n → n ≤ ORDER_LIMIT
    → IsOrderRefused G k (OrderTooLarge m) → ⊥
not_refused G k n {m} o within r = within_or_above n ORDER_LIMIT within (subst (λ x. ORDER_LIMIT < x) (order_unique G k m n r.1 o) r.0)

pub restriction_text_at : (group : Group) (sub : Sub) (k : WaveVector) (n : ℕ) → IsReduced (stands_for group) k k
    → IsOrder (stands_for group) k n → (rs : List RepParts) → AreRestrictionsAt group sub k rs → (text : List ℕ)
    → text ≡ subduce_text 1 (sign_of group.phase) record { order = n; wave = k; reps = map rep_content rs }
    → IsRestrictionText (sign_of group.phase) (stands_for group) (stands_for sub.group) (basis sub.setting) (origin sub.setting) k text
restriction_text_at group sub k n reduced order rs are text is = record {
  image = are.image;
  subgroup = are.subgroup;
  content = record { order = n; wave = k; reps = map rep_content rs };
  is_content = record {
    wave = reduced;
    is_order = order;
    restrictions = subst (λ m. AreRestrictions (sign_of group.phase) (stands_for group) (stands_for sub.group) are.image k m (map rep_content rs))
        (order_unique (stands_for group) k are.order n are.is_order order) are.restrictions;
  };
  is_text = is;
}

-- at a wave vector of the group of generators
module _ (group : Group) (gens : List Op) (is : IsGroupOf group gens) where
  pub none_reply_of : (k : WaveVector) (S : SubContent) (s : Status) → GivesNone (stands_for group) S s
      → AreWithin (subduce k S) (group_of gens) × ((text : List ℕ) → text ≡ refusal_text s → IsSubduceReply (group_of gens) k S s text)
  none_reply_of k S s gives = (
    λ i n needed. absurd (subgroup_or_none (group_of gens) S needed.1 no_subgroup),
    λ text is_text. subst (IsSubduceReply (group_of gens) k S s) (sym is_text) (none no_subgroup),
  )
    where
      no_subgroup : GivesNone (group_of gens) S s
      no_subgroup = none_along (stands_for group) (group_of gens) is.stands S gives

  module _ (k w : WaveVector) (reduced : IsReduced (group_of gens) k w) (S : SubContent) (sub : Sub) (of : IsSubOf group S sub) where
    gives : GivesSubgroup (group_of gens) S
    gives = gives_along (stands_for group) (group_of gens) is.stands S (gives_of group S sub of)

    inner : (g : Operation) → stands_for sub.group g ↔ subgroup_of S g
    inner g = subst (λ os. stands_for sub.group g ↔ Generated os g) of.are (of.is_sub.generated g)

    text_of : (text : List ℕ)
        → IsRestrictionText (sign_of group.phase) (stands_for group) (stands_for sub.group) (basis sub.setting) (origin sub.setting) w text
        → IsRestrictionText minus (group_of gens) (subgroup_of S) S.basis S.origin k text
    text_of text t = subst (λ s. IsRestrictionText s (group_of gens) (subgroup_of S) S.basis S.origin k text) (sign_minus is.phase) record {
      image = t.image;
      subgroup = subst₂ (λ P p. IsSubgroup P p (subgroup_of S) (group_of gens) t.image) of.is_basis of.is_origin
          (subgroup_along (stands_for group) (group_of gens) (stands_for sub.group) (subgroup_of S) is.stands inner (basis sub.setting)
          (origin sub.setting) t.image t.subgroup);
      content = t.content;
      is_content = through (content_along (stands_for group) (group_of gens) (stands_for sub.group) (subgroup_of S) is.stands inner
          (sign_of group.phase) t.image w t.content t.is_content);
      is_text = t.is_text;
    }
      where
        sign_minus : group.phase ≡ Minus → sign_of group.phase ≡ minus
        sign_minus e = ap sign_of e

        through : {s : Sign} {image : Operation → Operation} {c : SubduceContent} → IsSubduceContent s (group_of gens) (subgroup_of S) image w c
            → IsSubduceContent s (group_of gens) (subgroup_of S) image k c
        through {c = c} p = record {
          wave = reduced_through (group_of gens) k w c.wave reduced p.wave;
          is_order = p.is_order;
          restrictions = p.restrictions;
        }

    pub subduce_reply_of : (n : ℕ) → IsOrder (stands_for group) w n → n ≤ order_limit → (text : List ℕ)
        → IsRestrictionText (sign_of group.phase) (stands_for group) (stands_for sub.group) (basis sub.setting) (origin sub.setting) w text
        → AreWithin (subduce k S) (group_of gens) × IsSubduceReply (group_of gens) k S Done text
    subduce_reply_of n order within text t = (
      λ i m needed. subst (λ x. x ≤ order_limit) (order_unique (group_of gens) k n m (order_there group gens is k w reduced n order) needed.2) within,
      restrictions record { gives = gives; is_restriction = text_of text t },
    )

    pub subduce_refused : (n : ℕ) → IsOrderRefused (stands_for group) w (OrderTooLarge n) → IsTooLargeAt (subduce k S) (group_of gens) n
    subduce_refused n r = first_above (subduce k S) (group_of gens) n (refl, gives, order_there group gens is k w reduced n r.1) r.0
