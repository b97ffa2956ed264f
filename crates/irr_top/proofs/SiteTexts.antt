-- The text of the sites of a point, from those at the reduced wave vector.
--   content_order      the order of the content is that of the wave vector
--   site_text_at       the text is that of the sites
--   site_reply_of      the text is the reply for the group of generators
--   site_refused       the order that is needed is above the limit
use Rattle.std.proofs.Common.{◌≡◌, ap, sym, ◌∙◌, subst, refl, ℕ, ◌≤◌, List}
use Rattle.irr_space.specs.Operation.{Operation, Vector, WaveVector}
use Rattle.irr_space.specs.Reciprocal.{IsOrder, IsReduced, Sign}
use Rattle.irr_space.specs.Reciprocal.Sign.{minus}
use Rattle.irr_seitz.specs.PhaseMeaning.{sign_of}
use Rattle.irr_seitz.specs.declared.op.Op.{Op}
use Rattle.irr_seitz.specs.declared.phase.Phase.TheVariants.{Minus}
use Rattle.irr_close.specs.StandsFor.{stands_for}
use Rattle.irr_close.specs.declared.group.Group.{Group}
use Rattle.irr_check.proofs.OneTable.{order_unique}
use Rattle.irr_mult.specs.declared.error.WorkError.TheVariants.{OrderTooLarge}
use Rattle.irr_site.specs.Content.{IsRefusal, sites_content}
use Rattle.irr_site.specs.SiteContent.{IsSitesOf, SitesContent}
use Rattle.irr_site.specs.declared.part.Sites.{Sites}
use Rattle.irr_site_text.specs.SiteText.{site_text}
use Rattle.irr_top.specs.Answer.{AreWithin, IsTooLargeAt, order_limit}
use Rattle.irr_top.specs.GroupOf.{IsGroupOf, group_of}
use Rattle.irr_top.specs.SiteCommand.{IsSiteReply, IsSiteText}
use Rattle.irr_top.specs.Question.Question.{site}
use Rattle.irr_top.specs.declared.status.Status.TheVariants.{Done}
use Rattle.irr_top.proofs.Along.{reduced_along}
use Rattle.irr_top.proofs.FullTexts.{reduced_through}
use Rattle.irr_top.proofs.Orders.{first_above, one_within}
use Rattle.irr_top.proofs.SitesAlong.{sites_along}
use Rattle.irr_top.proofs.SmallTexts.{order_there}

-- the order of the table of the little group
pub content_order : (s : Sign) (G : Operation → Type 0) (x : Vector) (k : WaveVector) (n : ℕ) (sites : Sites)
    → IsSitesOf s G x k (sites_content n sites) → IsOrder G k n
content_order s G x k n sites is = subst (IsOrder G k) (is.same_order ∙ sym (ap (λ (c : SitesContent). c.order) is.content))
    is.is_table.is_order

pub site_text_at : (group : Group) (x : Vector) (k : WaveVector) (n m : ℕ) (sites : Sites) → IsReduced (stands_for group) k k
    → IsSitesOf (sign_of group.phase) (stands_for group) x k (sites_content n sites) → IsOrder (stands_for group) k m
    → (text : List ℕ) → text ≡ site_text 1 (sign_of group.phase) k x (sites_content m sites)
    → IsSiteText (sign_of group.phase) (stands_for group) x k text
site_text_at group x k n m sites reduced is order text is_text = record {
  wave = k;
  content = sites_content m sites;
  is_content = record {
    reduced = reduced;
    sites = subst (λ l. IsSitesOf (sign_of group.phase) (stands_for group) x k (sites_content l sites))
        (order_unique (stands_for group) k n m (content_order (sign_of group.phase) (stands_for group) x k n sites is) order) is;
  };
  is_text = is_text;
}

-- at a wave vector of the group of generators
module _ (group : Group) (gens : List Op) (is : IsGroupOf group gens) (x : Vector) (k w : WaveVector)
    (reduced : IsReduced (group_of gens) k w) where
  text_of : (text : List ℕ) → IsSiteText (sign_of group.phase) (stands_for group) x w text → IsSiteText minus (group_of gens) x k text
  text_of text t = subst (λ s. IsSiteText s (group_of gens) x k text) (sign_minus is.phase) record {
    wave = t.wave;
    content = t.content;
    is_content = record {
      reduced = reduced_through (group_of gens) k w t.wave reduced
          (reduced_along (stands_for group) (group_of gens) is.stands w t.wave t.is_content.reduced);
      sites = sites_along (stands_for group) (group_of gens) is.stands (sign_of group.phase) x t.wave t.content t.is_content.sites;
    };
    is_text = t.is_text;
  }
    where
      sign_minus : group.phase ≡ Minus → sign_of group.phase ≡ minus
      sign_minus e = ap sign_of e

  pub site_reply_of : (n : ℕ) → IsOrder (stands_for group) w n → n ≤ order_limit → (text : List ℕ)
      → IsSiteText (sign_of group.phase) (stands_for group) x w text
      → AreWithin (site x k) (group_of gens) × IsSiteReply (group_of gens) x k Done text
  site_reply_of n order within text t =
      (one_within (group_of gens) k n (order_there group gens is k w reduced n order) within, (refl, text_of text t))

  pub site_refused : (n : ℕ) → IsRefusal group w (OrderTooLarge n) → IsTooLargeAt (site x k) (group_of gens) n
  site_refused n r = first_above (site x k) (group_of gens) n (refl, order_there group gens is k w reduced n r.0) r.1
