-- The text of direct products, from those at the reduced wave vectors.
--   refused_or_ordered     an order within the limit is not refused
--   product_text_at        the text is that of the direct products
--   product_reply_of       the text is the reply for the group of generators
--   product_refused        of the orders that are needed, one is the first above the limit
use Rattle.std.proofs.Common.{◌≡◌, ap, subst, refl, ℕ, ◌<◌, ◌≤◌, inl, inr, List, map, arith}
use Rattle.std.proofs.lemmas.Nat.Gcd.{le_of_dvd}
use Rattle.irr_space.specs.Operation.{Operation, WaveVector}
use Rattle.irr_space.specs.Reciprocal.{IsOrder, IsReduced, Sign}
use Rattle.irr_space.specs.Reciprocal.Sign.{minus}
use Rattle.irr_cocycle.proofs.Reciprocals.{equivalent_sym}
use Rattle.irr_seitz.specs.PhaseMeaning.{sign_of}
use Rattle.irr_seitz.specs.declared.op.Op.{Op}
use Rattle.irr_seitz.specs.declared.phase.Phase.TheVariants.{Minus}
use Rattle.irr_close.specs.StandsFor.{stands_for}
use Rattle.irr_close.specs.declared.group.Group.{Group}
use Rattle.irr_cyc.specs.declared.orders.TheConstants.{ORDER_LIMIT}
use Rattle.irr_check.proofs.OneTable.{order_unique}
use Rattle.irr_mult.specs.declared.error.WorkError.TheVariants.{OrderTooLarge}
use Rattle.irr_mult.specs.declared.part.PairParts.{PairParts}
use Rattle.irr_product.specs.Products.{AreProducts, AreProductsAt, IsPairOrder, IsRefused, pair_content}
use Rattle.irr_product.specs.ProductText.{IsProductContent, ProductContent, product_text}
use Rattle.irr_top.proofs.ProductsAlong.{content_along, pair_order_along}
use Rattle.irr_product.proofs.PairOrders.{pair_order-first, pair_order-positive, pair_order_unique}
use Rattle.irr_top.specs.Answer.{AreWithin, IsTooLargeAt, order_limit}
use Rattle.irr_top.specs.GroupOf.{IsGroupOf, group_of}
use Rattle.irr_top.specs.ProductCommand.{IsProductReply, IsProductText}
use Rattle.irr_top.specs.Question.{IsNeededOrder}
use Rattle.irr_top.specs.Question.Question.{product}
use Rattle.irr_top.specs.declared.status.Status.TheVariants.{Done}
use Rattle.irr_top.proofs.FullTexts.{reduced_through}
use Rattle.irr_top.proofs.Groups.{is_group, period_at}
use Rattle.irr_top.proofs.Orders.{within_or_above}
use Rattle.irr_top.proofs.SmallTexts.{order_there}

-- the order of the first wave vector is at most that of both
first_within : (G : Operation → Type 0) (k l : WaveVector) (n m : ℕ) → IsPairOrder G k l n → IsOrder G k m → m ≤ n
first_within G k l n m o f = le_of_dvd (pair_order-positive G k l n o) (pair_order-first G k l n m o f)

pub refused_or_ordered : (G : Operation → Type 0) (k l : WaveVector) (n : ℕ) {m : ℕ} → IsPairOrder G k l n → n ≤ ORDER_LIMIT
    → IsRefused G k l (OrderTooLarge m) → ⊥
refused_or_ordered G k l n {m} o within r = elim (r.1) [
  | inl first ↦ (let f : m ≤ n = first_within G k l n m o first in above m n ORDER_LIMIT f within r.0)
  | inr both ↦ within_or_above n ORDER_LIMIT within (subst (λ x. ORDER_LIMIT < x) (pair_order_unique G k l m n both.0 o) r.0)
]
  where
    above : (m n limit : ℕ) → m ≤ n → n ≤ limit → limit < m → ⊥
    above m n limit f w h = omega arith

pub product_text_at : (group : Group) (k l : WaveVector) (n : ℕ) → IsReduced (stands_for group) k k
    → IsReduced (stands_for group) l l → IsPairOrder (stands_for group) k l n → (ps : List PairParts)
    → AreProductsAt group k l ps → (text : List ℕ)
    → text ≡ product_text 1 (sign_of group.phase) record { left = k; right = l; order = n; pairs = map pair_content ps }
    → IsProductText (sign_of group.phase) (stands_for group) k l text
product_text_at group k l n first second order ps are text is = record {
  content = record { left = k; right = l; order = n; pairs = map pair_content ps };
  is_content = record {
    left = first;
    right = second;
    is_order = order;
    products = subst (λ m. AreProducts (sign_of group.phase) (stands_for group) k l m (map pair_content ps))
        (pair_order_unique (stands_for group) k l are.order n are.is_order order) are.products;
  };
  is_text = is;
}

-- at wave vectors of the group of generators
module _ (group : Group) (gens : List Op) (is : IsGroupOf group gens) (k l w v : WaveVector)
    (first : IsReduced (group_of gens) k w) (second : IsReduced (group_of gens) l v) where
  pub pair_order_there : (n : ℕ) → IsPairOrder (stands_for group) w v n → IsPairOrder (group_of gens) k l n
  pair_order_there n o =
      let at = pair_order_along (stands_for group) (group_of gens) is.stands w v n o in record {
        exponent = at.exponent;
        first = at.first;
        second = at.second;
        common = at.common;
        is_exponent = at.is_exponent;
        is_first = period_at (group_of gens) (is_group group gens is) w k
            (equivalent_sym (group_of gens) w k first.equivalent) at.first at.is_first;
        is_second = period_at (group_of gens) (is_group group gens is) v l
            (equivalent_sym (group_of gens) v l second.equivalent) at.second at.is_second;
        first_divides = at.first_divides;
        second_divides = at.second_divides;
        least = at.least;
        is_product = at.is_product;
      }

  content_through : (s : Sign) (c : ProductContent) → IsProductContent s (group_of gens) w v c
      → IsProductContent s (group_of gens) k l c
  content_through s c p = record {
    left = reduced_through (group_of gens) k w c.left first p.left;
    right = reduced_through (group_of gens) l v c.right second p.right;
    is_order = p.is_order;
    products = p.products;
  }

  text_of : (text : List ℕ) → IsProductText (sign_of group.phase) (stands_for group) w v text
      → IsProductText minus (group_of gens) k l text
  text_of text t = subst (λ s. IsProductText s (group_of gens) k l text) (sign_minus is.phase) record {
    content = t.content;
    is_content = content_through (sign_of group.phase) t.content
        (content_along (stands_for group) (group_of gens) is.stands (sign_of group.phase) w v t.content t.is_content);
    is_text = t.is_text;
  }
    where
      sign_minus : group.phase ≡ Minus → sign_of group.phase ≡ minus
      sign_minus e = ap sign_of e

  all_within : (n : ℕ) → IsPairOrder (group_of gens) k l n → n ≤ order_limit → AreWithin (product k l) (group_of gens)
  all_within n o within i m (inl p) = at_most m n order_limit (first_within (group_of gens) k l n m o p.1) within
    where
      at_most : (m n limit : ℕ) → m ≤ n → n ≤ limit → m ≤ limit
      at_most m n limit f w = omega arith
  all_within n o within i m (inr p) = subst (λ x. x ≤ order_limit) (pair_order_unique (group_of gens) k l n m o p.1) within

  pub product_reply_of : (n : ℕ) → IsPairOrder (stands_for group) w v n → n ≤ order_limit → (text : List ℕ)
      → IsProductText (sign_of group.phase) (stands_for group) w v text
      → AreWithin (product k l) (group_of gens) × IsProductReply (group_of gens) k l Done text
  product_reply_of n order within text t = (all_within n (pair_order_there n order) within, (refl, text_of text t))

  pub product_refused : (n : ℕ) → IsRefused (stands_for group) w v (OrderTooLarge n)
      → IsTooLargeAt (product k l) (group_of gens) n
  product_refused n r = elim (r.1) [
    | inl one ↦ record {
      place = 0;
      is_order = inl (refl, order_there group gens is k w first n one);
      above = r.0;
      first = λ i m lt. absurd (omega (arith, lt));
    }
    | inr both ↦ record {
      place = 1;
      is_order = inr (refl, pair_order_there n both.0);
      above = r.0;
      first = λ i m lt o. earlier i m lt both.1 both.2 both.3 o;
    }
  ]
    where
      earlier : (i m : ℕ) → i < 1 → (f : ℕ) → IsOrder (stands_for group) w f → f ≤ ORDER_LIMIT
          → IsNeededOrder (product k l) (group_of gens) i m → m ≤ order_limit
      earlier i m lt f o within (inl p) = subst (λ x. x ≤ order_limit)
          (order_unique (group_of gens) k f m (order_there group gens is k w first f o) p.1) within
      earlier i m lt f o within (inr p) = absurd (let e = p.0 in omega (arith, lt, e))
