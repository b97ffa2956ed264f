-- The text of squares, from those at the reduced wave vector.
--   not_refused            an order within the limit is not refused
--   squares_along          what holds of a group of operations holds of each with the same operations
--   square_text_at         the text is that of the squares
--   square_reply_of        the text is the reply for the group of generators
--   square_refused         the order is above the limit
use Rattle.std.proofs.Common.{◌↔◌, ◌≡◌, ap, subst, refl, ℕ, ◌<◌, ◌≤◌, List, map}
use Rattle.irr_number.specs.Number.{numbers}
use Rattle.irr_algebra.specs.Matrix.{Matrix}
use Rattle.irr_space.specs.Operation.{Operation, WaveVector}
use Rattle.irr_space.specs.Reciprocal.{IsOrder, IsReduced, Sign}
use Rattle.irr_space.specs.Reciprocal.Sign.{minus}
use Rattle.irr_seitz.specs.PhaseMeaning.{sign_of}
use Rattle.irr_seitz.specs.declared.op.Op.{Op}
use Rattle.irr_seitz.specs.declared.phase.Phase.TheVariants.{Minus}
use Rattle.irr_close.specs.StandsFor.{stands_for}
use Rattle.irr_close.specs.declared.group.Group.{Group}
use Rattle.irr_cyc.specs.declared.orders.TheConstants.{ORDER_LIMIT}
use Rattle.irr_check.proofs.Along.{order_along}
use Rattle.irr_check.proofs.OneTable.{order_unique}
use Rattle.irr_full_text.proofs.Along.{full_along, reduced_along, star_along}
use Rattle.irr_mult.specs.declared.error.WorkError.TheVariants.{OrderTooLarge}
use Rattle.irr_power.specs.Squares.{AreSquares, AreSquaresAt, IsRefused, IsSquareOf, SquareEntry, square_entry}
use Rattle.irr_power.specs.SquareText.{IsSquareContent, SquareContent, square_text}
use Rattle.irr_power.specs.declared.parts.SquareParts.{SquareParts}
use Rattle.irr_top.specs.Answer.{AreWithin, IsTooLargeAt, order_limit}
use Rattle.irr_top.specs.GroupOf.{IsGroupOf, group_of}
use Rattle.irr_top.specs.Question.Question.{square}
use Rattle.irr_top.specs.SquareCommand.{IsSquareReply, IsSquareText}
use Rattle.irr_top.specs.declared.status.Status.TheVariants.{Done}
use Rattle.irr_top.proofs.FullTexts.{reduced_through}
use Rattle.irr_top.proofs.Orders.{first_above, one_within, within_or_above}
use Rattle.irr_top.proofs.ProductsAlong.{parts_along}
use Rattle.irr_top.proofs.SmallTexts.{order_there}

pub not_refused : (G : Operation → Type 0) (k : WaveVector) (n : ℕ) {m : ℕ} → IsOrder G k n → n ≤ ORDER_LIMIT
    → IsRefused G k (OrderTooLarge m) → ⊥
not_refused G k n {m} o within r = within_or_above n ORDER_LIMIT within (subst (λ x. ORDER_LIMIT < x) (order_unique G k m n r.1 o) r.0)

module _ (G H : Operation → Type 0) (same : (g : Operation) → G g ↔ H g) where
  square_along : (s : Sign) {M d : ℕ} (m : ℕ) (F : Operation → Matrix (numbers M) d d) (p : SquareEntry)
      → IsSquareOf s G M m F p → IsSquareOf s H M m F p
  square_along s m F p is = record {
    label = is.label;
    symmetric_size = is.symmetric_size;
    antisymmetric_size = is.antisymmetric_size;
    symmetric = λ positive. parts_along G H same s positive _ _ (is.symmetric positive);
    antisymmetric = λ positive. parts_along G H same s positive _ _ (is.antisymmetric positive);
  }

  pub squares_along : (s : Sign) (k : WaveVector) (M : ℕ) (ps : List SquareEntry) → AreSquares s G k M ps → AreSquares s H k M ps
  squares_along s k M ps are = record {
    star = star_along G H same are.star;
    list = are.list;
    complete = are.complete;
    ordered = are.ordered;
    divides = are.divides;
    full = are.full;
    is_full = λ m. full_along G H same are.star M are.divides _ (are.full m) (are.is_full m);
    count = are.count;
    square = λ m none. square_along s _ (are.full m) _ (are.square m none);
  }

  content_along : (s : Sign) (k : WaveVector) (c : SquareContent) → IsSquareContent s G k c → IsSquareContent s H k c
  content_along s k c is = record {
    wave = reduced_along G H same k c.wave is.wave;
    is_order = order_along G H same c.wave c.order is.is_order;
    squares = squares_along s c.wave c.order c.squares is.squares;
  }

pub square_text_at : (group : Group) (k : WaveVector) (n : ℕ) → IsReduced (stands_for group) k k → IsOrder (stands_for group) k n
    → (ps : List SquareParts) → AreSquaresAt group k ps → (text : List ℕ)
    → text ≡ square_text 1 (sign_of group.phase) record { wave = k; order = n; squares = map square_entry ps }
    → IsSquareText (sign_of group.phase) (stands_for group) k text
square_text_at group k n reduced order ps are text is = record {
  content = record { wave = k; order = n; squares = map square_entry ps };
  is_content = record {
    wave = reduced;
    is_order = order;
    squares = subst (λ m. AreSquares (sign_of group.phase) (stands_for group) k m (map square_entry ps))
        (order_unique (stands_for group) k are.order n are.is_order order) are.squares;
  };
  is_text = is;
}

-- at a wave vector of the group of generators
module _ (group : Group) (gens : List Op) (is : IsGroupOf group gens) (k w : WaveVector) (reduced : IsReduced (group_of gens) k w) where
  text_of : (text : List ℕ) → IsSquareText (sign_of group.phase) (stands_for group) w text → IsSquareText minus (group_of gens) k text
  text_of text t = subst (λ s. IsSquareText s (group_of gens) k text) (sign_minus is.phase) record {
    content = t.content;
    is_content = through (content_along (stands_for group) (group_of gens) is.stands (sign_of group.phase) w t.content t.is_content);
    is_text = t.is_text;
  }
    where
      sign_minus : group.phase ≡ Minus → sign_of group.phase ≡ minus
      sign_minus e = ap sign_of e

      through : {s : Sign} {c : SquareContent} → IsSquareContent s (group_of gens) w c → IsSquareContent s (group_of gens) k c
      through {s} {c} p = record {
        wave = reduced_through (group_of gens) k w c.wave reduced p.wave;
        is_order = p.is_order;
        squares = p.squares;
      }

  pub square_reply_of : (n : ℕ) → IsOrder (stands_for group) w n → n ≤ order_limit → (text : List ℕ)
      → IsSquareText (sign_of group.phase) (stands_for group) w text
      → AreWithin (square k) (group_of gens) × IsSquareReply (group_of gens) k Done text
  square_reply_of n order within text t = (
    one_within (group_of gens) k n (order_there group gens is k w reduced n order) within,
    (refl, text_of text t),
  )

  pub square_refused : (n : ℕ) → IsRefused (stands_for group) w (OrderTooLarge n) → IsTooLargeAt (square k) (group_of gens) n
  square_refused n r = first_above (square k) (group_of gens) n (refl, order_there group gens is k w reduced n r.1) r.0
