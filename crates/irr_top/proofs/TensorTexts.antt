-- The text of tensors.
--   tensor_text_at         the text is that of the tensors
--   tensor_reply_of        the text is the reply for the group of generators
use Rattle.std.proofs.Common.{◌↔◌, ◌≡◌, ap, subst, refl, ℕ, ◌≤◌, List}
use Rattle.irr_space.specs.Operation.{Operation}
use Rattle.irr_space.specs.Reciprocal.{IsOrder, Sign}
use Rattle.irr_space.specs.Reciprocal.Sign.{minus}
use Rattle.irr_seitz.specs.PhaseMeaning.{sign_of}
use Rattle.irr_seitz.specs.declared.op.Op.{Op}
use Rattle.irr_seitz.specs.declared.phase.Phase.TheVariants.{Minus}
use Rattle.irr_close.specs.StandsFor.{stands_for}
use Rattle.irr_close.specs.declared.group.Group.{Group}
use Rattle.irr_check.proofs.Along.{order_along}
use Rattle.irr_check.proofs.OneTable.{order_unique}
use Rattle.irr_input.specs.declared.form.Form.{Form}
use Rattle.irr_power.specs.Tensors.{IsTensorAt, IsTensorOf, origin, tensor_entry}
use Rattle.irr_power.specs.TensorText.{IsTensorContent, TensorContent, tensor_text}
use Rattle.irr_power.specs.declared.parts.TensorParts.{TensorParts}
use Rattle.irr_top.specs.Answer.{AreWithin, order_limit}
use Rattle.irr_top.specs.GroupOf.{IsGroupOf, group_of}
use Rattle.irr_top.specs.Question.Question.{tensor}
use Rattle.irr_top.specs.TensorCommand.{IsTensorReply, IsTensorText}
use Rattle.irr_top.specs.declared.status.Status.TheVariants.{Done}
use Rattle.irr_top.proofs.Orders.{one_within}
use Rattle.irr_top.proofs.ProductsAlong.{parts_along}

pub tensor_text_at : (group : Group) (f : Form) (n : ℕ) → IsOrder (stands_for group) origin n → (p : TensorParts)
    → IsTensorAt group f p → (text : List ℕ)
    → text ≡ tensor_text 1 (sign_of group.phase) record { form = f; order = n; tensor = tensor_entry p }
    → IsTensorText (sign_of group.phase) (stands_for group) f text
tensor_text_at group f n order p at text is = record {
  content = record { form = f; order = n; tensor = tensor_entry p };
  is_content = record {
    form = refl;
    is_order = order;
    tensor = subst (λ m. IsTensorOf (sign_of group.phase) (stands_for group) m f (tensor_entry p))
        (order_unique (stands_for group) origin at.order n at.is_order order) at.tensor;
  };
  is_text = is;
}

module _ (G H : Operation → Type 0) (same : (g : Operation) → G g ↔ H g) where
  content_along : (s : Sign) (f : Form) (c : TensorContent) → IsTensorContent s G f c → IsTensorContent s H f c
  content_along s f c is = record {
    form = is.form;
    is_order = order_along G H same origin c.order is.is_order;
    tensor = record {
      size = is.tensor.size;
      parts = λ positive. parts_along G H same s positive _ _ (is.tensor.parts positive);
    };
  }

-- for the group of generators
pub tensor_reply_of : (group : Group) (gens : List Op) → IsGroupOf group gens → (f : Form) (n : ℕ) → IsOrder (stands_for group) origin n
    → n ≤ order_limit → (text : List ℕ) → IsTensorText (sign_of group.phase) (stands_for group) f text
    → AreWithin (tensor f) (group_of gens) × IsTensorReply (group_of gens) f Done text
tensor_reply_of group gens is f n order within text t = (
  one_within (group_of gens) origin n (order_along (stands_for group) (group_of gens) is.stands origin n order) within,
  (
    refl,
    subst (λ s. IsTensorText s (group_of gens) f text) (sign_minus is.phase) record {
      content = t.content;
      is_content = content_along (stands_for group) (group_of gens) is.stands (sign_of group.phase) f t.content t.is_content;
      is_text = t.is_text;
    },
  ),
)
  where
    sign_minus : group.phase ≡ Minus → sign_of group.phase ≡ minus
    sign_minus e = ap sign_of e
