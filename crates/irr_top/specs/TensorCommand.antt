-- `tensor`: the tensors of a form.
--   IsTensorText s G f text     the text is that of the tensors of the form f in the group G, for the sign s of the phase
--   IsTensorReply G f s text    s is Done, and the text is that of the tensors, for the sign minus
use Rattle.std.specs.Prelude.{ℕ, ◌≡◌, List}
use Rattle.irr_space.specs.Operation.{Operation}
use Rattle.irr_space.specs.Reciprocal.{Sign}
use Rattle.irr_space.specs.Reciprocal.Sign.{minus}
use Rattle.irr_input.specs.declared.form.Form.{Form}
use Rattle.irr_power.specs.TensorText.{IsTensorContent, TensorContent, tensor_text}
use Rattle.irr_top.specs.declared.status.Status.{Status}
use Rattle.irr_top.specs.declared.status.Status.TheVariants.{Done}

pub record IsTensorText (s : Sign) (G : Operation → Type 0) (f : Form) (text : List ℕ) : Type 0 where
  pub content : TensorContent
  pub is_content : IsTensorContent s G f content
  pub is_text : text ≡ tensor_text 1 s content

abbrev pub IsTensorReply : (Operation → Type 0) → Form → Status → List ℕ → Type 0
IsTensorReply G f s text = (s ≡ Done) × IsTensorText minus G f text
