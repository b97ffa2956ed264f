-- The text of tensors.
--   TensorContent               what stands in it: a form, an order, a number of components and parts
--   tensor_text n s c           the text in version n, with the sign s of the phase
--   IsTensorContent s G f c     the tensors of the form f
use Rattle.std.specs.Prelude.{ℕ, ◌≡◌, List, ◌++◌, codes}
use Rattle.std.specs.List.{flat_map}
use Rattle.std.specs.Fmt.{decimal}
use Rattle.irr_space.specs.Operation.{Operation}
use Rattle.irr_space.specs.Reciprocal.{Sign, IsOrder}
use Rattle.irr_text.specs.ReportText.{line, next_word}
use Rattle.irr_heading.specs.Heading.{heading}
use Rattle.irr_input.specs.Command.{form_word}
use Rattle.irr_product.specs.ProductText.{part_line}
use Rattle.irr_power.specs.Tensors.{IsTensorOf, TensorEntry, origin}
use Rattle.irr_input.specs.declared.form.Form.{Form}

pub record TensorContent : Type 0 where
  pub form : Form
  pub order : ℕ
  pub tensor : TensorEntry

abbrev pub tensor_text : ℕ → Sign → TensorContent → List ℕ
tensor_text n s c = heading (codes "tensor") n s
    ++ line (codes "form" ++ next_word (form_word c.form))
    ++ line (codes "order" ++ next_word (decimal c.order))
    ++ line (codes "dim" ++ next_word (decimal c.tensor.size))
    ++ flat_map part_line c.tensor.parts
    ++ line (codes "end")

pub record IsTensorContent (s : Sign) (G : Operation → Type 0) (f : Form) (c : TensorContent) : Type 0 where
  pub form : c.form ≡ f
  pub is_order : IsOrder G origin c.order
  pub tensor : IsTensorOf s G c.order f c.tensor
