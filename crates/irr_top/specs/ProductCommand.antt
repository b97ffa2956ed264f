-- `product`: the direct products of the full representations at two wave vectors.
--   IsProductText s G k l text     the text is that of the direct products at k and l of the group G, for the sign s of the phase
--   IsProductReply G k l s text    s is Done, and the text is that of the direct products, for the sign minus
use Rattle.std.specs.Prelude.{ℕ, ◌≡◌, List}
use Rattle.irr_space.specs.Operation.{Operation, WaveVector}
use Rattle.irr_space.specs.Reciprocal.{Sign}
use Rattle.irr_space.specs.Reciprocal.Sign.{minus}
use Rattle.irr_product.specs.ProductText.{ProductContent, product_text, IsProductContent}
use Rattle.irr_top.specs.declared.status.Status.{Status}
use Rattle.irr_top.specs.declared.status.Status.TheVariants.{Done}

pub record IsProductText (s : Sign) (G : Operation → Type 0) (k l : WaveVector) (text : List ℕ) : Type 0 where
  pub content : ProductContent
  pub is_content : IsProductContent s G k l content
  pub is_text : text ≡ product_text 1 s content

abbrev pub IsProductReply : (Operation → Type 0) → WaveVector → WaveVector → Status → List ℕ → Type 0
IsProductReply G k l s text = (s ≡ Done) × IsProductText minus G k l text
