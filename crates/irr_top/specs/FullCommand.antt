-- `full`: the full representations at a wave vector.
--   IsFullText s G k text     the text is that of the full representations at k of the group G, for the sign s of the phase
--   IsFullReply G k s text    s is Done, and the text is that of the full representations, for the sign minus
use Rattle.std.specs.Prelude.{ℕ, ◌≡◌, List}
use Rattle.irr_space.specs.Operation.{Operation, WaveVector}
use Rattle.irr_space.specs.Reciprocal.{Sign}
use Rattle.irr_space.specs.Reciprocal.Sign.{minus}
use Rattle.irr_full_text.specs.FullText.{FullContent, full_text, IsFullContent}
use Rattle.irr_top.specs.declared.status.Status.{Status}
use Rattle.irr_top.specs.declared.status.Status.TheVariants.{Done}

pub record IsFullText (s : Sign) (G : Operation → Type 0) (k : WaveVector) (text : List ℕ) : Type 0 where
  pub content : FullContent
  pub is_content : IsFullContent s G k content
  pub is_text : text ≡ full_text content

abbrev pub IsFullReply : (Operation → Type 0) → WaveVector → Status → List ℕ → Type 0
IsFullReply G k s text = (s ≡ Done) × IsFullText minus G k text
