-- `square`: the symmetric and antisymmetric squares of the full representations at a wave vector.
--   IsSquareText s G k text     the text is that of the squares at k of the group G, for the sign s of the phase
--   IsSquareReply G k s text    s is Done, and the text is that of the squares, for the sign minus
use Rattle.std.specs.Prelude.{ℕ, ◌≡◌, List}
use Rattle.irr_space.specs.Operation.{Operation, WaveVector}
use Rattle.irr_space.specs.Reciprocal.{Sign}
use Rattle.irr_space.specs.Reciprocal.Sign.{minus}
use Rattle.irr_power.specs.SquareText.{IsSquareContent, SquareContent, square_text}
use Rattle.irr_top.specs.declared.status.Status.{Status}
use Rattle.irr_top.specs.declared.status.Status.TheVariants.{Done}

pub record IsSquareText (s : Sign) (G : Operation → Type 0) (k : WaveVector) (text : List ℕ) : Type 0 where
  pub content : SquareContent
  pub is_content : IsSquareContent s G k content
  pub is_text : text ≡ square_text 1 s content

abbrev pub IsSquareReply : (Operation → Type 0) → WaveVector → Status → List ℕ → Type 0
IsSquareReply G k s text = (s ≡ Done) × IsSquareText minus G k text
