-- `star`: the star of a wave vector.
--   IsStarText s G k text     the text is that of the star of k in the group G, for the sign s of the phase
--   IsStarReply G k s text    s is Done, and the text is that of the star, for the sign minus
use Rattle.std.specs.Prelude.{ℕ, ◌≡◌, List}
use Rattle.irr_space.specs.Operation.{Operation, WaveVector}
use Rattle.irr_space.specs.Reciprocal.{Sign}
use Rattle.irr_space.specs.Reciprocal.Sign.{minus}
use Rattle.irr_text.specs.StarText.{StarContent, star_text, IsStarOf}
use Rattle.irr_top.specs.declared.status.Status.{Status}
use Rattle.irr_top.specs.declared.status.Status.TheVariants.{Done}

pub record IsStarText (s : Sign) (G : Operation → Type 0) (k : WaveVector) (text : List ℕ) : Type 0 where
  pub content : StarContent
  pub is_star : IsStarOf s G k content
  pub is_text : text ≡ star_text content

abbrev pub IsStarReply : (Operation → Type 0) → WaveVector → Status → List ℕ → Type 0
IsStarReply G k s text = (s ≡ Done) × IsStarText minus G k text
