-- `compat`: the compatibility relations of a line through two points, or of a plane through three.
--   other_points l m             the points behind the first one, in the program
--   point_of n k others          the first n + 1 points of a line or plane, which has k in front and others behind it
--   IsCompatText s G k others text     the text is that of the relations of all its points, as they are given, in the group G, for the
--                                sign s of the phase
--   IsCompatReply G k others s text    s is Done, and the text is that of the relations, for the sign minus
use Rattle.std.specs.Prelude.{ℕ, suc, ◌≡◌, List, [], ◌∷◌, Option, None, Some, length, slice_index_or}
use Rattle.irr_algebra.specs.Fin.{Fin, to_nat}
use Rattle.irr_space.specs.Operation.{Operation, WaveVector}
use Rattle.irr_space.specs.Reciprocal.{Sign}
use Rattle.irr_space.specs.Reciprocal.Sign.{minus}
use Rattle.irr_kvec.specs.declared.wave.Wave.{Wave}
use Rattle.irr_compat_text.specs.CompatText.{CompatContent, compat_text, IsCompatContent}
use Rattle.irr_top.specs.declared.status.Status.{Status}
use Rattle.irr_top.specs.declared.status.Status.TheVariants.{Done}

abbrev pub other_points : Wave → Option Wave → List Wave
other_points l None = l ∷ []
other_points l (Some m) = l ∷ m ∷ []

abbrev pub point_of : (n : ℕ) → WaveVector → List WaveVector → Fin (suc n) → WaveVector
point_of n k others i = slice_index_or (k ∷ others) (to_nat i) k

pub record IsCompatText (s : Sign) (G : Operation → Type 0) (k : WaveVector) (others : List WaveVector) (text : List ℕ)
    : Type 0 where
  pub content : CompatContent
  pub is_content : IsCompatContent s G (point_of (length others) k others) content
  pub is_text : text ≡ compat_text 1 s content

abbrev pub IsCompatReply : (Operation → Type 0) → WaveVector → List WaveVector → Status → List ℕ → Type 0
IsCompatReply G k others s text = (s ≡ Done) × IsCompatText minus G k others text
