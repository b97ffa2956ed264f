-- `site`: the sites of a point, and what they bring to a wave vector.
--   IsSiteText s G x k text     the text is that of the sites of x at k in the group G, for the sign s of the phase
--   IsSiteReply G x k s text    s is Done, and the text is that of the sites, for the sign minus
use Rattle.std.specs.Prelude.{ℕ, ◌≡◌, List}
use Rattle.irr_space.specs.Operation.{Operation, Vector, WaveVector}
use Rattle.irr_space.specs.Reciprocal.{Sign}
use Rattle.irr_space.specs.Reciprocal.Sign.{minus}
use Rattle.irr_site.specs.SiteContent.{IsSiteContent, SitesContent}
use Rattle.irr_site_text.specs.SiteText.{site_text}
use Rattle.irr_top.specs.declared.status.Status.{Status}
use Rattle.irr_top.specs.declared.status.Status.TheVariants.{Done}

pub record IsSiteText (s : Sign) (G : Operation → Type 0) (x : Vector) (k : WaveVector) (text : List ℕ) : Type 0 where
  pub wave : WaveVector
  pub content : SitesContent
  pub is_content : IsSiteContent s G x k wave content
  pub is_text : text ≡ site_text 1 s wave x content

abbrev pub IsSiteReply : (Operation → Type 0) → Vector → WaveVector → Status → List ℕ → Type 0
IsSiteReply G x k s text = (s ≡ Done) × IsSiteText minus G x k text
