-- `subduce`: the parts of the full representations at a wave vector under the subgroup that a section gives.
--   IsRestrictionText s G H P p k text     the text is that of the restrictions of the full representations of the group G at k to the group H in
--                                          the setting (P,p), for the sign s of the phase
--   IsSubduceText s G k S text             the section S gives a subgroup, and the text is that of the restrictions to it
--   IsSubduceReply G k S s text            the section gives none, and s and the text tell the first reason; or s is Done, and the text is that of
--                                          the restrictions, for the sign minus
use Rattle.std.specs.Prelude.{ℕ, ◌≡◌, List}
use Rattle.irr_algebra.specs.Matrix.{Matrix}
use Rattle.irr_rational.specs.Rational.{rationals}
use Rattle.irr_space.specs.Operation.{Operation, Vector, WaveVector}
use Rattle.irr_space.specs.Reciprocal.{Sign}
use Rattle.irr_space.specs.Reciprocal.Sign.{minus}
use Rattle.irr_full.specs.Restriction.{IsSubgroup}
use Rattle.irr_subduce.specs.SubduceText.{IsSubduceContent, SubduceContent, subduce_text}
use Rattle.irr_input.specs.Stages.{SubContent}
use Rattle.irr_top.specs.RefusalText.{refusal_text}
use Rattle.irr_top.specs.SubgroupOf.{GivesNone, GivesSubgroup, subgroup_of}
use Rattle.irr_top.specs.declared.status.Status.{Status}
use Rattle.irr_top.specs.declared.status.Status.TheVariants.{Done}

pub record IsRestrictionText (s : Sign) (G H : Operation → Type 0) (P : Matrix rationals 3 3) (p : Vector) (k : WaveVector) (text : List ℕ)
    : Type 0 where
  pub image : Operation → Operation
  pub subgroup : IsSubgroup P p H G image
  pub content : SubduceContent
  pub is_content : IsSubduceContent s G H image k content
  pub is_text : text ≡ subduce_text 1 s content

pub record IsSubduceText (s : Sign) (G : Operation → Type 0) (k : WaveVector) (S : SubContent) (text : List ℕ) : Type 0 where
  pub gives : GivesSubgroup G S
  pub is_restriction : IsRestrictionText s G (subgroup_of S) S.basis S.origin k text

pub data IsSubduceReply (G : Operation → Type 0) (k : WaveVector) (S : SubContent) : Status → List ℕ → Type 0 where
  none : {s : Status} → GivesNone G S s → IsSubduceReply G k S s (refusal_text s)
  restrictions : {text : List ℕ} → IsSubduceText minus G k S text → IsSubduceReply G k S Done text
