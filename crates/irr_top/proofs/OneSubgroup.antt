-- A section gives one subgroup of a group, or none for one reason.
--   subgroup_or_none     not both
--   none_once            one reason
--   one_reply            so a reply has one status
--   is_no_failure        which is no failure, and has a line where it tells a reason
use Rattle.std.proofs.Common.{◌≡◌, ◌≢◌, refl, sym, ◌∙◌, ap, subst, ℕ, List, get_or, inl, inr}
use Rattle.std.proofs.lemmas.Bool.{cases_order}
use Rattle.irr_space.specs.Operation.{Operation, WaveVector}
use Rattle.irr_seitz.specs.declared.op.Op.{Op}
use Rattle.irr_close.specs.Limits.{operations}
use Rattle.irr_close.specs.StandsFor.{IsRefusal}
use Rattle.irr_close.specs.declared.CloseError.{CloseError}
use Rattle.irr_close.specs.declared.CloseError.TheVariants.{Memory as no_memory}
use Rattle.irr_input.specs.Stages.{SubContent}
use Rattle.irr_input.specs.declared.input.Reason.TheVariants.{NotInGroup}
use Rattle.irr_top.specs.Outcome.{IsFailure}
use Rattle.irr_top.specs.RefusalText.{HasLine}
use Rattle.irr_top.specs.SubgroupOf.{GivesNone, GivesSubgroup, IsFirstOutside, IsInside, PassLimit, PassNoLimit, generators}
use Rattle.irr_top.specs.SubgroupOf.GivesNone.{singular, columns_outside, generator_outside, limit}
use Rattle.irr_top.specs.SubduceCommand.{IsSubduceReply}
use Rattle.irr_top.specs.SubduceCommand.IsSubduceReply.{none, restrictions}
use Rattle.irr_top.specs.declared.status.Status.{Status}
use Rattle.irr_top.specs.declared.status.Status.TheVariants.{BadInput, TooLarge}
use Rattle.irr_top.specs.declared.status.Kind.{Kind}
use Rattle.irr_top.proofs.Members.{some_item}
use Rattle.irr_top.proofs.PassedLimits.{limit_once, passes, refused_or_accepted}
use Rattle.irr_top.proofs.SameGenerators.{AreSame, same_of_operations, refusal_along}

module _ (S : SubContent) where
  same_gens : (gens hens : List Op) → operations gens ≡ generators S → operations hens ≡ generators S → AreSame gens hens
  same_gens gens hens a b = same_of_operations gens hens (a ∙ sym b)

  limits_once : (d e : CloseError) {k l : Kind} → d ≢ no_memory → e ≢ no_memory → PassLimit S d → PassLimit S e
      → ((gens : List Op) → IsRefusal gens d → IsRefusal gens e → k ≡ l) → k ≡ l
  limits_once d e m n p q once = once q.gens (refusal_along d (same_gens p.gens q.gens p.are q.are) p.refusal) q.refusal

  limit_or_none : (e : CloseError) → e ≢ no_memory → PassLimit S e → PassNoLimit S → ⊥
  limit_or_none e n p a = refused_or_accepted a.gens e n (refusal_along e (same_gens p.gens a.gens p.are a.are) p.refusal) a.accepted

module _ (G : Operation → Type 0) (S : SubContent) where
  first_or_inside : {n : ℕ} → IsFirstOutside G S n → IsInside G S → ⊥
  first_or_inside f i = let d = some_item S.gens f.place f.inside in f.outside d (i.images f.place d f.inside)

  lines_once : {m n : ℕ} → IsFirstOutside G S m → IsFirstOutside G S n → m ≡ n
  lines_once {m} {n} a b = elim (cases_order a.place b.place) [
    | inl e ↦ (let d = some_item S.gens b.place b.inside in
        subst (λ k. m ≡ (get_or S.gens k d).line) e (a.line d) ∙ sym (b.line d))
    | inr (inl l) ↦ (let d = some_item S.gens a.place a.inside in absurd (a.outside d (b.before a.place l d)))
    | inr (inr l) ↦ (let d = some_item S.gens b.place b.inside in absurd (b.outside d (a.before b.place l d)))
  ]

  pub subgroup_or_none : {s : Status} → GivesSubgroup G S → GivesNone G S s → ⊥
  subgroup_or_none g (singular p) = g.inside.regular p
  subgroup_or_none g (columns_outside r c) = c g.inside.columns
  subgroup_or_none g (generator_outside r c f) = first_or_inside f g.inside
  subgroup_or_none g (limit e p i l) = limit_or_none S e (passes e p) l g.no_limit

  pub none_once : {s t : Status} → GivesNone G S s → GivesNone G S t → s ≡ t
  none_once (singular p) (singular q) = refl
  none_once (singular p) (columns_outside r c) = absurd (r p)
  none_once (singular p) (generator_outside r c f) = absurd (r p)
  none_once (singular p) (limit e q i l) = absurd (i.regular p)
  none_once (columns_outside r c) (singular p) = absurd (r p)
  none_once (columns_outside r c) (columns_outside o d) = refl
  none_once (columns_outside r c) (generator_outside o d f) = absurd (c d)
  none_once (columns_outside r c) (limit e q i l) = absurd (c i.columns)
  none_once (generator_outside r c f) (singular p) = absurd (r p)
  none_once (generator_outside r c f) (columns_outside o d) = absurd (d c)
  none_once (generator_outside r c f) (generator_outside o d g) = ap (λ n. BadInput n NotInGroup) (lines_once f g)
  none_once (generator_outside r c f) (limit e q i l) = absurd (first_or_inside f i)
  none_once (limit e q i l) (singular p) = absurd (i.regular p)
  none_once (limit e q i l) (columns_outside r c) = absurd (c i.columns)
  none_once (limit e q i l) (generator_outside r c f) = absurd (first_or_inside f i)
  none_once (limit d p i l) (limit e q j m) = ap TooLarge
      (limits_once S d e (passes d p) (passes e q) l m (λ gens r u. limit_once gens d e p q r u))

  pub one_reply : (k : WaveVector) {s t : Status} {x y : List ℕ} → IsSubduceReply G k S s x → IsSubduceReply G k S t y → s ≡ t
  one_reply k (none a) (none b) = none_once a b
  one_reply k (none a) (restrictions b) = absurd (subgroup_or_none b.gives a)
  one_reply k (restrictions a) (none b) = absurd (subgroup_or_none a.gives b)
  one_reply k (restrictions a) (restrictions b) = refl

  pub has_line : {s : Status} → GivesNone G S s → HasLine s
  has_line (singular p) = tt
  has_line (columns_outside r c) = tt
  has_line (generator_outside r c f) = tt
  has_line (limit e q i l) = tt

  none_no_failure : {s : Status} → GivesNone G S s → IsFailure s → ⊥
  none_no_failure (singular p) h = h
  none_no_failure (columns_outside r c) h = h
  none_no_failure (generator_outside r c f) h = h
  none_no_failure (limit e q i l) h = h

  pub is_no_failure : (k : WaveVector) {s : Status} {x : List ℕ} → IsSubduceReply G k S s x → IsFailure s → ⊥
  is_no_failure k (none a) h = none_no_failure a h
  is_no_failure k (restrictions a) h = h
