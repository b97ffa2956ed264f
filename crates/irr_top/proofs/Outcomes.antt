-- How runs end.
--   ended_other          the writing of a text ends with no other status than its own, that of a failed write and that of want of memory
--   serves_more          what serves one request serves each that asks for the same
--   outcome_more         so do outcomes
--   owed                 what is owed is answered, unless a stream failed or memory was wanting
use Rattle.std.proofs.Common.{◌≡◌, subst, ℕ, ◌⊎◌, inl, inr, Option, Some, List}
use Rattle.irr_io.specs.Views.{SourceView, SinkView}
use Rattle.irr_top.specs.Asked.{Asks}
use Rattle.irr_top.specs.Outcome.{Ended, Serves, IsAllOf, OutcomeOf, Outcome, IsOwed, IsFailure}
use Rattle.irr_top.specs.Outcome.Ended.{whole, cut_off, no_memory}
use Rattle.irr_top.specs.Outcome.Serves.{serves, without_memory}
use Rattle.irr_top.specs.Outcome.OutcomeOf.{answered, read_fault}
use Rattle.irr_top.specs.Outcome.IsOwed.{by_words, by_bytes}
use Rattle.irr_top.specs.declared.status.Status.{Status}
use Rattle.irr_top.specs.declared.status.Status.TheVariants.{WriteFault, Memory}
use Rattle.irr_top.proofs.OneAnswer.{asked_once}

pub ended_other : (u : Status) {s t : Status} {text : List ℕ} {before after : SinkView} → Ended s text before after t
    → (s ≡ u → ⊥) → (WriteFault ≡ u → ⊥) → (Memory ≡ u → ⊥) → t ≡ u → ⊥
ended_other u (whole g w) a b c e = a e
ended_other u (cut_off r g w) a b c e = b e
ended_other u (no_memory f) a b c e = c e

pub serves_more : {asks others : Status → List ℕ → Type 0} {before after : SinkView} {t : Status}
    → ((s : Status) (text : List ℕ) → asks s text → others s text) → Serves asks before after t
    → Serves others before after t
serves_more f (serves {s = s} {text = text} a e) = serves (f s text a) e
serves_more f (without_memory e) = without_memory e

pub outcome_more : {asks others : List ℕ → Status → List ℕ → Type 0} {source read : SourceView} {sink written : SinkView} {t : Status}
    → ((bytes : List ℕ) (s : Status) (text : List ℕ) → asks bytes s text → others bytes s text)
    → OutcomeOf asks source read sink written t
    → OutcomeOf others source read sink written t
outcome_more f (answered bytes all s) = answered bytes all (serves_more (f bytes) s)
outcome_more f (read_fault r h) = read_fault r h

module _ (words : List (List ℕ)) where
  same_bytes : (left : Option (List ℕ)) (bytes all : List ℕ) → left ≡ Some bytes → IsAllOf left all → all ≡ bytes
  same_bytes left bytes all e h = subst (λ l. IsAllOf l all) e h

  same_status : {source : SourceView} {s t : Status} {text : List ℕ} (all : List ℕ) → IsAllOf source.left all
      → Asks words all t text
      → IsOwed words source s → t ≡ s
  same_status all h a (by_words other f) = asked_once words all a (f all)
  same_status {source} {s} {t} {text} all h a (by_bytes bytes other e b) = asked_once words bytes
      (subst (λ l. Asks words l t text) (same_bytes source.left bytes all e h) a) b

  ended_owed : {source : SourceView} {sink written : SinkView} {s u t : Status} {text : List ℕ} (all : List ℕ)
      → IsAllOf source.left all
      → Asks words all u text → Ended u text sink written t → IsOwed words source s → (t ≡ s) ⊎ IsFailure t
  ended_owed all h a (whole g w) o = inl (same_status all h a o)
  ended_owed all h a (cut_off r g w) o = inr tt
  ended_owed all h a (no_memory e) o = inr tt

  served_owed : {source : SourceView} {sink written : SinkView} {s t : Status} (all : List ℕ) → IsAllOf source.left all
      → Serves (Asks words all) sink written t → IsOwed words source s → (t ≡ s) ⊎ IsFailure t
  served_owed all h (serves a e) o = ended_owed all h a e o
  served_owed all h (without_memory e) o = inr tt

  outcome_owed : {source read : SourceView} {sink written : SinkView} {s t : Status}
      → OutcomeOf (Asks words) source read sink written t
      → IsOwed words source s → (t ≡ s) ⊎ IsFailure t
  outcome_owed (answered all h s) o = served_owed all h s o
  outcome_owed (read_fault r h) o = inr tt

  pub owed : {source read : SourceView} {sink written : SinkView} {s t : Status}
      → Outcome words source read sink written t
      → IsOwed words source s → (t ≡ s) ⊎ IsFailure t
  owed o = outcome_owed o.ends
