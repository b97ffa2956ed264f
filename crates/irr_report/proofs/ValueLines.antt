-- The texts of a line, taken one by one.
--   AreReadTo .. k rest xs scale     the first k texts of a line are read, and the rest is still to come
--   to-none, to-more       no text yet, and one more
--   stops-short            none begins where one must
--   stops-word             a word is no value's text
--   stops-fault            so with each error
--   stops-long             more stands behind the last
--   all-read, all-pass     the end of the line
use Rattle.std.proofs.Common.{◌≡◌, ◌≢◌, refl, sym, ◌∙◌, ap, subst, ℕ, suc, ◌<◌, ◌+◌, List, [], ◌∷◌, ◌++◌, length, length-append, append_assoc, append-nil, get_or, All, arith, Option, None, Some}
use Rattle.std.specs.List.{flat_map}
use Rattle.std.proofs.lemmas.Grind.{flat_map-append}
use Rattle.std.proofs.lemmas.List.Elements.{All-append}
use Rattle.std.proofs.Math.Seq.{get_or-append_seam}
use Rattle.irr_text.specs.ReportText.{next_word}
use Rattle.irr_number.specs.Number.{Number}
use Rattle.irr_report.specs.ReportGrammar.{IsValueText}
use Rattle.irr_report.specs.ReportLimits.{PassesIn}
use Rattle.irr_report.specs.ValueTexts.{IsBehindValue, AreValueTexts, IsScaleOf, AreReadAs, AreReadSoFar, AreRead, IsValueFault, AreValuesFault}
use Rattle.irr_report.specs.declared.scale.Scale.{Scale}
use Rattle.irr_report.specs.declared.values.ValuesError.{ValuesError}
use Rattle.irr_report.specs.declared.values.ValuesError.TheVariants.{Line, Range, Memory}
use Rattle.irr_report.proofs.ReportTexts.{HasNoBlank, IsBehindWord, word-unique, no_blank-value}
use Rattle.irr_report.proofs.CommonScales.{all-one}
use Rattle.irr_report.proofs.ValueReads.{reads-none, within-limits}

no_blank-of : (xs : List ℕ) → All (λ b. b ≢ 32) xs → HasNoBlank xs
no_blank-of [] h = tt
no_blank-of (x ∷ xs) h = (h 0 x (omega arith), no_blank-of xs (λ k d lt. h (suc k) d (omega arith)))

behind-of : (xs : List ℕ) → IsBehindValue xs → IsBehindWord xs
behind-of [] h = tt
behind-of (x ∷ xs) h = h

behind-texts : (ts : List (List ℕ)) → IsBehindWord (flat_map next_word ts)
behind-texts [] = tt
behind-texts (t ∷ ts) = refl

after-blank : (s t : List ℕ) → 32 ∷ s ≡ 32 ∷ t → s ≡ t
after-blank s t e = cc

rejoined : (a w b : List ℕ) → a ++ 32 ∷ (w ++ b) ≡ (a ++ ((32 ∷ w) ++ [])) ++ b
rejoined a w b = ap (λ v. a ++ 32 ∷ (v ++ b)) (sym (append-nil w)) ∙ sym (append_assoc a (32 ∷ (w ++ [])) b)

empty-of : (xs : List ℕ) → length xs ≡ 0 → xs ≡ []
empty-of [] e = refl
empty-of (x ∷ xs) e = absurd (omega arith)

module _ {S : Type 0} (order : S → ℕ) (value : (n : ℕ) → S → Number n) (n : ℕ) (earlier : List (List ℕ)) (count : ℕ) (text : List ℕ) where
  pub record AreReadTo (k : ℕ) (rest : List ℕ) (xs : List S) (scale : Option Scale) : Type 0 where
    pub texts : List (List ℕ)
    pub told : (others : List (List ℕ)) → AreValueTexts count text others
        → (tail : List (List ℕ)) × (others ≡ texts ++ tail) × (rest ≡ flat_map next_word tail)
    pub values : All IsValueText texts
    pub count_is : length texts ≡ k
    pub parts : text ≡ flat_map next_word texts ++ rest
    pub state : AreReadSoFar order value n earlier texts xs scale

  pub to-none : (xs : List S) (scale : Scale) → xs ≡ [] → IsScaleOf scale earlier → AreReadTo 0 text xs (Some scale)
  to-none xs scale e h = record {
    texts = [];
    told = λ others a. (others, refl, a.spells);
    values = λ i d lt. absurd (omega arith);
    count_is = refl;
    parts = refl;
    state = (subst (AreReadAs order value n []) (sym e) (reads-none order value n), subst (IsScaleOf scale) (sym (append-nil earlier)) h);
  }

  module _ (k : ℕ) (rest : List ℕ) (xs : List S) (scale : Option Scale) (h : AreReadTo k rest xs scale) where
    module _ (lt : k < count) where
      pub stops-short : ((words : List ℕ) → rest ≢ 32 ∷ words) → (others : List (List ℕ)) → ¬ (AreValueTexts count text others)
      stops-short lacks others a = let r = h.told others a in at_tail r.0 r.1 r.2
        where
          at_tail : (tail : List (List ℕ)) → others ≡ h.texts ++ tail → rest ≡ flat_map next_word tail → ⊥
          at_tail [] e f = let long : length others ≡ length (h.texts ++ []) = ap length e in omega (arith, lt, long, length-append h.texts [], h.count_is, a.count_is)
          at_tail (y ∷ ys) e f = lacks (y ++ flat_map next_word ys) f

      module _ (word behind : List ℕ) (parts : rest ≡ 32 ∷ (word ++ behind)) (blank : All (λ b. b ≢ 32) word) (then : IsBehindValue behind) where
        next-text : (others : List (List ℕ)) → AreValueTexts count text others
            → (tail : List (List ℕ)) × (others ≡ (h.texts ++ word ∷ []) ++ tail) × (behind ≡ flat_map next_word tail) × IsValueText word
        next-text others a = let r = h.told others a in at_tail r.0 r.1 r.2
          where
            at_tail : (tail : List (List ℕ)) → others ≡ h.texts ++ tail → rest ≡ flat_map next_word tail
                → (ys : List (List ℕ)) × (others ≡ (h.texts ++ word ∷ []) ++ ys) × (behind ≡ flat_map next_word ys) × IsValueText word
            at_tail [] e f = absurd (let long : length others ≡ length (h.texts ++ []) = ap length e in
                omega (arith, lt, long, length-append h.texts [], h.count_is, a.count_is))
            at_tail (y ∷ ys) e f =
                let long : length others ≡ length (h.texts ++ y ∷ ys) = ap length e in
                let is : IsValueText y = subst IsValueText (ap (λ os. get_or os (length h.texts) y) e ∙ get_or-append_seam h.texts y ys y)
                (a.values (length h.texts) y (omega (arith, long, length-append h.texts (y ∷ ys)))) in
                let both = word-unique word y behind (flat_map next_word ys) (no_blank-of word blank) (no_blank-value y is) (behind-of behind then) (behind-texts ys)
                (after-blank (word ++ behind) (y ++ flat_map next_word ys) (sym parts ∙ f)) in
                (ys, e ∙ ap (λ w. h.texts ++ w ∷ ys) (sym both.0) ∙ sym (append_assoc h.texts (word ∷ []) ys), both.1, subst IsValueText (sym both.0) is)

        pub stops-word : ¬ (IsValueText word) → (others : List (List ℕ)) → ¬ (AreValueTexts count text others)
        stops-word outside others a = outside (next-text others a).3

        pub stops-fault : (e : ValuesError) → IsValueFault word e → AreValuesFault n earlier count text e
        stops-fault Line f = stops-word f
        stops-fault Range f = absurd f
        stops-fault Memory f = tt

        pub to-more : (ys : List S) (next : Option Scale) → IsValueText word
            → ((before texts : List (List ℕ)) → AreReadSoFar order value n before texts xs scale → AreReadSoFar order value n before (texts ++ word ∷ []) ys next)
            → AreReadTo (k + 1) behind ys next
        to-more ys next is more = record {
          texts = h.texts ++ word ∷ [];
          told = λ others a. let r = next-text others a in (r.0, r.1, r.2);
          values = All-append IsValueText h.texts (word ∷ []) h.values (all-one IsValueText word is);
          count_is = omega (arith, length-append h.texts (word ∷ []), h.count_is);
          parts = h.parts ∙ ap (λ r. flat_map next_word h.texts ++ r) parts ∙ rejoined (flat_map next_word h.texts) word behind
              ∙ ap (λ t. t ++ behind) (sym (flat_map-append next_word h.texts (word ∷ [])));
          state = more earlier h.texts h.state;
        }

    module _ (all : k ≡ count) where
      pub stops-long : 0 < length rest → (others : List (List ℕ)) → ¬ (AreValueTexts count text others)
      stops-long some others a = let r = h.told others a in at_tail r.0 r.1 r.2
        where
          at_tail : (tail : List (List ℕ)) → others ≡ h.texts ++ tail → rest ≡ flat_map next_word tail → ⊥
          at_tail [] e f = let short : length rest ≡ 0 = ap length f in omega (arith, some, short)
          at_tail (y ∷ ys) e f = let long : length others ≡ length (h.texts ++ y ∷ ys) = ap length e in
              omega (arith, all, long, length-append h.texts (y ∷ ys), h.count_is, a.count_is)

      module _ (end : length rest ≡ 0) where
        are-texts : AreValueTexts count text h.texts
        are-texts = record {
          values = h.values;
          count_is = h.count_is ∙ all;
          spells = h.parts ∙ ap (λ r. flat_map next_word h.texts ++ r) (empty-of rest end) ∙ append-nil (flat_map next_word h.texts);
        }

        pub all-read : (last : Scale) → scale ≡ Some last → AreRead order value n earlier count text xs last
        all-read last e =
            let state : AreReadSoFar order value n earlier h.texts xs (Some last) = subst (AreReadSoFar order value n earlier h.texts xs) e h.state in
            record {
              texts = h.texts;
              are = are-texts;
              within = within-limits order value n h.texts xs state.0 earlier last state.1;
              read = state.0;
              scale_is = state.1;
            }

        pub all-pass : scale ≡ None → (texts : List (List ℕ)) × AreValueTexts count text texts × PassesIn n earlier texts
        all-pass e = (h.texts, are-texts, subst (AreReadSoFar order value n earlier h.texts xs) e h.state)
