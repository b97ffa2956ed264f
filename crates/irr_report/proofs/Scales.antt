-- What the texts of a representation come to.
--   scale-none       no texts
--   scale-joined     one text more
--   passes-joined    one text more that passes a limit with the others
--   passes-more      what passes a limit does with one text more
--   scale-within     texts that have a scale pass no limit together
use Rattle.std.proofs.Common.{◌≡◌, refl, sym, ◌∙◌, ap, ap₂, subst, ℕ, zero, suc, ◌<◌, ◌≤◌, ◌+◌, ◌*◌, ◌/◌, List, [], ◌∷◌, ◌++◌, length, length-append, append-nil, get_or, map, All, arith, ◌⊎◌, inl, inr}
use Rattle.std.specs.Int.{◌∣◌}
use Rattle.std.specs.List.{flat_map}
use Rattle.std.proofs.lemmas.List.{get_or_append_left, get_or-append-add, map-append}
use Rattle.std.proofs.lemmas.List.Elements.{All-append}
use Rattle.std.proofs.lemmas.Grind.{flat_map-append}
use Rattle.std.proofs.lemmas.Nat.Gcd.{le_of_dvd}
use Rattle.std.proofs.Math.Seq.{get_or-append_seam}
use native.Mathlib.Nat as Nat
use Rattle.irr_rat.specs.Lcm.{IsLcm}
use Rattle.irr_rat.proofs.Multiples.{lcm_exists}
use Rattle.irr_numeral.specs.declared.limits.TheConstants.{COEFFICIENT_LIMIT, DENOMINATOR_LIMIT}
use Rattle.irr_numeral.specs.WrittenNumber.{WrittenTerm, AreTerms, spelled}
use Rattle.irr_numeral.specs.WrittenValue.{IsCommonDenominator, IsMeasured, denominator_of, written_size}
use Rattle.irr_numeral.proofs.CommonDenominators.{common-none}
use Rattle.irr_numeral.proofs.OneReading.{spelled-unique}
use Rattle.irr_report.specs.ReportGrammar.{IsValueText}
use Rattle.irr_report.specs.ReportLimits.{PassesTogether}
use Rattle.irr_report.specs.ValueTexts.{IsScaleOf, IsJoined, CannotJoin}
use Rattle.irr_report.specs.declared.scale.Scale.{Scale}
use Rattle.irr_report.proofs.CommonScales.{all-one, common-both, common-some, positive-terms, size-over, size-rises}

flat-more : (terms : List (List WrittenTerm)) (ts : List WrittenTerm) → flat_map (λ us. us) (terms ++ ts ∷ []) ≡ flat_map (λ us. us) terms ++ ts
flat-more terms ts = flat_map-append (λ us. us) terms (ts ∷ []) ∙ ap (λ us. flat_map (λ vs. vs) terms ++ us) (append-nil ts)

each-part : (P : WrittenTerm → Type 0) (terms : List (List WrittenTerm)) → All P (flat_map (λ ts. ts) terms) → All (All P) terms
each-part P [] h k d lt = absurd (omega arith)
each-part P (ts ∷ terms) h zero d lt = λ i t less. subst P (get_or_append_left ts (flat_map (λ us. us) terms) t i less)
    (h i t (omega (arith, less, length-append ts (flat_map (λ us. us) terms))))
each-part P (ts ∷ terms) h (suc k) d lt = each-part P terms
    (λ i t less. subst P (get_or-append-add ts (flat_map (λ us. us) terms) i t)
    (h (length ts + i) t (omega (arith, less, length-append ts (flat_map (λ us. us) terms))))) k d (omega arith)

same-head : (a b : List ℕ) (s t : List (List ℕ)) → a ∷ s ≡ b ∷ t → a ≡ b
same-head a b s t e = cc

same-tail : (a b : List ℕ) (s t : List (List ℕ)) → a ∷ s ≡ b ∷ t → s ≡ t
same-tail a b s t e = cc

terms-unique : (ts us : List (List WrittenTerm)) → All AreTerms ts → All AreTerms us → map spelled ts ≡ map spelled us → ts ≡ us
terms-unique [] [] h k e = refl
terms-unique [] (u ∷ us) h k e = absurd (cc)
terms-unique (t ∷ ts) [] h k e = absurd (cc)
terms-unique (t ∷ ts) (u ∷ us) h k e =
    ap₂ (λ a b. a ∷ b) (spelled-unique t u (h 0 t (omega arith)) (k 0 u (omega arith)) (same-head (spelled t) (spelled u) (map spelled ts) (map spelled us) e))
    (terms-unique ts us (λ i d lt. h (suc i) d (omega arith)) (λ i d lt. k (suc i) d (omega arith))
    (same-tail (spelled t) (spelled u) (map spelled ts) (map spelled us) e))

pub scale-none : (scale : Scale) → scale.denominator ≡ 1 → scale.size ≡ 0 → IsScaleOf scale []
scale-none scale d s = record {
  terms = [];
  are_terms = λ k t lt. absurd (omega arith);
  spells = refl;
  common = subst (IsCommonDenominator []) (sym d) common-none;
  sizes = λ k t lt. absurd (omega arith);
  reached = inl s;
}

-- the terms with those of one text more
module _ (terms : List (List WrittenTerm)) (texts : List (List ℕ)) (more : List WrittenTerm) (word : List ℕ) where
  terms-more : All AreTerms terms → AreTerms more → All AreTerms (terms ++ more ∷ [])
  terms-more h k = All-append AreTerms terms (more ∷ []) h (all-one AreTerms more k)

  spells-more : map spelled terms ≡ texts → spelled more ≡ word → map spelled (terms ++ more ∷ []) ≡ texts ++ word ∷ []
  spells-more e f = map-append spelled terms (more ∷ []) ∙ ap₂ (λ a b. a ++ b ∷ []) e f

  common-more : (d e m : ℕ) → IsCommonDenominator (flat_map (λ ts. ts) terms) d → IsCommonDenominator more e → (l : IsLcm d e m)
      → IsCommonDenominator (flat_map (λ ts. ts) (terms ++ more ∷ [])) m
  common-more d e m h k l = subst (λ ts. IsCommonDenominator ts m) (sym (flat-more terms more)) (common-both (flat_map (λ ts. ts) terms) more d e m h k l)

  -- a text before, and the last
  earlier-at : (P : List WrittenTerm → Type 0) (i : ℕ) → i < length terms → P (get_or terms i [])
      → (k : ℕ) × (k < length (terms ++ more ∷ [])) × P (get_or (terms ++ more ∷ []) k [])
  earlier-at P i lt p = (i, omega (arith, lt, length-append terms (more ∷ [])), subst P (sym (get_or_append_left terms (more ∷ []) [] i lt)) p)

  later-at : (P : List WrittenTerm → Type 0) → P more → (k : ℕ) × (k < length (terms ++ more ∷ [])) × P (get_or (terms ++ more ∷ []) k [])
  later-at P p = (length terms, omega (arith, length-append terms (more ∷ [])), subst P (sym (get_or-append_seam terms more [] [])) p)

module _ (scale : Scale) (texts : List (List ℕ)) (word : List ℕ) (d s : ℕ) (h : IsScaleOf scale texts) (k : IsMeasured word d s) where
  parts : All (All (λ t. denominator_of t ∣ scale.denominator)) h.terms
  parts = each-part (λ t. denominator_of t ∣ scale.denominator) h.terms h.common.common

  earlier-size : (m : ℕ) → scale.denominator ∣ m → (i : ℕ) (ts : List WrittenTerm) → i < length h.terms
      → written_size m (get_or h.terms i ts) ≡ written_size scale.denominator (get_or h.terms i ts) * (m / scale.denominator)
  earlier-size m v i ts lt = size-over scale.denominator m (get_or h.terms i ts) h.common.positive v (parts i ts lt)

  later-size : (m : ℕ) → d ∣ m → written_size m k.terms ≡ s * (m / d)
  later-size m v = size-over d m k.terms k.common.positive v k.common.common ∙ ap (λ x. x * (m / d)) (sym k.size_is)

  pub scale-joined : (next : Scale) → IsJoined scale.denominator scale.size d s next → IsScaleOf next (texts ++ word ∷ [])
  scale-joined next j = record {
    terms = h.terms ++ k.terms ∷ [];
    are_terms = terms-more h.terms texts k.terms word h.are_terms k.are_terms;
    spells = spells-more h.terms texts k.terms word h.spells k.spells;
    common = common-more h.terms texts k.terms word scale.denominator d next.denominator h.common k.common j.common;
    sizes = All-append (λ ts. written_size next.denominator ts ≤ next.size) h.terms (k.terms ∷ []) sizes-before
        (all-one (λ ts. written_size next.denominator ts ≤ next.size) k.terms (subst (λ x. x ≤ next.size) (sym (later-size next.denominator j.common.1)) j.later));
    reached = reached-by j.reached h.reached;
  }
    where
      sizes-before : All (λ ts. written_size next.denominator ts ≤ next.size) h.terms
      sizes-before i ts lt =
          let over = earlier-size next.denominator j.common.0 i ts lt in
          let less : written_size scale.denominator (get_or h.terms i ts) * (next.denominator / scale.denominator) ≤ scale.size * (next.denominator / scale.denominator) =
          Nat.mul-le-mul_right (next.denominator / scale.denominator) (h.sizes i ts lt) in
          omega (arith, over, less, j.earlier)

      Reached : Type 0
      Reached = (next.size ≡ 0) ⊎ ((i : ℕ) × (i < length (h.terms ++ k.terms ∷ [])) × (written_size next.denominator (get_or (h.terms ++ k.terms ∷ []) i []) ≡ next.size))

      reached-by : (next.size ≡ scale.size * (next.denominator / scale.denominator)) ⊎ (next.size ≡ s * (next.denominator / d))
          → (scale.size ≡ 0) ⊎ ((i : ℕ) × (i < length h.terms) × (written_size scale.denominator (get_or h.terms i []) ≡ scale.size)) → Reached
      reached-by (inl e) (inl z) = inl (e ∙ ap (λ x. x * (next.denominator / scale.denominator)) z ∙ Nat.zero-mul (next.denominator / scale.denominator))
      reached-by (inl e) (inr r) = inr (earlier-at h.terms texts k.terms word (λ ts. written_size next.denominator ts ≡ next.size) r.0 r.1
          (earlier-size next.denominator j.common.0 r.0 [] r.1 ∙ ap (λ x. x * (next.denominator / scale.denominator)) r.2 ∙ sym e))
      reached-by (inr e) r = inr (later-at h.terms texts k.terms word (λ ts. written_size next.denominator ts ≡ next.size) (later-size next.denominator j.common.1 ∙ sym e))

  pub passes-joined : CannotJoin scale.denominator scale.size d s → PassesTogether (texts ++ word ∷ [])
  passes-joined (m, l, over) = record {
    terms = h.terms ++ k.terms ∷ [];
    are_terms = terms-more h.terms texts k.terms word h.are_terms k.are_terms;
    spells = spells-more h.terms texts k.terms word h.spells k.spells;
    denominator = m;
    common = common-more h.terms texts k.terms word scale.denominator d m h.common k.common l;
    passes = passes-by over h.reached;
  }
    where
      Passing : Type 0
      Passing = (DENOMINATOR_LIMIT < m) ⊎ ((i : ℕ) × (i < length (h.terms ++ k.terms ∷ [])) × (COEFFICIENT_LIMIT < written_size m (get_or (h.terms ++ k.terms ∷ []) i [])))

      passes-by : (DENOMINATOR_LIMIT < m) ⊎ ((COEFFICIENT_LIMIT < scale.size * (m / scale.denominator)) ⊎ (COEFFICIENT_LIMIT < s * (m / d)))
          → (scale.size ≡ 0) ⊎ ((i : ℕ) × (i < length h.terms) × (written_size scale.denominator (get_or h.terms i []) ≡ scale.size)) → Passing
      passes-by (inl big) r = inl big
      passes-by (inr (inl big)) (inl z) = absurd (let none : scale.size * (m / scale.denominator) ≡ 0 = ap (λ x. x * (m / scale.denominator)) z
          ∙ Nat.zero-mul (m / scale.denominator) in omega (arith, big, none))
      passes-by (inr (inl big)) (inr r) = inr (earlier-at h.terms texts k.terms word (λ ts. COEFFICIENT_LIMIT < written_size m ts) r.0 r.1
          (subst (λ x. COEFFICIENT_LIMIT < x) (sym (earlier-size m l.0 r.0 [] r.1 ∙ ap (λ x. x * (m / scale.denominator)) r.2)) big))
      passes-by (inr (inr big)) r = inr (later-at h.terms texts k.terms word (λ ts. COEFFICIENT_LIMIT < written_size m ts)
          (subst (λ x. COEFFICIENT_LIMIT < x) (sym (later-size m l.1)) big))

pub passes-more : (texts : List (List ℕ)) (word : List ℕ) → PassesTogether texts → IsValueText word → PassesTogether (texts ++ word ∷ [])
passes-more texts word h v = with_common (common-some v.number.terms (positive-terms v.number.terms v.number.are_terms v.not_zero))
  where
    with_common : (e : ℕ) × IsCommonDenominator v.number.terms e → PassesTogether (texts ++ word ∷ [])
    with_common (e, c) = with_multiple (lcm_exists h.denominator e h.common.positive)
      where
        with_multiple : (m : ℕ) × IsLcm h.denominator e m → PassesTogether (texts ++ word ∷ [])
        with_multiple (m, l) = record {
          terms = h.terms ++ v.number.terms ∷ [];
          are_terms = terms-more h.terms texts v.number.terms word h.are_terms v.number.are_terms;
          spells = spells-more h.terms texts v.number.terms word h.spells v.number.spells;
          denominator = m;
          common = all;
          passes = passes-by h.passes;
        }
          where
            all : IsCommonDenominator (flat_map (λ ts. ts) (h.terms ++ v.number.terms ∷ [])) m
            all = common-more h.terms texts v.number.terms word h.denominator e m h.common c l

            passes-by : (DENOMINATOR_LIMIT < h.denominator) ⊎ ((i : ℕ) × (i < length h.terms) × (COEFFICIENT_LIMIT < written_size h.denominator (get_or h.terms i [])))
                → (DENOMINATOR_LIMIT < m) ⊎ ((i : ℕ) × (i < length (h.terms ++ v.number.terms ∷ [])) × (COEFFICIENT_LIMIT < written_size m (get_or (h.terms ++ v.number.terms ∷ []) i [])))
            passes-by (inl big) = inl (let le : h.denominator ≤ m = le_of_dvd all.positive l.0 in omega (arith, big, le))
            passes-by (inr r) = inr (earlier-at h.terms texts v.number.terms word (λ ts. COEFFICIENT_LIMIT < written_size m ts) r.0 r.1
                (let more : written_size h.denominator (get_or h.terms r.0 []) ≤ written_size m (get_or h.terms r.0 []) =
                size-rises h.denominator m (get_or h.terms r.0 []) h.common.positive all.positive l.0
                (each-part (λ t. denominator_of t ∣ h.denominator) h.terms h.common.common r.0 [] r.1) in
                omega (arith, more, r.2)))

pub scale-within : (scale : Scale) (texts : List (List ℕ)) → IsScaleOf scale texts → PassesTogether texts → ⊥
scale-within scale texts h t = passes-by t.passes
  where
    same : t.terms ≡ h.terms
    same = terms-unique t.terms h.terms t.are_terms h.are_terms (t.spells ∙ sym h.spells)

    common : IsCommonDenominator (flat_map (λ ts. ts) h.terms) t.denominator
    common = subst (λ tss. IsCommonDenominator (flat_map (λ ts. ts) tss) t.denominator) same t.common

    equal : t.denominator ≡ scale.denominator
    equal = Nat.dvd_antisymm (common.least scale.denominator h.common.common) (h.common.least t.denominator common.common)

    passes-by : (DENOMINATOR_LIMIT < t.denominator) ⊎ ((i : ℕ) × (i < length t.terms) × (COEFFICIENT_LIMIT < written_size t.denominator (get_or t.terms i []))) → ⊥
    passes-by (inl big) = omega (arith, big, equal, scale.denominator_within)
    passes-by (inr r) =
        let less : r.0 < length h.terms = subst (λ tss. r.0 < length tss) same r.1 in
        let size : written_size scale.denominator (get_or h.terms r.0 []) ≤ scale.size = h.sizes r.0 [] less in
        let over : COEFFICIENT_LIMIT < written_size scale.denominator (get_or h.terms r.0 []) =
        subst (λ tss. COEFFICIENT_LIMIT < written_size scale.denominator (get_or tss r.0 [])) same
        (subst (λ e. COEFFICIENT_LIMIT < written_size e (get_or t.terms r.0 [])) equal r.2) in
        omega (arith, size, over, scale.size_within)
