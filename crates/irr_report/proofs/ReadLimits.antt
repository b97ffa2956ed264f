-- A report that is read has limited counts and numbers.
--   all-left, all-right, all-rows     the items of the parts of a list
--   AreTermsOf texts     the terms of texts of numbers
--   IsLimitedText n e text     a number that is read from the text is a sum of few powers over e
--   limited-texts        texts that pass no limit together are so over one small denominator
--   read-limited         the counts and numbers of a report that is read are limited
use Rattle.std.proofs.Common.{◌≡◌, refl, sym, ◌∙◌, ap, ap₂, subst, ℕ, zero, suc, ◌<◌, ◌≤◌, ◌+◌, ◌*◌, ◌^◌, List, [], ◌∷◌, ◌++◌, append_assoc, append-nil, length, length-append, get_or, map, take, All, suc-mul, arith, inl, inr}
use Rattle.std.specs.Int.{◌∣◌}
use Rattle.std.specs.List.{flat_map}
use Rattle.std.specs.Str.Parse.{digits_value}
use Rattle.std.proofs.lemmas.Bool.{cases_lt}
use Rattle.std.proofs.lemmas.List.{get_or-map, length-map, get_or_append_left, get_or-append-add, get_or_default}
use Rattle.std.proofs.lemmas.List.Elements.{All-append}
use native.Mathlib.Nat as Nat
use Rattle.irr_algebra.specs.Fin.{Fin, to_nat}
use Rattle.irr_algebra.proofs.Indices.{to_nat-lt}
use Rattle.irr_number.specs.Number.{Number}
use Rattle.irr_canonical.specs.RootSum.{IsRootSum}
use Rattle.irr_canonical.proofs.RootSums.{IsRootSum-more}
use Rattle.irr_space.specs.Operation.{Operation, WaveVector}
use Rattle.irr_text.specs.ReportText.{ReportContent}
use Rattle.irr_cyc.specs.declared.orders.TheConstants.{ORDER_LIMIT}
use Rattle.irr_numeral.specs.WrittenNumber.{WrittenTerm, AreTerms, spelled}
use Rattle.irr_numeral.specs.WrittenValue.{IsReadAs, IsCommonDenominator, denominator_of, written_size}
use Rattle.irr_numeral.proofs.CommonDenominators.{positive-term, common-exists}
use Rattle.irr_numeral.proofs.ExponentOrder.{term-index}
use Rattle.irr_numeral.proofs.OneReading.{spelled-unique}
use Rattle.irr_numeral.proofs.ReadSizes.{sum-over}
use Rattle.irr_report.specs.ReportLines.{WrittenRepresentation}
use Rattle.irr_report.specs.ReportGrammar.{IsValueText, IsRepresentationForm}
use Rattle.irr_report.specs.ReportLimits.{PassesTogether}
use Rattle.irr_report.specs.ReportLimits.PassesAt.{order as order_passes, places as places_pass, count as count_passes, dimension as dimension_passes, entries as entries_pass}
use Rattle.irr_report.specs.ReadReport.{IsReadReport}
use Rattle.irr_report.specs.LimitedReport.{AreLimited, IsLimitedReport}
use Rattle.irr_report.proofs.ModestReports.{all-flat}
use Rattle.irr_report.proofs.ReportSound.{whole-positive}

-- Lists.

module _ {A : Type 0} (P : A → Type 0) where
  all-cons : (x : A) (xs : List A) → P x → All P xs → All P (x ∷ xs)
  all-cons x xs p h zero d lt = p
  all-cons x xs p h (suc k) d lt = h k d (omega arith)

  all-left : (xs ys : List A) → All P (xs ++ ys) → All P xs
  all-left xs ys h k d lt = subst P (get_or_append_left xs ys d k lt) (h k d (omega (arith, lt, length-append xs ys)))

  all-right : (xs ys : List A) → All P (xs ++ ys) → All P ys
  all-right xs ys h k d lt = subst P (get_or-append-add xs ys k d) (h (length xs + k) d (omega (arith, lt, length-append xs ys)))

  all-rows : (rows : List (List A)) → All P (flat_map (λ row. row) rows) → All (All P) rows
  all-rows [] h k d lt = absurd (omega arith)
  all-rows (row ∷ rows) h zero d lt = all-left row (flat_map (λ r. r) rows) h
  all-rows (row ∷ rows) h (suc k) d lt = all-rows rows (all-right row (flat_map (λ r. r) rows) h) k d (omega arith)

-- the rows up to the last, and the last
rows-last : {A : Type 0} (k : ℕ) (rows : List (List A)) → suc k ≡ length rows
    → flat_map (λ row. row) (take k rows) ++ get_or rows k [] ≡ flat_map (λ row. row) rows
rows-last k [] e = absurd (omega arith)
rows-last zero (row ∷ []) e = sym (append-nil row)
rows-last zero (row ∷ other ∷ rows) e = absurd (omega arith)
rows-last (suc k) (row ∷ rows) e = append_assoc row (flat_map (λ r. r) (take k rows)) (get_or rows k [])
    ∙ ap (λ ys. row ++ ys) (rows-last k rows (omega arith))

-- a place of a square table that is written row by row
place-below : (a b d : ℕ) → a < d → b < d → a * d + b < d * d
place-below a b d p q =
    let row : suc a * d ≤ d * d = Nat.mul-le-mul_right d p in
    let next : suc a * d ≡ a * d + d = suc-mul a d in
    omega arith

-- Texts.

pub record AreTermsOf (texts : List (List ℕ)) : Type 0 where
  pub terms : List (List WrittenTerm)
  pub are_terms : All AreTerms terms
  pub spells : map spelled terms ≡ texts
  pub positive : All (All (λ t. 0 < denominator_of t)) terms

value-positive : (text : List ℕ) (h : IsValueText text) → All (λ t. 0 < denominator_of t) h.number.terms
value-positive text h k d lt = positive-term (get_or h.number.terms k d) (term-index h.number.terms k d h.number.are_terms lt) (h.not_zero k d lt)

terms-of : (texts : List (List ℕ)) → All IsValueText texts → AreTermsOf texts
terms-of [] h = record {
  terms = [];
  are_terms = λ k d lt. absurd (omega arith);
  spells = refl;
  positive = λ k d lt. absurd (omega arith);
}
terms-of (text ∷ texts) h =
    let front : IsValueText text = h 0 text (omega arith) in
    let back : AreTermsOf texts = terms-of texts (λ k d lt. h (suc k) d (omega arith)) in
    record {
      terms = front.number.terms ∷ back.terms;
      are_terms = all-cons AreTerms front.number.terms back.terms front.number.are_terms back.are_terms;
      spells = ap₂ (λ x xs. x ∷ xs) front.number.spells back.spells;
      positive = all-cons (All (λ t. 0 < denominator_of t)) front.number.terms back.terms (value-positive text front) back.positive;
    }

abbrev IsLimitedText : (n e : ℕ) → List ℕ → Type 0
IsLimitedText n e text = (x : Number n) → IsReadAs n text x → IsRootSum n (2 ^ 30) e x

module _ (n : ℕ) (texts : List (List ℕ)) (values : All IsValueText texts) (none : ¬ (PassesTogether texts)) where
  written : AreTermsOf texts
  written = terms-of texts values

  common : (e : ℕ) × IsCommonDenominator (flat_map (λ ts. ts) written.terms) e
  common = common-exists (flat_map (λ ts. ts) written.terms) (all-flat (λ t. 0 < denominator_of t) written.terms written.positive)

  small_denominator : common.0 ≤ 4096
  small_denominator = elim (cases_lt 4096 common.0) [
    | inl lt ↦ absurd (none (record {
      terms = written.terms;
      are_terms = written.are_terms;
      spells = written.spells;
      denominator = common.0;
      common = common.1;
      passes = inl lt;
    }))
    | inr le ↦ le
  ]

  small_sizes : (k : ℕ) → k < length written.terms → written_size common.0 (get_or written.terms k []) ≤ 2 ^ 30
  small_sizes k lt = elim (cases_lt (2 ^ 30) (written_size common.0 (get_or written.terms k []))) [
    | inl more ↦ absurd (none (record {
      terms = written.terms;
      are_terms = written.are_terms;
      spells = written.spells;
      denominator = common.0;
      common = common.1;
      passes = inr (k, lt, more);
    }))
    | inr le ↦ le
  ]

  limited-text : (k : ℕ) (d : List ℕ) → k < length texts → IsLimitedText n common.0 (get_or texts k d)
  limited-text k d lt x read =
      let below : k < length written.terms = omega (arith, lt, ap length written.spells, length-map written.terms spelled) in
      let text : get_or texts k d ≡ spelled (get_or written.terms k []) =
      ap (λ ts. get_or ts k d) (sym written.spells) ∙ get_or-map spelled written.terms k [] d below in
      let same : get_or written.terms k [] ≡ read.terms =
      spelled-unique (get_or written.terms k []) read.terms (written.are_terms k [] below) read.are_terms (sym text ∙ sym read.spells) in
      IsRootSum-more n (2 ^ 30) (subst (λ ts. written_size common.0 ts ≤ 2 ^ 30) same (small_sizes k below))
      (sum-over n (get_or texts k d) x read common.0 common.1.positive
      (subst (All (λ t. denominator_of t ∣ common.0)) same (all-rows (λ t. denominator_of t ∣ common.0) written.terms common.1.common k [] below)))

  limited-texts : (e : ℕ) × (0 < e) × (e ≤ 4096) × All (IsLimitedText n e) texts
  limited-texts = (common.0, common.1.positive, small_denominator, limited-text)

-- Reports.

abbrev no_representation : WrittenRepresentation
no_representation = record { dimension = []; characters = []; matrices = [] }

-- all texts of a representation, up to the last matrix and the last
abbrev texts-upto : WrittenRepresentation → ℕ → List (List ℕ)
texts-upto t k = (t.characters ++ flat_map (λ m. m) (take k t.matrices)) ++ get_or t.matrices k []

texts-all : (t : WrittenRepresentation) (k : ℕ) → suc k ≡ length t.matrices → texts-upto t k ≡ t.characters ++ flat_map (λ m. m) t.matrices
texts-all t k e = append_assoc t.characters (flat_map (λ m. m) (take k t.matrices)) (get_or t.matrices k [])
    ∙ ap (λ xs. t.characters ++ xs) (rows-last k t.matrices e)

values-all : (h : ℕ) (t : WrittenRepresentation) → IsRepresentationForm h t → All IsValueText (t.characters ++ flat_map (λ m. m) t.matrices)
values-all h t f = All-append IsValueText t.characters (flat_map (λ m. m) t.matrices) f.characters (all-flat IsValueText t.matrices f.entries)

-- the texts of a representation are limited over one denominator
pub record HasLimitedTexts (n : ℕ) (t : WrittenRepresentation) : Type 0 where
  pub denominator : ℕ
  pub positive : 0 < denominator
  pub limited : denominator ≤ 4096
  pub characters : All (IsLimitedText n denominator) t.characters
  pub matrices : All (All (IsLimitedText n denominator)) t.matrices

limited-representation : (n h k : ℕ) (t : WrittenRepresentation) → IsRepresentationForm h t → suc k ≡ h → ¬ (PassesTogether (texts-upto t k)) → HasLimitedTexts n t
limited-representation n h k t f e none =
    let all : texts-upto t k ≡ t.characters ++ flat_map (λ m. m) t.matrices = texts-all t k (e ∙ sym f.matrix_count) in
    let l = limited-texts n (t.characters ++ flat_map (λ m. m) t.matrices) (values-all h t f) (subst (λ ts. ¬ (PassesTogether ts)) all none) in
    record {
      denominator = l.0;
      positive = l.1;
      limited = l.2;
      characters = all-left (IsLimitedText n l.0) t.characters (flat_map (λ m. m) t.matrices) l.3;
      matrices = all-rows (IsLimitedText n l.0) t.matrices (all-right (IsLimitedText n l.0) t.characters (flat_map (λ m. m) t.matrices) l.3);
    }

module _ (W : List ℕ → WaveVector → Type 0) (P : List ℕ → Operation → Type 0) (lines : List (List ℕ)) (r : ReportContent)
    (h : IsReadReport W P lines r) where
  some_triplet : 0 < length h.written.triplets
  some_triplet = omega (arith, whole-positive h.written.places h.form.places, h.form.triplet_count)

  order_within : r.order ≤ ORDER_LIMIT
  order_within = elim (cases_lt ORDER_LIMIT (digits_value 10 h.written.order)) [
    | inl lt ↦ absurd (h.within _ (order_passes lt))
    | inr le ↦ omega (arith, le, h.order)
  ]

  few_places : r.places ≤ 48
  few_places = elim (cases_lt 48 (length h.written.triplets)) [
    | inl lt ↦ absurd (h.within _ (places_pass lt))
    | inr le ↦ omega (arith, le, h.places)
  ]

  few_representations : r.count ≤ 48
  few_representations = elim (cases_lt 48 (length h.written.representations)) [
    | inl lt ↦ absurd (h.within _ (count_passes lt))
    | inr le ↦ omega (arith, le, h.count)
  ]

  module _ (m : Fin r.count) where
    below : to_nat m < length h.written.representations
    below = omega (arith, to_nat-lt m, h.count)

    abbrev part : WrittenRepresentation
    part = get_or h.written.representations (to_nat m) no_representation

    is_part : part ≡ get_or h.written.representations (to_nat m) part
    is_part = get_or_default h.written.representations (to_nat m) no_representation part below

    form_of : IsRepresentationForm (length h.written.triplets) part
    form_of = h.form.representations (to_nat m) no_representation below

    size_of : r.size m ≡ digits_value 10 part.dimension
    size_of = h.size m ∙ ap (digits_value 10)
        (get_or-map (λ (t : WrittenRepresentation). t.dimension) h.written.representations (to_nat m) no_representation [] below)

    some_row : 0 < r.size m
    some_row = omega (arith, whole-positive part.dimension form_of.dimension, size_of)

    few_rows : r.size m ≤ 48
    few_rows = elim (cases_lt 48 (digits_value 10 part.dimension)) [
      | inl lt ↦ absurd (h.within _ (dimension_passes (to_nat m) part below is_part lt))
      | inr le ↦ omega (arith, le, size_of)
    ]

    texts_of : HasLimitedTexts r.order part
    texts_of = last (length h.written.triplets) refl
      where
        last : (p : ℕ) → p ≡ length h.written.triplets → HasLimitedTexts r.order part
        last zero e = absurd (omega (arith, e, some_triplet))
        last (suc k) e = limited-representation r.order (suc k) k part
            (subst (λ n. IsRepresentationForm n part) (sym e) form_of) refl
            (λ f. h.within _ (entries_pass (to_nat m) k part below is_part (omega (arith, e, form_of.matrix_count)) (inr f)))

    character_of : (i : Fin r.places) → IsRootSum r.order (2 ^ 30) texts_of.denominator (r.character m i)
    character_of i = texts_of.characters (to_nat i) [] (omega (arith, to_nat-lt i, h.places, form_of.character_count)) (r.character m i)
        (subst (λ ts. IsReadAs r.order (get_or ts (to_nat i) []) (r.character m i))
        (get_or-map (λ (t : WrittenRepresentation). t.characters) h.written.representations (to_nat m) no_representation [] below) (h.character m i))

    entry_of : (i : Fin r.places) (a b : Fin (r.size m)) → IsRootSum r.order (2 ^ 30) texts_of.denominator ((r.matrix m i).at a b)
    entry_of i a b =
        let there : to_nat i < length part.matrices = omega (arith, to_nat-lt i, h.places, form_of.matrix_count) in
        let counted : length (get_or part.matrices (to_nat i) []) ≡ r.size m * r.size m = form_of.entry_counts (to_nat i) [] there
        ∙ ap (λ d. d * d) (sym size_of) in
        let place : to_nat a * r.size m + to_nat b < r.size m * r.size m = place-below (to_nat a) (to_nat b) (r.size m) (to_nat-lt a) (to_nat-lt b) in
        texts_of.matrices (to_nat i) [] there (to_nat a * r.size m + to_nat b) [] (omega (arith, counted, place)) ((r.matrix m i).at a b)
        (subst (λ ts. IsReadAs r.order (get_or (get_or ts (to_nat i) []) (to_nat a * r.size m + to_nat b) []) ((r.matrix m i).at a b))
        (get_or-map (λ (t : WrittenRepresentation). t.matrices) h.written.representations (to_nat m) no_representation [] below) (h.matrix m i a b))

    limited_numbers : AreLimited r m
    limited_numbers = record {
      denominator = texts_of.denominator;
      limited = texts_of.limited;
      characters = character_of;
      matrices = λ i. record { positive = texts_of.positive; entry = entry_of i };
    }

  pub read-limited : IsLimitedReport r
  read-limited = record {
    order = omega (arith, whole-positive h.written.order h.form.order, h.order);
    order_within = order_within;
    some_place = omega (arith, some_triplet, h.places);
    few_places = few_places;
    few_representations = few_representations;
    some_row = some_row;
    few_rows = few_rows;
    numbers = limited_numbers;
  }
