-- A printed report whose numbers are within the limits is read as the same report.
--   All-listed, at-listed, at-map, at-rows, length-rows     items by place
--   value_text            a text that is read is in the grammar
--   read-printed          the lines of a printed report are read as that report
use Rattle.std.proofs.Common.{◌≡◌, sym, ◌∙◌, ap, refl, subst, ℕ, zero, suc, ◌+◌, ◌*◌, ◌<◌, ◌^◌, List, [], ◌++◌, append-nil, length, length-append, get_or, map, All, zero-mul, suc-mul, inl, inr, arith}
use Rattle.std.specs.List.{flat_map}
use Rattle.std.specs.Str.Parse.{digits_value}
use Rattle.std.specs.Fmt.{decimal}
use Rattle.std.proofs.lemmas.Bool.{cases_lt}
use Rattle.std.proofs.lemmas.Fmt.{decimal_is_IsNumeral, decimal_digit}
use Rattle.std.proofs.lemmas.List.{get_or_append_left, get_or-append-add}
use Rattle.std.proofs.lemmas.List.Elements.{All-append}
use Rattle.irr_algebra.specs.Fin.{Fin, to_nat}
use Rattle.irr_algebra.specs.Fin.Fin.{first, next}
use Rattle.irr_algebra.proofs.Indices.{to_nat-lt}
use Rattle.irr_number.specs.Number.{Number}
use Rattle.irr_space.specs.Operation.{Operation, WaveVector}
use Rattle.irr_text.specs.NumberText.{number_text}
use Rattle.irr_text.specs.WaveText.{wave_text}
use Rattle.irr_text.specs.TripletText.{triplet_text}
use Rattle.irr_text.specs.ReportText.{ReportContent}
use Rattle.irr_numeral.specs.WrittenValue.{IsReadAs}
use Rattle.irr_numeral.proofs.PrintedReadings.{printed-read}
use Rattle.irr_numeral.proofs.PrintedTermFacts.{whole-decimal}
use Rattle.irr_report.specs.ReportLines.{WrittenRepresentation, report_lines}
use Rattle.irr_report.specs.ReportGrammar.{IsWholeNumber, IsValueText, IsRepresentationForm, IsForm}
use Rattle.irr_report.specs.ReportLimits.{PassesAt}
use Rattle.irr_report.specs.ReadReport.{IsReadReport, HasSmallNumbers, IsSmallNumber}
use Rattle.irr_report.specs.PrintedReport.{listed, entry_texts, representation_of, written_of}
use Rattle.irr_report.proofs.PrintedReports.{length-listed}

pub All-listed : {A : Type 0} (P : A → Type 0) (n : ℕ) (f : Fin n → A) → ((i : Fin n) → P (f i)) → All P (listed n f)
unfolding listed
All-listed P zero f h k d lt = absurd (omega arith)
All-listed P (suc n) f h zero d lt = h first
All-listed P (suc n) f h (suc k) d lt = All-listed P n (λ i. f (next i)) (λ i. h (next i)) k d (omega arith)

pub at-listed : {A : Type 0} (n : ℕ) (f : Fin n → A) (i : Fin n) (d : A) → get_or (listed n f) (to_nat i) d ≡ f i
unfolding listed to_nat
at-listed zero f i d = elim i [ ]
at-listed (suc n) f first d = refl
at-listed (suc n) f (next i) d = at-listed n (λ j. f (next j)) i d

at-map : {A B : Type 0} (g : A → B) (n : ℕ) (f : Fin n → A) (i : Fin n) (d : B) → get_or (map g (listed n f)) (to_nat i) d ≡ g (f i)
unfolding listed to_nat
at-map g zero f i d = elim i [ ]
at-map g (suc n) f first d = refl
at-map g (suc n) f (next i) d = at-map g n (λ j. f (next j)) i d

module _ {A : Type 0} (c : ℕ) where
  abbrev rows_of : (r : ℕ) → (Fin r → Fin c → A) → List A
  rows_of r T = flat_map (λ row. row) (listed r (λ a. listed c (T a)))

  length-rows : (r : ℕ) (T : Fin r → Fin c → A) → length (rows_of r T) ≡ r * c
  unfolding listed
  length-rows zero T = sym (zero-mul c)
  length-rows (suc r) T =
      let whole : length (listed c (T first) ++ rows_of r (λ a. T (next a))) ≡ length (listed c (T first)) + length (rows_of r (λ a. T (next a)))
      = length-append (listed c (T first)) (rows_of r (λ a. T (next a))) in
      let row : length (listed c (T first)) ≡ c = length-listed c (T first) in
      let rest : length (rows_of r (λ a. T (next a))) ≡ r * c = length-rows r (λ a. T (next a)) in
      let product : suc r * c ≡ r * c + c = suc-mul r c in
      omega arith

  at-rows : (r : ℕ) (T : Fin r → Fin c → A) (a : Fin r) (b : Fin c) (d : A) → get_or (rows_of r T) (to_nat a * c + to_nat b) d ≡ T a b
  unfolding listed to_nat
  at-rows zero T a b d = elim a [ ]
  at-rows (suc r) T first b d = ap (λ k. get_or (listed c (T first) ++ rows_of r (λ a. T (next a))) k d) place
      ∙ get_or_append_left (listed c (T first)) (rows_of r (λ a. T (next a))) d (to_nat b) within ∙ at-listed c (T first) b d
    where
      place : 0 * c + to_nat b ≡ to_nat b
      place = let z : 0 * c ≡ 0 = zero-mul c in omega arith

      within : to_nat b < length (listed c (T first))
      within = let l : length (listed c (T first)) ≡ c = length-listed c (T first) in let t : to_nat b < c = to_nat-lt b in omega arith
  at-rows (suc r) T (next a) b d = ap (λ k. get_or (listed c (T first) ++ rows_of r (λ e. T (next e))) k d) place
      ∙ get_or-append-add (listed c (T first)) (rows_of r (λ e. T (next e))) (to_nat a * c + to_nat b) d ∙ at-rows r (λ e. T (next e)) a b d
    where
      place : suc (to_nat a) * c + to_nat b ≡ length (listed c (T first)) + (to_nat a * c + to_nat b)
      place = let l : length (listed c (T first)) ≡ c = length-listed c (T first) in
          let p : suc (to_nat a) * c ≡ to_nat a * c + c = suc-mul (to_nat a) c in omega arith

pub All-rows : (P : List ℕ → Type 0) {c : ℕ} (r : ℕ) (T : Fin r → Fin c → List ℕ) → ((a : Fin r) (b : Fin c) → P (T a b))
    → All P (flat_map (λ row. row) (listed r (λ a. listed c (T a))))
unfolding listed
All-rows P zero T h = λ k d lt. absurd (omega arith)
All-rows P {c = c} (suc r) T h = All-append P (listed c (T first)) (flat_map (λ row. row) (listed r (λ a. listed c (T (next a)))))
    (All-listed P c (T first) (h first)) (All-rows P r (λ a. T (next a)) (λ a. h (next a)))

pub value_of_text : (n : ℕ) → n < 2 ^ 64 → digits_value 10 (decimal n) ≡ n
value_of_text n h = (decimal_is_IsNumeral n h).1

whole_or_zero : (n : ℕ) → n < 2 ^ 64 → IsWholeNumber (decimal n)
whole_or_zero n h = elim (cases_lt 0 n) [
  | inl l ↦ inr (whole-decimal n l h)
  | inr g ↦ (let z : n ≡ 0 = omega arith in inl (ap decimal z ∙ decimal_digit 0 (omega arith)))
]

-- a text that is read is in the grammar
value_text : (n : ℕ) (text : List ℕ) (x : Number n) → IsReadAs n text x → IsValueText text
value_text n text x read = record {
  number = record { terms = read.terms; are_terms = read.are_terms; spells = read.spells };
  increasing = read.increasing;
  not_zero = read.not_zero;
}

module _ (r : ReportContent) (small : HasSmallNumbers r) where
  read_number : (x : Number r.order) → IsSmallNumber r.order x → IsReadAs r.order (number_text r.order x) x
  read_number x s = printed-read r.order small.order small.order_limited x s.denominator s.size

  read_character : (m : Fin r.count) (i : Fin r.places) → IsReadAs r.order (number_text r.order (r.character m i)) (r.character m i)
  read_character m i = read_number (r.character m i) (small.characters m i)

  read_entry : (m : Fin r.count) (i : Fin r.places) (a b : Fin (r.size m))
      → IsReadAs r.order (number_text r.order ((r.matrix m i).at a b)) ((r.matrix m i).at a b)
  read_entry m i a b = read_number ((r.matrix m i).at a b) (small.entries m i a b)

  abbrev entry_text : (m : Fin r.count) (i : Fin r.places) (a b : Fin (r.size m)) → List ℕ
  entry_text m i a b = number_text r.order ((r.matrix m i).at a b)

  All-entries : (m : Fin r.count) (i : Fin r.places) → All IsValueText (entry_texts r m i)
  All-entries m i = All-rows IsValueText (r.size m) (entry_text m i)
      (λ a b. value_text r.order (entry_text m i a b) ((r.matrix m i).at a b) (read_entry m i a b))

  representation_form : (m : Fin r.count) → IsRepresentationForm r.places (representation_of r m)
  representation_form m = record {
    dimension = whole-decimal (r.size m) (small.sizes m) (small.sizes_limited m);
    character_count = length-listed r.places (λ i. number_text r.order (r.character m i));
    characters = All-listed IsValueText r.places (λ i. number_text r.order (r.character m i))
        (λ i. value_text r.order (number_text r.order (r.character m i)) (r.character m i) (read_character m i));
    matrix_count = length-listed r.places (entry_texts r m);
    entry_counts = All-listed (λ t. length t ≡ digits_value 10 (decimal (r.size m)) * digits_value 10 (decimal (r.size m))) r.places (entry_texts r m)
        (λ i. length-rows (r.size m) (r.size m) (entry_text m i) ∙ ap (λ d. d * d) (sym (value_of_text (r.size m) (small.sizes_limited m))));
    entries = All-listed (All IsValueText) r.places (entry_texts r m) (All-entries m);
  }

  module _ (W : List ℕ → WaveVector → Type 0) (P : List ℕ → Operation → Type 0) (wave : W (wave_text r.wave) r.wave)
      (triplets : (i : Fin r.places) → P (triplet_text (r.operation i)) (r.operation i)) where
    form : IsForm (λ text. (k : WaveVector) × W text k) (λ text. (g : Operation) × P text g) (written_of r)
    form = record {
      wave = (r.wave, wave);
      order = whole-decimal r.order small.order small.order_limited;
      places = whole-decimal r.places small.places small.places_limited;
      triplet_count = value_of_text r.places small.places_limited ∙ sym counted;
      count = whole_or_zero r.count small.count_limited;
      representation_count = value_of_text r.count small.count_limited ∙ sym (length-listed r.count (representation_of r));
      triplets = All-listed (λ text. (g : Operation) × P text g) r.places (λ i. triplet_text (r.operation i)) (λ i. (r.operation i, triplets i));
      representations = All-listed (IsRepresentationForm (length (listed r.places (λ i. triplet_text (r.operation i))))) r.count (representation_of r)
          (λ m. subst (λ n. IsRepresentationForm n (representation_of r m)) (sym counted) (representation_form m));
    }
      where
        counted : length (listed r.places (λ i. triplet_text (r.operation i))) ≡ r.places
        counted = length-listed r.places (λ i. triplet_text (r.operation i))

    pub read-printed : ((k : ℕ) → ¬ (PassesAt (written_of r) k)) → IsReadReport W P (report_lines (written_of r)) r
    read-printed within = record {
      written = written_of r;
      form = form;
      empty = 0;
      are = sym (append-nil (report_lines (written_of r)));
      within = within;
      wave = wave;
      order = sym (value_of_text r.order small.order_limited);
      places = sym (length-listed r.places (λ i. triplet_text (r.operation i)));
      operation = λ i. subst (λ t. P t (r.operation i)) (sym (at-listed r.places (λ j. triplet_text (r.operation j)) i [])) (triplets i);
      count = sym (length-listed r.count (representation_of r));
      size = λ m. sym (ap (digits_value 10) (at-map (λ (t : WrittenRepresentation). t.dimension) r.count (representation_of r) m [])
          ∙ value_of_text (r.size m) (small.sizes_limited m));
      character = λ m i. subst (λ t. IsReadAs r.order t (r.character m i))
          (sym (ap (λ ts. get_or ts (to_nat i) []) (at-map (λ (t : WrittenRepresentation). t.characters) r.count (representation_of r) m [])
          ∙ at-listed r.places (λ j. number_text r.order (r.character m j)) i [])) (read_character m i);
      matrix = λ m i a b. subst (λ t. IsReadAs r.order t ((r.matrix m i).at a b))
          (sym (ap (λ ts. get_or (get_or ts (to_nat i) []) (to_nat a * r.size m + to_nat b) [])
          (at-map (λ (t : WrittenRepresentation). t.matrices) r.count (representation_of r) m [])
          ∙ ap (λ ts. get_or ts (to_nat a * r.size m + to_nat b) []) (at-listed r.places (entry_texts r m) i [])
          ∙ at-rows (r.size m) (r.size m) (entry_text m i) a b [])) (read_entry m i a b);
    }
