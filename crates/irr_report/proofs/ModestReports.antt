-- A report with small counts and small numbers passes no limit.
--   IsSmallText n e text     the text is read at the order n, and its terms have the denominator e, over which their size is small
--   small-text               so is the text of a number that is small over e
--   together-within          such texts pass no limit together
--   modest-small             its numbers are within the limits on numbers
--   modest-within            no line of a modest report passes a limit
use Rattle.std.proofs.Common.{◌≡◌, sym, ◌∙◌, ap, subst, ℕ, zero, suc, ◌<◌, ◌≤◌, ◌*◌, ◌/◌, ◌^◌, List, [], ◌∷◌, ◌++◌, length, get_or, map, take, All, arith, ◌⊎◌, inl, inr}
use Rattle.std.specs.Int.{◌∣◌}
use Rattle.std.specs.List.{flat_map}
use Rattle.std.specs.Fmt.{decimal}
use Rattle.std.specs.Str.Parse.{digits_value}
use Rattle.std.proofs.lemmas.List.{get_or-map, length-map}
use Rattle.std.proofs.lemmas.List.Elements.{All-append, All-take}
use Rattle.std.proofs.lemmas.List.Sums.{sum_by-le-sum_by}
use Rattle.std.proofs.lemmas.Nat.{le-div}
use Rattle.std.proofs.lemmas.Nat.Gcd.{le_of_dvd}
use native.Mathlib.Nat as Nat
use Rattle.irr_algebra.specs.Fin.{Fin}
use Rattle.irr_algebra.proofs.Indices.{from_nat, to_nat-from_nat}
use Rattle.irr_number.specs.Number.{Number}
use Rattle.irr_canonical.specs.Coefficient.{denominator, size}
use Rattle.irr_text.specs.NumberText.{number_text}
use Rattle.irr_text.specs.TripletText.{triplet_text}
use Rattle.irr_text.specs.ReportText.{ReportContent}
use Rattle.irr_numeral.specs.declared.limits.TheConstants.{COEFFICIENT_LIMIT, DENOMINATOR_LIMIT}
use Rattle.irr_numeral.specs.declared.read.NumberError.TheVariants.{Range, Memory}
use Rattle.irr_numeral.specs.WrittenNumber.{WrittenTerm, AreTerms, spelled}
use Rattle.irr_numeral.specs.WrittenValue.{IsReadAs, denominator_of, numerator_over, written_size}
use Rattle.irr_numeral.proofs.OneReading.{spelled-unique, no-fault}
use Rattle.irr_numeral.proofs.PrintedReadings.{printed-read}
use Rattle.irr_numeral.proofs.PrintedSizes.{IsOver, printed-over}
use Rattle.irr_report.specs.ReportLines.{WrittenRepresentation}
use Rattle.irr_report.specs.ReportLimits.{PassesTogether, IsBeyond, PassesIn, PassesAt, count_limit}
use Rattle.irr_report.specs.ReportLimits.PassesAt.{order as order_passes, places as places_pass, count as count_passes, dimension as dimension_passes, characters as characters_pass, entries as entries_pass}
use Rattle.irr_report.specs.PrintedReport.{listed, entry_texts, representation_of, written_of}
use Rattle.irr_report.specs.ReadReport.{HasSmallNumbers, IsSmallNumber}
use Rattle.irr_report.specs.ModestReport.{modest_size, modest_denominator, IsSmallOver, AreSmallTogether, IsModest}
use Rattle.irr_report.proofs.PrintedReports.{length-listed}
use Rattle.irr_report.proofs.ReadPrinted.{All-listed, All-rows, at-listed, value_of_text}

-- Lists of lists.

pub all-flat : {A : Type 0} (P : A → Type 0) (rows : List (List A)) → All (All P) rows → All P (flat_map (λ row. row) rows)
all-flat P [] h = λ k d lt. absurd (omega arith)
all-flat P (row ∷ rows) h = All-append P row (flat_map (λ r. r) rows) (h 0 row (omega arith)) (all-flat P rows (λ k d lt. h (suc k) d (omega arith)))

-- Texts.

pub record IsSmallText (n e : ℕ) (text : List ℕ) : Type 0 where
  pub number : Number n
  pub read : IsReadAs n text number
  pub sum : ℕ
  pub over : IsOver e sum text
  pub small : sum ≤ modest_size

-- a factor is no greater than a product with a number above 0
factor-le : (a d e : ℕ) → 0 < e → d ∣ e → a ≤ a * (e / d)
factor-le a d e p v = Nat.le-mul_of_pos_right a quotient
  where
    quotient : 0 < e / d
    quotient = Nat.pos_of_dvd_of_pos (subst (λ x. e / d ∣ x) (Nat.mul-div_cancel' d v) (Nat.dvd-mul_left (e / d) d)) p

-- by itself it is within the limits
within-limits : (n e : ℕ) → 0 < e → e ≤ modest_denominator → (x : Number n) → IsSmallOver n e x → IsSmallNumber n x
within-limits n e p le x h =
    let den : denominator n x ≤ e = le_of_dvd p h.divides in
    let part : size n x ≤ size n x * (e / denominator n x) = factor-le (size n x) (denominator n x) e p h.divides in
    let over : size n x * (e / denominator n x) ≤ modest_size = h.size_over in
    record { denominator = omega arith; size = omega arith }

small-text : (n e : ℕ) → 0 < n → n < 2 ^ 64 → 0 < e → e ≤ modest_denominator → (x : Number n) → IsSmallOver n e x → IsSmallText n e (number_text n x)
small-text n e some top p le x h =
    let within : IsSmallNumber n x = within-limits n e p le x h in
    record {
      number = x;
      read = printed-read n some top x within.denominator within.size;
      sum = size n x * (e / denominator n x);
      over = printed-over n top x within.denominator within.size e h.divides;
      small = h.size_over;
    }

range-memory : (p : ℕ) → Range p ≡ Memory → ⊥
range-memory p e = cc

not-beyond : (n e : ℕ) (text : List ℕ) → IsSmallText n e text → ¬ (IsBeyond n text)
not-beyond n e text h f = range-memory f.0 (no-fault n text h.number (Range f.0) h.read f.1)

-- Texts together.

quotient-le : (l e d : ℕ) → l ≤ e → l / d ≤ e / d
quotient-le l e zero le = subst (λ q. q ≤ e / 0) (sym (Nat.div-zero l)) (omega arith)
quotient-le l e (suc d) le = le-div (l / suc d) e (suc d) (omega arith) (Nat.le_trans (Nat.div-mul-le_self l (suc d)) le)

-- over a smaller number the size is no greater
size-le : (l e : ℕ) (ts : List WrittenTerm) → l ≤ e → written_size l ts ≤ written_size e ts
size-le l e ts le = sum_by-le-sum_by (numerator_over l) (numerator_over e) ts
    (λ t. Nat.mul-le-mul_left (digits_value 10 t.numerator) (quotient-le l e (denominator_of t) le))

abbrev IsSmallList : ℕ → List WrittenTerm → Type 0
IsSmallList e ts = All (λ t. denominator_of t ∣ e) ts × (written_size e ts ≤ modest_size)

small-list : (n e : ℕ) (text : List ℕ) (ts : List WrittenTerm) → IsSmallText n e text → AreTerms ts → spelled ts ≡ text → IsSmallList e ts
small-list n e text ts h are spells =
    let same : h.over.terms ≡ ts = spelled-unique h.over.terms ts h.over.are_terms are (h.over.spells ∙ sym spells) in (
      subst (All (λ t. denominator_of t ∣ e)) same h.over.divides,
      subst (λ us. written_size e us ≤ modest_size) same (subst (λ s. s ≤ modest_size) (sym h.over.size) h.small),
    )

small-lists : (n e : ℕ) (texts : List (List ℕ)) (terms : List (List WrittenTerm)) → All (IsSmallText n e) texts → All AreTerms terms → map spelled terms ≡ texts
    → All (IsSmallList e) terms
small-lists n e texts terms h are spells k d lt =
    let there : k < length (map spelled terms) = omega (arith, lt, length-map terms spelled) in
    small-list n e (get_or (map spelled terms) k (spelled d)) (get_or terms k d) (subst (All (IsSmallText n e)) (sym spells) h k (spelled d) there)
    (are k d lt) (sym (get_or-map spelled terms k d (spelled d) lt))

together-within : (n e : ℕ) (texts : List (List ℕ)) → 0 < e → e ≤ modest_denominator → All (IsSmallText n e) texts → ¬ (PassesTogether texts)
together-within n e texts p le h f = by_case f.passes
  where
    lists : All (IsSmallList e) f.terms
    lists = small-lists n e texts f.terms h f.are_terms f.spells

    below : f.denominator ≤ e
    below = le_of_dvd p (f.common.least e (all-flat (λ t. denominator_of t ∣ e) f.terms (λ k d lt. (lists k d lt).0)))

    by_case : (DENOMINATOR_LIMIT < f.denominator)
        ⊎ ((i : ℕ) × (i < length f.terms) × (COEFFICIENT_LIMIT < written_size f.denominator (get_or f.terms i []))) → ⊥
    by_case (inl g) = omega (arith, below, le, g)
    by_case (inr g) =
        let less : written_size f.denominator (get_or f.terms g.0 []) ≤ written_size e (get_or f.terms g.0 []) =
        size-le f.denominator e (get_or f.terms g.0 []) below in
        let small : written_size e (get_or f.terms g.0 []) ≤ modest_size = (lists g.0 [] g.1).1 in
        let beyond : COEFFICIENT_LIMIT < written_size f.denominator (get_or f.terms g.0 []) = g.2 in
        omega arith

line-within : (n e : ℕ) (earlier texts : List (List ℕ)) → 0 < e → e ≤ modest_denominator → All (IsSmallText n e) earlier → All (IsSmallText n e) texts
    → ¬ (PassesIn n earlier texts)
line-within n e earlier texts p le before h (inl f) = not-beyond n e (get_or texts f.0 []) (h f.0 [] f.1) f.2
line-within n e earlier texts p le before h (inr f) =
    together-within n e (earlier ++ texts) p le (All-append (IsSmallText n e) earlier texts before h) f

-- Reports.

module _ (r : ReportContent) (modest : IsModest r) where
  order_top : r.order < 2 ^ 64
  order_top = let le = modest.order_within in omega arith

  order_digits : digits_value 10 (decimal r.order) ≡ r.order
  order_digits = value_of_text r.order order_top

  -- a member of the list of representations
  member : (j : ℕ) (t : WrittenRepresentation) → j < length (listed r.count (representation_of r)) → t ≡ get_or (listed r.count (representation_of r)) j t
      → (m : Fin r.count) × (t ≡ representation_of r m)
  member j t lt is =
      let count : length (listed r.count (representation_of r)) ≡ r.count = length-listed r.count (representation_of r) in
      let below : j < r.count = omega arith in (
        from_nat r.count j below,
        is ∙ ap (λ k. get_or (listed r.count (representation_of r)) k t) (sym (to_nat-from_nat r.count j below))
            ∙ at-listed r.count (representation_of r) (from_nat r.count j below) t,
      )

  module _ (m : Fin r.count) where
    numbers : AreSmallTogether r m
    numbers = modest.numbers m

    abbrev IsSmall : List ℕ → Type 0
    IsSmall = IsSmallText r.order numbers.common

    small_characters : All IsSmall (representation_of r m).characters
    small_characters = All-listed IsSmall r.places (λ i. number_text r.order (r.character m i))
        (λ i. small-text r.order numbers.common modest.order order_top numbers.positive numbers.small (r.character m i) (numbers.characters i))

    small_entries : All (All IsSmall) (representation_of r m).matrices
    small_entries = All-listed (All IsSmall) r.places (entry_texts r m) (λ i. All-rows IsSmall (r.size m) (λ a b. number_text r.order ((r.matrix m i).at a b))
        (λ a b. small-text r.order numbers.common modest.order order_top numbers.positive numbers.small ((r.matrix m i).at a b) (numbers.entries i a b)))

    dimension_within : ¬ (count_limit < digits_value 10 (decimal (r.size m)))
    dimension_within g =
        let le : r.size m ≤ count_limit = modest.sizes_within m in
        let is : digits_value 10 (decimal (r.size m)) ≡ r.size m = value_of_text (r.size m) (omega arith) in
        omega arith

    characters_within : ¬ (PassesIn r.order [] (representation_of r m).characters)
    characters_within = line-within r.order numbers.common [] (representation_of r m).characters numbers.positive numbers.small
        (λ k d lt. absurd (omega arith)) small_characters

    entries_within : (i : ℕ) → i < length (representation_of r m).matrices
        → ¬ (PassesIn r.order ((representation_of r m).characters ++ flat_map (λ t. t) (take i (representation_of r m).matrices))
        (get_or (representation_of r m).matrices i []))
    entries_within i lt = line-within r.order numbers.common
        ((representation_of r m).characters ++ flat_map (λ t. t) (take i (representation_of r m).matrices)) (get_or (representation_of r m).matrices i [])
        numbers.positive numbers.small
        (All-append IsSmall (representation_of r m).characters (flat_map (λ t. t) (take i (representation_of r m).matrices)) small_characters
        (all-flat IsSmall (take i (representation_of r m).matrices) (All-take (All IsSmall) i (representation_of r m).matrices small_entries)))
        (small_entries i [] lt)

  -- of a member's written form
  dimension_of : (t : WrittenRepresentation) → (m : Fin r.count) × (t ≡ representation_of r m) → ¬ (count_limit < digits_value 10 t.dimension)
  dimension_of t s g = dimension_within s.0 (subst (λ u. count_limit < digits_value 10 u.dimension) s.1 g)

  characters_of : (t : WrittenRepresentation) → (m : Fin r.count) × (t ≡ representation_of r m)
      → ¬ (PassesIn (digits_value 10 (decimal r.order)) [] t.characters)
  characters_of t s g = characters_within s.0
      (subst (λ n. PassesIn n [] (representation_of r s.0).characters) order_digits
      (subst (λ u. PassesIn (digits_value 10 (decimal r.order)) [] u.characters) s.1 g))

  entries_of : (t : WrittenRepresentation) (i : ℕ) → (m : Fin r.count) × (t ≡ representation_of r m) → i < length t.matrices
      → ¬ (PassesIn (digits_value 10 (decimal r.order)) (t.characters ++ flat_map (λ ts. ts) (take i t.matrices)) (get_or t.matrices i []))
  entries_of t i s lt g = entries_within s.0 i (subst (λ u. i < length u.matrices) s.1 lt)
      (subst (λ n. PassesIn n ((representation_of r s.0).characters ++ flat_map (λ ts. ts) (take i (representation_of r s.0).matrices))
      (get_or (representation_of r s.0).matrices i [])) order_digits
      (subst (λ u. PassesIn (digits_value 10 (decimal r.order)) (u.characters ++ flat_map (λ ts. ts) (take i u.matrices)) (get_or u.matrices i [])) s.1 g))

pub modest-within : (r : ReportContent) → IsModest r → (k : ℕ) → ¬ (PassesAt (written_of r) k)
modest-within r modest _ (order_passes g) = let is = order_digits r modest in let le = modest.order_within in omega arith
modest-within r modest _ (places_pass g) =
    let is = length-listed r.places (λ i. triplet_text (r.operation i)) in let le = modest.places_within in omega arith
modest-within r modest _ (count_passes g) = let is = length-listed r.count (representation_of r) in let le = modest.count_within in omega arith
modest-within r modest _ (dimension_passes j t lt is g) = dimension_of r modest t (member r modest j t lt is) g
modest-within r modest _ (characters_pass j t lt is g) = characters_of r modest t (member r modest j t lt is) g
modest-within r modest _ (entries_pass j i t lt is at g) = entries_of r modest t i (member r modest j t lt is) at g

pub modest-small : (r : ReportContent) → IsModest r → 0 < r.places → ((m : Fin r.count) → 0 < r.size m) → HasSmallNumbers r
modest-small r modest some sizes =
    let places : r.places ≤ count_limit = modest.places_within in
    let count : r.count ≤ count_limit = modest.count_within in
    record {
      order = modest.order;
      order_limited = order_top r modest;
      places = some;
      places_limited = omega arith;
      count_limited = omega arith;
      sizes = sizes;
      sizes_limited = λ m. (let le : r.size m ≤ count_limit = modest.sizes_within m in omega arith);
      characters = λ m i. (let h = modest.numbers m in within-limits r.order h.common h.positive h.small (r.character m i) (h.characters i));
      entries = λ m i a b. (let h = modest.numbers m in within-limits r.order h.common h.positive h.small ((r.matrix m i).at a b) (h.entries i a b));
    }
