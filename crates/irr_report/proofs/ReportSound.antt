-- What the states of a report say is in the grammar, and is what the whole report says.
--   IsSound W P s          what s says is in the grammar; sound-step, sound-leads
--   Agrees s w             the report w begins with what s says; agrees-matrix, agrees-step, agrees-leads
use Rattle.std.proofs.Common.{◌≡◌, refl, sym, ◌∙◌, ap, subst, ℕ, zero, suc, ◌<◌, ◌≤◌, ◌*◌, List, [], ◌∷◌, ◌++◌, length, length-append, append_assoc, append-nil, All, arith, inl, inr}
use Rattle.std.specs.Str.Parse.{digits_value}
use Rattle.std.proofs.lemmas.List.Elements.{All-append}
use Rattle.irr_numeral.specs.WrittenNumber.{IsWhole}
use Rattle.irr_numeral.proofs.ExponentOrder.{exponent_of_whole}
use Rattle.irr_report.specs.Machine.{Leads}
use Rattle.irr_report.specs.Machine.Leads.{none as leads_none, more as leads_more}
use Rattle.irr_report.specs.ReportLines.{WrittenRepresentation, WrittenReport}
use Rattle.irr_report.specs.ReportGrammar.{IsWholeNumber, IsValueText, IsRepresentationForm, IsForm}
use Rattle.irr_report.specs.ReportSteps.{Heading, Body, State, IsFilled, Step, report_machine, with_matrix, without_matrices, report_of}
use Rattle.irr_report.specs.ReportSteps.State.{untitled, titled, waved, ordered, listing, counted, sized, filling, closed}

-- in the grammar

pub record IsSoundHeading (W : List ℕ → Type 0) (h : Heading) : Type 0 where
  pub wave : W h.wave
  pub order : IsWhole h.order
  pub places : IsWhole h.places

pub record IsSoundBody (W P : List ℕ → Type 0) (b : Body) : Type 0 where
  pub heading : IsSoundHeading W b.heading
  pub triplets : All P b.triplets
  pub triplet_count : digits_value 10 b.heading.places ≡ length b.triplets
  pub count : IsWholeNumber b.count

pub record IsSoundPart (h : ℕ) (t : WrittenRepresentation) : Type 0 where
  pub dimension : IsWhole t.dimension
  pub character_count : length t.characters ≡ h
  pub characters : All IsValueText t.characters
  pub entry_counts : All (λ m. length m ≡ digits_value 10 t.dimension * digits_value 10 t.dimension) t.matrices
  pub entries : All (All IsValueText) t.matrices

abbrev pub IsSound : (W P : List ℕ → Type 0) → State → Type 0
IsSound W P untitled = Unit {0}
IsSound W P titled = Unit {0}
IsSound W P (waved k) = W k
IsSound W P (ordered k n) = W k × IsWhole n
IsSound W P (listing h ts) = IsSoundHeading W h × All P ts × (length ts ≤ digits_value 10 h.places)
IsSound W P (counted b rs) = IsSoundBody W P b × All (IsRepresentationForm (length b.triplets)) rs × (length rs ≤ digits_value 10 b.count)
IsSound W P (sized b rs d) = IsSoundBody W P b × All (IsRepresentationForm (length b.triplets)) rs × (length rs < digits_value 10 b.count) × IsWhole d
IsSound W P (filling b rs r) = IsSoundBody W P b × All (IsRepresentationForm (length b.triplets)) rs × (length rs < digits_value 10 b.count)
    × IsSoundPart (length b.triplets) r × (length r.matrices < length b.triplets)
IsSound W P (closed w) = IsForm W P w

All-one : {A : Type 0} (P : A → Type 0) (x : A) → P x → All P (x ∷ [])
All-one P x h zero d lt = h
All-one P x h (suc k) d lt = absurd (omega arith)

pub All-more : {A : Type 0} (P : A → Type 0) (xs : List A) (x : A) → All P xs → P x → All P (xs ++ x ∷ [])
All-more P xs x h k = All-append P xs (x ∷ []) h (All-one P x k)

length-more : {A : Type 0} (xs : List A) (x : A) → length (xs ++ x ∷ []) ≡ suc (length xs)
length-more xs x = omega (arith, length-append xs (x ∷ []))

pub whole-positive : (ds : List ℕ) → IsWhole ds → 0 < digits_value 10 ds
whole-positive ds h = (exponent_of_whole ds h).1

pub All-none : {A : Type 0} (P : A → Type 0) → All P []
All-none P = λ k d lt. absurd (omega arith)

module _ (W P : List ℕ → Type 0) where
  sound-part : (h : ℕ) (r : WrittenRepresentation) (texts : List (List ℕ)) → IsSoundPart h r → All IsValueText texts
      → length texts ≡ digits_value 10 r.dimension * digits_value 10 r.dimension → IsSoundPart h (with_matrix r texts)
  sound-part h r texts s all count = record {
    dimension = s.dimension;
    character_count = s.character_count;
    characters = s.characters;
    entry_counts = All-more (λ m. length m ≡ digits_value 10 r.dimension * digits_value 10 r.dimension) r.matrices texts s.entry_counts count;
    entries = All-more (All IsValueText) r.matrices texts s.entries all;
  }

  whole-part : (h : ℕ) (r : WrittenRepresentation) → IsSoundPart h r → length r.matrices ≡ h → IsRepresentationForm h r
  whole-part h r s e = record {
    dimension = s.dimension;
    character_count = s.character_count;
    characters = s.characters;
    matrix_count = e;
    entry_counts = s.entry_counts;
    entries = s.entries;
  }

  sound-filled : (b : Body) (rs : List WrittenRepresentation) (r : WrittenRepresentation) (t : State) → IsSoundBody W P b → All (IsRepresentationForm (length b.triplets)) rs
      → length rs < digits_value 10 b.count → IsSoundPart (length b.triplets) r → length r.matrices ≤ length b.triplets → IsFilled b rs r t → IsSound W P t
  sound-filled b rs r t sb forms lt part le (inl d) = subst (IsSound W P) (sym d.1) (sb, forms, lt, part, d.0)
  sound-filled b rs r t sb forms lt part le (inr d) = subst (IsSound W P) (sym d.1)
      (sb, All-more (IsRepresentationForm (length b.triplets)) rs r forms (whole-part (length b.triplets) r part (omega (arith, le, d.0))), omega (arith, lt, length-more rs r))

  pub sound-step : (s t : State) (x : List ℕ) → IsSound W P s → Step W P s x t → IsSound W P t
  sound-step untitled t x h d = subst (IsSound W P) (sym d.1) tt
  sound-step titled t x h d = subst (IsSound W P) (sym d.3) d.1
  sound-step (waved k) t x h d = subst (IsSound W P) (sym d.3) (h, d.1)
  sound-step (ordered k n) t x h d = subst (IsSound W P) (sym d.3) (record { wave = h.0; order = h.1; places = d.1 }, All-none P, omega arith)
  sound-step (listing k ts) t x h (inl d) = subst (IsSound W P) (sym d.4) (h.0, All-more P ts d.1 h.1 d.2, omega (arith, d.0, length-more ts d.1))
  sound-step (listing k ts) t x h (inr d) = subst (IsSound W P) (sym d.4)
      (record { heading = h.0; triplets = h.1; triplet_count = omega (arith, d.0, h.2); count = d.2 }, All-none (IsRepresentationForm (length ts)), omega arith)
  sound-step (counted b rs) t x h (inl d) = subst (IsSound W P) (sym d.4) (h.0, h.1, d.0, d.2)
  sound-step (counted b rs) t x h (inr d) = subst (IsSound W P) (sym d.2) (record {
    wave = h.0.heading.wave;
    order = h.0.heading.order;
    places = h.0.heading.places;
    triplet_count = h.0.triplet_count;
    triplets = h.0.triplets;
    count = h.0.count;
    representation_count = omega (arith, d.0, h.2);
    representations = h.1;
  })
  sound-step (sized b rs n) t x h d = subst (IsSound W P) (sym d.4) (
    h.0,
    h.1,
    h.2,
    record {
      dimension = h.3;
      character_count = d.2;
      characters = d.1;
      entry_counts = All-none (λ (m : List (List ℕ)). length m ≡ digits_value 10 n * digits_value 10 n);
      entries = All-none (All IsValueText);
    },
    some (length b.triplets) (digits_value 10 b.heading.places) h.0.triplet_count (whole-positive b.heading.places h.0.heading.places),
  )
    where
      some : (k n : ℕ) → n ≡ k → 0 < n → 0 < k
      some k n e lt = omega (arith, e, lt)
  sound-step (filling b rs r) t x h d = sound-filled b rs (with_matrix r d.0) t h.0 h.1 h.2 (sound-part (length b.triplets) r d.0 h.3 d.1 d.2)
      (omega (arith, h.4, length-more r.matrices d.0)) d.4
  sound-step (closed w) t x h d = subst (IsSound W P) (sym d.1) h

  pub sound-leads : {s t : State} {ys : List (List ℕ)} → IsSound W P s → Leads (report_machine W P) s ys t → IsSound W P t
  sound-leads h leads_none = h
  sound-leads h (leads_more {s = a} {t = b} {x = y} d l) = sound-leads (sound-step a b y h d) l

-- what the whole report says

abbrev pub heading_of : WrittenReport → Heading
heading_of w = record { wave = w.wave; order = w.order; places = w.places }

abbrev pub body_of : WrittenReport → Body
body_of w = record { heading = heading_of w; triplets = w.triplets; count = w.count }

-- with further matrices
abbrev pub filled_by : WrittenRepresentation → List (List (List ℕ)) → WrittenRepresentation
filled_by r ms = record { dimension = r.dimension; characters = r.characters; matrices = r.matrices ++ ms }

abbrev pub Agrees : State → WrittenReport → Type 0
Agrees untitled w = Unit {0}
Agrees titled w = Unit {0}
Agrees (waved k) w = w.wave ≡ k
Agrees (ordered k n) w = (w.wave ≡ k) × (w.order ≡ n)
Agrees (listing h ts) w = (heading_of w ≡ h) × (rest : List (List ℕ)) × (w.triplets ≡ ts ++ rest)
Agrees (counted b rs) w = (body_of w ≡ b) × (rest : List WrittenRepresentation) × (w.representations ≡ rs ++ rest)
Agrees (sized b rs d) w = (body_of w ≡ b) × (r : WrittenRepresentation) × (rest : List WrittenRepresentation) × (w.representations ≡ rs ++ r ∷ rest) × (r.dimension ≡ d)
Agrees (filling b rs r) w = (body_of w ≡ b) × (ms : List (List (List ℕ))) × (rest : List WrittenRepresentation) × (w.representations ≡ rs ++ filled_by r ms ∷ rest)
Agrees (closed v) w = v ≡ w

module _ (W P : List ℕ → Type 0) (w : WrittenReport) where
  -- the matrix of a line stands behind the earlier ones
  pub agrees-matrix : (b : Body) (rs : List WrittenRepresentation) (r : WrittenRepresentation) (texts : List (List ℕ)) (t : State)
      → IsFilled b rs (with_matrix r texts) t → Agrees t w
      → (body_of w ≡ b) × (ms : List (List (List ℕ))) × (rest : List WrittenRepresentation) × (w.representations ≡ rs ++ filled_by r (texts ∷ ms) ∷ rest)
  agrees-matrix b rs r texts t (inl d) h = let a = subst (λ u. Agrees u w) d.1 h in (
    a.0,
    a.1,
    a.2,
    a.3 ∙ ap (λ (ms : List (List (List ℕ))). rs ++ record { dimension = r.dimension; characters = r.characters; matrices = ms } ∷ a.2)
        (append_assoc r.matrices (texts ∷ []) a.1),
  )
  agrees-matrix b rs r texts t (inr d) h = let a = subst (λ u. Agrees u w) d.1 h in
      (a.0, [], a.1, a.2 ∙ append_assoc rs (with_matrix r texts ∷ []) a.1)

  pub agrees-step : (s t : State) (x : List ℕ) → Step W P s x t → Agrees t w → Agrees s w
  agrees-step untitled t x d h = tt
  agrees-step titled t x d h = tt
  agrees-step (waved k) t x d h = let a = subst (λ u. Agrees u w) d.3 h in a.0
  agrees-step (ordered k n) t x d h = let a = subst (λ u. Agrees u w) d.3 h in (ap (λ (g : Heading). g.wave) a.0, ap (λ (g : Heading). g.order) a.0)
  agrees-step (listing k ts) t x (inl d) h = let a = subst (λ u. Agrees u w) d.4 h in (a.0, d.1 ∷ a.1, a.2 ∙ append_assoc ts (d.1 ∷ []) a.1)
  agrees-step (listing k ts) t x (inr d) h = let a = subst (λ u. Agrees u w) d.4 h in
      (ap (λ (b : Body). b.heading) a.0, [], ap (λ (b : Body). b.triplets) a.0 ∙ sym (append-nil ts))
  agrees-step (counted b rs) t x (inl d) h = let a = subst (λ u. Agrees u w) d.4 h in (a.0, a.1 ∷ a.2, a.3)
  agrees-step (counted b rs) t x (inr d) h = let a : report_of b rs ≡ w = subst (λ u. Agrees u w) d.2 h in
      (ap body_of (sym a), [], ap (λ (v : WrittenReport). v.representations) (sym a) ∙ sym (append-nil rs))
  agrees-step (sized b rs n) t x d h = let a = subst (λ u. Agrees u w) d.4 h in (a.0, filled_by (without_matrices n d.0) a.1, a.2, a.3, refl)
  agrees-step (filling b rs r) t x d h = let a = agrees-matrix b rs r d.0 t d.4 h in (a.0, d.0 ∷ a.1, a.2, a.3)
  agrees-step (closed v) t x d h = subst (λ u. Agrees u w) d.1 h

  pub agrees-leads : {s t : State} {ys : List (List ℕ)} → Leads (report_machine W P) s ys t → Agrees t w → Agrees s w
  agrees-leads leads_none h = h
  agrees-leads (leads_more {s = a} {t = b} {x = y} d l) h = agrees-step a b y d (agrees-leads l h)
