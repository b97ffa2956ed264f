-- The steps of the stages of a report.
use Rattle.std.proofs.Common.{◌≡◌, ◌≢◌, refl, sym, ◌∙◌, ap, subst, ℕ, suc, ◌<◌, ◌≤◌, ◌+◌, ◌*◌, List, [], ◌∷◌, ◌++◌, length, length-append, append_assoc, append-nil, arith, inl, inr}
use Rattle.std.specs.Prelude.{codes}
use Rattle.std.specs.List.{flat_map}
use Rattle.std.specs.Fmt.{decimal}
use Rattle.std.specs.Str.Parse.{digits_value}
use Rattle.std.proofs.lemmas.Bool.{cases_lt}
use Rattle.std.proofs.lemmas.Grind.{flat_map-append}
use Rattle.irr_text.specs.ReportText.{next_word}
use Rattle.irr_seitz.specs.declared.op.Op.{Op}
use Rattle.irr_seitz.specs.OperationMeaning.{operation}
use Rattle.irr_kvec.specs.declared.wave.Wave.{Wave}
use Rattle.irr_kvec.specs.WaveMeaning.{wave_vector}
use Rattle.irr_cyc.specs.declared.scalars.Scalar.{Ghosts}
use Rattle.irr_cyc.specs.declared.orders.Order.{Order}
use Rattle.irr_cyc.specs.declared.orders.TheConstants.{ORDER_LIMIT}
use Rattle.irr_mat.specs.declared.matrices.Mat.{Mat}
use Rattle.irr_numeral.specs.WrittenNumber.{IsWhole}
use Rattle.irr_report.specs.declared.report.Report.{Report}
use Rattle.irr_report.specs.declared.stage.Listed.{Listed}
use Rattle.irr_report.specs.declared.stage.Counted.{Counted}
use Rattle.irr_report.specs.declared.stage.Dimension.{Dimension}
use Rattle.irr_report.specs.declared.stage.Part.{Part}
use Rattle.irr_report.specs.declared.scale.Scale.{Scale}
use Rattle.irr_report.specs.declared.stage.Stage.TheVariants as stages
use Rattle.irr_report.specs.declared.stage.StepError.{StepError}
use Rattle.irr_report.specs.declared.stage.StepError.TheVariants as errors
use Rattle.irr_report.specs.ReportLines.{WrittenRepresentation, triplet_line, dimension_line, entries_line}
use Rattle.irr_report.specs.ReportGrammar.{IsWholeNumber}
use Rattle.irr_report.specs.ReportLimits.{PassesIn}
use Rattle.irr_report.specs.ReportSteps.{Body, State, Step, Passes, IsFilled, with_matrix, without_matrices, report_of}
use Rattle.irr_report.specs.ReportSteps.State.{titled, waved, ordered, listing, counted, sized, filling, closed}
use Rattle.irr_report.specs.ReportFault.{IsWave, IsTriplet}
use Rattle.irr_report.specs.Digits.{IsDigitsFault}
use Rattle.irr_report.specs.ValueTexts.{IsScaleOf, AreRead}
use Rattle.irr_report.specs.StageValues.{AreEach, IsValueOf, AreFaulty, AreFaultyFrom}
use Rattle.irr_report.specs.ReportStages.{IsWaveOf, IsOperationOf, IsMatrixOf, IsRepresentationOf, IsHeadOf, IsCountedOf, IsWaved, IsOrdered, IsListing, IsCounting, IsSizing, IsFilling, IsClosedOf, representation_of, IsStepTo, IsPassing, IsStepFault, StepsTo, StepFails}
use Rattle.irr_report.proofs.ReportTexts.{cancelled, values-unique}
use Rattle.irr_report.proofs.Each.{each-length, each-more, each-of_read}

-- a step at a line that says so
abbrev IsLineOf : (List ℕ → Type 0) → List ℕ → List ℕ → Type 0
IsLineOf K words line = (text : List ℕ) × K text × (line ≡ words ++ text)

-- a state whose lines begin with these words
abbrev HasWords : (List ℕ → Type 0) → List ℕ → State → List ℕ → Type 0
HasWords K words s line = (t : State) → Step IsWave IsTriplet s line t → IsLineOf K words line

no-words : (K : List ℕ → Type 0) (words line : List ℕ) (s : State) → HasWords K words s line → ((rest : List ℕ) → line ≢ words ++ rest) → IsStepFault s line errors.Line
no-words K words line s has absent t d = let i = has t d in absent i.0 i.2

no-text : (K : List ℕ → Type 0) (words text line : List ℕ) (s : State) → HasWords K words s line → line ≡ words ++ text → ¬ (K text) → IsStepFault s line errors.Line
no-text K words text line s has l absent t d = let i = has t d in absent (subst K (cancelled words i.0 text (sym i.2 ∙ l)) i.1)

digits-fault : (K : List ℕ → Type 0) (limit : ℕ) (words digits line : List ℕ) (s : State) (e : StepError) → HasWords K words s line → line ≡ words ++ digits
    → (K digits → limit < digits_value 10 digits → IsPassing s line) → IsDigitsFault K limit digits e → IsStepFault s line e
digits-fault K limit words digits line s errors.Line has l pass f = no-text K words digits line s has l f
digits-fault K limit words digits line s errors.Range has l pass f = pass f.0 f.1
digits-fault K limit words digits line s errors.Memory has l pass f = tt

not-over : (limit : ℕ) (words digits line : List ℕ) → line ≡ words ++ digits → digits_value 10 digits ≤ limit → (ds : List ℕ) → line ≡ words ++ ds → limit < digits_value 10 ds → ⊥
not-over limit words digits line l le ds k lt =
    let over : limit < digits_value 10 digits = subst (λ d. limit < digits_value 10 d) (cancelled words ds digits (sym k ∙ l)) lt in omega (arith, le, over)

pub memory_fails : (M : State → Type 0) (line : List ℕ) → StepFails M line errors.Memory
memory_fails M line = record { fails = λ s m. tt }

-- the title

-- the wave vector

wave_has : (line : List ℕ) → HasWords IsWave (codes "wave ") titled line
wave_has line t d = (d.0, d.1, d.2)

pub wave-fails : (line text : List ℕ) → line ≡ codes "wave " ++ text → ¬ (IsWave text) → StepFails (λ s. s ≡ titled) line errors.Line
wave-fails line text l absent = record { fails = λ s e. subst (λ u. IsStepFault u line errors.Line) (sym e) (no-text IsWave (codes "wave ") text line titled (wave_has line) l absent) }

pub wave-steps : {S : Type 0} {G : Ghosts S} (w : Wave) (line text : List ℕ) → line ≡ codes "wave " ++ text → IsWaveOf text w → StepsTo {S = S} {G = G} (λ s. s ≡ titled) line (stages.Waved w)
wave-steps {S = S} {G = G} w line text l is = record {
  steps = λ s e. subst (λ u. IsStepTo {S = S} {G = G} u line (stages.Waved w)) (sym e) (record {
    to = waved text;
    step = (text, (wave_vector w, is.text_of), l, refl);
    within = λ p. p;
    means = record { text = text; state = refl; wave = is };
  });
}

-- the order

order_has : (k line : List ℕ) → HasWords IsWhole (codes "order ") (waved k) line
order_has k line t d = (d.0, d.1, d.2)

pub order-no_words : (w : Wave) (line : List ℕ) → ((rest : List ℕ) → line ≢ codes "order " ++ rest) → StepFails (IsWaved w) line errors.Line
order-no_words w line absent = record {
  fails = λ s m. subst (λ u. IsStepFault u line errors.Line) (sym m.state)
      (no-words IsWhole (codes "order ") line (waved m.text) (order_has m.text line) absent);
}

pub order-fails : (w : Wave) (line digits : List ℕ) (e : StepError) → line ≡ codes "order " ++ digits → IsDigitsFault IsWhole ORDER_LIMIT digits e → StepFails (IsWaved w) line e
order-fails w line digits e l f = record {
  fails = λ s m. subst (λ u. IsStepFault u line e) (sym m.state)
      (digits-fault IsWhole ORDER_LIMIT (codes "order ") digits line (waved m.text) e (order_has m.text line) l
      (λ k lt. record { to = ordered m.text digits; step = (digits, k, l, refl); passes = (digits, l, lt) }) f);
}

pub order-steps : {S : Type 0} {G : Ghosts S} (w : Wave) (o : Order) (line digits : List ℕ) → line ≡ codes "order " ++ digits → IsWhole digits
    → o.n ≡ digits_value 10 digits → digits_value 10 digits ≤ ORDER_LIMIT → StepsTo {S = S} {G = G} (IsWaved w) line (stages.Ordered w o)
order-steps {S = S} {G = G} w o line digits l k v le = record {
  steps = λ s m. subst (λ u. IsStepTo {S = S} {G = G} u line (stages.Ordered w o)) (sym m.state) (record {
    to = ordered m.text digits;
    step = (digits, k, l, refl);
    within = λ p. not-over ORDER_LIMIT (codes "order ") digits line l le p.0 p.1 p.2;
    means = record { text = m.text; digits = digits; state = refl; wave = m.wave; order = v };
  });
}

-- the number of operations

places_has : (k n line : List ℕ) → HasWords IsWhole (codes "ops ") (ordered k n) line
places_has k n line t d = (d.0, d.1, d.2)

pub places-no_words : (w : Wave) (o : Order) (line : List ℕ) → ((rest : List ℕ) → line ≢ codes "ops " ++ rest) → StepFails (IsOrdered w o) line errors.Line
places-no_words w o line absent = record {
  fails = λ s m. subst (λ u. IsStepFault u line errors.Line) (sym m.state)
      (no-words IsWhole (codes "ops ") line (ordered m.text m.digits) (places_has m.text m.digits line) absent);
}

pub places-fails : (w : Wave) (o : Order) (line digits : List ℕ) (e : StepError) → line ≡ codes "ops " ++ digits → IsDigitsFault IsWhole 48 digits e → StepFails (IsOrdered w o) line e
places-fails w o line digits e l f = record {
  fails = λ s m. subst (λ u. IsStepFault u line e) (sym m.state)
      (digits-fault IsWhole 48 (codes "ops ") digits line (ordered m.text m.digits) e (places_has m.text m.digits line) l
      (λ k lt. record { to = listing (record { wave = m.text; order = m.digits; places = digits }) []; step = (digits, k, l, refl); passes = (digits, l, lt) }) f);
}

pub places-steps : {S : Type 0} {G : Ghosts S} (w : Wave) (o : Order) (p : Listed) (line digits : List ℕ) → line ≡ codes "ops " ++ digits → IsWhole digits
    → digits_value 10 digits ≤ 48 → p.head.wave ≡ w → p.head.order ≡ o → p.head.places ≡ digits_value 10 digits → p.ops.items ≡ []
    → StepsTo {S = S} {G = G} (IsOrdered w o) line (stages.Listing p)
places-steps {S = S} {G = G} w o p line digits l k le same_wave same_order v none = record {
  steps = λ s m. subst (λ u. IsStepTo {S = S} {G = G} u line (stages.Listing p)) (sym m.state) (record {
    to = listing (record { wave = m.text; order = m.digits; places = digits }) [];
    step = (digits, k, l, refl);
    within = λ q. not-over 48 (codes "ops ") digits line l le q.0 q.1 q.2;
    means = record {
      heading = record { wave = m.text; order = m.digits; places = digits };
      texts = [];
      state = refl;
      head = record { wave = subst (IsWaveOf m.text) (sym same_wave) m.wave; order = ap (λ (x : Order). x.n) same_order ∙ m.order; places = v };
      operations = subst (AreEach IsOperationOf []) (sym none) tt;
    };
  });
}

-- the operations

operation_words : ℕ → List ℕ
operation_words k = codes "op " ++ decimal k ++ codes " "

abbrev AreOperationWords : ℕ → List ℕ → Type 0
AreOperationWords k words = words ≡ codes "op " ++ decimal k ++ codes " "

operation_line : (k : ℕ) (words text : List ℕ) → AreOperationWords k words → words ++ text ≡ triplet_line k text
operation_line k words text e = ap (λ ws. ws ++ text) e ∙ ap (λ ls. codes "op " ++ ls) (append_assoc (decimal k) (codes " ") text)

as_many : (p : Listed) (s : State) (m : IsListing p s) → length m.texts ≡ length p.ops.items
as_many p s m = each-length IsOperationOf m.texts p.ops.items m.operations

next_number : (n m k : ℕ) → n ≡ m → k ≡ m + 1 → k ≡ suc n
next_number n m k e f = omega (arith, e, f)

operation_has : (p : Listed) (s : State) (m : IsListing p s) (k : ℕ) (words line : List ℕ) → k ≡ length p.ops.items + 1 → AreOperationWords k words
    → length p.ops.items < p.head.places → HasWords IsTriplet words (listing m.heading m.texts) line
operation_has p s m k words line number are room t (inl d) = (d.1, d.2, d.3 ∙ ap (λ n. triplet_line n d.1) (sym (next_number (length m.texts) (length p.ops.items) k (as_many p s m) number)) ∙ sym (operation_line k words d.1 are))
operation_has p s m k words line number are room t (inr d) = absurd (omega (arith, d.0, room, as_many p s m, m.head.places))

pub operation-no_words : (p : Listed) (k : ℕ) (words line : List ℕ) → k ≡ length p.ops.items + 1 → AreOperationWords k words → length p.ops.items < p.head.places
    → ((rest : List ℕ) → line ≢ words ++ rest) → StepFails (IsListing p) line errors.Line
operation-no_words p k words line number are room absent = record {
  fails = λ s m. subst (λ u. IsStepFault u line errors.Line) (sym m.state)
      (no-words IsTriplet words line (listing m.heading m.texts) (operation_has p s m k words line number are room) absent);
}

pub operation-fails : (p : Listed) (k : ℕ) (words line text : List ℕ) → k ≡ length p.ops.items + 1 → AreOperationWords k words → length p.ops.items < p.head.places
    → line ≡ words ++ text → ¬ (IsTriplet text) → StepFails (IsListing p) line errors.Line
operation-fails p k words line text number are room l absent = record {
  fails = λ s m. subst (λ u. IsStepFault u line errors.Line) (sym m.state)
      (no-text IsTriplet words text line (listing m.heading m.texts) (operation_has p s m k words line number are room) l absent);
}

pub operation-steps : {S : Type 0} {G : Ghosts S} (p q : Listed) (g : Op) (k : ℕ) (words line text : List ℕ) → k ≡ length p.ops.items + 1 → AreOperationWords k words
    → length p.ops.items < p.head.places → line ≡ words ++ text → IsOperationOf text g → q.head ≡ p.head → q.ops.items ≡ p.ops.items ++ g ∷ []
    → StepsTo {S = S} {G = G} (IsListing p) line (stages.Listing q)
operation-steps {S = S} {G = G} p q g k words line text number are room l is same more = record {
  steps = λ s m. subst (λ u. IsStepTo {S = S} {G = G} u line (stages.Listing q)) (sym m.state) (record {
    to = listing m.heading (m.texts ++ text ∷ []);
    step = inl (
      omega (arith, room, as_many p s m, m.head.places),
      text,
      (operation g, is),
      l ∙ operation_line k words text are ∙ ap (λ n. triplet_line n text) (next_number (length m.texts) (length p.ops.items) k (as_many p s m) number),
      refl,
    );
    within = λ c. absurd (omega (arith, c.0, room, as_many p s m, m.head.places));
    means = record {
      heading = m.heading;
      texts = m.texts ++ text ∷ [];
      state = refl;
      head = subst (IsHeadOf m.heading) (sym same) m.head;
      operations = subst (AreEach IsOperationOf (m.texts ++ text ∷ [])) (sym more) (each-more IsOperationOf m.texts p.ops.items text g m.operations is);
    };
  });
}

-- the number of representations

count_has : (p : Listed) (s : State) (m : IsListing p s) (line : List ℕ) → p.head.places ≤ length p.ops.items → HasWords IsWholeNumber (codes "reps ") (listing m.heading m.texts) line
count_has p s m line full t (inl d) = absurd (omega (arith, d.0, full, as_many p s m, m.head.places))
count_has p s m line full t (inr d) = (d.1, d.2, d.3)

full_head : (p : Listed) (s : State) (m : IsListing p s) → p.head.places ≤ length p.ops.items → digits_value 10 m.heading.places ≤ length m.texts
full_head p s m full = omega (arith, full, as_many p s m, m.head.places)

pub count-no_words : (p : Listed) (line : List ℕ) → p.head.places ≤ length p.ops.items → ((rest : List ℕ) → line ≢ codes "reps " ++ rest) → StepFails (IsListing p) line errors.Line
count-no_words p line full absent = record {
  fails = λ s m. subst (λ u. IsStepFault u line errors.Line) (sym m.state)
      (no-words IsWholeNumber (codes "reps ") line (listing m.heading m.texts) (count_has p s m line full) absent);
}

pub count-fails : (p : Listed) (line digits : List ℕ) (e : StepError) → p.head.places ≤ length p.ops.items → line ≡ codes "reps " ++ digits → IsDigitsFault IsWholeNumber 48 digits e
    → StepFails (IsListing p) line e
count-fails p line digits e full l f = record {
  fails = λ s m. subst (λ u. IsStepFault u line e) (sym m.state)
      (digits-fault IsWholeNumber 48 (codes "reps ") digits line (listing m.heading m.texts) e (count_has p s m line full) l
      (λ k lt. record {
        to = counted (record { heading = m.heading; triplets = m.texts; count = digits }) [];
        step = inr (full_head p s m full, digits, k, l, refl);
        passes = (full_head p s m full, digits, l, lt);
      }) f);
}

pub count-steps : {S : Type 0} {G : Ghosts S} (p : Listed) (q : Counted S G) (line digits : List ℕ) → p.head.places ≤ length p.ops.items → line ≡ codes "reps " ++ digits
    → IsWholeNumber digits → digits_value 10 digits ≤ 48 → q.wave ≡ p.head.wave → q.order ≡ p.head.order → q.ops.items ≡ p.ops.items → q.count ≡ digits_value 10 digits
    → q.reps.items ≡ [] → StepsTo (IsListing p) line (stages.Counting q)
count-steps p q line digits full l k le same_wave same_order same_operations v none = record {
  steps = λ s m. subst (λ u. IsStepTo u line (stages.Counting q)) (sym m.state) (record {
    to = counted (record { heading = m.heading; triplets = m.texts; count = digits }) [];
    step = inr (full_head p s m full, digits, k, l, refl);
    within = λ c. not-over 48 (codes "reps ") digits line l le c.1 c.2 c.3;
    means = record {
      body = record { heading = m.heading; triplets = m.texts; count = digits };
      written = [];
      state = refl;
      parts = record {
        wave = subst (IsWaveOf m.heading.wave) (sym same_wave) m.head.wave;
        order = ap (λ (x : Order). x.n) same_order ∙ m.head.order;
        operations = subst (AreEach IsOperationOf m.texts) (sym same_operations) m.operations;
        count = v;
        representations = subst (AreEach (IsRepresentationOf q.order.n) []) (sym none) tt;
      };
    };
  });
}

-- the dimensions

abbrev AreDimensionWords : ℕ → List ℕ → Type 0
AreDimensionWords k words = words ≡ codes "rep S" ++ decimal k ++ codes " dim "

dimension_text : (k : ℕ) (words digits : List ℕ) → AreDimensionWords k words → words ++ digits ≡ dimension_line k digits
dimension_text k words digits e = ap (λ ws. ws ++ digits) e ∙ ap (λ ls. codes "rep S" ++ ls) (append_assoc (decimal k) (codes " dim ") digits)
    ∙ ap (λ ls. codes "rep S" ++ ls) (sym (append_assoc (decimal k) (next_word (codes "dim")) (next_word digits)))

module _ {S : Type 0} {G : Ghosts S} (p : Counted S G) where
  reps_as_many : (s : State) (m : IsCounting p s) → length m.written ≡ length p.reps.items
  reps_as_many s m = each-length (IsRepresentationOf p.order.n) m.written p.reps.items m.parts.representations

  dimension_has : (s : State) (m : IsCounting p s) (k : ℕ) (words line : List ℕ) → k ≡ length p.reps.items + 1 → AreDimensionWords k words
      → length p.reps.items < p.count → HasWords IsWhole words (counted m.body m.written) line
  dimension_has s m k words line number are room t (inl d) = (
    d.1,
    d.2,
    d.3 ∙ ap (λ n. dimension_line n d.1) (sym (next_number (length m.written) (length p.reps.items) k (reps_as_many s m) number))
        ∙ sym (dimension_text k words d.1 are),
  )
  dimension_has s m k words line number are room t (inr d) = absurd (omega (arith, d.0, room, reps_as_many s m, m.parts.count))

  pub dimension-no_words : (k : ℕ) (words line : List ℕ) → k ≡ length p.reps.items + 1 → AreDimensionWords k words → length p.reps.items < p.count
      → ((rest : List ℕ) → line ≢ words ++ rest) → StepFails (IsCounting p) line errors.Line
  dimension-no_words k words line number are room absent = record {
    fails = λ s m. subst (λ u. IsStepFault u line errors.Line) (sym m.state)
        (no-words IsWhole words line (counted m.body m.written) (dimension_has s m k words line number are room) absent);
  }

  dimension_at : (s : State) (m : IsCounting p s) (k : ℕ) (words line digits : List ℕ) → k ≡ length p.reps.items + 1 → AreDimensionWords k words → line ≡ words ++ digits
      → line ≡ dimension_line (suc (length m.written)) digits
  dimension_at s m k words line digits number are l = l ∙ dimension_text k words digits are
      ∙ ap (λ n. dimension_line n digits) (next_number (length m.written) (length p.reps.items) k (reps_as_many s m) number)

  dimension_room : (s : State) (m : IsCounting p s) → length p.reps.items < p.count → length m.written < digits_value 10 m.body.count
  dimension_room s m room = omega (arith, room, reps_as_many s m, m.parts.count)

  pub dimension-fails : (k : ℕ) (words line digits : List ℕ) (e : StepError) → k ≡ length p.reps.items + 1 → AreDimensionWords k words → length p.reps.items < p.count
      → line ≡ words ++ digits → IsDigitsFault IsWhole 48 digits e → StepFails (IsCounting p) line e
  dimension-fails k words line digits e number are room l f = record {
    fails = λ s m. subst (λ u. IsStepFault u line e) (sym m.state)
        (digits-fault IsWhole 48 words digits line (counted m.body m.written) e (dimension_has s m k words line number are room) l
        (λ w lt. record {
          to = sized m.body m.written digits;
          step = inl (dimension_room s m room, digits, w, dimension_at s m k words line digits number are l, refl);
          passes = (dimension_room s m room, digits, dimension_at s m k words line digits number are l, lt);
        }) f);
  }

  pub dimension-steps : (d : Dimension) (k : ℕ) (words line digits : List ℕ) → k ≡ length p.reps.items + 1 → AreDimensionWords k words → length p.reps.items < p.count
      → line ≡ words ++ digits → IsWhole digits → digits_value 10 digits ≤ 48 → d.rows ≡ digits_value 10 digits → StepsTo (IsCounting p) line (stages.Sizing p d)
  dimension-steps d k words line digits number are room l w le v = record {
    steps = λ s m. subst (λ u. IsStepTo u line (stages.Sizing p d)) (sym m.state) (record {
      to = sized m.body m.written digits;
      step = inl (dimension_room s m room, digits, w, dimension_at s m k words line digits number are l, refl);
      within = λ c. not-over 48 words digits line l le c.1
          (c.2 ∙ ap (λ n. dimension_line n c.1) (sym (next_number (length m.written) (length p.reps.items) k (reps_as_many s m) number)) ∙ sym (dimension_text k words c.1 are)) c.3;
      means = record { body = m.body; written = m.written; digits = digits; state = refl; parts = m.parts; size = v };
    });
  }

  -- the end

  end_full : (s : State) (m : IsCounting p s) → p.count ≤ length p.reps.items → digits_value 10 m.body.count ≤ length m.written
  end_full s m full = omega (arith, full, reps_as_many s m, m.parts.count)

  end_other : (b : Body) (rs : List WrittenRepresentation) (line : List ℕ) → digits_value 10 b.count ≤ length rs → line ≢ codes "end" → IsStepFault (counted b rs) line errors.Line
  end_other b rs line full other t (inl d) = absurd (omega (arith, d.0, full))
  end_other b rs line full other t (inr d) = other d.1

  pub end-fails : (line : List ℕ) → p.count ≤ length p.reps.items → line ≢ codes "end" → StepFails (IsCounting p) line errors.Line
  end-fails line full other = record { fails = λ s m. subst (λ u. IsStepFault u line errors.Line) (sym m.state) (end_other m.body m.written line (end_full s m full) other) }

  pub end-steps : (r : Report S G) (line : List ℕ) → p.count ≤ length p.reps.items → line ≡ codes "end" → r.wave ≡ p.wave → r.order ≡ p.order.n → r.ops.items ≡ p.ops.items
      → r.reps.items ≡ p.reps.items → StepsTo (IsCounting p) line (stages.Closed r)
  end-steps r line full l same_wave same_order same_operations same_reps = record {
    steps = λ s m. subst (λ u. IsStepTo u line (stages.Closed r)) (sym m.state) (record {
      to = closed (report_of m.body m.written);
      step = inr (end_full s m full, l, refl);
      within = λ c. absurd (let f = end_full s m full in omega (arith, c.0, f));
      means = record {
        written = report_of m.body m.written;
        state = refl;
        report = record {
          wave = subst (IsWaveOf m.body.heading.wave) (sym same_wave) m.parts.wave;
          order = same_order ∙ m.parts.order;
          operations = subst (AreEach IsOperationOf m.body.triplets) (sym same_operations) m.parts.operations;
          representations = subst (λ n. AreEach (IsRepresentationOf n) m.written r.reps.items) (sym same_order)
              (subst (AreEach (IsRepresentationOf p.order.n) m.written) (sym same_reps) m.parts.representations);
        };
      };
    });
  }

  -- the characters

  module _ (d : Dimension) where
    ops_as_many : (b : Body) (rs : List WrittenRepresentation) → IsCountedOf b rs p → length b.triplets ≡ length p.ops.items
    ops_as_many b rs m = each-length IsOperationOf b.triplets p.ops.items m.operations

    pub characters-no_words : (line : List ℕ) → ((rest : List ℕ) → line ≢ codes "char" ++ rest) → StepFails (IsSizing p d) line errors.Line
    characters-no_words line absent = record { fails = λ s m. subst (λ u. IsStepFault u line errors.Line) (sym m.state) (λ t c. absent (flat_map next_word c.0) c.3) }

    characters_fault : (b : Body) (rs : List WrittenRepresentation) (digits line text : List ℕ) (e : StepError) → IsCountedOf b rs p → line ≡ codes "char" ++ text
        → AreFaulty p.order.n [] (length p.ops.items) text e → IsStepFault (sized b rs digits) line e
    characters_fault b rs digits line text errors.Line m l f = λ t c. f c.0 (record { values = c.1; count_is = c.2 ∙ ops_as_many b rs m; spells = cancelled (codes "char") text (flat_map next_word c.0) (sym l ∙ c.3) })
    characters_fault b rs digits line text errors.Range m l f = record {
      to = filling b rs (without_matrices digits f.0);
      step = (f.0, f.1.values, f.1.count_is ∙ sym (ops_as_many b rs m), l ∙ ap (λ ts. codes "char" ++ ts) f.1.spells, refl);
      passes = (f.0, f.1.values, l ∙ ap (λ ts. codes "char" ++ ts) f.1.spells, subst (λ n. PassesIn n [] f.0) m.order f.2);
    }
    characters_fault b rs digits line text errors.Memory m l f = tt

    pub characters-fails : (z : Scale) (count : ℕ) (line text : List ℕ) (e : StepError) → IsScaleOf z [] → count ≡ length p.ops.items → line ≡ codes "char" ++ text
        → AreFaultyFrom p.order.n count z text e → StepFails (IsSizing p d) line e
    characters-fails z count line text e none number l faulty = let f = subst (λ k. AreFaulty p.order.n [] k text e) number (faulty.fault [] none) in record { fails = λ s m. subst (λ u. IsStepFault u line e) (sym m.state) (characters_fault m.body m.written m.digits line text e m.parts l f) }

    pub characters-steps : (q : Part S G) (z : Scale) (count : ℕ) (line text : List ℕ) → IsScaleOf z [] → count ≡ length p.ops.items → line ≡ codes "char" ++ text
        → ((earlier : List (List ℕ)) → IsScaleOf z earlier → AreRead G.order_of G.value p.order.n earlier count text q.chars.items q.scale) → q.dim ≡ d → q.mats.items ≡ []
        → StepsTo (IsSizing p d) line (stages.Filling p q)
    characters-steps q z count line text first number l read same_dim none =
        let r = subst (λ k. AreRead G.order_of G.value p.order.n [] k text q.chars.items q.scale) number (read [] first) in record {
          steps = λ s m. subst (λ u. IsStepTo u line (stages.Filling p q)) (sym m.state) (record {
            to = filling m.body m.written (without_matrices m.digits r.texts);
            step = (r.texts, r.are.values, r.are.count_is ∙ sym (ops_as_many m.body m.written m.parts), l ∙ ap (λ ts. codes "char" ++ ts) r.are.spells, refl);
            within = λ c. r.within (subst (λ ts. PassesIn p.order.n [] ts)
                (values-unique c.0 r.texts c.1 r.are.values (cancelled (codes "char") (flat_map next_word c.0) (flat_map next_word r.texts) (sym c.2 ∙ l ∙ ap (λ ts. codes "char" ++ ts) r.are.spells)))
                (subst (λ n. PassesIn n [] c.0) (sym m.parts.order) c.3));
            means = record {
              body = m.body;
              written = m.written;
              current = without_matrices m.digits r.texts;
              state = refl;
              parts = m.parts;
              part = record {
                size = ap (λ (x : Dimension). x.rows) same_dim ∙ m.size;
                characters = each-of_read G.order_of G.value p.order.n r.texts q.chars.items r.read;
                matrices = subst (AreEach (IsMatrixOf p.order.n q.dim.rows) []) (sym none) tt;
                scale = subst (IsScaleOf q.scale) (sym (append-nil r.texts)) r.scale_is;
              };
            };
          });
        }

  -- the matrices

  module _ (q : Part S G) where
    -- the texts of the representation so far
    abbrev earlier_of : (s : State) (m : IsFilling p q s) → List (List ℕ)
    earlier_of s m = m.current.characters ++ flat_map (λ ms. ms) m.current.matrices

    abbrev AreMatrixWords : ℕ → List ℕ → Type 0
    AreMatrixWords k words = words ≡ codes "mat " ++ decimal k

    matrices_as_many : (s : State) (m : IsFilling p q s) → length m.current.matrices ≡ length q.mats.items
    matrices_as_many s m = each-length (IsMatrixOf p.order.n q.dim.rows) m.current.matrices q.mats.items m.part.matrices

    places_as_many : (s : State) (m : IsFilling p q s) → length m.body.triplets ≡ length p.ops.items
    places_as_many s m = each-length IsOperationOf m.body.triplets p.ops.items m.parts.operations

    -- the line of the next matrix, behind the words
    entries_at : (s : State) (m : IsFilling p q s) (k : ℕ) (words : List ℕ) (texts : List (List ℕ)) → k ≡ length q.mats.items + 1 → AreMatrixWords k words
        → words ++ flat_map next_word texts ≡ entries_line (suc (length m.current.matrices)) texts
    entries_at s m k words texts number are = ap (λ ws. ws ++ flat_map next_word texts) are
        ∙ ap (λ n. entries_line n texts) (next_number (length m.current.matrices) (length q.mats.items) k (matrices_as_many s m) number)

    square : (s : State) (m : IsFilling p q s) → q.dim.rows * q.dim.rows ≡ digits_value 10 m.current.dimension * digits_value 10 m.current.dimension
    square s m = ap (λ n. n * n) m.part.size

    pub matrix-no_words : (k : ℕ) (words line : List ℕ) → k ≡ length q.mats.items + 1 → AreMatrixWords k words → ((rest : List ℕ) → line ≢ words ++ rest)
        → StepFails (IsFilling p q) line errors.Line
    matrix-no_words k words line number are absent = record {
      fails = λ s m. subst (λ u. IsStepFault u line errors.Line) (sym m.state)
          (λ t c. absent (flat_map next_word c.0) (c.3 ∙ sym (entries_at s m k words c.0 number are)));
    }

    -- the state behind a matrix
    abbrev next_filling : Body → List WrittenRepresentation → WrittenRepresentation → Type 0
    next_filling b rs r = (u : State) × IsFilled b rs r u

    filled : (b : Body) (rs : List WrittenRepresentation) (r : WrittenRepresentation) → next_filling b rs r
    filled b rs r = elim (cases_lt (length r.matrices) (length b.triplets)) [
      | inl lt ↦ (filling b rs r, inl (lt, refl))
      | inr ge ↦ (counted b (rs ++ r ∷ []), inr (ge, refl))
    ]

    matrix_fault : (s : State) (m : IsFilling p q s) (k : ℕ) (words line text : List ℕ) (e : StepError) → k ≡ length q.mats.items + 1 → AreMatrixWords k words → line ≡ words ++ text
        → AreFaulty p.order.n (earlier_of s m) (q.dim.rows * q.dim.rows) text e → IsStepFault (filling m.body m.written m.current) line e
    matrix_fault s m k words line text errors.Line number are l f = λ t c. f c.0 (record {
      values = c.1;
      count_is = c.2 ∙ sym (square s m);
      spells = cancelled words text (flat_map next_word c.0) (sym l ∙ c.3 ∙ sym (entries_at s m k words c.0 number are));
    })
    matrix_fault s m k words line text errors.Range number are l f =
        let n = filled m.body m.written (with_matrix m.current f.0) in
        let line_is : line ≡ entries_line (suc (length m.current.matrices)) f.0 = l ∙ ap (λ ts. words ++ ts) f.1.spells ∙ entries_at s m k words f.0 number are in
        record {
          to = n.0;
          step = (f.0, f.1.values, f.1.count_is ∙ square s m, line_is, n.1);
          passes = (f.0, f.1.values, line_is, subst (λ o. PassesIn o (earlier_of s m) f.0) m.parts.order f.2);
        }
    matrix_fault s m k words line text errors.Memory number are l f = tt

    pub matrix-fails : (k : ℕ) (words line text : List ℕ) (e : StepError) → k ≡ length q.mats.items + 1 → AreMatrixWords k words → line ≡ words ++ text
        → (count : ℕ) → count ≡ q.dim.rows * q.dim.rows → AreFaultyFrom p.order.n count q.scale text e → StepFails (IsFilling p q) line e
    matrix-fails k words line text e number are l count count_is f = record {
      fails = λ s m. subst (λ u. IsStepFault u line e) (sym m.state)
          (matrix_fault s m k words line text e number are l
          (subst (λ c. AreFaulty p.order.n (earlier_of s m) c text e) count_is (f.fault (earlier_of s m) m.part.scale)));
    }

    -- a matrix of the line
    module _ (a : Mat S G) (z : Scale) (k : ℕ) (words line text : List ℕ) (number : k ≡ length q.mats.items + 1) (are : AreMatrixWords k words) (l : line ≡ words ++ text)
        (count : ℕ) (count_is : count ≡ q.dim.rows * q.dim.rows) (xs : List S) (entries : a.entries.items ≡ xs)
        (read : (earlier : List (List ℕ)) → IsScaleOf q.scale earlier → AreRead G.order_of G.value p.order.n earlier count text xs z)
        (rows : a.rows ≡ q.dim.rows) (cols : a.cols ≡ q.dim.rows) where
      read_at : (s : State) (m : IsFilling p q s) → AreRead G.order_of G.value p.order.n (earlier_of s m) (q.dim.rows * q.dim.rows) text a.entries.items z
      read_at s m = subst (λ c. AreRead G.order_of G.value p.order.n (earlier_of s m) c text a.entries.items z) count_is
          (subst (λ ys. AreRead G.order_of G.value p.order.n (earlier_of s m) count text ys z) (sym entries) (read (earlier_of s m) m.part.scale))

      line_at : (s : State) (m : IsFilling p q s) → line ≡ entries_line (suc (length m.current.matrices)) (read_at s m).texts
      line_at s m = l ∙ ap (λ ts. words ++ ts) (read_at s m).are.spells ∙ entries_at s m k words (read_at s m).texts number are

      matrix_within : (s : State) (m : IsFilling p q s) → ¬ (Passes (filling m.body m.written m.current) line)
      matrix_within s m c = let r = read_at s m in
          r.within (subst (λ ts. PassesIn p.order.n (earlier_of s m) ts)
          (values-unique c.0 r.texts c.1 r.are.values (cancelled words (flat_map next_word c.0) (flat_map next_word r.texts)
          (entries_at s m k words c.0 number are ∙ sym c.2 ∙ line_at s m ∙ sym (entries_at s m k words r.texts number are))))
          (subst (λ n. PassesIn n (earlier_of s m) c.0) (sym m.parts.order) c.3))

      matrix_of_line : (s : State) (m : IsFilling p q s) → IsMatrixOf p.order.n q.dim.rows (read_at s m).texts a
      matrix_of_line s m = record { rows = rows; cols = cols; entries = each-of_read G.order_of G.value p.order.n (read_at s m).texts a.entries.items (read_at s m).read }

      scale_at : (s : State) (m : IsFilling p q s)
          → IsScaleOf z ((with_matrix m.current (read_at s m).texts).characters ++ flat_map (λ ms. ms) (with_matrix m.current (read_at s m).texts).matrices)
      scale_at s m = let r = read_at s m in subst (IsScaleOf z) (append_assoc m.current.characters (flat_map (λ ms. ms) m.current.matrices) r.texts
          ∙ ap (λ ts. m.current.characters ++ ts) (ap (λ ts. flat_map (λ ms. ms) m.current.matrices ++ ts) (sym (append-nil r.texts))
          ∙ sym (flat_map-append (λ (ms : List (List ℕ)). ms) m.current.matrices (r.texts ∷ [])))) r.scale_is

      more_matrices : (s : State) (m : IsFilling p q s) → AreEach (IsMatrixOf p.order.n q.dim.rows) (m.current.matrices ++ (read_at s m).texts ∷ []) (q.mats.items ++ a ∷ [])
      more_matrices s m = each-more (IsMatrixOf p.order.n q.dim.rows) m.current.matrices q.mats.items (read_at s m).texts a m.part.matrices (matrix_of_line s m)

      pub matrix-steps : (r : Part S G) → length r.mats.items < length p.ops.items → r.dim ≡ q.dim → r.chars.items ≡ q.chars.items → r.mats.items ≡ q.mats.items ++ a ∷ []
          → r.scale ≡ z → StepsTo (IsFilling p q) line (stages.Filling p r)
      matrix-steps r room same_dim same_chars more same_scale = record {
        steps = λ s m. subst (λ u. IsStepTo u line (stages.Filling p r)) (sym m.state) (record {
          to = filling m.body m.written (with_matrix m.current (read_at s m).texts);
          step = (
            (read_at s m).texts,
            (read_at s m).are.values,
            (read_at s m).are.count_is ∙ square s m,
            line_at s m,
            inl (omega (arith, room, ap length more, length-append q.mats.items (a ∷ []), length-append m.current.matrices ((read_at s m).texts ∷ []), matrices_as_many s m, places_as_many s m), refl),
          );
          within = matrix_within s m;
          means = record {
            body = m.body;
            written = m.written;
            current = with_matrix m.current (read_at s m).texts;
            state = refl;
            parts = m.parts;
            part = record {
              size = ap (λ (x : Dimension). x.rows) same_dim ∙ m.part.size;
              characters = subst (AreEach (IsValueOf G.order_of G.value p.order.n) m.current.characters) (sym same_chars) m.part.characters;
              matrices = subst (λ n. AreEach (IsMatrixOf p.order.n n) (m.current.matrices ++ (read_at s m).texts ∷ []) r.mats.items) (ap (λ (x : Dimension). x.rows) (sym same_dim))
                  (subst (AreEach (IsMatrixOf p.order.n q.dim.rows) (m.current.matrices ++ (read_at s m).texts ∷ [])) (sym more) (more_matrices s m));
              scale = subst (λ x. IsScaleOf x ((with_matrix m.current (read_at s m).texts).characters ++ flat_map (λ ms. ms) (with_matrix m.current (read_at s m).texts).matrices)) (sym same_scale)
                  (scale_at s m);
            };
          };
        });
      }

      pub last-steps : (r : Counted S G) (n : Part S G) → length p.ops.items ≤ length n.mats.items → r.wave ≡ p.wave → r.order ≡ p.order → r.ops.items ≡ p.ops.items
          → r.count ≡ p.count → r.reps.items ≡ p.reps.items ++ representation_of n ∷ [] → n.dim ≡ q.dim → n.chars.items ≡ q.chars.items → n.mats.items ≡ q.mats.items ++ a ∷ []
          → StepsTo (IsFilling p q) line (stages.Counting r)
      last-steps r n full same_wave same_order same_operations same_count more dim_is chars_are mats_are = record {
        steps = λ s m. subst (λ u. IsStepTo u line (stages.Counting r)) (sym m.state) (record {
          to = counted m.body (m.written ++ with_matrix m.current (read_at s m).texts ∷ []);
          step = (
            (read_at s m).texts,
            (read_at s m).are.values,
            (read_at s m).are.count_is ∙ square s m,
            line_at s m,
            inr (omega (arith, full, ap length mats_are, length-append q.mats.items (a ∷ []), length-append m.current.matrices ((read_at s m).texts ∷ []), matrices_as_many s m, places_as_many s m), refl),
          );
          within = matrix_within s m;
          means = record {
            body = m.body;
            written = m.written ++ with_matrix m.current (read_at s m).texts ∷ [];
            state = refl;
            parts = record {
              wave = subst (IsWaveOf m.body.heading.wave) (sym same_wave) m.parts.wave;
              order = ap (λ (x : Order). x.n) same_order ∙ m.parts.order;
              operations = subst (AreEach IsOperationOf m.body.triplets) (sym same_operations) m.parts.operations;
              count = same_count ∙ m.parts.count;
              representations = subst (λ (x : Order). AreEach (IsRepresentationOf x.n) (m.written ++ with_matrix m.current (read_at s m).texts ∷ []) r.reps.items) (sym same_order)
                  (subst (AreEach (IsRepresentationOf p.order.n) (m.written ++ with_matrix m.current (read_at s m).texts ∷ [])) (sym more)
                  (each-more (IsRepresentationOf p.order.n) m.written p.reps.items (with_matrix m.current (read_at s m).texts) (representation_of n) m.parts.representations (whole s m)));
            };
          };
        });
      }
        where
          whole : (s : State) (m : IsFilling p q s) → IsRepresentationOf p.order.n (with_matrix m.current (read_at s m).texts) (representation_of n)
          whole s m = record {
            some_rows = n.dim.some;
            size = ap (λ (x : Dimension). x.rows) dim_is ∙ m.part.size;
            characters = subst (AreEach (IsValueOf G.order_of G.value p.order.n) m.current.characters) (sym chars_are) m.part.characters;
            matrices = subst (λ k. AreEach (IsMatrixOf p.order.n k) (m.current.matrices ++ (read_at s m).texts ∷ []) n.mats.items) (ap (λ (x : Dimension). x.rows) (sym dim_is))
                (subst (AreEach (IsMatrixOf p.order.n q.dim.rows) (m.current.matrices ++ (read_at s m).texts ∷ [])) (sym mats_are) (more_matrices s m));
          }

-- behind the end

module _ {S : Type 0} {G : Ghosts S} (r : Report S G) where
  pub nothing-fails : (line : List ℕ) → line ≢ [] → StepFails (IsClosedOf r) line errors.Line
  nothing-fails line other = record { fails = λ s m. subst (λ u. IsStepFault u line errors.Line) (sym m.state) (λ t d. other d.0) }

  pub nothing-steps : (line : List ℕ) → line ≡ [] → StepsTo (IsClosedOf r) line (stages.Closed r)
  nothing-steps line l = record {
    steps = λ s m. subst (λ u. IsStepTo u line (stages.Closed r)) (sym m.state) (record {
      to = closed m.written;
      step = (l, refl);
      within = λ c. c;
      means = record { written = m.written; state = refl; report = m.report };
    });
  }
