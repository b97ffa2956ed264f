-- Lines, and a text, write one report.
--   one-written          the parts that the lines spell
--   Parts n p c d        what a report says, at an order, counts and sizes that are given
--   content              the report of such parts
--   parts-of             each report is one of its parts
--   one-content          one written report says one report
--   wave-unique          a text writes one wave vector within the limits of a report
--   one-report, one-report-text     lines, and a text, write one report
use Rattle.std.proofs.Common.{◌≡◌, refl, sym, ◌∙◌, ap, subst, ℕ, ◌+◌, ◌*◌, List, [], get_or, map, length}
use Rattle.std.specs.Str.Parse.{digits_value}
use mathlib.Core.Path.{fun_ext}
use Rattle.irr_algebra.specs.Fin.{Fin, to_nat}
use Rattle.irr_algebra.specs.Matrix.{Matrix}
use Rattle.irr_number.specs.Number.{Number, numbers}
use Rattle.irr_space.specs.Operation.{Operation, WaveVector, wave_component}
use Rattle.irr_lattice.proofs.Vectors.{wave-ext}
use Rattle.irr_rat.proofs.Vectors.{each_of_three}
use Rattle.irr_text.specs.ReportText.{ReportContent}
use Rattle.irr_token.specs.Quotient.{quotient_value}
use Rattle.irr_token.proofs.SpelledOnce.{spelled_once}
use Rattle.irr_kvec.specs.WrittenWave.{wave_tokens}
use Rattle.irr_kvec.specs.WaveFault.{IsValue}
use Rattle.irr_kvec.proofs.OneWave.{apart_wave, wave_once}
use Rattle.irr_triplet.specs.TripletFault.{IsTextOf}
use Rattle.irr_triplet.proofs.OneTriplet.{operation_unique}
use Rattle.irr_lines.proofs.AllLines.{lines_unique}
use Rattle.irr_numeral.specs.WrittenValue.{IsReadAs}
use Rattle.irr_numeral.proofs.OneReading.{read-unique}
use Rattle.irr_report.specs.ReportLines.{WrittenReport}
use Rattle.irr_report.specs.ReportGrammar.{IsReport}
use Rattle.irr_report.specs.ReportSteps.{State, report_machine}
use Rattle.irr_report.specs.ReportSteps.State.{untitled, titled, waved, ordered, listing, counted, sized, filling, closed}
use Rattle.irr_report.specs.ReadReport.{IsReadReport}
use Rattle.irr_report.specs.ReportFault.{IsWaveText, IsReportText}
use Rattle.irr_report.specs.ReportFault as fault
use Rattle.irr_report.proofs.Machines.{leads-unique}
use Rattle.irr_report.proofs.ReportStates.{one-step}
use Rattle.irr_report.proofs.ReportFaults.{leads-report}

-- the report of the last state
abbrev closed_report : WrittenReport → State → WrittenReport
closed_report d (closed w) = w
closed_report d untitled = d
closed_report d titled = d
closed_report d (waved k) = d
closed_report d (ordered k n) = d
closed_report d (listing h ts) = d
closed_report d (counted b rs) = d
closed_report d (sized b rs n) = d
closed_report d (filling b rs r) = d

pub one-written : (W P : List ℕ → Type 0) (lines : List (List ℕ)) (g h : IsReport W P lines) → g.written ≡ h.written
one-written W P lines g h = ap (closed_report g.written)
    (leads-unique (report_machine W P) (one-step W P) (leads-report W P lines g) (leads-report W P lines h))

-- what a report says

record Parts (n p c : ℕ) (d : ℕ → ℕ) : Type 0 where
  pub wave : WaveVector
  pub operation : Fin p → Operation
  pub character : Fin c → Fin p → Number n
  pub matrix : (m : Fin c) → Fin p → Matrix (numbers n) (d (to_nat m)) (d (to_nat m))

abbrev content : (n p c : ℕ) (d : ℕ → ℕ) → Parts n p c d → ReportContent
content n p c d x = record {
  wave = x.wave;
  order = n;
  places = p;
  operation = x.operation;
  count = c;
  size = λ m. d (to_nat m);
  character = x.character;
  matrix = x.matrix;
}

parts-of : (r : ReportContent) (n p c : ℕ) (d : ℕ → ℕ) → r.order ≡ n → r.places ≡ p → r.count ≡ c → ((m : Fin r.count) → r.size m ≡ d (to_nat m))
    → (x : Parts n p c d) × (content n p c d x ≡ r)
parts-of r n p c d orders places counts sizes =
    subst (λ k. (x : Parts k p c d) × (content k p c d x ≡ r)) orders
    (subst (λ k. (x : Parts r.order k c d) × (content r.order k c d x ≡ r)) places
    (subst (λ k. (x : Parts r.order r.places k d) × (content r.order r.places k d x ≡ r)) counts
    (made (at_sizes (fun_ext sizes)))))
  where
    Matrices : (Fin r.count → ℕ) → Type 0
    Matrices size = (m : Fin r.count) → Fin r.places → Matrix (numbers r.order) (size m) (size m)

    with_matrices : (size : Fin r.count → ℕ) → Matrices size → ReportContent
    with_matrices size matrix = record {
      wave = r.wave;
      order = r.order;
      places = r.places;
      operation = r.operation;
      count = r.count;
      size = size;
      character = r.character;
      matrix = matrix;
    }

    at_sizes : r.size ≡ (λ m. d (to_nat m)) → (matrix : Matrices (λ m. d (to_nat m))) × (with_matrices (λ m. d (to_nat m)) matrix ≡ r)
    at_sizes e = subst (λ size. (matrix : Matrices size) × (with_matrices size matrix ≡ r)) e (r.matrix, refl)

    made : (matrix : Matrices (λ m. d (to_nat m))) × (with_matrices (λ m. d (to_nat m)) matrix ≡ r)
        → (x : Parts r.order r.places r.count d) × (content r.order r.places r.count d x ≡ r)
    made f = (record { wave = r.wave; operation = r.operation; character = r.character; matrix = f.0 }, f.1)

parts-same : (n p c : ℕ) (d : ℕ → ℕ) (x y : Parts n p c d) → x.wave ≡ y.wave → ((i : Fin p) → x.operation i ≡ y.operation i)
    → ((m : Fin c) (i : Fin p) → x.character m i ≡ y.character m i)
    → ((m : Fin c) (i : Fin p) (a b : Fin (d (to_nat m))) → (x.matrix m i).at a b ≡ (y.matrix m i).at a b) → x ≡ y
parts-same n p c d x y w o k e = λ t. record {
  wave = w t;
  operation = λ i. o i t;
  character = λ m i. k m i t;
  matrix = λ m i. record { at = λ a b. e m i a b t };
}

-- w says r
record Says (W : List ℕ → WaveVector → Type 0) (P : List ℕ → Operation → Type 0) (w : WrittenReport) (r : ReportContent) : Type 0 where
  pub wave : W w.wave r.wave
  pub order : r.order ≡ digits_value 10 w.order
  pub places : r.places ≡ length w.triplets
  pub operation : (i : Fin r.places) → P (get_or w.triplets (to_nat i) []) (r.operation i)
  pub count : r.count ≡ length w.representations
  pub size : (m : Fin r.count) → r.size m ≡ digits_value 10 (get_or (map (λ t. t.dimension) w.representations) (to_nat m) [])
  pub character : (m : Fin r.count) (i : Fin r.places)
      → IsReadAs r.order (get_or (get_or (map (λ t. t.characters) w.representations) (to_nat m) []) (to_nat i) []) (r.character m i)
  pub matrix : (m : Fin r.count) (i : Fin r.places) (a b : Fin (r.size m))
      → IsReadAs r.order (get_or (get_or (get_or (map (λ t. t.matrices) w.representations) (to_nat m) []) (to_nat i) [])
      (to_nat a * r.size m + to_nat b) []) ((r.matrix m i).at a b)

module _ (W : List ℕ → WaveVector → Type 0) (P : List ℕ → Operation → Type 0) where
  says : (lines : List (List ℕ)) (r : ReportContent) (h : IsReadReport W P lines r) → Says W P h.written r
  says lines r h = record {
    wave = h.wave;
    order = h.order;
    places = h.places;
    operation = h.operation;
    count = h.count;
    size = h.size;
    character = h.character;
    matrix = h.matrix;
  }

  abbrev pub grammar : (lines : List (List ℕ)) (r : ReportContent) → IsReadReport W P lines r
      → IsReport (λ text. (k : WaveVector) × W text k) (λ text. (g : Operation) × P text g) lines
  grammar lines r h = record { written = h.written; form = h.form; empty = h.empty; are = h.are }

  module _ (one_wave : (text : List ℕ) (k l : WaveVector) → W text k → W text l → k ≡ l)
      (one_operation : (text : List ℕ) (g h : Operation) → P text g → P text h → g ≡ h) where
    one-content : (w : WrittenReport) (r s : ReportContent) → Says W P w r → Says W P w s → r ≡ s
    one-content w r s h k = sym x.1 ∙ ap (content n p c d) same ∙ y.1
      where
        n : ℕ
        n = digits_value 10 w.order

        p : ℕ
        p = length w.triplets

        c : ℕ
        c = length w.representations

        d : ℕ → ℕ
        d j = digits_value 10 (get_or (map (λ t. t.dimension) w.representations) j [])

        x : (x : Parts n p c d) × (content n p c d x ≡ r)
        x = parts-of r n p c d h.order h.places h.count h.size

        y : (x : Parts n p c d) × (content n p c d x ≡ s)
        y = parts-of s n p c d k.order k.places k.count k.size

        left : Says W P w (content n p c d x.0)
        left = subst (Says W P w) (sym x.1) h

        right : Says W P w (content n p c d y.0)
        right = subst (Says W P w) (sym y.1) k

        same : x.0 ≡ y.0
        same = parts-same n p c d x.0 y.0 (one_wave w.wave x.0.wave y.0.wave left.wave right.wave)
            (λ i. one_operation (get_or w.triplets (to_nat i) []) (x.0.operation i) (y.0.operation i) (left.operation i) (right.operation i))
            (λ m i. read-unique n (get_or (get_or (map (λ t. t.characters) w.representations) (to_nat m) []) (to_nat i) [])
            (x.0.character m i) (y.0.character m i) (left.character m i) (right.character m i))
            (λ m i a b. read-unique n (get_or (get_or (get_or (map (λ t. t.matrices) w.representations) (to_nat m) []) (to_nat i) [])
            (to_nat a * d (to_nat m) + to_nat b) []) ((x.0.matrix m i).at a b) ((y.0.matrix m i).at a b) (left.matrix m i a b) (right.matrix m i a b))

    one-read : (lines : List (List ℕ)) (r s : ReportContent) → IsReadReport W P lines r → IsReadReport W P lines s → r ≡ s
    one-read lines r s h k = one-content k.written r s
        (subst (λ w. Says W P w r) (one-written (λ text. (k : WaveVector) × W text k) (λ text. (g : Operation) × P text g) lines
        (grammar lines r h) (grammar lines s k)) (says lines r h))
        (says lines s k)

-- the grammars of reports

pub wave-unique : (text : List ℕ) (k l : WaveVector) → IsWaveText text k → IsWaveText text l → k ≡ l
wave-unique text k l a b =
    let once = wave_once a.wave b.wave (spelled_once 0 (wave_tokens a.wave) (wave_tokens b.wave) text (apart_wave a.wave) (apart_wave b.wave)
    a.spells.spelled b.spells.spelled) in
    let p : IsValue a.wave k = a.written.2 in
    let q : IsValue b.wave l = b.written.2 in
    wave-ext k l (each_of_three (λ i. wave_component k i ≡ wave_component l i) (p.x ∙ ap quotient_value once.0 ∙ sym q.x)
    (p.y ∙ ap quotient_value once.1 ∙ sym q.y) (p.z ∙ ap quotient_value once.2 ∙ sym q.z))

pub one-report : (lines : List (List ℕ)) (r s : ReportContent) → fault.IsReport lines r → fault.IsReport lines s → r ≡ s
one-report = one-read IsWaveText IsTextOf wave-unique operation_unique

pub one-report-text : (text : List ℕ) (r s : ReportContent) → IsReportText text r → IsReportText text s → r ≡ s
one-report-text text r s h k = one-report k.lines r s (subst (λ lines. fault.IsReport lines r) (lines_unique h.are_lines k.are_lines) h.report) k.report
