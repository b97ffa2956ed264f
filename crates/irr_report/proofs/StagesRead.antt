-- Reading the lines of a report one after another.
--   nothing-read, line-read    no line is read, and one more
--   line-fails                 the next line is at fault
--   line-missing               the next line is missing
--   all-read                   the end is read
use Rattle.std.proofs.Common.{◌≡◌, refl, sym, ◌∙◌, ap, subst, ℕ, zero, suc, ◌<◌, ◌≤◌, ◌+◌, ◌*◌, suc-mul, List, [], ◌∷◌, ◌++◌, length, length-append, append_assoc, append-nil, get_or, map, All, arith}
use Rattle.std.specs.Prelude.{codes, replicate}
use native.Mathlib.Nat as Nat
use Rattle.std.specs.Str.Parse.{digits_value}
use Rattle.irr_algebra.specs.Fin.{Fin, to_nat}
use Rattle.irr_algebra.specs.Listed.{of_list}
use Rattle.irr_algebra.proofs.Indices.{to_nat-lt}
use Rattle.irr_number.specs.Number.{Number, numbers}
use Rattle.irr_space.specs.Operation.{identity}
use Rattle.irr_text.specs.TripletText.{triplet_text}
use Rattle.irr_lines.specs.Lines.{IsFirstLine, AreLines}
use Rattle.irr_lines.specs.Lines.AreLines.{none as no_lines, more as more_lines}
use Rattle.irr_lines.proofs.AllLines.{lines_of}
use Rattle.irr_seitz.specs.OperationMeaning.{operation}
use Rattle.irr_triplet.specs.TripletFault.{IsTextOf}
use Rattle.irr_cyc.specs.declared.scalars.Scalar.{Ghosts}
use Rattle.irr_mat.specs.Entries.{matrix_of}
use Rattle.irr_mat.specs.declared.matrices.Mat.{Mat}
use Rattle.irr_rep.specs.Family.{matrix_at}
use Rattle.irr_numeral.specs.WrittenValue.{IsReadAs}
use Rattle.irr_report.specs.declared.report.RepText.{RepText}
use Rattle.irr_report.specs.declared.report.Report.{Report}
use Rattle.irr_report.specs.declared.report.ReportError.TheVariants.{Line}
use Rattle.irr_report.specs.declared.stage.Stage.{Stage}
use Rattle.irr_report.specs.declared.stage.Stage.TheVariants as stages
use Rattle.irr_report.specs.declared.stage.StepError.{StepError}
use Rattle.irr_report.specs.declared.stage.StepError.TheVariants as errors
use Rattle.irr_report.specs.Content.{content_of, number_at, operations_of, sizes, characters, matrices}
use Rattle.irr_report.specs.ReportLines.{WrittenRepresentation, WrittenReport, report_lines}
use Rattle.irr_report.specs.ReportLimits as limits
use Rattle.irr_report.specs.ReportGrammar.{IsRepresentationForm, IsForm}
use Rattle.irr_report.specs.Machine.{Reads}
use Rattle.irr_report.specs.Machine.Reads.{none as reads_none, more as reads_more}
use Rattle.irr_report.specs.ReportSteps.{report_machine}
use Rattle.irr_report.specs.ReportSteps.State.{untitled, closed}
use Rattle.irr_report.specs.ReportFault.{IsWave, IsTriplet, IsReportText, IsFault}
use Rattle.irr_report.specs.StageValues.{AreEach, IsValueOf}
use Rattle.irr_report.specs.ReportStages.{IsOperationOf, IsMatrixOf, IsRepresentationOf, IsReportOf, IsClosedOf, Means, StepsTo, StepFails, ReadSoFar, IsUnended, error_at}
use Rattle.irr_report.proofs.Machines.{reads-then, reads-leads}
use Rattle.irr_report.proofs.ReportFaults.{closed-report, whole-within, line-fault, range-fault}
use Rattle.irr_report.proofs.Each.{each-length, each-image, each-at}
use Rattle.irr_report.proofs.SomeTexts.{zero-wave, unit_operation, unit-triplet}

next_number : (n m k : ℕ) → n ≡ k → m ≡ n + 1 → m ≡ suc k
next_number n m k e f = omega (arith, e, f)

empty : (xs : List ℕ) → length xs ≡ 0 → xs ≡ []
empty [] e = refl
empty (x ∷ xs) e = absurd (omega arith)

pub place-below : (a b d : ℕ) → a < d → b < d → a * d + b < d * d
place-below a b d p q =
    let row : suc a * d ≤ d * d = Nat.mul-le-mul_right d p in
    let next : suc a * d ≡ a * d + d = suc-mul a d in
    omega arith

-- the value at a place of texts that are read
value_at : {S : Type 0} (order : S → ℕ) (value : (n : ℕ) → S → Number n) (n : ℕ) (texts : List (List ℕ)) (xs : List S) (i : ℕ) → AreEach (IsValueOf order value n) texts xs
    → i < length texts → IsReadAs n (get_or texts i []) (get_or (map (value n) xs) i (numbers n).zero)
value_at order value n texts xs i are lt = each-at (IsReadAs n) texts (map (value n) xs) i [] (numbers n).zero
    (each-image (IsValueOf order value n) (IsReadAs n) (value n) (λ a b v. v.1) texts xs are) lt

module _ {S : Type 0} {G : Ghosts S} where
  pub nothing-read : (text : List ℕ) → ReadSoFar {S = S} {G = G} text text 0 stages.Untitled
  nothing-read text = record { state = untitled; means = refl; lines = []; count = refl; reads = reads_none; continued = λ others l. l }

  pub line-read : (text rest line behind : List ℕ) (n m : ℕ) (stage new : Stage S G) → ReadSoFar text rest n stage → IsFirstLine rest line behind → m ≡ n + 1
      → StepsTo (Means stage) line new → ReadSoFar text behind m new
  line-read text rest line behind n m stage new r f e d = let s = d.steps r.state r.means in record {
    state = s.to;
    means = s.means;
    lines = r.lines ++ line ∷ [];
    count = omega (arith, e, r.count, length-append r.lines (line ∷ []));
    reads = reads-then (report_machine IsWave IsTriplet) r.reads (reads_more s.step s.within reads_none);
    continued = λ others l. subst (AreLines text) (sym (append_assoc r.lines (line ∷ []) others)) (r.continued (line ∷ others) (more_lines f l));
  }

  pub line-fails : (text rest line behind : List ℕ) (n m : ℕ) (stage : Stage S G) (e : StepError) → ReadSoFar text rest n stage → IsFirstLine rest line behind → m ≡ n + 1
      → StepFails (Means stage) line e → IsFault text (error_at m e)
  line-fails text rest line behind n m stage errors.Line r f e d = let others = lines_of behind in (
    r.lines ++ line ∷ others.0,
    r.continued (line ∷ others.0) (more_lines f others.1),
    subst (λ k. limits.IsLineFault IsWave IsTriplet (r.lines ++ line ∷ others.0) k) (sym (next_number n m (length r.lines) r.count e))
        (line-fault IsWave IsTriplet (codes "0,0,0") (triplet_text unit_operation) zero-wave unit-triplet r.lines (line ∷ others.0) r.state r.reads (d.fails r.state r.means)),
  )
  line-fails text rest line behind n m stage errors.Range r f e d = let others = lines_of behind in let p = d.fails r.state r.means in (
    r.lines ++ line ∷ others.0,
    r.continued (line ∷ others.0) (more_lines f others.1),
    subst (λ k. limits.IsRangeFault IsWave IsTriplet (r.lines ++ line ∷ others.0) k) (sym (next_number n m (length r.lines) r.count e))
        (range-fault IsWave IsTriplet (codes "0,0,0") (triplet_text unit_operation) zero-wave unit-triplet r.lines others.0 line r.state p.to r.reads p.step p.passes),
  )
  line-fails text rest line behind n m stage errors.Memory r f e d = tt

  all_lines : (text rest : List ℕ) (n : ℕ) (stage : Stage S G) (r : ReadSoFar text rest n stage) → length rest ≡ 0 → AreLines text (r.lines ++ [])
  all_lines text rest n stage r e = r.continued [] (subst (λ t. AreLines t []) (sym (empty rest e)) no_lines)

  pub line-missing : (text rest : List ℕ) (n m : ℕ) (stage : Stage S G) → ReadSoFar text rest n stage → length rest ≡ 0 → m ≡ n + 1 → IsUnended stage → IsFault text (Line m)
  line-missing text rest n m stage r e f u = (
    r.lines ++ [],
    all_lines text rest n stage r e,
    subst (λ k. limits.IsLineFault IsWave IsTriplet (r.lines ++ []) k) (sym (next_number n m (length r.lines) r.count f))
        (line-fault IsWave IsTriplet (codes "0,0,0") (triplet_text unit_operation) zero-wave unit-triplet r.lines [] r.state r.reads (u r.state r.means)),
  )

  -- a representation at its place
  pub record Placed (n h : ℕ) (rs : List WrittenRepresentation) (ts : List (RepText S G)) (m : ℕ) : Type 0 where
    pub written : WrittenRepresentation
    pub read : RepText S G
    pub is : IsRepresentationOf n written read
    pub form : IsRepresentationForm h written
    pub dimension : get_or (map (λ (r : WrittenRepresentation). r.dimension) rs) m [] ≡ written.dimension
    pub character : get_or (map (λ (r : WrittenRepresentation). r.characters) rs) m [] ≡ written.characters
    pub matrix : get_or (map (λ (r : WrittenRepresentation). r.matrices) rs) m [] ≡ written.matrices
    pub size : get_or (map (λ (t : RepText S G). t.family.dim) ts) m 0 ≡ read.family.dim
    pub chars : get_or (map (λ (t : RepText S G). t.chars.items) ts) m [] ≡ read.chars.items
    pub mats : get_or (map (λ (t : RepText S G). t.family.mats.items) ts) m [] ≡ read.family.mats.items
    pub at : (d : RepText S G) → get_or ts m d ≡ read

  placed : (n h : ℕ) (rs : List WrittenRepresentation) (ts : List (RepText S G)) (m : ℕ) → AreEach (IsRepresentationOf n) rs ts → All (IsRepresentationForm h) rs → m < length ts
      → Placed n h rs ts m
  placed n h rs [] m are forms lt = absurd (omega arith)
  placed n h [] (t ∷ ts) m are forms lt = absurd are
  placed n h (r ∷ rs) (t ∷ ts) zero are forms lt = record {
    written = r;
    read = t;
    is = are.0;
    form = forms 0 r (omega arith);
    dimension = refl;
    character = refl;
    matrix = refl;
    size = refl;
    chars = refl;
    mats = refl;
    at = λ d. refl;
  }
  placed n h (r ∷ rs) (t ∷ ts) (suc m) are forms lt = let p = placed n h rs ts m are.1 (λ i d l. forms (suc i) d (omega (arith, l))) (omega arith) in record {
    written = p.written;
    read = p.read;
    is = p.is;
    form = p.form;
    dimension = p.dimension;
    character = p.character;
    matrix = p.matrix;
    size = p.size;
    chars = p.chars;
    mats = p.mats;
    at = p.at;
  }

  -- the entry at a place of a matrix that is read
  entry_at : {h d : ℕ} (n : ℕ) (texts : List (List (List ℕ))) (mats : List (Mat S G)) (i : Fin h) (a b : Fin d) → AreEach (IsMatrixOf n d) texts mats → to_nat i < length texts
      → to_nat a * d + to_nat b < length (get_or texts (to_nat i) []) → IsReadAs n (get_or (get_or texts (to_nat i) []) (to_nat a * d + to_nat b) []) ((matrix_at n d mats i).at a b)
  unfolding matrix_at matrix_of of_list
  entry_at {d = d} n texts mats i a b are lt in_row = value_at G.order_of G.value n (get_or texts (to_nat i) []) (get_or (map (λ (m : Mat S G). m.entries.items) mats) (to_nat i) []) (to_nat a * d + to_nat b)
      (each-at (AreEach (IsValueOf G.order_of G.value n)) texts (map (λ (m : Mat S G). m.entries.items) mats) (to_nat i) [] []
      (each-image (IsMatrixOf n d) (AreEach (IsValueOf G.order_of G.value n)) (λ (m : Mat S G). m.entries.items) (λ t m is. is.entries) texts mats are) lt) in_row

  -- the same where the size, the texts and the matrices are given by equations
  entry-given : {h : ℕ} (n d e : ℕ) (written texts : List (List (List ℕ))) (read mats : List (Mat S G)) (i : Fin h) (a b : Fin e) → e ≡ d → texts ≡ written → mats ≡ read
      → AreEach (IsMatrixOf n d) written read → to_nat i < length written → (to_nat a * e + to_nat b < length (get_or written (to_nat i) []))
      → IsReadAs n (get_or (get_or texts (to_nat i) []) (to_nat a * e + to_nat b) []) ((matrix_at n e mats i).at a b)
  entry-given n d e written texts read mats i a b same_size same_texts same_mats are lt in_row =
      subst (λ (ts : List (List (List ℕ))). IsReadAs n (get_or (get_or ts (to_nat i) []) (to_nat a * e + to_nat b) []) ((matrix_at n e mats i).at a b)) (sym same_texts)
      (subst (λ (ms : List (Mat S G)). IsReadAs n (get_or (get_or written (to_nat i) []) (to_nat a * e + to_nat b) []) ((matrix_at n e ms i).at a b)) (sym same_mats)
      (entry_at n written read i a b (subst (λ k. AreEach (IsMatrixOf n k) written read) (sym same_size) are) lt in_row))

  module _ (r : Report S G) (w : WrittenReport) (is : IsReportOf w r) (form : IsForm IsWave IsTriplet w) where
    pub at_place : (m : Fin (length r.reps.items)) → Placed r.order (length w.triplets) w.representations r.reps.items (to_nat m)
    at_place m = placed r.order (length w.triplets) w.representations r.reps.items (to_nat m) is.representations form.representations (to_nat-lt m)

    pub places_are : length r.ops.items ≡ length w.triplets
    places_are = sym (each-length IsOperationOf w.triplets r.ops.items is.operations)

    operation_at : (i : Fin (length r.ops.items)) → IsTextOf (get_or w.triplets (to_nat i) []) (get_or (operations_of r) (to_nat i) identity)
    operation_at i = each-at IsTextOf w.triplets (operations_of r) (to_nat i) [] identity
        (each-image IsOperationOf IsTextOf operation (λ t g h. h) w.triplets r.ops.items is.operations) (let lt = to_nat-lt i in omega (arith, lt, places_are))

    character_at : (m : Fin (length r.reps.items)) (i : Fin (length r.ops.items))
        → IsReadAs r.order (get_or (get_or (map (λ (t : WrittenRepresentation). t.characters) w.representations) (to_nat m) []) (to_nat i) [])
        (number_at G.value r.order (get_or (characters r) (to_nat m) []) (to_nat i))
    unfolding number_at
    character_at m i = let p = at_place m in
        subst (λ (ts : List (List ℕ)). IsReadAs r.order (get_or ts (to_nat i) []) (get_or (map (G.value r.order) (get_or (characters r) (to_nat m) [])) (to_nat i) (numbers r.order).zero))
        (sym p.character)
        (subst (λ (xs : List S). IsReadAs r.order (get_or p.written.characters (to_nat i) []) (get_or (map (G.value r.order) xs) (to_nat i) (numbers r.order).zero)) (sym p.chars)
        (value_at G.order_of G.value r.order p.written.characters p.read.chars.items (to_nat i) p.is.characters (let lt = to_nat-lt i in omega (arith, lt, places_are, p.form.character_count))))

    entry-at : (m : Fin (length r.reps.items)) (i : Fin (length r.ops.items)) (a b : Fin (get_or (sizes r) (to_nat m) 0))
        → IsReadAs r.order (get_or (get_or (get_or (map (λ (t : WrittenRepresentation). t.matrices) w.representations) (to_nat m) []) (to_nat i) [])
        (to_nat a * get_or (sizes r) (to_nat m) 0 + to_nat b) []) ((matrix_at r.order (get_or (sizes r) (to_nat m) 0) (get_or (matrices r) (to_nat m) []) i).at a b)
    entry-at m i a b = let p = at_place m in
        entry-given r.order p.read.family.dim (get_or (sizes r) (to_nat m) 0) p.written.matrices (get_or (map (λ (t : WrittenRepresentation). t.matrices) w.representations) (to_nat m) [])
        p.read.family.mats.items (get_or (matrices r) (to_nat m) []) i a b p.size p.matrix p.mats p.is.matrices (in_list m i) (in_row m i a b)
      where
        in_list : (m : Fin (length r.reps.items)) (i : Fin (length r.ops.items)) → to_nat i < length (at_place m).written.matrices
        in_list m i = let lt = to_nat-lt i in omega (arith, lt, places_are, (at_place m).form.matrix_count)

        in_row : (m : Fin (length r.reps.items)) (i : Fin (length r.ops.items)) (a b : Fin (get_or (sizes r) (to_nat m) 0))
            → to_nat a * get_or (sizes r) (to_nat m) 0 + to_nat b < length (get_or (at_place m).written.matrices (to_nat i) [])
        in_row m i a b =
            let p = at_place m in
            let e : get_or (sizes r) (to_nat m) 0 ≡ digits_value 10 p.written.dimension = p.size ∙ p.is.size in
            let below = place-below (to_nat a) (to_nat b) (get_or (sizes r) (to_nat m) 0) (to_nat-lt a) (to_nat-lt b) in
            let squares : get_or (sizes r) (to_nat m) 0 * get_or (sizes r) (to_nat m) 0 ≡ digits_value 10 p.written.dimension * digits_value 10 p.written.dimension = ap (λ k. k * k) e in
            let long : length (get_or p.written.matrices (to_nat i) []) ≡ digits_value 10 p.written.dimension * digits_value 10 p.written.dimension
            = p.form.entry_counts (to_nat i) [] (in_list m i) in
            omega (arith, below, squares, long)

  pub all-read : (text rest : List ℕ) (n : ℕ) (stage : Stage S G) (r : Report S G) → ReadSoFar text rest n stage → length rest ≡ 0 → stage ≡ stages.Closed r
      → IsReportText text (content_of r)
  all-read text rest n stage r so e same = of_closed (subst (λ x. Means x so.state) same so.means)
    where
      of_closed : IsClosedOf r so.state → IsReportText text (content_of r)
      of_closed is = record {
        lines = so.lines;
        are_lines = subst (AreLines text) (append-nil so.lines) (all_lines text rest n stage so e);
        report = record {
          written = is.written;
          form = parts.0;
          empty = parts.1.0;
          are = parts.1.1;
          within = whole-within IsWave IsTriplet so.lines is.written reads;
          wave = is.report.wave.text_of;
          order = is.report.order;
          places = places_are r is.written is.report parts.0;
          operation = operation_at r is.written is.report parts.0;
          count = sym (each-length (IsRepresentationOf r.order) is.written.representations r.reps.items is.report.representations);
          size = λ m. (let p = at_place r is.written is.report parts.0 m in p.size ∙ p.is.size ∙ ap (digits_value 10) (sym p.dimension));
          character = character_at r is.written is.report parts.0;
          matrix = entry-at r is.written is.report parts.0;
        };
      }
        where
          reads : Reads (report_machine IsWave IsTriplet) untitled so.lines (closed is.written)
          reads = subst (Reads (report_machine IsWave IsTriplet) untitled so.lines) is.state so.reads

          parts : IsForm IsWave IsTriplet is.written × ((empty : ℕ) × (so.lines ≡ report_lines is.written ++ replicate empty []))
          parts = closed-report IsWave IsTriplet so.lines is.written (reads-leads (report_machine IsWave IsTriplet) reads)
