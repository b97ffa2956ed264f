-- What the program has read of a report (`Stage`), beside the states of its lines.
--   IsWaveOf text w        the text is that of the wave vector w
--   IsOperationOf text g, IsMatrixOf .. n d texts m, IsRepresentationOf n r t     likewise for an operation, a matrix and a representation
--   IsReportOf w r         the report r is what stands in w
--   IsHeadOf, IsCountedOf, IsPartOf     what is read of a heading, of the parts before a representation, and of one that is being read
--   representation_of p    a part as a representation
--   IsWaved w, IsOrdered w o, IsListing l, IsCounting b, IsSizing b d, IsFilling b p, IsClosedOf r     the states of these
--   Means stage            the states of a stage
--   StepsTo M line stage   from each of the states M the line leads to the stage, and passes no limit
--   StepFails M line e     the error e comes with the line at each of the states M
--   IsUnended stage        it ends no report
--   error_at n e           the error e at line n
--   ReadSoFar text rest n stage     the lines of the text are n that lead to the stage, and then those of the rest
use Rattle.std.specs.Prelude.{ℕ, ◌≡◌, ◌<◌, List, ◌++◌, length}
use Rattle.std.specs.List.{flat_map}
use Rattle.std.specs.Str.Parse.{digits_value}
use Rattle.irr_lines.specs.Lines.{AreLines}
use Rattle.irr_seitz.specs.OperationMeaning.{operation}
use Rattle.irr_seitz.specs.declared.op.Op.{Op}
use Rattle.irr_kvec.specs.WaveMeaning.{wave_vector}
use Rattle.irr_kvec.specs.Centrings.{IsWithinLimits}
use Rattle.irr_kvec.specs.declared.wave.Wave.{Wave}
use Rattle.irr_triplet.specs.TripletFault.{IsTextOf}
use Rattle.irr_cyc.specs.declared.scalars.Scalar.{Ghosts}
use Rattle.irr_cyc.specs.declared.orders.Order.{Order}
use Rattle.irr_mat.specs.declared.matrices.Mat.{Mat}
use Rattle.irr_report.specs.declared.report.RepText.{RepText}
use Rattle.irr_report.specs.declared.report.Report.{Report}
use Rattle.irr_report.specs.declared.report.ReportError.{ReportError}
use Rattle.irr_report.specs.declared.report.ReportError.TheVariants as faults
use Rattle.irr_report.specs.declared.stage.Head.{Head}
use Rattle.irr_report.specs.declared.stage.Listed.{Listed}
use Rattle.irr_report.specs.declared.stage.Counted.{Counted}
use Rattle.irr_report.specs.declared.stage.Dimension.{Dimension}
use Rattle.irr_report.specs.declared.stage.Part.{Part}
use Rattle.irr_report.specs.declared.stage.Stage.{Stage}
use Rattle.irr_report.specs.declared.stage.Stage.TheVariants as stages
use Rattle.irr_report.specs.declared.stage.StepError.{StepError}
use Rattle.irr_report.specs.declared.stage.StepError.TheVariants as errors
use Rattle.irr_report.specs.ReportLines.{WrittenRepresentation, WrittenReport}
use Rattle.irr_report.specs.Machine.{Reads}
use Rattle.irr_report.specs.ReportSteps.{Heading, Body, State, Step, Passes, IsClosed, report_machine}
use Rattle.irr_report.specs.ReportSteps.State.{untitled, titled, waved, ordered, listing, counted, sized, filling, closed}
use Rattle.irr_report.specs.ReportFault.{IsWaveText, IsWave, IsTriplet}
use Rattle.irr_report.specs.StageValues.{AreEach, IsValueOf}
use Rattle.irr_report.specs.ValueTexts.{IsScaleOf}

pub record IsWaveOf (text : List ℕ) (w : Wave) : Type 0 where
  pub text_of : IsWaveText text (wave_vector w)
  pub limits : IsWithinLimits w

abbrev pub IsOperationOf : List ℕ → Op → Type 0
IsOperationOf text g = IsTextOf text (operation g)

pub record IsMatrixOf {S : Type 0} {G : Ghosts S} (n d : ℕ) (texts : List (List ℕ)) (m : Mat S G) : Type 0 where
  pub rows : m.rows ≡ d
  pub cols : m.cols ≡ d
  pub entries : AreEach (IsValueOf G.order_of G.value n) texts m.entries.items

pub record IsRepresentationOf {S : Type 0} {G : Ghosts S} (n : ℕ) (r : WrittenRepresentation) (t : RepText S G) : Type 0 where
  pub some_rows : 0 < t.family.dim
  pub size : t.family.dim ≡ digits_value 10 r.dimension
  pub characters : AreEach (IsValueOf G.order_of G.value n) r.characters t.chars.items
  pub matrices : AreEach (IsMatrixOf n t.family.dim) r.matrices t.family.mats.items

pub record IsReportOf {S : Type 0} {G : Ghosts S} (w : WrittenReport) (r : Report S G) : Type 0 where
  pub wave : IsWaveOf w.wave r.wave
  pub order : r.order ≡ digits_value 10 w.order
  pub operations : AreEach IsOperationOf w.triplets r.ops.items
  pub representations : AreEach (IsRepresentationOf r.order) w.representations r.reps.items

pub record IsHeadOf (h : Heading) (p : Head) : Type 0 where
  pub wave : IsWaveOf h.wave p.wave
  pub order : p.order.n ≡ digits_value 10 h.order
  pub places : p.places ≡ digits_value 10 h.places

pub record IsCountedOf {S : Type 0} {G : Ghosts S} (b : Body) (rs : List WrittenRepresentation) (p : Counted S G) : Type 0 where
  pub wave : IsWaveOf b.heading.wave p.wave
  pub order : p.order.n ≡ digits_value 10 b.heading.order
  pub operations : AreEach IsOperationOf b.triplets p.ops.items
  pub count : p.count ≡ digits_value 10 b.count
  pub representations : AreEach (IsRepresentationOf p.order.n) rs p.reps.items

pub record IsPartOf {S : Type 0} {G : Ghosts S} (n : ℕ) (r : WrittenRepresentation) (p : Part S G) : Type 0 where
  pub size : p.dim.rows ≡ digits_value 10 r.dimension
  pub characters : AreEach (IsValueOf G.order_of G.value n) r.characters p.chars.items
  pub matrices : AreEach (IsMatrixOf n p.dim.rows) r.matrices p.mats.items
  pub scale : IsScaleOf p.scale (r.characters ++ flat_map (λ m. m) r.matrices)

-- the representation with all its matrices
abbrev pub representation_of : {S : Type 0} {G : Ghosts S} → Part S G → RepText S G
representation_of p = record { family = record { dim = p.dim.rows; mats = p.mats }; chars = p.chars }

-- the states

pub record IsWaved (w : Wave) (s : State) : Type 0 where
  pub text : List ℕ
  pub state : s ≡ waved text
  pub wave : IsWaveOf text w

pub record IsOrdered (w : Wave) (o : Order) (s : State) : Type 0 where
  pub text : List ℕ
  pub digits : List ℕ
  pub state : s ≡ ordered text digits
  pub wave : IsWaveOf text w
  pub order : o.n ≡ digits_value 10 digits

pub record IsListing (l : Listed) (s : State) : Type 0 where
  pub heading : Heading
  pub texts : List (List ℕ)
  pub state : s ≡ listing heading texts
  pub head : IsHeadOf heading l.head
  pub operations : AreEach IsOperationOf texts l.ops.items

pub record IsCounting {S : Type 0} {G : Ghosts S} (p : Counted S G) (s : State) : Type 0 where
  pub body : Body
  pub written : List WrittenRepresentation
  pub state : s ≡ counted body written
  pub parts : IsCountedOf body written p

pub record IsSizing {S : Type 0} {G : Ghosts S} (p : Counted S G) (d : Dimension) (s : State) : Type 0 where
  pub body : Body
  pub written : List WrittenRepresentation
  pub digits : List ℕ
  pub state : s ≡ sized body written digits
  pub parts : IsCountedOf body written p
  pub size : d.rows ≡ digits_value 10 digits

pub record IsFilling {S : Type 0} {G : Ghosts S} (p : Counted S G) (q : Part S G) (s : State) : Type 0 where
  pub body : Body
  pub written : List WrittenRepresentation
  pub current : WrittenRepresentation
  pub state : s ≡ filling body written current
  pub parts : IsCountedOf body written p
  pub part : IsPartOf p.order.n current q

pub record IsClosedOf {S : Type 0} {G : Ghosts S} (r : Report S G) (s : State) : Type 0 where
  pub written : WrittenReport
  pub state : s ≡ closed written
  pub report : IsReportOf written r

abbrev pub Means : {S : Type 0} {G : Ghosts S} → Stage S G → State → Type 0
Means stages.Untitled s = s ≡ untitled
Means stages.Titled s = s ≡ titled
Means (stages.Waved w) s = IsWaved w s
Means (stages.Ordered w o) s = IsOrdered w o s
Means (stages.Listing l) s = IsListing l s
Means (stages.Counting p) s = IsCounting p s
Means (stages.Sizing p d) s = IsSizing p d s
Means (stages.Filling p q) s = IsFilling p q s
Means (stages.Closed r) s = IsClosedOf r s

-- the steps

pub record IsStepTo {S : Type 0} {G : Ghosts S} (s : State) (line : List ℕ) (stage : Stage S G) : Type 0 where
  pub to : State
  pub step : Step IsWave IsTriplet s line to
  pub within : ¬ (Passes s line)
  pub means : Means stage to

pub record IsPassing (s : State) (line : List ℕ) : Type 0 where
  pub to : State
  pub step : Step IsWave IsTriplet s line to
  pub passes : Passes s line

abbrev pub IsStepFault : State → List ℕ → StepError → Type 0
IsStepFault s line errors.Line = (t : State) → ¬ (Step IsWave IsTriplet s line t)
IsStepFault s line errors.Range = IsPassing s line
IsStepFault s line errors.Memory = Unit {0}

pub record StepsTo {S : Type 0} {G : Ghosts S} (M : State → Type 0) (line : List ℕ) (stage : Stage S G) : Type 0 where
  pub steps : (s : State) → M s → IsStepTo s line stage

pub record StepFails (M : State → Type 0) (line : List ℕ) (e : StepError) : Type 0 where
  pub fails : (s : State) → M s → IsStepFault s line e

-- none of these lines passes a limit
pub record ReadSoFar {S : Type 0} {G : Ghosts S} (text rest : List ℕ) (n : ℕ) (stage : Stage S G) : Type 0 where
  pub state : State
  pub means : Means stage state
  pub lines : List (List ℕ)
  pub count : n ≡ length lines
  pub reads : Reads (report_machine IsWave IsTriplet) untitled lines state
  pub continued : (others : List (List ℕ)) → AreLines rest others → AreLines text (lines ++ others)

-- a stage that ends no report
abbrev pub IsUnended : {S : Type 0} {G : Ghosts S} → Stage S G → Type 0
IsUnended stage = (s : State) → Means stage s → ¬ (IsClosed s)

-- the error of the line of this number
abbrev pub error_at : ℕ → StepError → ReportError
error_at n errors.Line = faults.Line n
error_at n errors.Range = faults.Range n
error_at n errors.Memory = faults.Memory
