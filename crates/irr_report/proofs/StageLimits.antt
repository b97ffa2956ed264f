-- The limits of a report that is read.
--   limits-of              the program's report is within its limits where what it says is
--   all-limits             so it is where the end is read
use Rattle.std.proofs.Common.{◌≡◌, sym, ◌∙◌, ap₂, subst, ℕ, ◌<◌, ◌≤◌, ◌*◌, ◌^◌, List, [], ◌∷◌, length, get_or, map, All, arith}
use Rattle.irr_algebra.specs.Fin.{Fin, to_nat}
use Rattle.irr_algebra.proofs.Indices.{from_nat, to_nat-from_nat}
use Rattle.irr_number.specs.Number.{Number, numbers}
use Rattle.irr_canonical.specs.RootSum.{IsRootSum}
use Rattle.irr_cyc.specs.declared.scalars.Scalar.{Ghosts}
use Rattle.irr_mat.specs.Entries.{first_order}
use Rattle.irr_mat.specs.Size.{IsWithin}
use Rattle.irr_mat.specs.declared.matrices.Mat.{Mat}
use Rattle.irr_triplet.specs.TripletFault.{IsTextOf}
use Rattle.irr_rep.specs.Family.{HasShape, matrix_at}
use Rattle.irr_report.specs.declared.report.Report.{Report}
use Rattle.irr_report.specs.Content.{content_of, number_at, sizes, matrices}
use Rattle.irr_report.specs.LimitedReport.{IsLimitedReport}
use Rattle.irr_report.specs.Limits.{IsChecked, IsWithinLimits}
use Rattle.irr_report.specs.ReportLines.{WrittenReport}
use Rattle.irr_report.specs.ReportGrammar.{IsForm}
use Rattle.irr_report.specs.ReportFault.{IsWaveText, IsWave, IsTriplet}
use Rattle.irr_report.specs.StageValues.{AreEach, IsValueOf}
use Rattle.irr_report.specs.ReportStages.{IsMatrixOf, IsReportOf, Means, ReadSoFar}
use Rattle.irr_report.specs.declared.stage.Stage.{Stage}
use Rattle.irr_report.specs.declared.stage.Stage.TheVariants as stages
use Rattle.irr_report.specs.Machine.{Reads}
use Rattle.irr_report.specs.ReportSteps.{report_machine}
use Rattle.irr_report.specs.ReportSteps.State.{untitled}
use Rattle.irr_report.proofs.Machines.{reads-leads}
use Rattle.irr_report.proofs.ReportFaults.{closed-report}
use Rattle.irr_report.proofs.ReadLimits.{read-limited}
use Rattle.irr_report.proofs.Each.{each-length, each-all}
use Rattle.irr_report.proofs.StagesRead.{Placed, at_place, places_are, place-below, all-read}

first_is : {S : Type 0} (order : S → ℕ) (value : (n : ℕ) → S → Number n) (n : ℕ) (texts : List (List ℕ)) (xs : List S) → AreEach (IsValueOf order value n) texts xs → 0 < length xs
    → first_order order xs ≡ n
unfolding first_order
first_is order value n texts [] are some = absurd (omega arith)
first_is order value n [] (x ∷ xs) are some = absurd are
first_is order value n (t ∷ texts) (x ∷ xs) are some = are.0.0

module _ {S : Type 0} {G : Ghosts S} where
  some_entries : (d : ℕ) (m : Mat S G) → m.rows ≡ d → m.cols ≡ d → 0 < d → 0 < length m.entries.items
  some_entries d m e f some =
      let product : m.rows * m.cols ≡ d * d = ap₂ (λ a b. a * b) e f in
      let below = place-below 0 0 d some some in
      omega (arith, m.filled, product, below)

  order_is : (n d : ℕ) (texts : List (List ℕ)) (m : Mat S G) → 0 < d → IsMatrixOf n d texts m → first_order G.order_of m.entries.items ≡ n
  order_is n d texts m some is = first_is G.order_of G.value n texts m.entries.items is.entries (some_entries d m is.rows is.cols some)

  within_given : {h : ℕ} (n d e denominator : ℕ) (ms mats : List (Mat S G)) (i : Fin h) → e ≡ d → ms ≡ mats → IsWithin n (2 ^ 30) denominator (matrix_at n e ms i)
      → IsWithin n (2 ^ 30) denominator (matrix_at n d mats i)
  within_given {h} n d e denominator ms mats i same_size same_mats w = subst (λ k. IsWithin n (2 ^ 30) denominator (matrix_at {h = h} n k mats i)) same_size
      (subst (λ (xs : List (Mat S G)). IsWithin n (2 ^ 30) denominator (matrix_at {h = h} n e xs i)) same_mats w)

  module _ (r : Report S G) (w : WrittenReport) (is : IsReportOf w r) (form : IsForm IsWave IsTriplet w) (q : IsLimitedReport (content_of r)) where
    place : (m : Fin (length r.reps.items)) → Placed r.order (length w.triplets) w.representations r.reps.items (to_nat m)
    place m = at_place r w is form m

    shape : (m : Fin (length r.reps.items)) → HasShape r.order (length r.ops.items) (place m).read.family.dim (place m).read.family.mats.items
    shape m = let p = place m in record {
      count = sym (each-length (IsMatrixOf r.order p.read.family.dim) p.written.matrices p.read.family.mats.items p.is.matrices) ∙ p.form.matrix_count ∙ sym (places_are r w is form);
      positive = p.is.some_rows;
      rows = each-all (IsMatrixOf r.order p.read.family.dim) (λ a. a.rows ≡ p.read.family.dim) (λ t a k. k.rows) p.written.matrices p.read.family.mats.items p.is.matrices;
      cols = each-all (IsMatrixOf r.order p.read.family.dim) (λ a. a.cols ≡ p.read.family.dim) (λ t a k. k.cols) p.written.matrices p.read.family.mats.items p.is.matrices;
      orders = each-all (IsMatrixOf r.order p.read.family.dim) (λ a. first_order G.order_of a.entries.items ≡ r.order)
          (λ t a k. order_is r.order p.read.family.dim t a p.is.some_rows k) p.written.matrices p.read.family.mats.items p.is.matrices;
    }

    character_within : (m : Fin (length r.reps.items)) (i : Fin (length r.ops.items))
        → IsRootSum r.order (2 ^ 30) (q.numbers m).denominator (get_or (map (G.value r.order) (place m).read.chars.items) (to_nat i) (numbers r.order).zero)
    unfolding number_at
    character_within m i = subst (λ (xs : List S). IsRootSum r.order (2 ^ 30) (q.numbers m).denominator (get_or (map (G.value r.order) xs) (to_nat i) (numbers r.order).zero))
        (place m).chars ((q.numbers m).characters i)

    checked_at : (m : Fin (length r.reps.items)) → IsChecked r.order (length r.ops.items) (place m).read
    checked_at m = let p = place m in record {
      denominator = (q.numbers m).denominator;
      family = record {
        shape = shape m;
        few = subst (λ k. k ≤ 48) p.size (q.few_rows m);
        limited = (q.numbers m).limited;
        within = λ i. within_given r.order p.read.family.dim (get_or (sizes r) (to_nat m) 0) (q.numbers m).denominator (get_or (matrices r) (to_nat m) []) p.read.family.mats.items i
            p.size p.mats ((q.numbers m).matrices i);
      };
      row = record {
        count = sym (each-length (IsValueOf G.order_of G.value r.order) p.written.characters p.read.chars.items p.is.characters) ∙ p.form.character_count ∙ sym (places_are r w is form);
        orders = each-all (IsValueOf G.order_of G.value r.order) (λ x. G.order_of x ≡ r.order) (λ t x v. v.0) p.written.characters p.read.chars.items p.is.characters;
        within = character_within m;
      };
    }

    checked : All (IsChecked r.order (length r.ops.items)) r.reps.items
    checked k d lt = subst (λ j. IsChecked r.order (length r.ops.items) (get_or r.reps.items j d)) (to_nat-from_nat (length r.reps.items) k lt)
        (subst (IsChecked r.order (length r.ops.items)) (sym ((place (from_nat (length r.reps.items) k lt)).at d)) (checked_at (from_nat (length r.reps.items) k lt)))

    pub limits-of : IsWithinLimits r
    limits-of = record {
      wave = is.wave.limits;
      some_operation = q.some_place;
      few_operations = q.few_places;
      few_representations = q.few_representations;
      representations = checked;
    }

module _ {S : Type 0} {G : Ghosts S} where
  pub all-limits : (text rest : List ℕ) (n : ℕ) (stage : Stage S G) (r : Report S G) → ReadSoFar text rest n stage → length rest ≡ 0 → stage ≡ stages.Closed r → IsWithinLimits r
  all-limits text rest n stage r so e same = let is = subst (λ x. Means x so.state) same so.means in
      let whole = all-read text rest n stage r so e same in
      limits-of r is.written is.report
      (closed-report IsWave IsTriplet so.lines is.written (reads-leads (report_machine IsWave IsTriplet) (subst (Reads (report_machine IsWave IsTriplet) untitled so.lines) is.state so.reads))).0
      (read-limited IsWaveText IsTextOf whole.lines (content_of r) whole.report)
