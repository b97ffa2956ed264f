-- The faults of a report as they are found when it is read line by line.
--   report_machine-of      the grammar of reports is read line by line
--   line-fault             where reading stops, the line is at fault
--   range-fault            where a line passes a limit, it is at fault
--   whole-form, whole-within     what is read to the end is a report, and passes no limit
--   read-not_range, line-not_range, one-line, one-range     one answer for each report
use Rattle.std.proofs.Common.{◌≡◌, refl, sym, ◌∙◌, ap, ap₂, subst, ℕ, zero, suc, ◌<◌, ◌≤◌, List, [], ◌∷◌, ◌++◌, length, length-append, append_assoc, append-nil, take, drop, arith, inl, inr}
use Rattle.std.specs.Prelude.{replicate}
use Rattle.std.proofs.lemmas.Bool.{cases_lt}
use Rattle.std.proofs.lemmas.List.{take-append-drop}
use Rattle.irr_grammar.specs.ShapePlace.{BeginsIn}
use Rattle.irr_grammar.proofs.ShapePlaces.{place_unique}
use Rattle.irr_report.specs.Machine.{Leads, Reads, Stops}
use Rattle.irr_report.specs.Machine.Leads.{more as leads_more}
use Rattle.irr_report.specs.ReportLines.{WrittenReport, report_lines}
use Rattle.irr_report.specs.ReportGrammar.{IsForm, IsReport}
use Rattle.irr_report.specs.ReportLimits.{PassesAt, PassesLimit, IsLineFault, IsRangeFault}
use Rattle.irr_report.specs.ReportSteps.{State, Step, Passes, report_machine}
use Rattle.irr_report.specs.ReportSteps.State.{untitled, closed}
use Rattle.irr_report.proofs.Machines.{IsMachineOf, leads-then, leads-part, leads-unique, reads-leads, reads-passes, place-stops, stops-outside}
use Rattle.irr_report.proofs.ReportStates.{one-step, so-far-leads}
use Rattle.irr_report.proofs.ReportSound.{sound-step, sound-leads, agrees-leads, whole-positive}
use Rattle.irr_report.proofs.ReportLeads.{report-leads, lead-empty}
use Rattle.irr_report.proofs.ReportEnds.{end-state}
use Rattle.irr_report.proofs.ReportPasses.{passes-at}
use Rattle.irr_report.proofs.ReportSplits.{Split, passes-split}

-- a text up to an item
take_seam : {A : Type 0} (front : List A) (x : A) (back : List A) → take (suc (length front)) (front ++ x ∷ back) ≡ front ++ x ∷ []
take_seam [] x back = refl
take_seam (y ∷ front) x back = ap (λ zs. y ∷ zs) (take_seam front x back)

take_within : {A : Type 0} (k : ℕ) (xs ys : List A) → k ≤ length xs → take k (xs ++ ys) ≡ take k xs
take_within zero xs ys le = refl
take_within (suc k) [] ys le = absurd (omega arith)
take_within (suc k) (x ∷ xs) ys le = ap (λ zs. x ∷ zs) (take_within k xs ys (omega arith))

-- what begins as another text with an item that is not at its end
behind_seam : {A : Type 0} (k : ℕ) (xs front : List A) (x : A) → take (suc k) xs ≡ front ++ x ∷ [] → xs ≡ front ++ x ∷ drop (suc k) xs
behind_seam k xs front x e = sym (take-append-drop (suc k) xs) ∙ ap (λ zs. zs ++ drop (suc k) xs) e ∙ append_assoc front (x ∷ []) (drop (suc k) xs)

module _ (W P : List ℕ → Type 0) where
  some_places : (w : WrittenReport) → IsForm W P w → 0 < length w.triplets
  some_places w f = omega (arith, whole-positive w.places f.places, f.triplet_count)

  pub leads-report : (xs : List (List ℕ)) (g : IsReport W P xs) → Leads (report_machine W P) untitled xs (closed g.written)
  leads-report xs g = subst (λ ls. Leads (report_machine W P) untitled ls (closed g.written)) (sym g.are)
      (leads-then (report_machine W P) (report-leads W P g.written g.form (some_places g.written g.form)) (lead-empty W P g.written g.empty))

  -- what leads to the end is a report
  pub closed-report : (xs : List (List ℕ)) (w : WrittenReport) → Leads (report_machine W P) untitled xs (closed w) → IsForm W P w × ((empty : ℕ) × (xs ≡ report_lines w ++ replicate empty []))
  closed-report xs w l = (sound-leads W P tt l, so-far-leads W P [] refl l)

  -- the lines and their front, where a line passes a limit at a state of the report
  limit-split : (xs : List (List ℕ)) (k : ℕ) (p : PassesLimit W P xs k) → (s : Split W P p.written p.form (some_places p.written p.form) k) × (take (suc k) xs ≡ s.front ++ s.line ∷ [])
  limit-split xs k p = let s = passes-split W P p.written p.form (some_places p.written p.form) k p.passes in
      (s, p.begins ∙ ap₂ (λ n ls. take (suc n) ls) (sym s.place) s.parts ∙ take_seam s.front s.line s.back)

  -- no line that is read passes a limit
  none-before : (front back : List (List ℕ)) (s : State) → Reads (report_machine W P) untitled front s → (k : ℕ) → k < length front → ¬ (PassesLimit W P (front ++ back) k)
  none-before front back s r k lt p =
      let q = limit-split (front ++ back) k p in
      let begins : take (suc k) front ≡ q.0.front ++ q.0.line ∷ [] = sym (take_within (suc k) front back lt) ∙ q.1 in
      reads-passes (report_machine W P) (one-step W P) q.0.front (drop (suc k) front)
      (subst (λ ls. Reads (report_machine W P) untitled ls s) (behind_seam k front q.0.front q.0.line begins) r) q.0.leads q.0.passes

  pub whole-within : (xs : List (List ℕ)) (w : WrittenReport) → Reads (report_machine W P) untitled xs (closed w) → (k : ℕ) → ¬ (PassesAt w k)
  whole-within xs w r k p =
      let c = closed-report xs w (reads-leads (report_machine W P) r) in
      let s = passes-split W P w c.0 (some_places w c.0) k p in
      reads-passes (report_machine W P) (one-step W P) s.front (s.back ++ replicate c.1.0 [])
      (subst (λ ls. Reads (report_machine W P) untitled ls (closed w)) (c.1.1 ∙ ap (λ ls. ls ++ replicate c.1.0 []) s.parts
      ∙ append_assoc s.front (s.line ∷ s.back) (replicate c.1.0 [])) r) s.leads s.passes

  -- the line of a report that passes a limit as it is read
  agrees-passes : (front back : List (List ℕ)) (x : List ℕ) (s t : State) (w : WrittenReport) → Leads (report_machine W P) untitled front s → Step W P s x t → Passes s x
      → Leads (report_machine W P) t back (closed w) → IsForm W P w → PassesAt w (length front)
  agrees-passes front back x s t w l d p rest f = passes-at W P w f front s t x (so-far-leads W P [] refl l) (sound-leads W P tt l) d p (agrees-leads W P w rest refl)

  module _ (wave triplet : List ℕ) (is_wave : W wave) (is_triplet : P triplet) where
    begins-report : (xs : List (List ℕ)) (t : State) → Leads (report_machine W P) untitled xs t → BeginsIn (IsReport W P) xs
    begins-report xs t l =
        let e = end-state W P wave triplet is_wave is_triplet t (sound-leads W P tt l) in
        let c = closed-report (xs ++ e.0) e.1 (leads-then (report_machine W P) l e.2) in
        (e.0, record { written = e.1; form = c.0; empty = c.1.0; are = c.1.1 })

    pub report_machine-of : IsMachineOf (report_machine W P) untitled (IsReport W P)
    report_machine-of = record { one = one-step W P; ends = λ xs g. (closed g.written, leads-report xs g, tt); begins = begins-report }

    limit-here : (front back : List (List ℕ)) (x : List ℕ) (s t : State) → Leads (report_machine W P) untitled front s → Step W P s x t → Passes s x
        → PassesLimit W P (front ++ x ∷ back) (length front)
    limit-here front back x s t l d p = record {
      written = e.1;
      form = c.0;
      within = within;
      begins = take_seam front x back ∙ sym (take_seam front x e.0) ∙ ap (take (suc (length front))) c.1.1 ∙ take_within (suc (length front)) (report_lines e.1) (replicate c.1.0 []) within;
      passes = passes;
    }
      where
        e : (ys : List (List ℕ)) × (w : WrittenReport) × Leads (report_machine W P) t ys (closed w)
        e = end-state W P wave triplet is_wave is_triplet t (sound-step W P s t x (sound-leads W P tt l) d)

        c : IsForm W P e.1 × ((empty : ℕ) × (front ++ x ∷ e.0 ≡ report_lines e.1 ++ replicate empty []))
        c = closed-report (front ++ x ∷ e.0) e.1 (leads-then (report_machine W P) l (leads_more d e.2))

        passes : PassesAt e.1 (length front)
        passes = agrees-passes front e.0 x s t e.1 l d p e.2 c.0

        within : length front < length (report_lines e.1)
        within = let q = passes-split W P e.1 c.0 (some_places e.1 c.0) (length front) passes in
            omega (arith, q.place, ap length q.parts, length-append q.front (q.line ∷ q.back))

    pub line-fault : (front back : List (List ℕ)) (s : State) → Reads (report_machine W P) untitled front s → Stops (report_machine W P) s back
        → IsLineFault W P (front ++ back) (suc (length front))
    line-fault front back s r stop = record {
      outside = stops-outside (report_machine W P) report_machine-of s front back (reads-leads (report_machine W P) r) stop;
      place = length front;
      number = refl;
      first = place-stops (report_machine W P) report_machine-of s front back (reads-leads (report_machine W P) r) stop;
      none_passes = none-before front back s r;
    }

    pub range-fault : (front back : List (List ℕ)) (x : List ℕ) (s t : State) → Reads (report_machine W P) untitled front s → Step W P s x t → Passes s x
        → IsRangeFault W P (front ++ x ∷ back) (suc (length front))
    range-fault front back x s t r d p = record {
      place = length front;
      number = refl;
      passes = limit-here front back x s t (reads-leads (report_machine W P) r) d p;
      first = none-before front (x ∷ back) s r;
    }

  -- one answer

  -- a line that passes a limit does in each report with these lines
  read-range : (xs : List (List ℕ)) (g : IsReport W P xs) → ((k : ℕ) → ¬ (PassesAt g.written k)) → (k : ℕ) → ¬ (PassesLimit W P xs k)
  read-range xs g none k p =
      let q = limit-split xs k p in
      let whole = subst (λ ls. Leads (report_machine W P) untitled ls (closed g.written)) (behind_seam k xs q.0.front q.0.line q.1) (leads-report xs g) in
      let part = leads-part (report_machine W P) q.0.front whole in
      of_part q.0.front q.0.line (drop (suc k) xs) q.0.before q.0.after g.written part.0 g.form none q.0.leads q.0.step q.0.passes
      (leads-unique (report_machine W P) (one-step W P) part.1 q.0.leads) part.2
    where
      of_part : (front : List (List ℕ)) (x : List ℕ) (back : List (List ℕ)) (s t : State) (w : WrittenReport) (u : State) → IsForm W P w → ((k : ℕ) → ¬ (PassesAt w k))
          → Leads (report_machine W P) untitled front s → Step W P s x t → Passes s x → u ≡ s → Leads (report_machine W P) u (x ∷ back) (closed w) → ⊥
      of_part front x back s t w u f none l d p e (leads_more {t = v} b rest) = none (length front)
          (agrees-passes front back x s v w l (subst (λ a. Step W P a x v) e b) p rest f)

  pub read-not_range : (xs : List (List ℕ)) (g : IsReport W P xs) → ((k : ℕ) → ¬ (PassesAt g.written k)) → (n : ℕ) → ¬ (IsRangeFault W P xs n)
  read-not_range xs g none n h = read-range xs g none h.place h.passes

  pub line-not_range : (xs : List (List ℕ)) (m n : ℕ) → IsLineFault W P xs m → IsRangeFault W P xs n → ⊥
  line-not_range xs m n h g = elim (cases_lt g.place h.place) [
    | inl lt ↦ h.none_passes g.place lt g.passes
    | inr ge ↦ absurd (let le = h.first.longest (suc g.place) long begins in omega (arith, le, ge))
  ]
    where
      p : PassesLimit W P xs g.place
      p = g.passes

      q : (s : Split W P p.written p.form (some_places p.written p.form) g.place) × (take (suc g.place) xs ≡ s.front ++ s.line ∷ [])
      q = limit-split xs g.place p

      long : suc g.place ≤ length xs
      long = omega (arith, ap length (behind_seam g.place xs q.0.front q.0.line q.1), length-append q.0.front (q.0.line ∷ drop (suc g.place) xs), q.0.place)

      begins : BeginsIn (IsReport W P) (take (suc g.place) xs)
      begins = (
        q.0.back,
        record {
          written = p.written;
          form = p.form;
          empty = 0;
          are = ap (λ ls. ls ++ q.0.back) q.1 ∙ append_assoc q.0.front (q.0.line ∷ []) q.0.back ∙ sym q.0.parts ∙ sym (append-nil (report_lines p.written));
        },
      )

  pub one-line : (xs : List (List ℕ)) (m n : ℕ) → IsLineFault W P xs m → IsLineFault W P xs n → m ≡ n
  one-line xs m n h g = h.number ∙ ap suc (place_unique (IsReport W P) xs h.place g.place h.first g.first) ∙ sym g.number

  pub one-range : (xs : List (List ℕ)) (m n : ℕ) → IsRangeFault W P xs m → IsRangeFault W P xs n → m ≡ n
  one-range xs m n h g = elim (cases_lt h.place g.place) [
    | inl lt ↦ absurd (g.first h.place lt h.passes)
    | inr ge ↦ elim (cases_lt g.place h.place) [
      | inl lt ↦ absurd (h.first g.place lt g.passes)
      | inr le ↦ omega (arith, h.number, g.number)
    ]
  ]
