-- A report leads line by line from nothing to its end.
--   lead-heading, lead-triplets, lead-count, lead-representation, lead-representations, lead-end     part by part
--   report-leads           the whole report, and perhaps empty lines
use Rattle.std.proofs.Common.{◌≡◌, refl, sym, subst, ℕ, zero, suc, ◌<◌, ◌≤◌, ◌+◌, ◌*◌, List, [], ◌∷◌, ◌++◌, length, length-append, append_assoc, append-nil, All, arith, inl, inr}
use Rattle.std.specs.Prelude.{codes, replicate}
use Rattle.std.specs.Str.Parse.{digits_value}
use Rattle.irr_numeral.specs.WrittenNumber.{IsWhole}
use Rattle.irr_report.specs.Machine.{Leads}
use Rattle.irr_report.specs.Machine.Leads.{none as leads_none, more as leads_more}
use Rattle.irr_report.specs.ReportLines.{WrittenRepresentation, WrittenReport, numbered_lines, triplet_line, entries_line, lines_of, representations_from, report_lines}
use Rattle.irr_report.specs.ReportGrammar.{IsWholeNumber, IsValueText, IsRepresentationForm, IsForm}
use Rattle.irr_report.specs.ReportSteps.{Heading, Body, State, report_machine, count_line, with_matrix, without_matrices, report_of}
use Rattle.irr_report.specs.ReportSteps.State.{untitled, listing, counted, filling, closed}
use Rattle.irr_report.proofs.Machines.{leads-then}
use Rattle.irr_report.proofs.ReportStates.{heading_lines}
use Rattle.irr_report.proofs.ReportSound.{filled_by, heading_of, body_of}

heads_of : {A : Type 0} (Q : A → Type 0) (x : A) (xs : List A) → All Q (x ∷ xs) → Q x
heads_of Q x xs h = h 0 x (omega arith)

tails_of : {A : Type 0} (Q : A → Type 0) (x : A) (xs : List A) → All Q (x ∷ xs) → All Q xs
tails_of Q x xs h = λ k d lt. h (suc k) d (omega arith)

joined : {A : Type 0} (xs : List A) (y : A) (ys : List A) → (xs ++ y ∷ []) ++ ys ≡ xs ++ y ∷ ys
joined xs y ys = append_assoc xs (y ∷ []) ys

one_longer : {A : Type 0} (xs : List A) (y : A) → length (xs ++ y ∷ []) ≡ suc (length xs)
one_longer xs y = omega (arith, length-append xs (y ∷ []))

module _ (W P : List ℕ → Type 0) where
  abbrev LeadsOn : State → List (List ℕ) → State → Type 0
  LeadsOn s xs t = Leads (report_machine W P) s xs t

  pub lead-heading : (h : Heading) → W h.wave → IsWhole h.order → IsWhole h.places → LeadsOn untitled (heading_lines h) (listing h [])
  lead-heading h w o p = leads_more (refl, refl) (leads_more (h.wave, w, refl, refl) (leads_more (h.order, o, refl, refl) (leads_more (h.places, p, refl, refl) leads_none)))

  pub lead-triplets : (h : Heading) (ts us : List (List ℕ)) → All P us → length ts + length us ≤ digits_value 10 h.places
      → LeadsOn (listing h ts) (numbered_lines triplet_line (suc (length ts)) us) (listing h (ts ++ us))
  unfolding numbered_lines
  lead-triplets h ts [] all le = subst (λ xs. LeadsOn (listing h ts) [] (listing h xs)) (sym (append-nil ts)) leads_none
  lead-triplets h ts (u ∷ us) all le = leads_more (inl (omega arith, u, heads_of P u us all, refl, refl))
      (subst (λ xs. LeadsOn (listing h (ts ++ u ∷ [])) (numbered_lines triplet_line (suc (suc (length ts))) us) (listing h xs)) (joined ts u us)
      (subst (λ k. LeadsOn (listing h (ts ++ u ∷ [])) (numbered_lines triplet_line (suc k) us) (listing h ((ts ++ u ∷ []) ++ us))) (one_longer ts u)
      (lead-triplets h (ts ++ u ∷ []) us (tails_of P u us all) (omega (arith, one_longer ts u, le)))))

  pub lead-count : (b : Body) → digits_value 10 b.heading.places ≤ length b.triplets → IsWholeNumber b.count
      → LeadsOn (listing b.heading b.triplets) (count_line b.count ∷ []) (counted b [])
  lead-count b le c = leads_more (inr (le, b.count, c, refl, refl)) leads_none

  -- matrices before the last one
  pub lead-first_matrices : (b : Body) (rs : List WrittenRepresentation) (r : WrittenRepresentation) (us : List (List (List ℕ)))
      → All (All IsValueText) us → All (λ m. length m ≡ digits_value 10 r.dimension * digits_value 10 r.dimension) us
      → length r.matrices + length us < length b.triplets
      → LeadsOn (filling b rs r) (numbered_lines entries_line (suc (length r.matrices)) us) (filling b rs (filled_by r us))
  unfolding numbered_lines
  lead-first_matrices b rs r [] all counts lt =
      subst (λ ms. LeadsOn (filling b rs r) [] (filling b rs (record { dimension = r.dimension; characters = r.characters; matrices = ms }))) (sym (append-nil r.matrices)) leads_none
  lead-first_matrices b rs r (u ∷ us) all counts lt = leads_more (
    u,
    heads_of (All IsValueText) u us all,
    heads_of (λ (m : List (List ℕ)). length m ≡ digits_value 10 r.dimension * digits_value 10 r.dimension) u us counts,
    refl,
    inl (omega (arith, one_longer r.matrices u, lt), refl),
  )
      (subst (λ ms. LeadsOn (filling b rs (with_matrix r u)) (numbered_lines entries_line (suc (suc (length r.matrices))) us)
      (filling b rs (record { dimension = r.dimension; characters = r.characters; matrices = ms }))) (joined r.matrices u us)
      (subst (λ k. LeadsOn (filling b rs (with_matrix r u)) (numbered_lines entries_line (suc k) us) (filling b rs (filled_by (with_matrix r u) us)))
      (one_longer r.matrices u)
      (lead-first_matrices b rs (with_matrix r u) us (tails_of (All IsValueText) u us all)
      (tails_of (λ (m : List (List ℕ)). length m ≡ digits_value 10 r.dimension * digits_value 10 r.dimension) u us counts) (omega (arith, one_longer r.matrices u, lt)))))

  -- matrices up to the last one
  pub lead-matrices : (b : Body) (rs : List WrittenRepresentation) (r : WrittenRepresentation) (u : List (List ℕ)) (us : List (List (List ℕ)))
      → All (All IsValueText) (u ∷ us) → All (λ m. length m ≡ digits_value 10 r.dimension * digits_value 10 r.dimension) (u ∷ us)
      → length r.matrices + length (u ∷ us) ≡ length b.triplets
      → LeadsOn (filling b rs r) (numbered_lines entries_line (suc (length r.matrices)) (u ∷ us)) (counted b (rs ++ filled_by r (u ∷ us) ∷ []))
  unfolding numbered_lines
  lead-matrices b rs r u [] all counts e = leads_more (
    u,
    heads_of (All IsValueText) u [] all,
    heads_of (λ (m : List (List ℕ)). length m ≡ digits_value 10 r.dimension * digits_value 10 r.dimension) u [] counts,
    refl,
    inr (omega (arith, one_longer r.matrices u, e), refl),
  ) leads_none
  lead-matrices b rs r u (v ∷ us) all counts e = leads_more (
    u,
    heads_of (All IsValueText) u (v ∷ us) all,
    heads_of (λ (m : List (List ℕ)). length m ≡ digits_value 10 r.dimension * digits_value 10 r.dimension) u (v ∷ us) counts,
    refl,
    inl (omega (arith, one_longer r.matrices u, e), refl),
  )
      (subst (λ ms. LeadsOn (filling b rs (with_matrix r u)) (numbered_lines entries_line (suc (suc (length r.matrices))) (v ∷ us))
      (counted b (rs ++ record { dimension = r.dimension; characters = r.characters; matrices = ms } ∷ []))) (joined r.matrices u (v ∷ us))
      (subst (λ k. LeadsOn (filling b rs (with_matrix r u)) (numbered_lines entries_line (suc k) (v ∷ us)) (counted b (rs ++ filled_by (with_matrix r u) (v ∷ us) ∷ [])))
      (one_longer r.matrices u)
      (lead-matrices b rs (with_matrix r u) v us (tails_of (All IsValueText) u (v ∷ us) all)
      (tails_of (λ (m : List (List ℕ)). length m ≡ digits_value 10 r.dimension * digits_value 10 r.dimension) u (v ∷ us) counts) (omega (arith, one_longer r.matrices u, e)))))

  pub lead-all : (b : Body) (rs : List WrittenRepresentation) (d : List ℕ) (cs : List (List ℕ)) (us : List (List (List ℕ))) → 0 < length b.triplets
      → All (All IsValueText) us → All (λ m. length m ≡ digits_value 10 d * digits_value 10 d) us → length us ≡ length b.triplets
      → LeadsOn (filling b rs (without_matrices d cs)) (numbered_lines entries_line 1 us) (counted b (rs ++ record { dimension = d; characters = cs; matrices = us } ∷ []))
  lead-all b rs d cs [] some all counts e = absurd (omega (arith, some, e))
  lead-all b rs d cs (u ∷ us) some all counts e = lead-matrices b rs (without_matrices d cs) u us all counts (omega (arith, e))

  pub lead-representation : (b : Body) (rs : List WrittenRepresentation) (r : WrittenRepresentation) → 0 < length b.triplets → length rs < digits_value 10 b.count
      → IsRepresentationForm (length b.triplets) r → LeadsOn (counted b rs) (lines_of (suc (length rs)) r) (counted b (rs ++ r ∷ []))
  lead-representation b rs r some lt form = leads_more (inl (lt, r.dimension, form.dimension, refl, refl))
      (leads_more (r.characters, form.characters, form.character_count, refl, refl)
      (lead-all b rs r.dimension r.characters r.matrices some form.entries form.entry_counts form.matrix_count))

  pub lead-representations : (b : Body) (rs us : List WrittenRepresentation) → 0 < length b.triplets → length rs + length us ≤ digits_value 10 b.count
      → All (IsRepresentationForm (length b.triplets)) us → LeadsOn (counted b rs) (representations_from (suc (length rs)) us) (counted b (rs ++ us))
  unfolding representations_from
  lead-representations b rs [] some le forms = subst (λ xs. LeadsOn (counted b rs) [] (counted b xs)) (sym (append-nil rs)) leads_none
  lead-representations b rs (u ∷ us) some le forms = leads-then (report_machine W P)
      (lead-representation b rs u some (omega arith) (heads_of (IsRepresentationForm (length b.triplets)) u us forms))
      (subst (λ xs. LeadsOn (counted b (rs ++ u ∷ [])) (representations_from (suc (suc (length rs))) us) (counted b xs)) (joined rs u us)
      (subst (λ k. LeadsOn (counted b (rs ++ u ∷ [])) (representations_from (suc k) us) (counted b ((rs ++ u ∷ []) ++ us))) (one_longer rs u)
      (lead-representations b (rs ++ u ∷ []) us some (omega (arith, one_longer rs u, le)) (tails_of (IsRepresentationForm (length b.triplets)) u us forms))))

  pub lead-end : (b : Body) (rs : List WrittenRepresentation) → digits_value 10 b.count ≤ length rs → LeadsOn (counted b rs) (codes "end" ∷ []) (closed (report_of b rs))
  lead-end b rs le = leads_more (inr (le, refl, refl)) leads_none

  pub lead-empty : (w : WrittenReport) (n : ℕ) → LeadsOn (closed w) (replicate n []) (closed w)
  lead-empty w zero = leads_none
  lead-empty w (suc n) = leads_more (refl, refl) (lead-empty w n)

  pub lead-operations : (b : Body) → All P b.triplets → digits_value 10 b.heading.places ≡ length b.triplets → IsWholeNumber b.count
      → LeadsOn (listing b.heading []) (numbered_lines triplet_line 1 b.triplets ++ count_line b.count ∷ []) (counted b [])
  lead-operations b all e c = leads-then (report_machine W P) (lead-triplets b.heading [] b.triplets all (omega (arith, e))) (lead-count b (omega (arith, e)) c)

  pub report-leads : (w : WrittenReport) → IsForm W P w → 0 < length w.triplets → LeadsOn untitled (report_lines w) (closed w)
  report-leads w f some = leads-then (report_machine W P) (lead-heading (heading_of w) f.wave f.order f.places)
      (subst (λ ls. LeadsOn (listing (heading_of w) []) ls (closed w))
      (append_assoc (numbered_lines triplet_line 1 w.triplets) (count_line w.count ∷ []) (representations_from 1 w.representations ++ codes "end" ∷ []))
      (leads-then (report_machine W P) (lead-operations (body_of w) f.triplets f.triplet_count f.count)
      (leads-then (report_machine W P) (lead-representations (body_of w) [] w.representations some (omega (arith, f.representation_count)) f.representations)
      (lead-end (body_of w) w.representations (omega (arith, f.representation_count))))))
