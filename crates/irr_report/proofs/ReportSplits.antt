-- A line of a report that passes a limit, and the lines before it.
--   Split                  the lines before a line, and the state that they lead to
--   passes-split           a line of a report that passes a limit does as it is read
use Rattle.std.proofs.Common.{◌≡◌, refl, sym, ◌∙◌, ap, ap₂, subst, ℕ, zero, suc, ◌<◌, ◌≤◌, ◌+◌, ◌*◌, List, [], ◌∷◌, ◌++◌, length, length-append, append_assoc, append-nil, get_or, take, All, arith, ◌⊎◌, inl, inr}
use Rattle.std.specs.Prelude.{codes}
use Rattle.std.specs.List.{flat_map}
use Rattle.std.specs.Str.Parse.{digits_value}
use Rattle.std.proofs.Math.Seq.{get_or-append_seam}
use Rattle.std.proofs.lemmas.Bool.{cases_lt}
use Rattle.std.proofs.lemmas.List.{get_or_append_left}
use Rattle.irr_cyc.specs.declared.orders.TheConstants.{ORDER_LIMIT}
use Rattle.irr_report.specs.Machine.{Leads}
use Rattle.irr_report.specs.Machine.Leads.{none as leads_none, more as leads_more}
use Rattle.irr_report.specs.ReportLines.{WrittenRepresentation, WrittenReport, numbered_lines, triplet_line, dimension_line, character_line, entries_line, lines_of, representations_from, report_lines}
use Rattle.irr_report.specs.ReportGrammar.{IsValueText, IsRepresentationForm, IsForm}
use Rattle.irr_report.specs.ReportLimits.{count_limit, PassesIn, PassesAt, representation_place}
use Rattle.irr_report.specs.ReportLimits.PassesAt.{order as order_passes, places as places_pass, count as count_passes, dimension as dimension_passes, characters as characters_pass, entries as entries_pass}
use Rattle.irr_report.specs.ReportSteps.{State, IsFilled, Step, Passes, report_machine, wave_line, order_line, places_line, count_line, with_matrix, without_matrices}
use Rattle.irr_report.specs.ReportSteps.State.{untitled, waved, ordered, listing, counted, sized, filling}
use Rattle.irr_report.proofs.Machines.{leads-then, take-front}
use Rattle.irr_report.proofs.ReportStates.{heading_lines, body_lines}
use Rattle.irr_report.proofs.ReportSound.{heading_of, body_of, filled_by}
use Rattle.irr_report.proofs.ReportLeads.{lead-heading, lead-triplets, lead-operations, lead-first_matrices, lead-representations}
use Rattle.irr_report.proofs.ReportPasses.{length-numbered, place_of}

numbered-append : {A : Type 0} (f : ℕ → A → List ℕ) (k : ℕ) (xs ys : List A) → numbered_lines f k (xs ++ ys) ≡ numbered_lines f k xs ++ numbered_lines f (k + length xs) ys
unfolding numbered_lines
numbered-append f k [] ys = ap (λ n. numbered_lines f n ys) (omega arith)
numbered-append f k (x ∷ xs) ys = ap (λ ls. f k x ∷ ls) (numbered-append f (suc k) xs ys ∙ ap (λ n. numbered_lines f (suc k) xs ++ numbered_lines f n ys) (omega arith))

representations-append : (k : ℕ) (xs ys : List WrittenRepresentation) → representations_from k (xs ++ ys) ≡ representations_from k xs ++ representations_from (k + length xs) ys
unfolding representations_from
representations-append k [] ys = ap (λ n. representations_from n ys) (omega arith)
representations-append k (x ∷ xs) ys = ap (λ ls. lines_of k x ++ ls) (representations-append (suc k) xs ys ∙ ap (λ n. representations_from (suc k) xs ++ representations_from n ys) (omega arith))
    ∙ sym (append_assoc (lines_of k x) (representations_from (suc k) xs) (representations_from (k + length (x ∷ xs)) ys))

numbered-seam : (all pre : List (List (List ℕ))) (m : List (List ℕ)) (post : List (List (List ℕ))) → all ≡ pre ++ m ∷ post
    → numbered_lines entries_line 1 all ≡ numbered_lines entries_line 1 pre ++ entries_line (suc (length pre)) m ∷ numbered_lines entries_line (suc (suc (length pre))) post
unfolding numbered_lines
numbered-seam all pre m post e = ap (numbered_lines entries_line 1) e ∙ numbered-append entries_line 1 pre (m ∷ post)
    ∙ ap (λ n. numbered_lines entries_line 1 pre ++ numbered_lines entries_line n (m ∷ post)) (from_one (length pre))
  where
    from_one : (n : ℕ) → 1 + n ≡ suc n
    from_one n = omega arith

-- the items before and behind a place
split_at : {A : Type 0} (xs : List A) (j : ℕ) (x : A) → j < length xs → x ≡ get_or xs j x
    → (before : List A) × (after : List A) × (xs ≡ before ++ x ∷ after) × (length before ≡ j)
split_at [] j x lt e = absurd (omega arith)
split_at (y ∷ xs) zero x lt e = ([], xs, ap (λ z. z ∷ xs) (sym e), refl)
split_at (y ∷ xs) (suc j) x lt e = let r = split_at xs j x (omega arith) e in (y ∷ r.0, r.1, ap (λ zs. y ∷ zs) r.2, ap suc r.3)

split_item : {A : Type 0} (xs : List A) (j : ℕ) (d : A) → j < length xs
    → (before : List A) × (x : A) × (after : List A) × (xs ≡ before ++ x ∷ after) × (length before ≡ j)
split_item [] j d lt = absurd (omega arith)
split_item (y ∷ xs) zero d lt = ([], y, xs, refl, refl)
split_item (y ∷ xs) (suc j) d lt = let r = split_item xs j d (omega arith) in (y ∷ r.0, r.1, r.2, ap (λ zs. y ∷ zs) r.3, ap suc r.4)

All-front : {A : Type 0} (Q : A → Type 0) (all xs ys : List A) → all ≡ xs ++ ys → All Q all → All Q xs
All-front Q all xs ys e h = λ k d lt. (let long : length all ≡ length xs + length ys = ap length e ∙ length-append xs ys in
    subst Q (ap (λ zs. get_or zs k d) e ∙ get_or_append_left xs ys d k lt) (h k d (omega arith)))

All-seam : {A : Type 0} (Q : A → Type 0) (all xs : List A) (y : A) (ys : List A) → all ≡ xs ++ y ∷ ys → All Q all → Q y
All-seam Q all xs y ys e h = let long : length all ≡ length xs + length (y ∷ ys) = ap length e ∙ length-append xs (y ∷ ys) in
    subst Q (ap (λ zs. get_or zs (length xs) y) e ∙ get_or-append_seam xs y ys y) (h (length xs) y (omega arith))

at_dimension : (b p : List (List ℕ)) (d c : List ℕ) (m q e : List (List ℕ)) → b ++ ((p ++ ((d ∷ c ∷ m) ++ q)) ++ e) ≡ (b ++ p) ++ d ∷ ((c ∷ m) ++ (q ++ e))
at_dimension b p d c m q e = simp append_assoc

at_characters : (b p : List (List ℕ)) (d c : List ℕ) (m q e : List (List ℕ)) → b ++ ((p ++ ((d ∷ c ∷ m) ++ q)) ++ e) ≡ ((b ++ p) ++ d ∷ []) ++ c ∷ (m ++ (q ++ e))
at_characters b p d c m q e = simp append_assoc

at_entries : (b p : List (List ℕ)) (d c : List ℕ) (m : List (List ℕ)) (x : List ℕ) (n q e : List (List ℕ))
    → b ++ ((p ++ ((d ∷ c ∷ (m ++ x ∷ n)) ++ q)) ++ e) ≡ ((b ++ p) ++ d ∷ c ∷ m) ++ x ∷ (n ++ (q ++ e))
at_entries b p d c m x n q e = simp append_assoc

module _ (W P : List ℕ → Type 0) (w : WrittenReport) (f : IsForm W P w) (some : 0 < length w.triplets) where
  pub record Split (k : ℕ) : Type 0 where
    pub front : List (List ℕ)
    pub line : List ℕ
    pub back : List (List ℕ)
    pub before : State
    pub after : State
    pub parts : report_lines w ≡ front ++ line ∷ back
    pub place : length front ≡ k
    pub leads : Leads (report_machine W P) untitled front before
    pub step : Step W P before line after
    pub passes : Passes before line

  order-split : ORDER_LIMIT < digits_value 10 w.order → Split 2
  order-split lt = record {
    front = codes "report 1" ∷ wave_line w.wave ∷ [];
    line = order_line w.order;
    back = places_line w.places ∷ (numbered_lines triplet_line 1 w.triplets ++ count_line w.count ∷ (representations_from 1 w.representations ++ codes "end" ∷ []));
    before = waved w.wave;
    after = ordered w.wave w.order;
    parts = refl;
    place = refl;
    leads = leads_more (refl, refl) (leads_more (w.wave, f.wave, refl, refl) leads_none);
    step = (w.order, f.order, refl, refl);
    passes = (w.order, refl, lt);
  }

  places-split : count_limit < length w.triplets → Split 3
  places-split lt = record {
    front = codes "report 1" ∷ wave_line w.wave ∷ order_line w.order ∷ [];
    line = places_line w.places;
    back = numbered_lines triplet_line 1 w.triplets ++ count_line w.count ∷ (representations_from 1 w.representations ++ codes "end" ∷ []);
    before = ordered w.wave w.order;
    after = listing (heading_of w) [];
    parts = refl;
    place = refl;
    leads = leads_more (refl, refl) (leads_more (w.wave, f.wave, refl, refl) (leads_more (w.order, f.order, refl, refl) leads_none));
    step = (w.places, f.places, refl, refl);
    passes = (w.places, refl, omega (arith, lt, f.triplet_count));
  }

  count-split : count_limit < length w.representations → Split (4 + length w.triplets)
  count-split lt = record {
    front = heading_lines (heading_of w) ++ numbered_lines triplet_line 1 w.triplets;
    line = count_line w.count;
    back = representations_from 1 w.representations ++ codes "end" ∷ [];
    before = listing (heading_of w) w.triplets;
    after = counted (body_of w) [];
    parts = sym (append_assoc (heading_lines (heading_of w)) (numbered_lines triplet_line 1 w.triplets) (count_line w.count ∷ (representations_from 1 w.representations ++ codes "end" ∷ [])));
    place = omega (arith, length-append (heading_lines (heading_of w)) (numbered_lines triplet_line 1 w.triplets), length-numbered triplet_line 1 w.triplets);
    leads = leads-then (report_machine W P) (lead-heading W P (heading_of w) f.wave f.order f.places)
        (lead-triplets W P (heading_of w) [] w.triplets f.triplets (omega (arith, f.triplet_count)));
    step = inr (omega (arith, f.triplet_count), w.count, f.count, refl, refl);
    passes = (omega (arith, f.triplet_count), w.count, refl, omega (arith, lt, f.representation_count));
  }

  module _ (before : List WrittenRepresentation) (r : WrittenRepresentation) (after : List WrittenRepresentation) (e : w.representations ≡ before ++ r ∷ after) where
    abbrev lines_before : List (List ℕ)
    lines_before = body_lines (body_of w) ++ representations_from 1 before

    abbrev lines_after : List (List ℕ)
    lines_after = representations_from (suc (suc (length before))) after

    whole : report_lines w ≡ body_lines (body_of w) ++ ((representations_from 1 before ++ (lines_of (suc (length before)) r ++ lines_after)) ++ codes "end" ∷ [])
    unfolding representations_from
    whole = ap (λ ls. heading_lines (heading_of w) ++ ls)
        (sym (append_assoc (numbered_lines triplet_line 1 w.triplets) (count_line w.count ∷ []) (representations_from 1 w.representations ++ codes "end" ∷ [])))
        ∙ sym (append_assoc (heading_lines (heading_of w)) (numbered_lines triplet_line 1 w.triplets ++ count_line w.count ∷ []) (representations_from 1 w.representations ++ codes "end" ∷ []))
        ∙ ap (λ ls. body_lines (body_of w) ++ (ls ++ codes "end" ∷ []))
        (ap (representations_from 1) e ∙ representations-append 1 before (r ∷ after) ∙ ap (λ n. representations_from 1 before ++ representations_from n (r ∷ after)) (from_one (length before)))
      where
        from_one : (n : ℕ) → 1 + n ≡ suc n
        from_one n = omega arith

    form : IsRepresentationForm (length w.triplets) r
    form = All-seam (IsRepresentationForm (length w.triplets)) w.representations before r after e f.representations

    forms : All (IsRepresentationForm (length w.triplets)) before
    forms = All-front (IsRepresentationForm (length w.triplets)) w.representations before (r ∷ after) e f.representations

    left : length before < digits_value 10 w.count
    left = let long : length w.representations ≡ length before + length (r ∷ after) = ap length e ∙ length-append before (r ∷ after) in omega (arith, f.representation_count)

    leads_before : Leads (report_machine W P) untitled lines_before (counted (body_of w) before)
    leads_before = leads-then (report_machine W P)
        (leads-then (report_machine W P) (lead-heading W P (heading_of w) f.wave f.order f.places) (lead-operations W P (body_of w) f.triplets f.triplet_count f.count))
        (lead-representations W P (body_of w) [] before some (omega (arith, left)) forms)

    place_before : (rest : List (List ℕ)) → length (lines_before ++ rest) ≡ representation_place w (length before) + length rest
    place_before rest = ap length (append_assoc (body_lines (body_of w)) (representations_from 1 before) rest) ∙ place_of W P w f (body_of w) before rest refl forms

    leads_sized : Leads (report_machine W P) untitled (lines_before ++ dimension_line (suc (length before)) r.dimension ∷ []) (sized (body_of w) before r.dimension)
    leads_sized = leads-then (report_machine W P) leads_before (leads_more (inl (left, r.dimension, form.dimension, refl, refl)) leads_none)

    leads_filling : (ms : List (List (List ℕ))) → All (All IsValueText) ms → All (λ m. length m ≡ digits_value 10 r.dimension * digits_value 10 r.dimension) ms → length ms < length w.triplets
        → Leads (report_machine W P) untitled (lines_before ++ dimension_line (suc (length before)) r.dimension ∷ character_line r.characters ∷ numbered_lines entries_line 1 ms)
        (filling (body_of w) before (filled_by (without_matrices r.dimension r.characters) ms))
    leads_filling ms all counts lt = leads-then (report_machine W P) leads_before (leads_more (inl (left, r.dimension, form.dimension, refl, refl))
        (leads_more (r.characters, form.characters, form.character_count, refl, refl)
        (lead-first_matrices W P (body_of w) before (without_matrices r.dimension r.characters) ms all counts (omega (arith, lt)))))

    dimension-split : count_limit < digits_value 10 r.dimension → Split (representation_place w (length before))
    dimension-split lt = record {
      front = lines_before;
      line = dimension_line (suc (length before)) r.dimension;
      back = (character_line r.characters ∷ numbered_lines entries_line 1 r.matrices) ++ (lines_after ++ codes "end" ∷ []);
      before = counted (body_of w) before;
      after = sized (body_of w) before r.dimension;
      parts = whole ∙ at_dimension (body_lines (body_of w)) (representations_from 1 before) (dimension_line (suc (length before)) r.dimension) (character_line r.characters)
          (numbered_lines entries_line 1 r.matrices) lines_after (codes "end" ∷ []);
      place = omega (arith, ap length (append-nil lines_before), place_before []);
      leads = leads_before;
      step = inl (left, r.dimension, form.dimension, refl, refl);
      passes = (left, r.dimension, refl, lt);
    }

    characters-split : PassesIn (digits_value 10 w.order) [] r.characters → Split (representation_place w (length before) + 1)
    characters-split p = record {
      front = lines_before ++ dimension_line (suc (length before)) r.dimension ∷ [];
      line = character_line r.characters;
      back = numbered_lines entries_line 1 r.matrices ++ (lines_after ++ codes "end" ∷ []);
      before = sized (body_of w) before r.dimension;
      after = filling (body_of w) before (without_matrices r.dimension r.characters);
      parts = whole ∙ at_characters (body_lines (body_of w)) (representations_from 1 before) (dimension_line (suc (length before)) r.dimension) (character_line r.characters)
          (numbered_lines entries_line 1 r.matrices) lines_after (codes "end" ∷ []);
      place = place_before (dimension_line (suc (length before)) r.dimension ∷ []);
      leads = leads_sized;
      step = (r.characters, form.characters, form.character_count, refl, refl);
      passes = (r.characters, form.characters, refl, p);
    }

    entries-split : (pre : List (List (List ℕ))) (m : List (List ℕ)) (post : List (List (List ℕ))) → r.matrices ≡ pre ++ m ∷ post
        → PassesIn (digits_value 10 w.order) (r.characters ++ flat_map (λ x. x) pre) m → Split (representation_place w (length before) + 2 + length pre)
    entries-split pre m post is p = of_case (cases_lt (length (pre ++ m ∷ [])) (length w.triplets))
      where
        long : length pre < length w.triplets
        long = let whole : length r.matrices ≡ length pre + length (m ∷ post) = ap length is ∙ length-append pre (m ∷ post) in omega (arith, form.matrix_count)

        values : All IsValueText m
        values = All-seam (All IsValueText) r.matrices pre m post is form.entries

        numbers : length m ≡ digits_value 10 r.dimension * digits_value 10 r.dimension
        numbers = All-seam (λ (x : List (List ℕ)). length x ≡ digits_value 10 r.dimension * digits_value 10 r.dimension) r.matrices pre m post is form.entry_counts

        filled : WrittenRepresentation
        filled = filled_by (without_matrices r.dimension r.characters) pre

        split_of : (t : State) → IsFilled (body_of w) before (with_matrix filled m) t → Split (representation_place w (length before) + 2 + length pre)
        split_of t step = record {
          front = lines_before ++ dimension_line (suc (length before)) r.dimension ∷ character_line r.characters ∷ numbered_lines entries_line 1 pre;
          line = entries_line (suc (length pre)) m;
          back = numbered_lines entries_line (suc (suc (length pre))) post ++ (lines_after ++ codes "end" ∷ []);
          before = filling (body_of w) before filled;
          after = t;
          parts = whole ∙ ap (λ ls. body_lines (body_of w) ++ ((representations_from 1 before ++ ((dimension_line (suc (length before)) r.dimension ∷ character_line r.characters ∷ ls)
              ++ lines_after)) ++ codes "end" ∷ [])) (numbered-seam r.matrices pre m post is)
              ∙ at_entries (body_lines (body_of w)) (representations_from 1 before) (dimension_line (suc (length before)) r.dimension) (character_line r.characters)
              (numbered_lines entries_line 1 pre) (entries_line (suc (length pre)) m) (numbered_lines entries_line (suc (suc (length pre))) post) lines_after (codes "end" ∷ []);
          place = omega (arith, place_before (dimension_line (suc (length before)) r.dimension ∷ character_line r.characters ∷ numbered_lines entries_line 1 pre), length-numbered entries_line 1 pre);
          leads = leads_filling pre (All-front (All IsValueText) r.matrices pre (m ∷ post) is form.entries)
              (All-front (λ (x : List (List ℕ)). length x ≡ digits_value 10 r.dimension * digits_value 10 r.dimension) r.matrices pre (m ∷ post) is form.entry_counts) long;
          step = (m, values, numbers, refl, step);
          passes = (m, values, refl, p);
        }

        of_case : (length (pre ++ m ∷ []) < length w.triplets) ⊎ (length w.triplets ≤ length (pre ++ m ∷ [])) → Split (representation_place w (length before) + 2 + length pre)
        of_case (inl lt) = split_of (filling (body_of w) before (with_matrix filled m)) (inl (lt, refl))
        of_case (inr ge) = split_of (counted (body_of w) (before ++ with_matrix filled m ∷ [])) (inr (ge, refl))

  pub passes-split : (k : ℕ) → PassesAt w k → Split k
  passes-split _ (order_passes lt) = order-split lt
  passes-split _ (places_pass lt) = places-split lt
  passes-split _ (count_passes lt) = count-split lt
  passes-split _ (dimension_passes j t lt is over) = let r = split_at w.representations j t lt is in
      subst (λ n. Split (representation_place w n)) r.3 (dimension-split r.0 t r.1 r.2 over)
  passes-split _ (characters_pass j t lt is over) = let r = split_at w.representations j t lt is in
      subst (λ n. Split (representation_place w n + 1)) r.3 (characters-split r.0 t r.1 r.2 over)
  passes-split _ (entries_pass j i t lt is below over) = let r = split_at w.representations j t lt is in let q = split_item t.matrices i [] below in
      subst (λ n. Split (representation_place w n + 2 + i)) r.3 (subst (λ n. Split (representation_place w (length r.0) + 2 + n)) q.4
      (entries-split r.0 t r.1 r.2 q.0 q.1 q.2 q.3 (passes_at_seam (digits_value 10 w.order) t i q.0 q.1 q.2 q.3 q.4 over)))
    where
      passes_at_seam : (n : ℕ) (t : WrittenRepresentation) (i : ℕ) (pre : List (List (List ℕ))) (m : List (List ℕ)) (post : List (List (List ℕ))) → t.matrices ≡ pre ++ m ∷ post → length pre ≡ i
          → PassesIn n (t.characters ++ flat_map (λ x. x) (take i t.matrices)) (get_or t.matrices i []) → PassesIn n (t.characters ++ flat_map (λ x. x) pre) m
      passes_at_seam n t i pre m post is e h = subst (λ (q : List (List (List ℕ)) × List (List ℕ)). PassesIn n (t.characters ++ flat_map (λ x. x) q.0) q.1) both h
        where
          both : ◌≡◌ {A = List (List (List ℕ)) × List (List ℕ)} (take i t.matrices, get_or t.matrices i []) (pre, m)
          both = ap₂ (λ a b. (a, b)) (ap₂ take (sym e) is ∙ take-front pre (m ∷ post)) (ap₂ (λ zs k. get_or zs k []) is (sym e) ∙ get_or-append_seam pre m post [])
