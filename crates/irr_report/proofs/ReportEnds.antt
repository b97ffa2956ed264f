-- What leads on from nothing leads to a report, where some text is a wave vector and some text is a triplet.
--   end-counted, end-filling, end-sized, end-listing, end-state     from each state
use Rattle.std.proofs.Common.{◌≡◌, refl, ℕ, suc, ◌<◌, ◌≤◌, ◌+◌, ◌-◌, ◌*◌, List, [], ◌∷◌, ◌++◌, length, length-append, All, arith, inl, lit≤}
use Rattle.std.specs.Prelude.{codes, replicate}
use Rattle.std.specs.Str.Parse.{digits_value}
use Rattle.std.proofs.lemmas.List.{length-replicate}
use Rattle.std.proofs.lemmas.List.Elements.{All-replicate}
use Rattle.irr_numeral.specs.WrittenNumber.{IsWhole}
use Rattle.irr_numeral.specs.TermPlaces.{HasZero}
use Rattle.irr_report.specs.Machine.{Leads}
use Rattle.irr_report.specs.Machine.Leads.{none as leads_none, more as leads_more}
use Rattle.irr_report.specs.ReportLines.{WrittenRepresentation, WrittenReport}
use Rattle.irr_report.specs.ReportGrammar.{IsValueText, IsRepresentationForm}
use Rattle.irr_report.specs.ReportSteps.{Heading, Body, State, report_machine, without_matrices, report_of}
use Rattle.irr_report.specs.ReportSteps.State.{untitled, titled, waved, ordered, listing, counted, sized, filling, closed}
use Rattle.irr_report.proofs.Machines.{leads-then}
use Rattle.irr_report.proofs.ReportSound.{IsSoundBody, IsSound, All-none, whole-positive, filled_by}
use Rattle.irr_report.proofs.ReportLeads.{lead-triplets, lead-count, lead-matrices, lead-representations, lead-end}

-- the texts 0 and 1
zero_text : IsValueText (48 ∷ [])
zero_text = record { number = record { terms = []; are_terms = tt; spells = refl }; increasing = λ k lt. absurd (omega arith); not_zero = All-none (λ t. ¬ (HasZero t)) }

one_whole : IsWhole (49 ∷ [])
one_whole = (lit≤ tt, lit≤ tt, tt)

abbrev zeros : ℕ → List (List ℕ)
zeros n = replicate n (48 ∷ [])

some_zeros : (n : ℕ) → All IsValueText (zeros n)
some_zeros n = All-replicate IsValueText n (48 ∷ []) zero_text

abbrev zero_matrices : ℕ → List ℕ → List (List (List ℕ))
zero_matrices n d = replicate n (zeros (digits_value 10 d * digits_value 10 d))

all_zeros : (n : ℕ) (d : List ℕ) → All (All IsValueText) (zero_matrices n d)
all_zeros n d = All-replicate (All IsValueText) n (zeros (digits_value 10 d * digits_value 10 d)) (some_zeros (digits_value 10 d * digits_value 10 d))

counts_of_zeros : (n : ℕ) (d : List ℕ) → All (λ m. length m ≡ digits_value 10 d * digits_value 10 d) (zero_matrices n d)
counts_of_zeros n d = All-replicate (λ (m : List (List ℕ)). length m ≡ digits_value 10 d * digits_value 10 d) n (zeros (digits_value 10 d * digits_value 10 d))
    (length-replicate (digits_value 10 d * digits_value 10 d) (48 ∷ []))

-- a representation of zeros on h operations
zero_representation : ℕ → WrittenRepresentation
zero_representation h = record { dimension = 49 ∷ []; characters = zeros h; matrices = zero_matrices h (49 ∷ []) }

zero_form : (h : ℕ) → IsRepresentationForm h (zero_representation h)
unfolding zero_representation
zero_form h = record {
  dimension = one_whole;
  character_count = length-replicate h (48 ∷ []);
  characters = some_zeros h;
  matrix_count = length-replicate h (zeros (digits_value 10 (49 ∷ []) * digits_value 10 (49 ∷ [])));
  entry_counts = counts_of_zeros h (49 ∷ []);
  entries = all_zeros h (49 ∷ []);
}

module _ (W P : List ℕ → Type 0) where
  -- some lines lead from the state to the end of a report
  abbrev pub LeadsToEnd : State → Type 0
  LeadsToEnd s = (ys : List (List ℕ)) × (w : WrittenReport) × Leads (report_machine W P) s ys (closed w)

  further : (s t : State) (xs : List (List ℕ)) → Leads (report_machine W P) s xs t → LeadsToEnd t → LeadsToEnd s
  further s t xs l e = (xs ++ e.0, e.1, leads-then (report_machine W P) l e.2)

  positive_count : (b : Body) → IsSoundBody W P b → 0 < length b.triplets
  positive_count b s = let some : 0 < digits_value 10 b.heading.places = whole-positive b.heading.places s.heading.places in omega (arith, some, s.triplet_count)

  end-counted : (b : Body) (rs : List WrittenRepresentation) → 0 < length b.triplets → length rs ≤ digits_value 10 b.count → LeadsToEnd (counted b rs)
  end-counted b rs some le = further (counted b rs) (counted b (rs ++ others)) _
      (lead-representations W P b rs others some (omega (arith, room, le)) (All-replicate (IsRepresentationForm (length b.triplets)) missing (zero_representation (length b.triplets))
      (zero_form (length b.triplets))))
      (codes "end" ∷ [], report_of b (rs ++ others), lead-end W P b (rs ++ others) (omega (arith, room, le, length-append rs others)))
    where
      missing : ℕ
      missing = digits_value 10 b.count - length rs

      others : List WrittenRepresentation
      others = replicate missing (zero_representation (length b.triplets))

      room : length others ≡ digits_value 10 b.count - length rs
      room = length-replicate missing (zero_representation (length b.triplets))

  end-filling : (b : Body) (rs : List WrittenRepresentation) (r : WrittenRepresentation) → 0 < length b.triplets → length rs < digits_value 10 b.count
      → length r.matrices < length b.triplets → LeadsToEnd (filling b rs r)
  end-filling b rs r some lt left = further (filling b rs r) (counted b (rs ++ filled_by r (zero_matrices (suc missing) r.dimension) ∷ [])) _
      (lead-matrices W P b rs r (zeros (digits_value 10 r.dimension * digits_value 10 r.dimension)) (zero_matrices missing r.dimension) (all_zeros (suc missing) r.dimension)
      (counts_of_zeros (suc missing) r.dimension) (omega (arith, left, length-replicate missing (zeros (digits_value 10 r.dimension * digits_value 10 r.dimension)))))
      (end-counted b (rs ++ filled_by r (zero_matrices (suc missing) r.dimension) ∷ []) some (omega (arith, lt, length-append rs (filled_by r (zero_matrices (suc missing) r.dimension) ∷ []))))
    where
      missing : ℕ
      missing = length b.triplets - suc (length r.matrices)

  end-sized : (b : Body) (rs : List WrittenRepresentation) (d : List ℕ) → 0 < length b.triplets → length rs < digits_value 10 b.count → LeadsToEnd (sized b rs d)
  end-sized b rs d some lt = further (sized b rs d) (filling b rs (without_matrices d (zeros (length b.triplets)))) _
      (leads_more (zeros (length b.triplets), some_zeros (length b.triplets), length-replicate (length b.triplets) (48 ∷ []), refl, refl) leads_none)
      (end-filling b rs (without_matrices d (zeros (length b.triplets))) some lt some)

  module _ (wave triplet : List ℕ) (is_wave : W wave) (is_triplet : P triplet) where
    end-listing : (h : Heading) (ts : List (List ℕ)) → 0 < digits_value 10 h.places → length ts ≤ digits_value 10 h.places → LeadsToEnd (listing h ts)
    end-listing h ts some le = further (listing h ts) (listing h (ts ++ others)) _
        (lead-triplets W P h ts others (All-replicate P missing triplet is_triplet) (omega (arith, room, le)))
        (further (listing h (ts ++ others)) (counted body []) _ (lead-count W P body (omega (arith, room, le, whole)) (inl refl))
        (end-counted body [] (omega (arith, some, room, le, whole)) (omega arith)))
      where
        missing : ℕ
        missing = digits_value 10 h.places - length ts

        others : List (List ℕ)
        others = replicate missing triplet

        body : Body
        body = record { heading = h; triplets = ts ++ others; count = 48 ∷ [] }

        room : length others ≡ digits_value 10 h.places - length ts
        room = length-replicate missing triplet

        whole : length (ts ++ others) ≡ length ts + length others
        whole = length-append ts others

    end-ordered : (k n : List ℕ) → LeadsToEnd (ordered k n)
    end-ordered k n = further (ordered k n) (listing (record { wave = k; order = n; places = 49 ∷ [] }) []) _ (leads_more (49 ∷ [], one_whole, refl, refl) leads_none)
        (end-listing (record { wave = k; order = n; places = 49 ∷ [] }) [] (whole-positive (49 ∷ []) one_whole) (omega arith))

    end-waved : (k : List ℕ) → LeadsToEnd (waved k)
    end-waved k = further (waved k) (ordered k (49 ∷ [])) _ (leads_more (49 ∷ [], one_whole, refl, refl) leads_none) (end-ordered k (49 ∷ []))

    end-titled : LeadsToEnd titled
    end-titled = further titled (waved wave) _ (leads_more (wave, is_wave, refl, refl) leads_none) (end-waved wave)

    pub end-state : (s : State) → IsSound W P s → LeadsToEnd s
    end-state untitled h = further untitled titled _ (leads_more (refl, refl) leads_none) end-titled
    end-state titled h = end-titled
    end-state (waved k) h = end-waved k
    end-state (ordered k n) h = end-ordered k n
    end-state (listing k ts) h = end-listing k ts (whole-positive k.places h.0.places) h.2
    end-state (counted b rs) h = end-counted b rs (positive_count b h.0) h.2
    end-state (sized b rs d) h = end-sized b rs d (positive_count b h.0) h.2
    end-state (filling b rs r) h = end-filling b rs r (positive_count b h.0) h.2 h.4
    end-state (closed w) h = ([], w, leads_none)
