-- The lines that pass a limit, as they are read and in the whole report.
--   length-numbered, length-representations     how many lines
--   passes-at              a line that passes a limit as it is read does in a report that begins with what is read

use Rattle.std.proofs.Common.{◌≡◌, refl, sym, ◌∙◌, ap, ap₂, subst, ℕ, suc, ◌<◌, ◌+◌, ◌*◌, List, [], ◌∷◌, ◌++◌, length, length-append, append-nil, get_or, take, All, arith, inl, inr, suc-mul, zero-mul}
use Rattle.std.specs.Prelude.{codes}
use Rattle.std.specs.List.{flat_map}
use Rattle.std.specs.Fmt.{decimal}
use Rattle.std.specs.Str.Parse.{digits_value}
use Rattle.std.proofs.Math.Seq.{get_or-append_seam}
use Rattle.irr_text.specs.ReportText.{next_word}
use Rattle.irr_cyc.specs.declared.orders.TheConstants.{ORDER_LIMIT}
use Rattle.irr_report.specs.ReportLines.{WrittenRepresentation, WrittenReport, numbered_lines, triplet_line, dimension_line, entries_line, lines_of, representations_from}
use Rattle.irr_report.specs.ReportGrammar.{IsRepresentationForm, IsForm}
use Rattle.irr_report.specs.ReportLimits.{count_limit, PassesIn, PassesAt, representation_place}
use Rattle.irr_report.specs.ReportLimits.PassesAt.{order as order_passes, places as places_pass, count as count_passes, dimension as dimension_passes, characters as characters_pass, entries as entries_pass}
use Rattle.irr_report.specs.ReportSteps.{Heading, Body, State, Step, Passes, count_line, without_matrices}
use Rattle.irr_report.specs.ReportSteps.State.{untitled, titled, waved, ordered, listing, counted, sized, filling, closed}
use Rattle.irr_report.proofs.Machines.{take-front}
use Rattle.irr_report.proofs.ReportTexts.{cancelled, word-cancelled, values-unique}
use Rattle.irr_report.proofs.ReportStates.{AreSoFar, heading_lines, body_lines}
use Rattle.irr_report.proofs.ReportSound.{IsSound, body_of, filled_by, Agrees, agrees-matrix}

pub length-numbered : {A : Type 0} (f : ℕ → A → List ℕ) (k : ℕ) (xs : List A) → length (numbered_lines f k xs) ≡ length xs
unfolding numbered_lines
length-numbered f k [] = refl
length-numbered f k (x ∷ xs) = ap suc (length-numbered f (suc k) xs)

length-representations : (h k : ℕ) (rs : List WrittenRepresentation) → All (IsRepresentationForm h) rs → length (representations_from k rs) ≡ length rs * (h + 2)
unfolding representations_from
length-representations h k [] forms = sym (zero-mul (h + 2))
length-representations h k (r ∷ rs) forms =
    let one : IsRepresentationForm h r = forms 0 r (omega arith) in
    let rest : length (representations_from (suc k) rs) ≡ length rs * (h + 2) = length-representations h (suc k) rs (λ i d lt. forms (suc i) d (omega arith)) in
    let matrices : length (numbered_lines entries_line 1 r.matrices) ≡ length r.matrices = length-numbered entries_line 1 r.matrices in
    let whole : length (lines_of k r ++ representations_from (suc k) rs) ≡ length (lines_of k r) + length (representations_from (suc k) rs)
    = length-append (lines_of k r) (representations_from (suc k) rs) in
    let product : suc (length rs) * (h + 2) ≡ length rs * (h + 2) + (h + 2) = suc-mul (length rs) (h + 2) in
    omega (arith, one.matrix_count)

length-body : (b : Body) (rest : List (List ℕ)) → length (body_lines b ++ rest) ≡ 5 + length b.triplets + length rest
length-body b rest =
    let whole = length-append (body_lines b) rest in
    let front = length-append (heading_lines b.heading) (numbered_lines triplet_line 1 b.triplets ++ count_line b.count ∷ []) in
    let middle = length-append (numbered_lines triplet_line 1 b.triplets) (count_line b.count ∷ []) in
    let listed = length-numbered triplet_line 1 b.triplets in
    omega (arith, whole, front, middle, listed)

-- the item at a seam
at_seam : {A : Type 0} (all xs : List A) (y : A) (ys : List A) → all ≡ xs ++ y ∷ ys → y ≡ get_or all (length xs) y
at_seam all xs y ys e = sym (ap (λ zs. get_or zs (length xs) y) e ∙ get_or-append_seam xs y ys y)

within_seam : {A : Type 0} (all xs : List A) (y : A) (ys : List A) → all ≡ xs ++ y ∷ ys → length xs < length all
within_seam all xs y ys e = let whole : length all ≡ length (xs ++ y ∷ ys) = ap length e in omega (arith, length-append xs (y ∷ ys), whole)

module _ (W P : List ℕ → Type 0) (w : WrittenReport) (f : IsForm W P w) where
  -- the place of a representation of the report
  pub place_of : (b : Body) (rs : List WrittenRepresentation) (rest : List (List ℕ)) → body_of w ≡ b → All (IsRepresentationForm (length b.triplets)) rs
      → length (body_lines b ++ (representations_from 1 rs ++ rest)) ≡ representation_place w (length rs) + length rest
  place_of b rs rest e forms =
      let triplets : length w.triplets ≡ length b.triplets = ap (λ (c : Body). length c.triplets) e in
      let listed : length (representations_from 1 rs) ≡ length rs * (length b.triplets + 2) = length-representations (length b.triplets) 1 rs forms in
      let same : length rs * (length b.triplets + 2) ≡ length rs * (length w.triplets + 2) = ap (λ h. length rs * (h + 2)) (sym triplets) in
      omega (arith, length-body b (representations_from 1 rs ++ rest), length-append (representations_from 1 rs) rest, triplets, listed, same)

  pub passes-at : (xs : List (List ℕ)) (s t : State) (x : List ℕ) → AreSoFar xs s → IsSound W P s → Step W P s x t → Passes s x → Agrees t w → PassesAt w (length xs)
  passes-at xs untitled t x so is d p h = absurd p
  passes-at xs titled t x so is d p h = absurd p
  passes-at xs (waved k) t x so is d p h = let a = subst (λ u. Agrees u w) d.3 h in
      subst (PassesAt w) (sym (ap length so)) (order_passes (subst (λ ds. ORDER_LIMIT < digits_value 10 ds) (word-cancelled (codes "order") p.0 d.0 (sym p.1 ∙ d.2) ∙ sym a.1) p.2))
  passes-at xs (ordered k n) t x so is d p h = let a = subst (λ u. Agrees u w) d.3 h in
      subst (PassesAt w) (sym (ap length so)) (places_pass (subst (λ m. count_limit < m)
      (ap (digits_value 10) (word-cancelled (codes "ops") p.0 d.0 (sym p.1 ∙ d.2) ∙ sym (ap (λ (g : Heading). g.places) a.0)) ∙ f.triplet_count) p.2))
  passes-at xs (listing k ts) t x so is (inl d) p h = absurd (omega (arith, d.0, p.0))
  passes-at xs (listing k ts) t x so is (inr d) p h = let a = subst (λ u. Agrees u w) d.4 h in
      let triplets : length w.triplets ≡ length ts = ap (λ (b : Body). length b.triplets) a.0 in
      let place : 4 + length w.triplets ≡ length xs = omega (arith, ap length so, length-append (heading_lines k) (numbered_lines triplet_line 1 ts), length-numbered triplet_line 1 ts, triplets) in
      subst (PassesAt w) place (count_passes (subst (λ m. count_limit < m)
      (ap (digits_value 10) (word-cancelled (codes "reps") p.1 d.1 (sym p.2 ∙ d.3) ∙ sym (ap (λ (b : Body). b.count) a.0)) ∙ f.representation_count) p.3))
  passes-at xs (counted b rs) t x so is (inl d) p h = let a = subst (λ u. Agrees u w) d.4 h in
      let place : representation_place w (length rs) ≡ length xs = omega (arith, ap length so, ap (λ ls. length (body_lines b ++ ls)) (append-nil (representations_from 1 rs)), place_of b rs [] a.0 is.1) in
      subst (PassesAt w) place (dimension_passes (length rs) a.1 (within_seam w.representations rs a.1 a.2 a.3) (at_seam w.representations rs a.1 a.2 a.3)
      (subst (λ ds. count_limit < digits_value 10 ds)
      (word-cancelled (codes "rep" ++ next_word (83 ∷ decimal (suc (length rs))) ++ next_word (codes "dim")) p.1 d.1 (sym p.2 ∙ d.3) ∙ sym a.4) p.3))
  passes-at xs (counted b rs) t x so is (inr d) p h = absurd (omega (arith, d.0, p.0))
  passes-at xs (sized b rs n) t x so is d p h = let a = subst (λ u. Agrees u w) d.4 h in
      let place : representation_place w (length rs) + 1 ≡ length xs = omega (arith, ap length so, place_of b rs (dimension_line (suc (length rs)) n ∷ []) a.0 is.1) in
      let same : p.0 ≡ d.0 = values-unique p.0 d.0 p.1 d.1 (cancelled (codes "char") (flat_map next_word p.0) (flat_map next_word d.0) (sym p.2 ∙ d.3)) in
      subst (PassesAt w) place (characters_pass (length rs) (filled_by (without_matrices n d.0) a.1) (within_seam w.representations rs (filled_by (without_matrices n d.0) a.1) a.2 a.3)
      (at_seam w.representations rs (filled_by (without_matrices n d.0) a.1) a.2 a.3)
      (subst (λ m. PassesIn m [] d.0) (ap (λ (c : Body). digits_value 10 c.heading.order) (sym a.0)) (subst (λ ts. PassesIn (digits_value 10 b.heading.order) [] ts) same p.3)))
  passes-at xs (filling b rs r) t x so is d p h = let a = agrees-matrix W P w b rs r d.0 t d.4 h in
      let whole = filled_by r (d.0 ∷ a.1) in
      let place : representation_place w (length rs) + 2 + length r.matrices ≡ length xs = omega (
        arith,
        ap length so,
        place_of b rs (lines_of (suc (length rs)) r) a.0 is.1,
        length-numbered entries_line 1 r.matrices,
      ) in
      let same : p.0 ≡ d.0 = values-unique p.0 d.0 p.1 d.1
      (cancelled (codes "mat" ++ next_word (decimal (suc (length r.matrices)))) (flat_map next_word p.0) (flat_map next_word d.0) (sym p.2 ∙ d.3)) in
      subst (PassesAt w) place (entries_pass (length rs) (length r.matrices) whole (within_seam w.representations rs whole a.2 a.3) (at_seam w.representations rs whole a.2 a.3)
      (omega (arith, length-append r.matrices (d.0 ∷ a.1)))
      (passes_matrix (digits_value 10 w.order) r d.0 a.1
      (subst (λ m. PassesIn m (r.characters ++ flat_map (λ ms. ms) r.matrices) d.0) (ap (λ (c : Body). digits_value 10 c.heading.order) (sym a.0))
      (subst (λ ts. PassesIn (digits_value 10 b.heading.order) (r.characters ++ flat_map (λ ms. ms) r.matrices) ts) same p.3))))
    where
      passes_matrix : (n : ℕ) (r : WrittenRepresentation) (texts : List (List ℕ)) (ms : List (List (List ℕ))) → PassesIn n (r.characters ++ flat_map (λ m. m) r.matrices) texts
          → PassesIn n (r.characters ++ flat_map (λ m. m) (take (length r.matrices) (r.matrices ++ texts ∷ ms))) (get_or (r.matrices ++ texts ∷ ms) (length r.matrices) [])
      passes_matrix n r texts ms h = subst (λ (q : List (List (List ℕ)) × List (List ℕ)). PassesIn n (r.characters ++ flat_map (λ m. m) q.0) q.1) both h
        where
          both : ◌≡◌ {A = List (List (List ℕ)) × List (List ℕ)} (r.matrices, texts) (take (length r.matrices) (r.matrices ++ texts ∷ ms), get_or (r.matrices ++ texts ∷ ms) (length r.matrices) [])
          both = ap₂ (λ a b. (a, b)) (sym (take-front r.matrices (texts ∷ ms))) (sym (get_or-append_seam r.matrices texts ms []))
  passes-at xs (closed v) t x so is d p h = absurd p
