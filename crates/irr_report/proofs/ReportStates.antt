-- The states of a report that is read line by line.
--   one-step               a line leads to one state at most
--   AreSoFar xs s          the lines xs say what s says; so-far-step, so-far-leads
use Rattle.std.proofs.Common.{◌≡◌, refl, sym, ◌∙◌, ap, ap₂, subst, ℕ, zero, suc, ◌+◌, List, [], ◌∷◌, ◌++◌, length, append_assoc, append-nil, arith, inl, inr}
use Rattle.std.specs.Prelude.{codes, replicate}
use Rattle.std.specs.List.{flat_map}
use Rattle.std.specs.Fmt.{decimal}
use Rattle.irr_text.specs.ReportText.{next_word}
use Rattle.irr_report.specs.Machine.{Leads}
use Rattle.irr_report.specs.Machine.Leads.{none as leads_none, more as leads_more}
use Rattle.irr_report.specs.ReportLines.{WrittenRepresentation, numbered_lines, triplet_line, dimension_line, character_line, entries_line, lines_of, representations_from, report_lines}
use Rattle.irr_report.specs.ReportSteps.{Heading, Body, State, IsFilled, IsTripletStep, IsCountStep, IsDimensionStep, Step, report_machine, wave_line, order_line, places_line, count_line, with_matrix, without_matrices}
use Rattle.irr_report.specs.ReportSteps.State.{untitled, titled, waved, ordered, listing, counted, sized, filling, closed}
use Rattle.irr_report.proofs.ReportTexts.{cancelled, word-cancelled, values-unique}

-- one step

module _ (W P : List ℕ → Type 0) where
  one-triplet : (h : Heading) (ts : List (List ℕ)) (x : List ℕ) (b c : State) → IsTripletStep P h ts x b → IsTripletStep P h ts x c → b ≡ c
  one-triplet h ts x b c d e = d.4 ∙ ap (λ t. listing h (ts ++ t ∷ []))
      (word-cancelled (codes "op" ++ next_word (decimal (suc (length ts)))) d.1 e.1 (sym d.3 ∙ e.3)) ∙ sym e.4

  one-count : (h : Heading) (ts : List (List ℕ)) (x : List ℕ) (b c : State) → IsCountStep h ts x b → IsCountStep h ts x c → b ≡ c
  one-count h ts x b c d e = d.4 ∙ ap (λ t. counted (record { heading = h; triplets = ts; count = t }) [])
      (word-cancelled (codes "reps") d.1 e.1 (sym d.3 ∙ e.3)) ∙ sym e.4

  one-dimension : (k : Body) (rs : List WrittenRepresentation) (x : List ℕ) (b c : State) → IsDimensionStep k rs x b → IsDimensionStep k rs x c → b ≡ c
  one-dimension k rs x b c d e = d.4 ∙ ap (λ t. sized k rs t)
      (word-cancelled (codes "rep" ++ next_word (83 ∷ decimal (suc (length rs))) ++ next_word (codes "dim")) d.1 e.1 (sym d.3 ∙ e.3)) ∙ sym e.4

  one-filled : (k : Body) (rs : List WrittenRepresentation) (r : WrittenRepresentation) (b c : State) → IsFilled k rs r b → IsFilled k rs r c → b ≡ c
  one-filled k rs r b c (inl d) (inl e) = d.1 ∙ sym e.1
  one-filled k rs r b c (inl d) (inr e) = absurd (omega (arith, d.0, e.0))
  one-filled k rs r b c (inr d) (inl e) = absurd (omega (arith, d.0, e.0))
  one-filled k rs r b c (inr d) (inr e) = d.1 ∙ sym e.1

  pub one-step : (a b c : State) (x : List ℕ) → Step W P a x b → Step W P a x c → b ≡ c
  one-step untitled b c x d e = d.1 ∙ sym e.1
  one-step titled b c x d e = d.3 ∙ ap waved (word-cancelled (codes "wave") d.0 e.0 (sym d.2 ∙ e.2)) ∙ sym e.3
  one-step (waved k) b c x d e = d.3 ∙ ap (ordered k) (word-cancelled (codes "order") d.0 e.0 (sym d.2 ∙ e.2)) ∙ sym e.3
  one-step (ordered k n) b c x d e = d.3 ∙ ap (λ t. listing (record { wave = k; order = n; places = t }) [])
      (word-cancelled (codes "ops") d.0 e.0 (sym d.2 ∙ e.2)) ∙ sym e.3
  one-step (listing h ts) b c x (inl d) (inl e) = one-triplet h ts x b c d e
  one-step (listing h ts) b c x (inl d) (inr e) = absurd (omega (arith, d.0, e.0))
  one-step (listing h ts) b c x (inr d) (inl e) = absurd (omega (arith, d.0, e.0))
  one-step (listing h ts) b c x (inr d) (inr e) = one-count h ts x b c d e
  one-step (counted k rs) b c x (inl d) (inl e) = one-dimension k rs x b c d e
  one-step (counted k rs) b c x (inl d) (inr e) = absurd (omega (arith, d.0, e.0))
  one-step (counted k rs) b c x (inr d) (inl e) = absurd (omega (arith, d.0, e.0))
  one-step (counted k rs) b c x (inr d) (inr e) = d.2 ∙ sym e.2
  one-step (sized k rs n) b c x d e = d.4 ∙ ap (λ ts. filling k rs (without_matrices n ts))
      (values-unique d.0 e.0 d.1 e.1 (cancelled (codes "char") (flat_map next_word d.0) (flat_map next_word e.0) (sym d.3 ∙ e.3))) ∙ sym e.4
  one-step (filling k rs r) b c x d e = one-filled k rs (with_matrix r d.0) b c d.4 (subst (λ ts. IsFilled k rs (with_matrix r ts) c) (sym same) e.4)
    where
      same : d.0 ≡ e.0
      same = values-unique d.0 e.0 d.1 e.1 (cancelled (codes "mat" ++ next_word (decimal (suc (length r.matrices)))) (flat_map next_word d.0) (flat_map next_word e.0) (sym d.3 ∙ e.3))
  one-step (closed w) b c x d e = d.1 ∙ sym e.1

-- the lines so far

abbrev pub heading_lines : Heading → List (List ℕ)
heading_lines h = codes "report 1" ∷ wave_line h.wave ∷ order_line h.order ∷ places_line h.places ∷ []

abbrev pub body_lines : Body → List (List ℕ)
body_lines b = heading_lines b.heading ++ (numbered_lines triplet_line 1 b.triplets ++ count_line b.count ∷ [])

abbrev pub AreSoFar : List (List ℕ) → State → Type 0
AreSoFar xs untitled = xs ≡ []
AreSoFar xs titled = xs ≡ codes "report 1" ∷ []
AreSoFar xs (waved k) = xs ≡ codes "report 1" ∷ wave_line k ∷ []
AreSoFar xs (ordered k n) = xs ≡ codes "report 1" ∷ wave_line k ∷ order_line n ∷ []
AreSoFar xs (listing h ts) = xs ≡ heading_lines h ++ numbered_lines triplet_line 1 ts
AreSoFar xs (counted b rs) = xs ≡ body_lines b ++ representations_from 1 rs
AreSoFar xs (sized b rs d) = xs ≡ body_lines b ++ (representations_from 1 rs ++ dimension_line (suc (length rs)) d ∷ [])
AreSoFar xs (filling b rs r) = xs ≡ body_lines b ++ (representations_from 1 rs ++ lines_of (suc (length rs)) r)
AreSoFar xs (closed w) = (empty : ℕ) × (xs ≡ report_lines w ++ replicate empty [])

numbered-more : {A : Type 0} (f : ℕ → A → List ℕ) (k : ℕ) (xs : List A) (x : A) → numbered_lines f k (xs ++ x ∷ []) ≡ numbered_lines f k xs ++ f (k + length xs) x ∷ []
unfolding numbered_lines
numbered-more f k [] x = ap (λ n. f n x ∷ []) (omega arith)
numbered-more f k (y ∷ xs) x = ap (λ ls. f k y ∷ ls) (numbered-more f (suc k) xs x ∙ ap (λ n. numbered_lines f (suc k) xs ++ f n x ∷ []) (omega arith))

representations-more : (k : ℕ) (rs : List WrittenRepresentation) (r : WrittenRepresentation)
    → representations_from k (rs ++ r ∷ []) ≡ representations_from k rs ++ lines_of (k + length rs) r
unfolding representations_from
representations-more k [] r = append-nil (lines_of k r) ∙ ap (λ n. lines_of n r) (omega arith)
representations-more k (y ∷ rs) r = ap (λ ls. lines_of k y ++ ls) (representations-more (suc k) rs r ∙ ap (λ n. representations_from (suc k) rs ++ lines_of n r) (omega arith))
    ∙ sym (append_assoc (lines_of k y) (representations_from (suc k) rs) (lines_of (k + length (y ∷ rs)) r))

one_more : (n : ℕ) → 1 + n ≡ suc n
one_more n = omega arith

module _ (W P : List ℕ → Type 0) where
  more-matrix : (n : ℕ) (r : WrittenRepresentation) (texts : List (List ℕ))
      → lines_of n (with_matrix r texts) ≡ lines_of n r ++ entries_line (suc (length r.matrices)) texts ∷ []
  more-matrix n r texts = ap (λ ls. dimension_line n r.dimension ∷ character_line r.characters ∷ ls)
      (numbered-more entries_line 1 r.matrices texts ∙ ap (λ k. numbered_lines entries_line 1 r.matrices ++ entries_line k texts ∷ []) (one_more (length r.matrices)))

  more-representation : (rs : List WrittenRepresentation) (r : WrittenRepresentation)
      → representations_from 1 (rs ++ r ∷ []) ≡ representations_from 1 rs ++ lines_of (suc (length rs)) r
  more-representation rs r = representations-more 1 rs r ∙ ap (λ k. representations_from 1 rs ++ lines_of k r) (one_more (length rs))

  so-far-filled : (b : Body) (rs : List WrittenRepresentation) (r : WrittenRepresentation) (t : State) (xs : List (List ℕ))
      → xs ≡ body_lines b ++ (representations_from 1 rs ++ lines_of (suc (length rs)) r) → IsFilled b rs r t → AreSoFar xs t
  so-far-filled b rs r t xs e (inl d) = subst (AreSoFar xs) (sym d.1) e
  so-far-filled b rs r t xs e (inr d) = subst (AreSoFar xs) (sym d.1) (e ∙ ap (λ ls. body_lines b ++ ls) (sym (more-representation rs r)))

  pub so-far-step : (xs : List (List ℕ)) (s t : State) (x : List ℕ) → AreSoFar xs s → Step W P s x t → AreSoFar (xs ++ x ∷ []) t
  unfolding numbered_lines representations_from
  so-far-step xs untitled t x h d = subst (AreSoFar (xs ++ x ∷ [])) (sym d.1) (ap₂ (λ ys y. ys ++ y ∷ []) h d.0)
  so-far-step xs titled t x h d = subst (AreSoFar (xs ++ x ∷ [])) (sym d.3) (ap₂ (λ ys y. ys ++ y ∷ []) h d.2)
  so-far-step xs (waved k) t x h d = subst (AreSoFar (xs ++ x ∷ [])) (sym d.3) (ap₂ (λ ys y. ys ++ y ∷ []) h d.2)
  so-far-step xs (ordered k n) t x h d = subst (AreSoFar (xs ++ x ∷ [])) (sym d.3)
      (ap₂ (λ ys y. ys ++ y ∷ []) h d.2 ∙ sym (append-nil (heading_lines (record { wave = k; order = n; places = d.0 }))) ∙ none_listed (heading_lines (record { wave = k; order = n; places = d.0 })))
    where
      none_listed : (ys : List (List ℕ)) → ys ++ [] ≡ ys ++ numbered_lines triplet_line 1 []
      none_listed ys = refl
  so-far-step xs (listing h ts) t x e (inl d) = subst (AreSoFar (xs ++ x ∷ [])) (sym d.4)
      (ap₂ (λ ys y. ys ++ y ∷ []) e d.3 ∙ append_assoc (heading_lines h) (numbered_lines triplet_line 1 ts) (triplet_line (suc (length ts)) d.1 ∷ [])
      ∙ ap (λ ls. heading_lines h ++ ls) (ap (λ k. numbered_lines triplet_line 1 ts ++ triplet_line k d.1 ∷ []) (sym (one_more (length ts)))
      ∙ sym (numbered-more triplet_line 1 ts d.1)))
  so-far-step xs (listing h ts) t x e (inr d) = subst (AreSoFar (xs ++ x ∷ [])) (sym d.4)
      (ap₂ (λ ys y. ys ++ y ∷ []) e d.3 ∙ append_assoc (heading_lines h) (numbered_lines triplet_line 1 ts) (count_line d.1 ∷ [])
      ∙ sym (append-nil (body_lines (record { heading = h; triplets = ts; count = d.1 }))) ∙ none_yet (body_lines (record { heading = h; triplets = ts; count = d.1 })))
    where
      none_yet : (ys : List (List ℕ)) → ys ++ [] ≡ ys ++ representations_from 1 []
      none_yet ys = refl
  so-far-step xs (counted b rs) t x e (inl d) = subst (AreSoFar (xs ++ x ∷ [])) (sym d.4)
      (ap₂ (λ ys y. ys ++ y ∷ []) e d.3 ∙ append_assoc (body_lines b) (representations_from 1 rs) (dimension_line (suc (length rs)) d.1 ∷ []))
  so-far-step xs (counted b rs) t x e (inr d) = subst (AreSoFar (xs ++ x ∷ [])) (sym d.2)
      (0, ap₂ (λ ys y. ys ++ y ∷ []) e d.1 ∙ whole (heading_lines b.heading) (numbered_lines triplet_line 1 b.triplets) (count_line b.count) (representations_from 1 rs) (codes "end"))
    where
      whole : (a p : List (List ℕ)) (c : List ℕ) (q : List (List ℕ)) (z : List ℕ) → ((a ++ (p ++ c ∷ [])) ++ q) ++ z ∷ [] ≡ (a ++ (p ++ c ∷ (q ++ z ∷ []))) ++ []
      whole a p c q z = simp (append_assoc, append-nil)
  so-far-step xs (sized b rs n) t x e d = subst (AreSoFar (xs ++ x ∷ [])) (sym d.4)
      (ap₂ (λ ys y. ys ++ y ∷ []) e d.3 ∙ together (body_lines b) (representations_from 1 rs) (dimension_line (suc (length rs)) n) (character_line d.0))
    where
      none_filled : (a c : List ℕ) → a ∷ c ∷ [] ≡ a ∷ c ∷ numbered_lines entries_line 1 []
      none_filled a c = refl

      together : (a p : List (List ℕ)) (c z : List ℕ) → (a ++ (p ++ c ∷ [])) ++ z ∷ [] ≡ a ++ (p ++ c ∷ z ∷ numbered_lines entries_line 1 [])
      together a p c z = append_assoc a (p ++ c ∷ []) (z ∷ []) ∙ ap (λ ls. a ++ ls) (append_assoc p (c ∷ []) (z ∷ []) ∙ ap (λ ls. p ++ ls) (none_filled c z))
  so-far-step xs (filling b rs r) t x e d = so-far-filled b rs (with_matrix r d.0) t (xs ++ x ∷ [])
      (ap₂ (λ ys y. ys ++ y ∷ []) e d.3 ∙ append_assoc (body_lines b) (representations_from 1 rs ++ lines_of (suc (length rs)) r) (entries_line (suc (length r.matrices)) d.0 ∷ [])
      ∙ ap (λ ls. body_lines b ++ ls) (append_assoc (representations_from 1 rs) (lines_of (suc (length rs)) r) (entries_line (suc (length r.matrices)) d.0 ∷ [])
      ∙ ap (λ ls. representations_from 1 rs ++ ls) (sym (more-matrix (suc (length rs)) r d.0)))) d.4
  so-far-step xs (closed w) t x e d = subst (AreSoFar (xs ++ x ∷ [])) (sym d.1)
      (suc e.0, ap₂ (λ ys y. ys ++ y ∷ []) e.1 d.0 ∙ append_assoc (report_lines w) (replicate e.0 []) ([] ∷ []) ∙ ap (λ ls. report_lines w ++ ls) (repeated e.0))
    where
      repeated : (n : ℕ) → replicate n [] ++ [] ∷ [] ≡ [] ∷ replicate {A = List ℕ} n []
      repeated zero = refl
      repeated (suc n) = ap (λ ls. [] ∷ ls) (repeated n)

  pub so-far-leads : (xs : List (List ℕ)) {s t : State} {ys : List (List ℕ)} → AreSoFar xs s → Leads (report_machine W P) s ys t → AreSoFar (xs ++ ys) t
  so-far-leads xs {s = s} h leads_none = subst (λ zs. AreSoFar zs s) (sym (append-nil xs)) h
  so-far-leads xs {t = t} h (leads_more {s = a} {t = b} {x = y} {xs = ys} d l) = subst (λ zs. AreSoFar zs t) (append_assoc xs (y ∷ []) ys)
      (so-far-leads (xs ++ y ∷ []) (so-far-step xs a b y h d) l)
