-- The lines of a report are those of what it says.
--   item                  the item at a place of a mapped list
--   values-pieces         a row of numbers of one order
--   matrix-pieces         the entries of a matrix, row by row
--   printed-content       the lines of a report are the text of its content
use Rattle.std.proofs.Common.{◌≡◌, sym, ◌∙◌, ap, ap₂, subst, refl, ℕ, suc, ◌*◌, ◌<◌, List, [], ◌∷◌, ◌++◌, length, map, get_or, All}
use Rattle.std.specs.Prelude.{codes}
use Rattle.std.specs.Fmt.{decimal}
use Rattle.std.proofs.lemmas.List.{get_or-map}
use Rattle.std.proofs.lemmas.List.Elements.{All-get_or}
use Rattle.irr_algebra.specs.Fin.{Fin, to_nat}
use Rattle.irr_algebra.specs.Matrix.{Matrix}
use Rattle.irr_number.specs.Number.{numbers}
use Rattle.irr_space.specs.Operation.{identity}
use Rattle.irr_text.specs.NumberText.{number_text, pieces_below}
use Rattle.irr_text.specs.TripletText.{triplet_text}
use Rattle.irr_text.specs.ReportText.{report_text, pieces, operation_line, character_line, matrix_line, representation_lines, line, next_word}
use Rattle.irr_seitz.specs.declared.op.Op.{Op}
use Rattle.irr_seitz.specs.OperationMeaning.{operation}
use Rattle.irr_cyc.specs.declared.scalars.Scalar.{Ghosts}
use Rattle.irr_mat.specs.declared.matrices.Mat.{Mat}
use Rattle.irr_mat.specs.Entries.{matrix_of}
use Rattle.irr_mat.proofs.Entries.{matrix_of-at}
use Rattle.irr_rep.specs.Family.{HasShape, matrix_at}
use Rattle.irr_rep.proofs.Families.{matrix_at-item, item-rows, item-cols, item-order}
use Rattle.irr_report.specs.declared.report.RepText.{RepText}
use Rattle.irr_report.specs.declared.report.Report.{Report}
use Rattle.irr_report.specs.Content.{FitsTogether, HasPlaces, number_at, content_of, characters, matrices}
use Rattle.irr_report.specs.Printed.{head_text, value_word, values_text, numbered, operation_text, matrix_text, representation_text, printed_report}
use Rattle.irr_report.proofs.Pieces.{pieces-same, pieces-rows, pieces-list, pieces-numbered, pieces_below-list}

-- the item at a place of a mapped list
item : {A B : Type 0} (f : A → B) (xs : List A) (k : ℕ) (x : A) (d : B) → k < length xs → x ≡ get_or xs k x → get_or (map f xs) k d ≡ f x
item f xs k x d lt is = get_or-map f xs k x d lt ∙ ap f (sym is)

-- what holds of each item
each : {A : Type 0} (P : A → Type 0) (xs : List A) (k : ℕ) (x : A) → k < length xs → x ≡ get_or xs k x → All P xs → P x
each P xs k x lt is all = subst P (sym is) (All-get_or P xs k x lt all)

module _ {S : Type 0} (G : Ghosts S) where
  -- a number of the order n
  value_of : (n : ℕ) (x : S) → G.order_of x ≡ n → next_word (number_text n (G.value n x)) ≡ value_word G.order_of G.value x
  value_of n x e = ap (λ m. next_word (number_text m (G.value m x))) (sym e)

  values-pieces : (n h : ℕ) (xs : List S) → length xs ≡ h → All (λ x. G.order_of x ≡ n) xs
      → pieces h (λ i. next_word (number_text n (number_at G.value n xs (to_nat i)))) ≡ values_text G.order_of G.value xs
  unfolding number_at values_text
  values-pieces n h xs e orders = pieces-list (value_word G.order_of G.value) xs h
      (λ k. next_word (number_text n (get_or (map (G.value n) xs) k (numbers n).zero))) (sym e)
      (λ k x lt is. ap (λ v. next_word (number_text n v)) (item (G.value n) xs k x (numbers n).zero lt is)
      ∙ value_of n x (each (λ y. G.order_of y ≡ n) xs k x lt is orders))

  entries-pieces : (n d : ℕ) (xs : List S) → length xs ≡ d * d → All (λ x. G.order_of x ≡ n) xs
      → pieces d (λ a. pieces d (λ b. next_word (number_text n ((matrix_of G.value n d d xs).at a b)))) ≡ values_text G.order_of G.value xs
  unfolding values_text
  entries-pieces n d xs e orders =
      pieces-same d _ _ (λ a. pieces-same d _ _ (λ b. ap (λ v. next_word (number_text n v)) (matrix_of-at G.order_of G.value n d d xs a b)))
      ∙ pieces-rows d d (λ k. next_word (number_text n (get_or (map (G.value n) xs) k (numbers n).zero)))
      ∙ ap (λ m. pieces_below m (λ k. next_word (number_text n (get_or (map (G.value n) xs) k (numbers n).zero)))) (sym e)
      ∙ pieces_below-list (value_word G.order_of G.value) xs (λ k. next_word (number_text n (get_or (map (G.value n) xs) k (numbers n).zero)))
      (λ k x lt is. ap (λ v. next_word (number_text n v)) (item (G.value n) xs k x (numbers n).zero lt is)
      ∙ value_of n x (each (λ y. G.order_of y ≡ n) xs k x lt is orders))

-- the lines of representations and of reports
module _ {S : Type 0} {G : Ghosts S} where
  -- the line of a matrix
  module _ (n d h : ℕ) (mats : List (Mat S G)) (shape : HasShape n h d mats) where
    abbrev matrix_line_of : Fin h → List ℕ
    matrix_line_of i = line (codes "mat" ++ next_word (decimal (suc (to_nat i)))
        ++ pieces d (λ a. pieces d (λ b. next_word (number_text n ((matrix_at n d mats i).at a b)))))

    matrix-line : (i : Fin h) (m : Mat S G) → to_nat i < length mats → m ≡ get_or mats (to_nat i) m
        → matrix_line_of i ≡ matrix_text {G = G} (suc (to_nat i)) m
    matrix-line i m lt is =
        ap (λ (x : Matrix (numbers n) d d). line (codes "mat" ++ next_word (decimal (suc (to_nat i)))
        ++ pieces d (λ a. pieces d (λ b. next_word (number_text n (x.at a b))))))
        (matrix_at-item n d mats (to_nat i) m lt is i refl)
        ∙ ap (λ u. line (codes "mat" ++ next_word (decimal (suc (to_nat i))) ++ u)) (entries-pieces G n d m.entries.items filled orders)
      where
        filled : length m.entries.items ≡ d * d
        filled = m.filled ∙ ap₂ (λ a b. a * b) (item-rows n d mats (to_nat i) m lt is shape) (item-cols n d mats (to_nat i) m lt is shape)

        orders : All (λ x. G.order_of x ≡ n) m.entries.items
        orders = subst (λ k. All (λ x. G.order_of x ≡ k) m.entries.items) (item-order n d mats (to_nat i) m lt is shape) m.one_order

    matrix-lines : pieces h matrix_line_of ≡ numbered (matrix_text {G = G}) 1 mats
    matrix-lines = pieces-numbered (matrix_text {G = G}) mats h shape.count matrix_line_of matrix-line

  module _ (r : Report S G) (fits : FitsTogether r) where
    representation-lines : (m : Fin (length r.reps.items)) (t : RepText S G) → to_nat m < length r.reps.items → t ≡ get_or r.reps.items (to_nat m) t
        → representation_lines (content_of r) m ≡ representation_text {G = G} (suc (to_nat m)) t
    unfolding representation_lines character_line matrix_line
    representation-lines m t lt is =
        ap (λ d. body d (get_or (characters r) (to_nat m) []) (get_or (matrices r) (to_nat m) []))
        (item (λ (u : RepText S G). u.family.dim) r.reps.items (to_nat m) t 0 lt is)
        ∙ ap₂ (λ xs mats. body t.family.dim xs mats) (item (λ (u : RepText S G). u.chars.items) r.reps.items (to_nat m) t [] lt is)
        (item (λ (u : RepText S G). u.family.mats.items) r.reps.items (to_nat m) t [] lt is)
        ∙ ap₂ (λ cs ms. first_line t.family.dim ++ line (codes "char" ++ cs) ++ ms)
        (values-pieces G r.order (length r.ops.items) t.chars.items has.count has.orders)
        (matrix-lines r.order t.family.dim (length r.ops.items) t.family.mats.items has.shape)
      where
        has : HasPlaces r.order (length r.ops.items) t
        has = each (HasPlaces r.order (length r.ops.items)) r.reps.items (to_nat m) t lt is fits

        first_line : ℕ → List ℕ
        first_line d = line (codes "rep" ++ next_word (83 ∷ decimal (suc (to_nat m))) ++ next_word (codes "dim") ++ next_word (decimal d))

        body : ℕ → List S → List (Mat S G) → List ℕ
        body d xs mats = first_line d ++ line (codes "char" ++ pieces (length r.ops.items)
            (λ i. next_word (number_text r.order (number_at G.value r.order xs (to_nat i)))))
            ++ pieces (length r.ops.items) (λ i. line (codes "mat" ++ next_word (decimal (suc (to_nat i)))
            ++ pieces d (λ a. pieces d (λ b. next_word (number_text r.order ((matrix_at r.order d mats i).at a b))))))

    operation-line : (i : Fin (length r.ops.items)) (g : Op) → to_nat i < length r.ops.items → g ≡ get_or r.ops.items (to_nat i) g
        → operation_line (content_of r) i ≡ operation_text (suc (to_nat i)) g
    unfolding operation_line
    operation-line i g lt is = ap (λ o. line (codes "op" ++ next_word (decimal (suc (to_nat i))) ++ next_word (triplet_text o)))
        (item operation r.ops.items (to_nat i) g identity lt is)

    pub printed-content : printed_report r ≡ report_text (content_of r)
    unfolding report_text printed_report
    printed-content = sym (ap₂ (λ os ms. head_text r.wave r.order (length r.ops.items) ++ os
        ++ line (codes "reps" ++ next_word (decimal (length r.reps.items))) ++ ms ++ line (codes "end"))
        (pieces-numbered operation_text r.ops.items (length r.ops.items) refl (operation_line (content_of r)) operation-line)
        (pieces-numbered (representation_text {G = G}) r.reps.items (length r.reps.items) refl (representation_lines (content_of r))
        representation-lines))
