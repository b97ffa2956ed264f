-- The text of relations, from the lists that show them.
--   flat_map-gathered            texts of the items of lists put together
--   points_lines, places_lines, members_lines, rows_lines     the lines of each part
--   text_here                    the whole text
use Rattle.std.proofs.Common.{◌≡◌, sym, ◌∙◌, ap, ap₂, subst, refl, ℕ, zero, suc, ◌+◌, ◌<◌, List, [], ◌∷◌, ◌++◌, append-nil, append_assoc, length, get_or, map, Vec, Global, arith}
use Rattle.std.specs.List.{flat_map}
use Rattle.std.specs.Prelude.{codes}
use Rattle.std.specs.Fmt.{decimal}
use Rattle.std.proofs.lemmas.List.{get_or-map, get_or_default}
use Rattle.std.proofs.lemmas.List.Concat.{flat_map-append}
use Rattle.irr_algebra.specs.Fin.{Fin, to_nat}
use Rattle.irr_algebra.specs.Fin.Fin.{first, next}
use Rattle.irr_algebra.specs.Matrix.{trace}
use Rattle.irr_number.specs.Number.{Number, numbers}
use Rattle.irr_space.specs.Operation.{Operation, WaveVector}
use Rattle.irr_space.specs.Reciprocal.{Sign}
use Rattle.irr_space.specs.PhaseTable.{PhaseTable}
use Rattle.irr_text.specs.ReportText.{pieces, line, place_text, next_word}
use Rattle.irr_text.specs.StarText.{little_line}
use Rattle.irr_text.specs.WaveText.{wave_text}
use Rattle.irr_text.specs.NumberText.{number_text}
use Rattle.irr_text.specs.TripletText.{triplet_text}
use Rattle.irr_seitz.specs.OperationMeaning.{operation}
use Rattle.irr_seitz.specs.declared.op.Op.{Op}
use Rattle.irr_rep.specs.Twisted.{operation_places, phase_table, place_count}
use Rattle.irr_char.specs.Rows.{row_of}
use Rattle.irr_char.specs.Characters.{IsRowOf}
use Rattle.irr_close.specs.declared.group.Group.{Group}
use Rattle.irr_heading.specs.Heading.{heading}
use Rattle.irr_kvec.specs.WaveMeaning.{wave_vector}
use Rattle.irr_kvec.specs.declared.wave.Wave.{Wave}
use Rattle.irr_little.specs.Line.{line_points}
use Rattle.irr_report.specs.Printed.{numbered, value_word, values_text}
use Rattle.irr_report.proofs.Pieces.{pieces-list, pieces-numbered, pieces-same}
use Rattle.irr_compat.specs.Parts.{gathered, part_of, parts_of}
use Rattle.irr_compat.specs.Relations.{LineRelations}
use Rattle.irr_compat.specs.Rows.{RowView, row_view, member_row, point_rows}
use Rattle.irr_compat.specs.declared.table.LinePart.{LinePart}
use Rattle.irr_compat.specs.LineTables.{IsCompatTable}
use Rattle.irr_compat.specs.declared.table.LineTable.{LineTable}
use Rattle.irr_compat.specs.declared.table.PointRow.{PointRow}
use Rattle.irr_compat_text.specs.CompatText.{CompatContent, compat_content, compat_text, point_line, part_line, from_lines, member_lines}
use Rattle.irr_compat_text.specs.Printed.{point_text, part_text, row_text, rows_text, place_line, member_text, members_text}

-- texts of lists put together
pub flat_map-gathered : {X : Type 0} (f : X → List ℕ) (n : ℕ) (g : Fin n → List X) → flat_map f (gathered n g) ≡ pieces n (λ i. flat_map f (g i))
unfolding gathered pieces
flat_map-gathered f zero g = refl
flat_map-gathered f (suc n) g = flat_map-append f (g first) (gathered n (λ i. g (next i))) ∙ ap (λ t. flat_map f (g first) ++ t) (flat_map-gathered f n (λ i. g (next i)))

part_lines : {n : ℕ} (j : Fin n) (q d : ℕ) → flat_map part_text (part_of (to_nat j) q d) ≡ part_line j q d
unfolding part_of part_line
part_lines j zero d = refl
part_lines j (suc q) d = append-nil (part_text (record { label = suc (to_nat j); mult = suc q; dim = d }))

flat_map-map : {X Y : Type 0} (f : Y → List ℕ) (g : X → Y) (xs : List X) → flat_map (λ x. f (g x)) xs ≡ flat_map f (map g xs)
flat_map-map f g [] = refl
flat_map-map f g (x ∷ xs) = ap (λ t. f (g x) ++ t) (flat_map-map f g xs)

module _ {s : Sign} {G : Operation → Type 0} {n : ℕ} {point : Fin (suc n) → WaveVector} {h : ℕ} {T : PhaseTable h} (r : LineRelations s G point T) where
  row_lines : (i : Fin (suc n)) (m : Fin (r.at_point i).members.count)
      → row_text (member_row (to_nat i) (to_nat m) ((r.at_point i).members.size m) (parts_of ((r.at_point i).mult m) r.list.size)) ≡ from_lines (compat_content r) i m
  unfolding from_lines
  row_lines i m = ap (λ t. line (codes "from" ++ next_word (decimal (to_nat i)) ++ next_word (83 ∷ decimal (suc (to_nat m))) ++ next_word (codes "dim")
      ++ next_word (decimal ((r.at_point i).members.size m))) ++ t)
      (flat_map-gathered part_text r.list.count (λ j. part_of (to_nat j) ((r.at_point i).mult m j) (r.list.size j))
      ∙ pieces-same r.list.count _ _ (λ j. part_lines j ((r.at_point i).mult m j) (r.list.size j)))

  pub rows_lines : (rows : List PointRow) → map row_view rows ≡ gathered (suc n) (λ i. point_rows (r.at_point i))
      → rows_text rows ≡ pieces (suc n) (λ i. pieces (r.at_point i).members.count (λ m. from_lines (compat_content r) i m))
  rows_lines rows e = flat_map-map row_text row_view rows ∙ ap (flat_map row_text) e ∙ flat_map-gathered row_text (suc n) (λ i. point_rows (r.at_point i))
      ∙ pieces-same (suc n) _ _ (λ i. flat_map-gathered row_text (r.at_point i).members.count (λ m.
      member_row (to_nat i) (to_nat m) ((r.at_point i).members.size m) (parts_of ((r.at_point i).mult m) r.list.size) ∷ [])
      ∙ pieces-same (r.at_point i).members.count _ _ (λ m. append-nil (row_text (member_row (to_nat i) (to_nat m) ((r.at_point i).members.size m)
      (parts_of ((r.at_point i).mult m) r.list.size))) ∙ row_lines i m))

-- pieces of the numbered items of a list
numbered_from : {A : Type 0} (g : ℕ → A → List ℕ) (s : ℕ) (xs : List A) (f : Fin (length xs) → List ℕ)
    → ((i : Fin (length xs)) (x : A) → to_nat i < length xs → x ≡ get_or xs (to_nat i) x → f i ≡ g (s + to_nat i) x)
    → pieces (length xs) f ≡ numbered g s xs
unfolding pieces numbered to_nat
numbered_from g s [] f e = refl
numbered_from g s (x ∷ xs) f e = ap₂ (λ u v. u ++ v) (e first x (omega arith) refl ∙ ap (λ n. g n x) (let z : s + 0 ≡ s = omega arith in z))
    (numbered_from g (suc s) xs (λ i. f (next i)) (λ i y lt is. e (next i) y (omega (arith, lt)) is ∙ ap (λ n. g n y) (let z : s + suc (to_nat i) ≡ suc s + to_nat i = omega arith in z)))

pieces_from : {A : Type 0} (g : ℕ → A → List ℕ) (s : ℕ) (xs : List A) (n : ℕ) → length xs ≡ n → (f : Fin n → List ℕ)
    → ((i : Fin n) (x : A) → to_nat i < length xs → x ≡ get_or xs (to_nat i) x → f i ≡ g (s + to_nat i) x) → pieces n f ≡ numbered g s xs
pieces_from {A = A} g s xs n e = subst (λ m. (f : Fin m → List ℕ)
    → ((i : Fin m) (x : A) → to_nat i < length xs → x ≡ get_or xs (to_nat i) x → f i ≡ g (s + to_nat i) x) → pieces m f ≡ numbered g s xs) e
    (λ f same. numbered_from g s xs f same)

pub points_lines : (points : List Wave) (n : ℕ) (d : Wave) → length points ≡ suc n → pieces (suc n) (λ i. point_line i (line_points n points d i)) ≡ numbered point_text 0 points
unfolding point_line
points_lines points n d size = pieces_from point_text 0 points (suc n) size (λ i. point_line i (line_points n points d i)) (λ i x l is.
    ap₂ (λ (m : ℕ) (w : Wave). line (codes "point" ++ next_word (decimal m) ++ next_word (wave_text (wave_vector w)))) (let z : to_nat i ≡ 0 + to_nat i = omega arith in z)
    (get_or_default points (to_nat i) d x l ∙ sym is))

pub places_lines : (ops : List Op) (d : Op) (xs : List ℕ) (h : ℕ) → length xs ≡ h → (operation_at : Fin h → Operation)
    → ((i : Fin h) → operation_at i ≡ operation (get_or ops (get_or xs (to_nat i) 0) d)) → pieces h (λ i. little_line i (operation_at i)) ≡ numbered (place_line ops d) 1 xs
unfolding little_line
places_lines ops d xs h size operation_at same = pieces-numbered (place_line ops d) xs h size (λ i. little_line i (operation_at i)) (λ i x l is.
    ap (λ (g : Operation). line (codes "op" ++ next_word (decimal (suc (to_nat i))) ++ next_word (triplet_text g)))
    (same i ∙ ap (λ p. operation (get_or ops p d)) (get_or_default xs (to_nat i) 0 x l ∙ sym is)))

module _ {S : Type 0} (order : S → ℕ) (value : (n : ℕ) → S → Number n) where
  values_line : (n h : ℕ) (f : Fin h → Number n) (row : List S) → IsRowOf {h = h} order value n f row
      → pieces h (λ i. next_word (number_text n (f i))) ≡ values_text order value row
  unfolding values_text
  values_line n h f row r = pieces-same h _ _ (λ i. ap (λ x. next_word (number_text n x)) (sym (r.numbers_at i)))
      ∙ pieces-list (value_word order value) row h (λ k. next_word (number_text n (get_or (map (value n) row) k (numbers n).zero))) (sym r.count)
      (λ k x l is. ap (λ y. next_word (number_text n y)) (get_or-map (value n) row k x (numbers n).zero l ∙ ap (value n) (sym is))
      ∙ ap (λ m. next_word (number_text m (value m x))) (sym (subst (λ (y : S). order y ≡ n) (sym is) (r.orders k x l))))

  pub members_lines : (s : ℕ) (ds : List ℕ) (rows : List (List S)) (n : ℕ) → length ds ≡ n → length rows ≡ n → (f : Fin n → List ℕ)
      → ((i : Fin n) → f i ≡ member_text order value (s + to_nat i) (get_or ds (to_nat i) 0) (get_or rows (to_nat i) [])) → pieces n f ≡ members_text order value s ds rows
  unfolding pieces members_text to_nat
  members_lines s [] [] zero a b f e = refl
  members_lines s [] (r ∷ rows) zero a b f e = absurd (omega (arith, b))
  members_lines s (c ∷ ds) rows zero a b f e = absurd (omega (arith, a))
  members_lines s [] rows (suc n) a b f e = absurd (omega (arith, a))
  members_lines s (c ∷ ds) [] (suc n) a b f e = absurd (omega (arith, b))
  members_lines s (c ∷ ds) (r ∷ rows) (suc n) a b f e = ap₂ (λ u v. u ++ v) (e first ∙ ap (λ m. member_text order value m c r) (let z : s + 0 ≡ s = omega arith in z))
      (members_lines (suc s) ds rows n (omega (arith, a)) (omega (arith, b)) (λ i. f (next i)) (λ i. e (next i)
      ∙ ap (λ m. member_text order value m (get_or ds (to_nat i) 0) (get_or rows (to_nat i) [])) (let z : s + suc (to_nat i) ≡ suc s + to_nat i = omega arith in z)))

-- all lines
order-parts : (w : List ℕ) → codes "order " ++ (w ++ codes "\n") ≡ line (codes "order" ++ next_word w)
order-parts w = sym (append_assoc (codes "order ") w (10 ∷ []))

ops-parts : (w : List ℕ) → codes "ops " ++ (w ++ codes "\n") ≡ line (codes "ops" ++ next_word w)
ops-parts w = sym (append_assoc (codes "ops ") w (10 ∷ []))

reps-parts : (w : List ℕ) → codes "reps " ++ (w ++ codes "\n") ≡ line (codes "reps" ++ next_word w)
reps-parts w = sym (append_assoc (codes "reps ") w (10 ∷ []))

-- a text that is put together piece by piece
joined : {a : List ℕ} (b c d e f g h i : List ℕ) {t u v w x y z r s : List ℕ} → t ≡ a → u ≡ t ++ b → v ≡ u ++ c → w ≡ v ++ d → x ≡ w ++ e → y ≡ x ++ f → z ≡ y ++ g
    → r ≡ z ++ h → s ≡ r ++ i → s ≡ a ++ b ++ c ++ d ++ e ++ f ++ g ++ h ++ i
joined b c d e f g h i p q k l m n o j z = z ∙ ap (λ x. x ++ i) (j ∙ ap (λ x. x ++ h) (o ∙ ap (λ x. x ++ g) (n ∙ ap (λ x. x ++ f) (m ∙ ap (λ x. x ++ e)
    (l ∙ ap (λ x. x ++ d) (k ∙ ap (λ x. x ++ c) (q ∙ ap (λ x. x ++ b) p)))))))

module _ {S : Type 0} (order : S → ℕ) (value : (n : ℕ) → S → Number n) (group : Group) (points : List Wave) (n : ℕ) (d : Wave) (size : length points ≡ suc n) (o : Op)
    (c : LineTable S) (e : IsCompatTable order value group (line_points n points d) c) where
  member_here : (m : Fin e.relations.list.count) → member_lines (compat_content e.relations) m
      ≡ member_text order value (1 + to_nat m) (get_or c.dims.items (to_nat m) 0) (get_or (map (λ (v : Vec S Global). v.items) c.chars.items) (to_nat m) [])
  unfolding member_lines
  member_here m = ap₂ (λ x y. x ++ y)
      (ap₂ (λ (k : ℕ) (s : ℕ). line (codes "rep" ++ next_word (76 ∷ decimal k) ++ next_word (codes "dim") ++ next_word (decimal s))) (let z : suc (to_nat m) ≡ 1 + to_nat m = omega arith in z)
      (sym (e.shown.dims m)))
      (ap (λ t. line (codes "char" ++ t)) (values_line order value (phase_table c.line).order (place_count c.line) (λ i. trace ((e.relations.list.member m).at i))
      (get_or (map (λ (v : Vec S Global). v.items) c.chars.items) (to_nat m) []) (e.shown.characters.row m [])))

  all_lines : (v : ℕ) (s : Sign) → heading (codes "compat") v s ++ line (codes "order" ++ next_word (decimal (phase_table c.line).order))
      ++ numbered point_text 0 points ++ line (codes "ops" ++ next_word (decimal (place_count c.line)))
      ++ numbered (place_line group.ops.items o) 1 (operation_places c.line) ++ line (codes "reps" ++ next_word (decimal (length c.dims.items)))
      ++ members_text order value 1 c.dims.items (map (λ (v : Vec S Global). v.items) c.chars.items) ++ rows_text c.rows.items ++ line (codes "end")
      ≡ compat_text v s (compat_content e.relations)
  unfolding compat_text
  all_lines v s = parts_same (heading (codes "compat") v s) (line (codes "order" ++ next_word (decimal (phase_table c.line).order)))
      (line (codes "ops" ++ next_word (decimal (place_count c.line)))) (line (codes "end"))
      (sym (points_lines points n d size))
      (sym (places_lines group.ops.items o (operation_places c.line) (place_count c.line) (sym c.line.places.ok.0) e.relations.operation
      (λ i. ap (λ (f : Fin (place_count c.line) → Operation). f i) (sym (e.shown.operations o)))))
      (ap (λ k. line (codes "reps" ++ next_word (decimal k))) e.shown.count)
      (sym (members_lines order value 1 c.dims.items (map (λ (v : Vec S Global). v.items) c.chars.items) e.relations.list.count e.shown.count e.shown.characters.count
      (λ m. member_lines (compat_content e.relations) m) member_here))
      (rows_lines e.relations c.rows.items e.shown.rows)
    where
      parts_same : (a b d i : List ℕ) {p q r s t u v w x y : List ℕ} → p ≡ q → r ≡ s → t ≡ u → v ≡ w → x ≡ y
          → a ++ b ++ p ++ d ++ r ++ t ++ v ++ x ++ i ≡ a ++ b ++ q ++ d ++ s ++ u ++ w ++ y ++ i
      parts_same a b d i e f g h j = ap (λ k. k ++ i) (ap₂ (λ k l. k ++ l) (ap₂ (λ k l. k ++ l) (ap₂ (λ k l. k ++ l) (ap₂ (λ k l. a ++ b ++ k ++ d ++ l) e f) g) h) j)

  -- from the texts after each step
  pub text_here : (v : ℕ) (s : Sign) (begun ordered pointed counted listed told filled rowed text : List ℕ) → begun ≡ heading (codes "compat") v s
      → ordered ≡ begun ++ (codes "order " ++ (decimal (phase_table c.line).order ++ codes "\n")) → pointed ≡ ordered ++ numbered point_text 0 points
      → counted ≡ pointed ++ (codes "ops " ++ (decimal (place_count c.line) ++ codes "\n"))
      → listed ≡ counted ++ numbered (place_line group.ops.items o) 1 (operation_places c.line)
      → told ≡ listed ++ (codes "reps " ++ (decimal (length c.dims.items) ++ codes "\n"))
      → filled ≡ told ++ members_text order value 1 c.dims.items (map (λ (v : Vec S Global). v.items) c.chars.items) → rowed ≡ filled ++ rows_text c.rows.items
      → text ≡ rowed ++ codes "end\n" → text ≡ compat_text v s (compat_content e.relations)
  text_here v s begun ordered pointed counted listed told filled rowed text is_begun is_ordered is_pointed is_counted is_listed is_told is_filled is_rowed is_text =
      joined _ _ _ _ _ _ _ _ is_begun (is_ordered ∙ ap (λ k. begun ++ k) (order-parts (decimal (phase_table c.line).order))) is_pointed
      (is_counted ∙ ap (λ k. pointed ++ k) (ops-parts (decimal (place_count c.line)))) is_listed
      (is_told ∙ ap (λ k. listed ++ k) (reps-parts (decimal (length c.dims.items)))) is_filled is_rowed is_text ∙ all_lines v s
