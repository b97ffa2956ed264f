-- The text of a report is its lines, one after another.
--   length-listed, pieces-listed      lists of items by place
--   report_text-lines                 the text of a report from its lines
use Rattle.std.proofs.Common.{◌≡◌, sym, ◌∙◌, ap, ap₂, refl, ℕ, zero, suc, ◌+◌, List, [], ◌∷◌, ◌++◌, append_assoc, append-nil, length, arith}
use Rattle.std.specs.Prelude.{codes}
use Rattle.std.specs.List.{flat_map}
use Rattle.std.specs.Fmt.{decimal}
use Rattle.std.proofs.lemmas.List.Concat.{flat_map-append}
use Rattle.irr_algebra.specs.Fin.{Fin, to_nat}
use Rattle.irr_algebra.specs.Fin.Fin.{first, next}
use Rattle.irr_text.specs.NumberText.{number_text}
use Rattle.irr_text.specs.WaveText.{wave_text}
use Rattle.irr_text.specs.TripletText.{triplet_text}
use Rattle.irr_text.specs.ReportText.{ReportContent, report_text, pieces, operation_line, character_line, matrix_line, representation_lines, line, next_word}
use Rattle.irr_report.specs.ReportLines.{WrittenRepresentation, numbered_lines, representations_from, triplet_line, entries_line, lines_of, report_lines}
use Rattle.irr_report.specs.PrintedReport.{listed, entry_texts, representation_of, written_of}
use Rattle.irr_report.proofs.Pieces.{pieces-same}

pub length-listed : {A : Type 0} (n : ℕ) (f : Fin n → A) → length (listed n f) ≡ n
unfolding listed
length-listed zero f = refl
length-listed (suc n) f = ap suc (length-listed n (λ i. f (next i)))

pieces-listed : {A : Type 0} (g : A → List ℕ) (n : ℕ) (f : Fin n → A) → pieces n (λ i. g (f i)) ≡ flat_map g (listed n f)
unfolding pieces listed
pieces-listed g zero f = refl
pieces-listed g (suc n) f = ap (λ x. g (f first) ++ x) (pieces-listed g n (λ i. f (next i)))

-- f of the items of each row
flat_map-rows : {A : Type 0} (g : A → List ℕ) (rows : List (List A)) → flat_map (flat_map g) rows ≡ flat_map g (flat_map (λ row. row) rows)
flat_map-rows g [] = refl
flat_map-rows g (row ∷ rows) = ap (λ x. flat_map g row ++ x) (flat_map-rows g rows) ∙ sym (flat_map-append g row (flat_map (λ r. r) rows))

moved : (s k : ℕ) → s + suc k ≡ suc s + k
moved s k = omega arith

unmoved : (s : ℕ) → s + 0 ≡ s
unmoved s = omega arith

from_one : (k : ℕ) → suc k ≡ 1 + k
from_one k = omega arith

numbered-pieces : {A : Type 0} (g : ℕ → A → List ℕ) (s n : ℕ) (f : Fin n → A)
    → pieces n (λ i. line (g (s + to_nat i) (f i))) ≡ flat_map line (numbered_lines g s (listed n f))
unfolding pieces listed numbered_lines to_nat
numbered-pieces g s zero f = refl
numbered-pieces g s (suc n) f = ap₂ (λ x y. x ++ y) (ap (λ k. line (g k (f first))) (unmoved s))
    (pieces-same n (λ i. line (g (s + suc (to_nat i)) (f (next i)))) (λ i. line (g (suc s + to_nat i) (f (next i))))
    (λ i. ap (λ k. line (g k (f (next i)))) (moved s (to_nat i))) ∙ numbered-pieces g (suc s) n (λ i. f (next i)))

numbered-lines : {A : Type 0} (g : ℕ → A → List ℕ) (n : ℕ) (f : Fin n → A)
    → pieces n (λ i. line (g (suc (to_nat i)) (f i))) ≡ flat_map line (numbered_lines g 1 (listed n f))
numbered-lines g n f = pieces-same n (λ i. line (g (suc (to_nat i)) (f i))) (λ i. line (g (1 + to_nat i) (f i)))
    (λ i. ap (λ k. line (g k (f i))) (from_one (to_nat i))) ∙ numbered-pieces g 1 n f

from-pieces : (s n : ℕ) (f : Fin n → WrittenRepresentation)
    → pieces n (λ i. flat_map line (lines_of (s + to_nat i) (f i))) ≡ flat_map line (representations_from s (listed n f))
unfolding pieces listed representations_from to_nat
from-pieces s zero f = refl
from-pieces s (suc n) f = ap₂ (λ x y. x ++ y) (ap (λ k. flat_map line (lines_of k (f first))) (unmoved s))
    (pieces-same n (λ i. flat_map line (lines_of (s + suc (to_nat i)) (f (next i)))) (λ i. flat_map line (lines_of (suc s + to_nat i) (f (next i))))
    (λ i. ap (λ k. flat_map line (lines_of k (f (next i)))) (moved s (to_nat i))) ∙ from-pieces (suc s) n (λ i. f (next i)))
    ∙ sym (flat_map-append line (lines_of s (f first)) (representations_from (suc s) (listed n (λ i. f (next i)))))

module _ (r : ReportContent) where
  entries-line : (m : Fin r.count) (i : Fin r.places) → matrix_line r m i ≡ line (entries_line (suc (to_nat i)) (entry_texts r m i))
  unfolding matrix_line
  entries-line m i = ap (λ t. line (codes "mat" ++ next_word (decimal (suc (to_nat i))) ++ t))
      (pieces-same (r.size m) (λ a. pieces (r.size m) (λ b. next_word (number_text r.order ((r.matrix m i).at a b))))
      (λ a. flat_map next_word (listed (r.size m) (λ b. number_text r.order ((r.matrix m i).at a b))))
      (λ a. pieces-listed next_word (r.size m) (λ b. number_text r.order ((r.matrix m i).at a b)))
      ∙ pieces-listed (flat_map next_word) (r.size m) (λ a. listed (r.size m) (λ b. number_text r.order ((r.matrix m i).at a b)))
      ∙ flat_map-rows next_word (listed (r.size m) (λ a. listed (r.size m) (λ b. number_text r.order ((r.matrix m i).at a b)))))

  of_representation : (m : Fin r.count) → representation_lines r m ≡ flat_map line (lines_of (suc (to_nat m)) (representation_of r m))
  unfolding representation_lines character_line
  of_representation m =
      ap₂ (λ c t. head ++ line (codes "char" ++ c) ++ t) (pieces-listed next_word r.places (λ i. number_text r.order (r.character m i)))
      (pieces-same r.places (matrix_line r m) (λ i. line (entries_line (suc (to_nat i)) (entry_texts r m i))) (entries-line m)
      ∙ numbered-lines entries_line r.places (entry_texts r m))
      ∙ append_assoc head (line (codes "char" ++ flat_map next_word (listed r.places (λ i. number_text r.order (r.character m i)))))
      (flat_map line (numbered_lines entries_line 1 (listed r.places (entry_texts r m))))
    where
      head : List ℕ
      head = line (codes "rep" ++ next_word (83 ∷ decimal (suc (to_nat m))) ++ next_word (codes "dim") ++ next_word (decimal (r.size m)))

  of_representations : pieces r.count (representation_lines r) ≡ flat_map line (representations_from 1 (listed r.count (representation_of r)))
  of_representations = pieces-same r.count (representation_lines r) (λ m. flat_map line (lines_of (1 + to_nat m) (representation_of r m)))
      (λ m. of_representation m ∙ ap (λ k. flat_map line (lines_of k (representation_of r m))) (from_one (to_nat m)))
      ∙ from-pieces 1 r.count (representation_of r)

  of_operations : pieces r.places (operation_line r)
      ≡ flat_map line (numbered_lines triplet_line 1 (listed r.places (λ i. triplet_text (r.operation i))))
  unfolding operation_line
  of_operations = numbered-lines triplet_line r.places (λ i. triplet_text (r.operation i))

regroup : (a b c d p e q f : List ℕ) → ((((((a ++ b) ++ c) ++ d) ++ p) ++ e) ++ q) ++ f ≡ a ++ (b ++ (c ++ (d ++ (p ++ (e ++ (q ++ f))))))
regroup a b c d p e q f = simp append_assoc

pub report_text-lines : (r : ReportContent) → report_text r ≡ flat_map line (report_lines (written_of r))
unfolding report_text
report_text-lines r =
    ap₂ (λ p q. with_parts p q) (of_operations r) (of_representations r)
    ∙ regroup (line (codes "report 1")) (line (codes "wave" ++ next_word (wave_text r.wave))) (line (codes "order" ++ next_word (decimal r.order)))
    (line (codes "ops" ++ next_word (decimal r.places))) operations
    (line (codes "reps" ++ next_word (decimal r.count))) representations (line (codes "end"))
    ∙ ap (λ t. line (codes "report 1") ++ (line (codes "wave" ++ next_word (wave_text r.wave)) ++ (line (codes "order" ++ next_word (decimal r.order))
    ++ (line (codes "ops" ++ next_word (decimal r.places)) ++ t)))) joined
  where
    triplets : List (List ℕ)
    triplets = listed r.places (λ i. triplet_text (r.operation i))

    all : List WrittenRepresentation
    all = listed r.count (representation_of r)

    operations : List ℕ
    operations = flat_map line (numbered_lines triplet_line 1 triplets)

    representations : List ℕ
    representations = flat_map line (representations_from 1 all)

    with_parts : List ℕ → List ℕ → List ℕ
    with_parts p q = line (codes "report 1") ++ line (codes "wave" ++ next_word (wave_text r.wave))
        ++ line (codes "order" ++ next_word (decimal r.order)) ++ line (codes "ops" ++ next_word (decimal r.places)) ++ p ++ line (codes "reps" ++ next_word (decimal r.count)) ++ q ++ line (codes "end")

    counted : List ℕ
    counted = codes "reps" ++ next_word (decimal r.count)

    joined : operations ++ (line counted ++ (representations ++ line (codes "end")))
        ≡ flat_map line (numbered_lines triplet_line 1 triplets ++ counted ∷ (representations_from 1 all ++ codes "end" ∷ []))
    joined = ap (λ t. operations ++ (line counted ++ (representations ++ t))) (sym (append-nil (line (codes "end"))))
        ∙ ap (λ t. operations ++ (line counted ++ t)) (sym (flat_map-append line (representations_from 1 all) (codes "end" ∷ [])))
        ∙ sym (flat_map-append line (numbered_lines triplet_line 1 triplets) (counted ∷ (representations_from 1 all ++ codes "end" ∷ [])))
