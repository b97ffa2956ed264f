-- The lines of reports, version 1 (this project's own):
--     report 1
--     wave WAVE
--     order N
--     ops H
--     op I TRIPLET          H lines, I = 1 .. H
--     reps R
--     rep SJ dim D          R times, J = 1 .. R, each followed by the next lines
--     char VALUE ..         H values
--     mat I VALUE ..        H lines, I = 1 .. H, with D * D values row by row
--     end
-- I and J are printed whole numbers; N, H, R and D stand here as their digits. Values have a blank before each.
--   WrittenRepresentation, WrittenReport    the parts of a report as they are written
--   report_lines w         its lines
use Rattle.std.specs.Prelude.{ℕ, suc, List, [], ◌∷◌, ◌++◌, codes}
use Rattle.std.specs.List.{flat_map}
use Rattle.std.specs.Fmt.{decimal}
use Rattle.irr_text.specs.ReportText.{next_word}

pub record WrittenRepresentation : Type 0 where
  pub dimension : List ℕ
  pub characters : List (List ℕ)
  pub matrices : List (List (List ℕ))

pub record WrittenReport : Type 0 where
  pub wave : List ℕ
  pub order : List ℕ
  pub places : List ℕ
  pub triplets : List (List ℕ)
  pub count : List ℕ
  pub representations : List WrittenRepresentation

-- the lines f k x, f (k + 1) y, .. of the items x, y, ..
unfoldable pub numbered_lines : {A : Type 0} → (ℕ → A → List ℕ) → ℕ → List A → List (List ℕ)
numbered_lines f k [] = []
numbered_lines f k (x ∷ xs) = f k x ∷ numbered_lines f (suc k) xs

abbrev pub triplet_line : ℕ → List ℕ → List ℕ
triplet_line k text = codes "op" ++ next_word (decimal k) ++ next_word text

abbrev pub entries_line : ℕ → List (List ℕ) → List ℕ
entries_line k texts = codes "mat" ++ next_word (decimal k) ++ flat_map next_word texts

abbrev pub dimension_line : ℕ → List ℕ → List ℕ
dimension_line k digits = codes "rep" ++ next_word (83 ∷ decimal k) ++ next_word (codes "dim") ++ next_word digits

abbrev pub character_line : List (List ℕ) → List ℕ
character_line texts = codes "char" ++ flat_map next_word texts

abbrev pub lines_of : ℕ → WrittenRepresentation → List (List ℕ)
lines_of k t = dimension_line k t.dimension ∷ character_line t.characters ∷ numbered_lines entries_line 1 t.matrices

unfoldable pub representations_from : ℕ → List WrittenRepresentation → List (List ℕ)
representations_from k [] = []
representations_from k (t ∷ ts) = lines_of k t ++ representations_from (suc k) ts

abbrev pub report_lines : WrittenReport → List (List ℕ)
report_lines w = codes "report 1"
    ∷ (codes "wave" ++ next_word w.wave)
    ∷ (codes "order" ++ next_word w.order)
    ∷ (codes "ops" ++ next_word w.places)
    ∷ (numbered_lines triplet_line 1 w.triplets
    ++ (codes "reps" ++ next_word w.count)
    ∷ (representations_from 1 w.representations ++ codes "end" ∷ []))
