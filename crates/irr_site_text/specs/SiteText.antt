-- The text of the sites of a point and of what they bring to a wave vector (a form of this project's own).
--   as_row x, point_text x     a point as a row, and its text, as that of a wave vector
--   first_lines n w x          the lines of an order, a reduced wave vector and a point
--   operation_lines ops, site_lines ps     how many, and a line for each, with its number
--   part_line p                the line of a part
--   family_lines fs            how many induced families, and for each its number, its number of rows, and its parts
--   displacement_lines f       the number of rows and the parts of the displacements
--   site_text n s w x c        the text in version n, with the sign s of the phase
use Rattle.std.specs.Prelude.{ℕ, List, ◌∷◌, ◌++◌, codes, length}
use Rattle.std.specs.List.{flat_map}
use Rattle.std.specs.Fmt.{decimal}
use Rattle.irr_space.specs.Operation.{Operation, Vector, WaveVector}
use Rattle.irr_space.specs.Reciprocal.{Sign}
use Rattle.irr_text.specs.WaveText.{wave_text}
use Rattle.irr_text.specs.TripletText.{triplet_text}
use Rattle.irr_text.specs.ReportText.{line, next_word}
use Rattle.irr_heading.specs.Heading.{heading}
use Rattle.irr_report.specs.Printed.{numbered}
use Rattle.irr_site.specs.SiteContent.{FamilyContent, SitesContent}
use Rattle.irr_site.specs.declared.part.SmallPart.{SmallPart}

unfoldable pub as_row : Vector → WaveVector
as_row x = record { at = λ i j. x.at j i }

abbrev pub point_text : Vector → List ℕ
point_text x = wave_text (as_row x)

abbrev pub first_lines : ℕ → WaveVector → Vector → List ℕ
first_lines n w x = line (codes "order" ++ next_word (decimal n)) ++ line (codes "wave" ++ next_word (wave_text w))
    ++ line (codes "point" ++ next_word (point_text x))

abbrev pub operation_line : ℕ → Operation → List ℕ
operation_line k g = line (codes "op" ++ next_word (decimal k) ++ next_word (triplet_text g))

abbrev pub operation_lines : List Operation → List ℕ
operation_lines ops = line (codes "ops" ++ next_word (decimal (length ops))) ++ numbered operation_line 1 ops

abbrev pub site_line : ℕ → Vector → List ℕ
site_line k x = line (codes "site" ++ next_word (decimal k) ++ next_word (point_text x))

abbrev pub site_lines : List Vector → List ℕ
site_lines points = line (codes "sites" ++ next_word (decimal (length points))) ++ numbered site_line 1 points

abbrev pub part_line : SmallPart → List ℕ
part_line p = line (codes "part" ++ next_word (83 ∷ decimal p.label) ++ next_word (decimal p.mult)
    ++ next_word (decimal p.dim))

abbrev pub induced_lines : ℕ → FamilyContent → List ℕ
induced_lines k f = line (codes "rep" ++ next_word (84 ∷ decimal k) ++ next_word (codes "dim") ++ next_word (decimal f.size))
    ++ flat_map part_line f.parts

abbrev pub family_lines : List FamilyContent → List ℕ
family_lines fs = line (codes "reps" ++ next_word (decimal (length fs))) ++ numbered induced_lines 1 fs

abbrev pub displacement_lines : FamilyContent → List ℕ
displacement_lines f = line (codes "displace" ++ next_word (codes "dim") ++ next_word (decimal f.size))
    ++ flat_map part_line f.parts

abbrev pub site_text : ℕ → Sign → WaveVector → Vector → SitesContent → List ℕ
site_text n s w x c = heading (codes "site") n s
    ++ first_lines c.order w x
    ++ operation_lines c.operations
    ++ site_lines c.points
    ++ family_lines c.induced
    ++ displacement_lines c.displacement
    ++ line (codes "end")
