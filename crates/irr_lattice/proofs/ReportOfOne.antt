-- The report of a wave vector of the group of no generators, and its text.
--   one_place_text        the text of a report of one operation, the identity, and one representation
--   one_report            the report of one operation and one representation, of an order
--   one_report-is_report  it is the report of each wave vector with that order and that reduced form
--   report_text-one       its text
use Rattle.std.proofs.Common.{◌≡◌, ◌∙◌, ap, refl, ℕ, ◌<◌, ◌++◌, ◌∷◌, [], List, arith, append_assoc}
use Rattle.std.specs.Prelude.{codes}
use Rattle.std.specs.Fmt.{decimal}
use Rattle.std.proofs.lemmas.Fmt.{decimal_digit}
use Rattle.irr_algebra.specs.Fin.{Fin, to_nat}
use Rattle.irr_algebra.specs.Fin.Fin.{first}
use Rattle.irr_algebra.specs.Sum.{delta}
use Rattle.irr_algebra.specs.Matrix.{unit}
use Rattle.irr_number.specs.Number.{numbers}
use Rattle.irr_space.specs.Operation.{Operation, WaveVector, identity}
use Rattle.irr_space.specs.PhaseTable.{PhaseTable}
use Rattle.irr_space.specs.SpaceGroup.{Generated}
use Rattle.irr_space.specs.Reciprocal.{Sign, IsOrder, IsReduced}
use Rattle.irr_space.specs.CompleteList.{row}
use Rattle.irr_text.specs.NumberText.{number_text}
use Rattle.irr_text.specs.WaveText.{wave_text}
use Rattle.irr_text.specs.TripletText.{triplet_text}
use Rattle.irr_text.specs.ReportText.{ReportContent, report_text, list_report, IsReportOf, pieces, operation_line, character_line, matrix_line, representation_lines, line, next_word}
use Rattle.irr_text.proofs.OneText.{number_text-one, triplet_text-identity}
use Rattle.irr_lattice.proofs.OnePlace.{one_place_family, one_place_list, one_place_list-complete, one_place_list-in_order, row-one_place_family}
use Rattle.irr_lattice.proofs.OneOperation.{one_table, one_numbering, one_table-is_table}

-- the lines of the report, from the texts in them
assembled : (number triplet trace entry wave order : List ℕ) → List ℕ
assembled number triplet trace entry wave order = line (codes "report 1")
    ++ line (codes "wave" ++ next_word wave)
    ++ line (codes "order" ++ next_word order)
    ++ line (codes "ops" ++ next_word number)
    ++ (line (codes "op" ++ next_word number ++ next_word triplet) ++ [])
    ++ line (codes "reps" ++ next_word number)
    ++ ((line (codes "rep" ++ next_word (83 ∷ number) ++ next_word (codes "dim") ++ next_word number)
    ++ line (codes "char" ++ (next_word trace ++ [])) ++ (line (codes "mat" ++ next_word number ++ ((next_word entry ++ []) ++ [])) ++ [])) ++ [])
    ++ line (codes "end")

-- the lines after the order
abbrev pub rest_of_report : List ℕ
rest_of_report = codes "\nops 1\nop 1 x,y,z\nreps 1\nrep S1 dim 1\nchar 1\nmat 1 1\nend\n"

regroup : (w a b n c x y z u v : List ℕ) → ((((((w ++ a) ++ (b ++ (n ++ c))) ++ x) ++ y) ++ z) ++ u) ++ v ≡ w ++ ((a ++ b) ++ (n ++ (c ++ (x ++ (y ++ (z ++ (u ++ v)))))))
regroup w a b n c x y z u v = simp append_assoc

module _ (w : WaveVector) (T : PhaseTable 1) (ops : Fin 1 → Operation) (identical : ops first ≡ identity) where
  text-assembled : report_text (list_report w ops T (one_place_list T)) ≡ assembled (decimal 1) (triplet_text (ops first))
      (number_text T.order (row T (one_place_family T) first)) (number_text T.order ((unit (numbers T.order) 1).at first first)) (wave_text w) (decimal T.order)
  unfolding report_text pieces operation_line character_line matrix_line representation_lines assembled to_nat
  text-assembled = refl

  entry-one : (unit (numbers T.order) 1).at first first ≡ (numbers T.order).one
  unfolding unit delta
  entry-one = refl

  -- the text of the report of one operation, the identity, and one representation
  pub one_place_text : report_text (list_report w ops T (one_place_list T)) ≡ codes "report 1\nwave " ++ (wave_text w ++ (codes "\norder " ++ (decimal T.order ++ rest_of_report)))
  unfolding assembled
  one_place_text = text-assembled
      ∙ ap (λ d. assembled d (triplet_text (ops first)) (number_text T.order (row T (one_place_family T) first)) (number_text T.order ((unit (numbers T.order) 1).at first first)) (wave_text w) (decimal T.order)) (decimal_digit 1 (omega arith))
      ∙ ap (λ t. assembled (codes "1") t (number_text T.order (row T (one_place_family T) first)) (number_text T.order ((unit (numbers T.order) 1).at first first)) (wave_text w) (decimal T.order)) (ap triplet_text identical ∙ triplet_text-identity)
      ∙ ap (λ t. assembled (codes "1") (codes "x,y,z") t (number_text T.order ((unit (numbers T.order) 1).at first first)) (wave_text w) (decimal T.order)) (ap (number_text T.order) (row-one_place_family T first) ∙ number_text-one T.order T.order_positive)
      ∙ ap (λ t. assembled (codes "1") (codes "x,y,z") (codes "1") t (wave_text w) (decimal T.order)) (ap (number_text T.order) entry-one ∙ number_text-one T.order T.order_positive)
      ∙ ap (λ t. codes "report 1\nwave " ++ t) (regroup (wave_text w) (10 ∷ []) (codes "order ") (decimal T.order) (10 ∷ [])
      (codes "ops 1\n") (codes "op 1 x,y,z\n") (codes "reps 1\n") (codes "rep S1 dim 1\nchar 1\nmat 1 1\n") (codes "end\n"))

module _ (w : WaveVector) (n : ℕ) (positive : 0 < n) where
  abbrev pub one_report : ReportContent
  one_report = list_report w {h = 1} (λ i. identity) (one_table n positive) (one_place_list (one_table n positive))

  pub one_report-is_report : (s : Sign) (k : WaveVector) → IsReduced (Generated []) k w → IsOrder (Generated []) w n → IsReportOf s (Generated []) k one_report
  one_report-is_report s k r o = record {
    wave = w;
    reduced = r;
    places = 1;
    operation = λ i. identity;
    numbering = one_numbering w;
    table = one_table n positive;
    is_table = one_table-is_table s w n o positive;
    representations = one_place_list (one_table n positive);
    complete = one_place_list-complete (one_table n positive);
    in_order = one_place_list-in_order (one_table n positive);
    content = refl;
  }

  pub report_text-one : report_text one_report ≡ codes "report 1\nwave " ++ (wave_text w ++ (codes "\norder " ++ (decimal n ++ rest_of_report)))
  report_text-one = one_place_text w (one_table n positive) (λ i. identity) refl
