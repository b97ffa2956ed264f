-- Reports of little groups of one operation modulo translations.
--   one_operation_report       the report
--   one_operation_text         its text
use Rattle.std.proofs.Common.{◌≡◌, ◌∙◌, ap, refl, ℕ, ◌++◌}
use Rattle.std.specs.Prelude.{codes}
use Rattle.std.specs.Fmt.{decimal}
use Rattle.irr_algebra.specs.Fin.{Fin}
use Rattle.irr_algebra.proofs.Indices.{only_first}
use Rattle.irr_space.specs.Operation.{Operation, WaveVector}
use Rattle.irr_space.specs.Reciprocal.{Sign, IsOrder, IsReduced}
use Rattle.irr_space.specs.CanonicalOperation.{IsNumbering}
use Rattle.irr_space.specs.Star.{IsInLittleGroup}
use Rattle.irr_space.specs.PhaseTable.{PhaseTable}
use Rattle.irr_text.specs.WaveText.{wave_text}
use Rattle.irr_text.specs.ReportText.{ReportContent, report_text, list_report, IsReportOf}
use Rattle.irr_lattice.proofs.OnePlace.{one_place_list, one_place_list-complete, one_place_list-in_order}
use Rattle.irr_lattice.proofs.ReportOfOne.{one_place_text, rest_of_report}
use Rattle.irr_cocycle.specs.SpaceGroupLaws.{IsGroup, HasCanonical}
use Rattle.irr_cocycle.proofs.LittleGroups.{little_table, little_table-is_table, little_table-order, little_table-start}

module _ (G : Operation → Type 0) (group : IsGroup G) (chosen : HasCanonical G) (s : Sign) (k w : WaveVector) (reduced : IsReduced G k w) (ops : Fin 1 → Operation)
    (numbering : IsNumbering G (IsInLittleGroup G w) ops) (n : ℕ) (order : IsOrder G w n) where
  abbrev pub one_operation_table : PhaseTable 1
  one_operation_table = little_table G group chosen s w ops numbering n order

  abbrev pub one_operation_report : ReportContent
  one_operation_report = list_report w ops one_operation_table (one_place_list one_operation_table)

  pub one_operation_report-is_report : IsReportOf s G k one_operation_report
  one_operation_report-is_report = record {
    wave = w;
    reduced = reduced;
    places = 1;
    operation = ops;
    numbering = numbering;
    table = one_operation_table;
    is_table = little_table-is_table G group chosen s w ops numbering n order;
    representations = one_place_list one_operation_table;
    complete = one_place_list-complete one_operation_table;
    in_order = one_place_list-in_order one_operation_table;
    content = refl;
  }

  pub one_operation_text : report_text one_operation_report ≡ codes "report 1\nwave " ++ (wave_text w ++ (codes "\norder " ++ (decimal n ++ rest_of_report)))
  one_operation_text = one_place_text w one_operation_table ops
      (ap ops (only_first one_operation_table.start) ∙ little_table-start G group chosen s w ops numbering n order)
      ∙ ap (λ m. codes "report 1\nwave " ++ (wave_text w ++ (codes "\norder " ++ (decimal m ++ rest_of_report)))) (little_table-order G group chosen s w ops numbering n order)
