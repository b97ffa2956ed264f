-- The text of the list's report.
use Rattle.std.proofs.Common.{◌∙◌, ap}
use Rattle.irr_text.specs.ReportText.{report_text, list_report}
use Rattle.irr_kvec.specs.declared.wave.Wave.{Wave}
use Rattle.irr_kvec.specs.WaveMeaning.{wave_vector}
use Rattle.irr_rep.specs.Twisted.{phase_table, place_count, operation_places}
use Rattle.irr_little.specs.Table.{listed_operations}
use Rattle.irr_top.proofs.Members.{members_of}
use Rattle.irr_top.proofs.ModestLists.{modest_list}
use Rattle.irr_top.proofs.report.list_text.Goals as goal

pub report_of-requires-clause-places : goal.report_of-requires-clause-places
report_of-requires-clause-places g c = c.requires.table.places.below

pub report_of-requires-clause-members : goal.report_of-requires-clause-members
report_of-requires-clause-members g c = members_of (phase_table c.args.t.now) c.args.families.items c.requires.list

pub returns : goal.returns
returns g c = λ d.
    let L = c.requires.list.list in
    record {
      representations = L;
      complete = c.requires.list.complete;
      in_order = c.requires.list.ordered;
      modest = modest_list (wave_vector c.args.wave)
          (listed_operations c.args.group.now (place_count c.args.t.now) (operation_places c.args.t.now) d) (phase_table c.args.t.now)
          c.args.families.items c.requires.list c.requires.numbers c.args.t.now.places_within c.requires.within;
      is_text = c.in_ok-text.ensures.list (place_count c.args.t.now)
          (listed_operations c.args.group.now (place_count c.args.t.now) (operation_places c.args.t.now) d) (phase_table c.args.t.now) L
          (c.in_ok-report.ensures.list d L c.requires.list.read)
          ∙ ap (λ (w : Wave). report_text (list_report (wave_vector w)
          (listed_operations c.args.group.now (place_count c.args.t.now) (operation_places c.args.t.now) d) (phase_table c.args.t.now) L))
          c.in_ok-report.ensures.wave;
    }
