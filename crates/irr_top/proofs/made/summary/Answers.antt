-- The summary of the list.
use Rattle.std.proofs.Common.{◌∙◌, ap, ℕ, List, map}
use Rattle.irr_kvec.specs.WaveMeaning.{wave_vector}
use Rattle.irr_rep.specs.Twisted.{phase_table, place_count}
use Rattle.irr_rep.specs.declared.family.Family.{Family}
use Rattle.irr_top.specs.SummaryText.{summary_lines}
use Rattle.irr_top.proofs.SummaryTexts.{summary_of_list}
use Rattle.irr_top.proofs.made.summary.Goals as goal

pub returns : goal.returns
returns c =
    let s = c.in_ok-families.ensures.list in
    let w = wave_vector c.args.wave.now in
    record {
      representations = s.list;
      complete = s.complete;
      in_order = s.ordered;
      is_text = λ ops. c.in_ok-text.ensures
          ∙ ap (λ (ds : List ℕ). summary_lines c.args.number c.args.lines w (phase_table c.args.t.now).order (place_count c.args.t.now) ds)
          (c.deref-2.ensures.value ∙ c.in_ok-dims.ensures ∙ ap (λ (fs : List (Family _ _)). map (λ (f : Family _ _). f.dim) fs) c.deref.ensures.value)
          ∙ summary_of_list c.args.number c.args.lines w (phase_table c.args.t.now) c.in_ok-families.families.items s ops;
    }
