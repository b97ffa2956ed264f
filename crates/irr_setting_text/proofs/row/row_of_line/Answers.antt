use Rattle.irr_setting_text.proofs.LineParts.{three_alike}
use Rattle.irr_setting_text.proofs.row.row_of_line.Goals as goal

pub returns-clause-row : goal.returns-clause-row
returns-clause-row c = λ qs sp. three_alike c.behind_word.result.place c.front_row.result.1.place c.behind_word.result.text.now c.front_row.result.1.text.now
    c.front_row.result.0 qs c.front_row.ensures.row sp.count (c.behind_word.ensures.rest 3 qs sp)
