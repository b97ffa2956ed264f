use Rattle.irr_setting_text.proofs.LineParts.{nine_alike}
use Rattle.irr_setting_text.proofs.row.rows_of_line.Goals as goal

pub returns-clause-rows : goal.returns-clause-rows
returns-clause-rows c = λ qs sp. nine_alike c.behind_word.result.place c.front_row.result.1.place c.front_row-2.result.1.place c.front_row-3.result.1.place
    c.behind_word.result.text.now c.front_row.result.1.text.now c.front_row-2.result.1.text.now c.front_row-3.result.1.text.now
    (record { first = c.front_row.result.0; second = c.front_row-2.result.0; third = c.front_row-3.result.0 }) qs
    c.front_row.ensures.row c.front_row-2.ensures.row c.front_row-3.ensures.row sp.count (c.behind_word.ensures.rest 9 qs sp)
