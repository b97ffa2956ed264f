use Rattle.irr_setting_text.proofs.LineParts.{row_front}
use Rattle.irr_setting_text.proofs.row.front_row.Goals as goal

pub returns-clause-row : goal.returns-clause-row
returns-clause-row c = row_front c.args.rest.place c.front_fraction.result.1.place c.front_fraction-2.result.1.place c.front_fraction-3.result.1.place c.args.rest.text.now
    c.front_fraction.result.1.text.now c.front_fraction-2.result.1.text.now c.front_fraction-3.result.1.text.now
    (record { x = c.front_fraction.result.0; y = c.front_fraction-2.result.0; z = c.front_fraction-3.result.0 })
    c.front_fraction.ensures.fraction c.front_fraction-2.ensures.fraction c.front_fraction-3.ensures.fraction
