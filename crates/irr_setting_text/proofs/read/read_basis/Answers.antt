-- What is answered for the fractions that are read is answered for those that are written.
use Rattle.std.proofs.Common.{refl, codes}
use Rattle.irr_setting_text.specs.SettingFault.{row_by_row}
use Rattle.irr_setting_text.specs.LineReading.{written_rows}
use Rattle.irr_setting_text.proofs.LineAnswers.{text_of, zero_fault, beyond_fault, common_fault}
use Rattle.irr_setting_text.proofs.read.read_basis.Goals as goal

pub returns-in-Some-clause-fault : goal.returns-in-Some-clause-fault
returns-in-Some-clause-fault c = zero_fault (codes "basis") 9 100 c.args.line.now (written_rows c.rows_of_line-rows.result) (c.in_default.ensures.line.0 refl)
    c.rows_of_line-rows.ensures.rows c.in-Some.place c.in-Some.ensures.some

pub returns-in-Some-beyond-clause-fault : goal.returns-in-Some-beyond-clause-fault
returns-in-Some-beyond-clause-fault c = beyond_fault (codes "basis") 9 100 c.args.line.now (written_rows c.rows_of_line-rows.result) (c.in_default.ensures.line.0 refl)
    c.rows_of_line-rows.ensures.rows c.in-Some-beyond.place (c.in_default-zero.ensures.none refl) c.in-Some-beyond.ensures.some

pub returns-in-Some-basis_of_rows-clause-read : goal.returns-in-Some-basis_of_rows-clause-read
returns-in-Some-basis_of_rows-clause-read c = let b = c.in-Some-basis_of_rows.basis in
    let e = c.in-Some-basis_of_rows.ensures in
    text_of (codes "basis") 9 100 c.args.line.now (written_rows c.rows_of_line-rows.result) (c.in_default.ensures.line.0 refl) c.rows_of_line-rows.ensures.rows
    (row_by_row b.num) b.den (c.in_default-zero.ensures.none refl) (c.in_default-beyond.ensures.none refl) e.values e.lowest e.limit

pub returns-in-None-clause-fault : goal.returns-in-None-clause-fault
returns-in-None-clause-fault c = common_fault (codes "basis") 9 100 c.args.line.now (written_rows c.rows_of_line-rows.result) (c.in_default.ensures.line.0 refl)
    c.rows_of_line-rows.ensures.rows (c.in_default-zero.ensures.none refl) (c.in_default-beyond.ensures.none refl) (c.in-None.ensures.none refl)
