-- What is answered for the fractions that are read is answered for those that are written.
use Rattle.std.proofs.Common.{refl, codes}
use Rattle.irr_rational.specs.Ratio.{entry}
use Rattle.irr_setting_text.specs.LineReading.{written_row}
use Rattle.irr_setting_text.proofs.LineAnswers.{text_of, zero_fault, beyond_fault, common_fault}
use Rattle.irr_setting_text.proofs.read.read_origin.Goals as goal

pub returns-in-Some-clause-fault : goal.returns-in-Some-clause-fault
returns-in-Some-clause-fault c = zero_fault (codes "origin") 3 1000 c.args.line.now (written_row c.row_of_line-row.result) (c.in_default.ensures.line.0 refl)
    c.row_of_line-row.ensures.row c.in-Some.place c.in-Some.ensures.some

pub returns-in-Some-beyond-clause-fault : goal.returns-in-Some-beyond-clause-fault
returns-in-Some-beyond-clause-fault c = beyond_fault (codes "origin") 3 1000 c.args.line.now (written_row c.row_of_line-row.result) (c.in_default.ensures.line.0 refl)
    c.row_of_line-row.ensures.row c.in-Some-beyond.place (c.in_default-zero.ensures.none refl) c.in-Some-beyond.ensures.some

pub returns-in-Some-vector_of_row-clause-read : goal.returns-in-Some-vector_of_row-clause-read
returns-in-Some-vector_of_row-clause-read c = let v = c.in-Some-vector_of_row.vector in
    let e = c.in-Some-vector_of_row.ensures in
    text_of (codes "origin") 3 1000 c.args.line.now (written_row c.row_of_line-row.result) (c.in_default.ensures.line.0 refl) c.row_of_line-row.ensures.row
    (entry v.num) v.den (c.in_default-zero.ensures.none refl) (c.in_default-beyond.ensures.none refl) e.values v.lowest e.limit

pub returns-in-None-clause-fault : goal.returns-in-None-clause-fault
returns-in-None-clause-fault c = common_fault (codes "origin") 3 1000 c.args.line.now (written_row c.row_of_line-row.result) (c.in_default.ensures.line.0 refl)
    c.row_of_line-row.ensures.row (c.in_default-zero.ensures.none refl) (c.in_default-beyond.ensures.none refl) (c.in-None.ensures.none refl)
