-- Term by term.
use Rattle.irr_numeral.proofs.PrintedReadings.{printed-read}
use Rattle.irr_numeral.proofs.laws.printed_numbers_are_read.Goals as goal

pub returns : goal.returns
returns c = printed-read
