use Rattle.irr_input.proofs.LineCounts.{fits_behind}
use Rattle.irr_input.proofs.section.read_section.Goals as goal

pub behind_lines-requires : goal.behind_lines-requires
behind_lines-requires g c = fits_behind c.args.before c.args.text.now c.in-Err.error c.requires.fits c.in-Err.ensures.fault

pub returns-in-Err-clause-fault : goal.returns-in-Err-clause-fault
returns-in-Err-clause-fault g c = c.behind_lines.ensures c.args.text.now c.in-Err.ensures.fault
