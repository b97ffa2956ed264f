use Rattle.irr_input.specs.Command.{IsCommand}
use Rattle.irr_input.proofs.WordForms.{words_unique, faulty_unique}
use Rattle.irr_input.proofs.laws.words_mean_one_command.Goals as goal

pub returns-clause-command : goal.returns-clause-command
returns-clause-command c = words_unique

pub returns-clause-faulty : goal.returns-clause-faulty
returns-clause-faulty c = faulty_unique IsCommand

pub returns-clause-either : goal.returns-clause-either
returns-clause-either c = λ words n f. f.no_command
