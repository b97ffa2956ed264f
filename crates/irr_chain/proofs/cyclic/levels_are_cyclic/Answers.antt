-- The laws of a level.
use Rattle.irr_chain.proofs.CyclicLevels.{level_covered, level_one_power, level_top}
use Rattle.irr_chain.proofs.cyclic.levels_are_cyclic.Goals as goal

pub returns-clause-powers : goal.returns-clause-powers
returns-clause-powers c = λ h T level outer so g is. level_covered T level outer so g is

pub returns-clause-one_power : goal.returns-clause-one_power
returns-clause-one_power c = λ h T level outer so g is. level_one_power T level outer so g is

pub returns-clause-top : goal.returns-clause-top
returns-clause-top c = λ h T level outer so g is. level_top T level outer so g is
