-- The quotient of a level.
use Rattle.irr_level.proofs.TableLevels.{element_quotient, level_position, level_quotient}
use Rattle.irr_level.proofs.quotient.levels_are_cyclic_quotients.Goals as goal

pub returns : goal.returns
returns c = record {
  position = λ h m T level outer U so high. level_position T level outer so U high;
  generator = λ h m n T level outer S U so low high M v w part positions g is. level_quotient T level outer so U high S low M v w part positions g is;
  element = λ h m n T level outer S U so low high M v w part positions g out. element_quotient T level outer so U high S low M v w part positions g out;
}
