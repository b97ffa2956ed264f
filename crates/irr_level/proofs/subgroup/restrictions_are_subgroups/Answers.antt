-- Restrictions as subgroups.
use Rattle.irr_rep.proofs.Subtables.{subtable}
use Rattle.irr_level.proofs.Positions.{inner_part, whole_restriction}
use Rattle.irr_level.proofs.subgroup.restrictions_are_subgroups.Goals as goal

pub returns : goal.returns
returns c = record {
  of_table = λ h n T members S subgroup restriction M v w. subtable T members S subgroup restriction M v w;
  of_restriction = λ h m n T inner outer S U small large has low high M v w. inner_part T inner outer S U small large low high M v w has;
  whole = λ h T members count numbers. whole_restriction T members count numbers;
}
