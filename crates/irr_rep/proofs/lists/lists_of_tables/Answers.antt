-- The lists of a table.
use Rattle.irr_space.specs.SpaceGroup.{Generated}
use Rattle.irr_rep.proofs.Listed.{listed-factors, listed-group, listed-inverses, listed-same}
use Rattle.irr_rep.proofs.lists.lists_of_tables.Goals as goal

pub returns : goal.returns
returns c = record {
  group = λ h order xs ys T listed. listed-group T order xs ys listed;
  inverses = λ h order xs ys T listed. listed-inverses T order xs ys listed;
  factors = λ h order xs ys T listed. listed-factors T order xs ys listed;
  same = λ h order xs ys T U listed others s generators k ops table. listed-same T order xs ys listed U others s (Generated generators) k ops table;
}
