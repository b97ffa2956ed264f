use Rattle.irr_rep.specs.Twisted.{phase_table, table_of}
use Rattle.irr_little.proofs.table.little.Goals as goal

pub returns-clause-accepted : goal.returns-clause-accepted
unfolding phase_table table_of
returns-clause-accepted c = c.in_ok-t.t.order_within
