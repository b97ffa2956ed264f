-- Each place has an inverse.
use Rattle.std.proofs.Common.{subst}
use Rattle.irr_rep.specs.Table.{HasInverses, entry}
use Rattle.irr_chain.proofs.series.tests.rotations.tried.Goals as goal

pub table_of-requires-clause-inverses : goal.table_of-requires-clause-inverses
table_of-requires-clause-inverses c =
    subst (λ v. HasInverses c.args.size (entry c.args.size v)) c.deref-then-is_closed-3.ensures.value (c.has_inverses-inverses.ensures c.if-inverses.true)
