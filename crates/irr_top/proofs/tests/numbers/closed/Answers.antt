-- The generators are readable, and so the group is theirs.
use Rattle.irr_top.proofs.Numerators.{readable_generators, readable_unimodular}
use Rattle.irr_top.proofs.tests.numbers.closed.Goals as goal

pub close-requires-clause-generators : goal.close-requires-clause-generators
close-requires-clause-generators c = readable_generators c.args.gens.now c.requires.readable

pub close-requires-clause-unimodular : goal.close-requires-clause-unimodular
close-requires-clause-unimodular c = readable_unimodular c.args.gens.now c.requires.readable

pub returns-in-Ok : goal.returns-in-Ok
returns-in-Ok c = record { readable = c.requires.readable; stands = c.in-Ok.ensures.group; phase = c.in-Ok.ensures.phase }
