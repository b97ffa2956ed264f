-- The traces of a member.
use Rattle.std.proofs.Common.{◌<◌, ◌^◌, rules}
use Rattle.irr_rep.specs.Twisted.{phase_table, place_count}
use Rattle.irr_top.proofs.Members.{traces_fit}
use Rattle.irr_top.proofs.report.representation.Goals as goal

pub character-requires-clause-sizes : goal.character-requires-clause-sizes
character-requires-clause-sizes g c =
    let dim : c.args.family.dim < 2 ^ 32 = search rules in
    traces_fit (phase_table c.args.t.now).order (place_count c.args.t.now) c.args.family c.requires.member c.requires.within
    c.args.t.now.places_within dim
