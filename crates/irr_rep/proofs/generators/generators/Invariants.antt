-- The places below i are products of the generators so far.
use Rattle.std.proofs.Common.{◌<◌, All}
use Rattle.irr_rep.specs.Twisted.{phase_table, place_count}
use Rattle.irr_rep.proofs.Markings.{Generating}
use Rattle.irr_rep.proofs.generators.generators.Given as goal

abbrev pub invariant-loop-i : goal.invariant-loop-i
invariant-loop-i l = record {
  below : All (λ k. k < place_count l.t) l.generators.items;
  generating : Generating (phase_table l.t) l.generators.items l.marks.items l.i;
}
