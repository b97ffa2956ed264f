-- The operations so far, and their lines.
use Rattle.std.proofs.Common.{◌≡◌, map}
use Rattle.irr_close.specs.Distinct.{line, AreReduced}
use Rattle.irr_close.proofs.distinct.distinct.Given as goal

abbrev pub invariant-loop-generator : goal.invariant-loop-generator
invariant-loop-generator l = record {
  seen : l.seen.keys ≡ map line l.kept.items;
  reduced : AreReduced l.generators l.kept.items l.generator-index;
}
