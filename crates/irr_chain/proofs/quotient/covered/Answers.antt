-- All places are tried.
use Rattle.std.proofs.Common.{◌<◌, arith}
use Rattle.irr_algebra.specs.Fin.{to_nat}
use Rattle.irr_algebra.proofs.Indices.{to_nat-lt}
use Rattle.irr_rep.specs.Twisted.{place_count}
use Rattle.irr_chain.proofs.quotient.covered.Goals as goal

pub returns-clause-cosets : goal.returns-clause-cosets
returns-clause-cosets c = λ a j s. c.loop-i.invariant.cosets a j s (let l : to_nat j < place_count c.args.t.now = to_nat-lt j in omega arith)
