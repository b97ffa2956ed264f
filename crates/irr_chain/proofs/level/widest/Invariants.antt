-- The marked places are a subgroup with a commutative quotient, and g is a member outside it.
use Rattle.std.proofs.Common.{◌≡◌, vec_len, Contains}
use Rattle.irr_rep.specs.Twisted.{phase_table, place_count}
use Rattle.irr_chain.specs.NormalSubgroup.{In}
use Rattle.irr_chain.specs.Marks.{IsMarked, Marked, unmarked}
use Rattle.irr_chain.specs.Quotient.{HasQuotient}
use Rattle.irr_chain.proofs.level.widest.Given as goal

abbrev pub invariant-loop-inner : goal.invariant-loop-inner
invariant-loop-inner l = record {
  count : vec_len l.inner ≡ place_count l.t;
  quotient : HasQuotient (phase_table l.t) (Marked l.inner.items) (In l.members) l.p;
  member : Contains l.members l.g;
  outside : IsMarked l.inner.items l.g → ⊥;
}

abbrev pub decreases-loop-inner : goal.decreases-loop-inner
decreases-loop-inner l = unmarked l.inner.items
