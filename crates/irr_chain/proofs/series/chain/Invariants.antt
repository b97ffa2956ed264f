-- The levels so far go from the members to the whole table.
use Rattle.std.proofs.Common.{ℕ, ◌≡◌, ◌<◌, vec_len, slice_index, [], length}
use Rattle.irr_rep.specs.Twisted.{phase_table, place_count}
use Rattle.irr_rep.specs.Subgroup.{IsSubgroup}
use Rattle.irr_chain.specs.Series.{IsSeries}
use Rattle.irr_chain.proofs.series.chain.Given as goal

abbrev pub invariant-loop-i : goal.invariant-loop-i
invariant-loop-i l = record {
  count : vec_len l.members ≡ l.i;
  numbers : (a : ℕ) → a < l.i → slice_index l.members.items a ≡ a;
}

abbrev pub invariant-loop-alloc : goal.invariant-loop-alloc
invariant-loop-alloc l = record {
  subgroup : IsSubgroup (phase_table l.t) l.members.items;
  series : IsSeries (phase_table l.t) l.members.items l.levels.items;
  one_place : place_count l.t ≡ 1 → l.levels.items ≡ [];
}

abbrev pub decreases-loop-alloc : goal.decreases-loop-alloc
decreases-loop-alloc l = length l.members.items
