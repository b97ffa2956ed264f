-- The numbers of operations, and what is read from them.
use Rattle.std.proofs.Common.{sym, subst, ℕ, ◌<◌, List, length}
use Rattle.std.specs.List.{All}
use Rattle.irr_kvec.specs.WaveMeaning.{wave_vector}
use Rattle.irr_power.specs.Doubles.{AreDoubles}
use Rattle.irr_power.proofs.SquareEntries.{places_inside}
use Rattle.irr_power.proofs.meetings.meeting_at.Goals as goal

pub doubled_operations-requires : goal.doubled_operations-requires
doubled_operations-requires c = subst (λ (ns : List ℕ). All (λ n. n < length c.args.group.now.ops.items) ns) (sym c.as_slice.ensures.value)
    (places_inside c.args.group.now (wave_vector c.args.wave.now) c.in_ok-places.places.items c.in_ok-places.ensures)

pub returns : goal.returns
returns c = record {
  members = c.in_ok-ops.ensures.members;
  numbering = c.in_ok-ops.ensures.numbering;
  places = c.in_ok-places.places.items;
  are_places = c.in_ok-places.ensures;
  double_members = c.in_ok-doubles.ensures.members;
  doubles = subst (λ (ns : List ℕ). AreDoubles c.args.group.now ns c.in_ok-doubles.doubles.items) c.as_slice.ensures.value
      c.in_ok-doubles.ensures.squares;
  classes = c.in_ok-classes.ensures c.args.group.now c.requires.reduced c.requires.sums;
}
