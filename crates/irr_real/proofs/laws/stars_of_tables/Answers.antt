-- The star with these arms and this table.
use Rattle.std.proofs.Common.{refl, length, get_or}
use Rattle.irr_algebra.specs.Fin.{to_nat}
use Rattle.irr_kvec.specs.WaveMeaning.{wave_vector}
use Rattle.irr_rep.specs.Twisted.{operation_places, phase_table, place_count}
use Rattle.irr_close.specs.Canonical.{numbered}
use Rattle.irr_close.proofs.Bareness.{first_of}
use Rattle.irr_little.specs.Table.{listed_operations}
use Rattle.irr_little.proofs.Spaces.{form_of, numbering_of}
use Rattle.irr_real.proofs.laws.stars_of_tables.Goals as goal

pub returns : goal.returns
returns c = λ group k arms t a are_arms little. let d = first_of group.ops.items (form_of group).nonempty in (
  record {
    count = length group.ops.items;
    canonical = numbered group.ops.items d;
    canonical_numbering = numbering_of group d;
    arms = length arms;
    arm = λ i. wave_vector (get_or arms (to_nat i) a).wave;
    number = are_arms.number;
    are_arms = are_arms.star d a;
    places = place_count t;
    operation = listed_operations group (place_count t) (operation_places t) d;
    numbering = little.numbering d;
    table = phase_table t;
    is_table = little.table d;
  },
  refl,
)
