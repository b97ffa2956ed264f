-- What is read of the text is what it writes, whichever way it spells it.
use Rattle.std.proofs.Common.{rules, ◌≡◌, ◌≢◌, subst, unsigned_abs}
use Rattle.irr_seitz.specs.Rotation.{determinant}
use Rattle.irr_seitz.specs.OperationMeaning.{operation}
use Rattle.irr_triplet.specs.declared.reading.TripletError.TheVariants.{Determinant}
use Rattle.irr_triplet.specs.WrittenTriplet.{IsTriplet}
use Rattle.irr_triplet.specs.TripletFault.{triplet_denominators, triplet_numbers}
use Rattle.irr_triplet.specs.WrittenTerms.{IsZeroAnswer, IsBeyondAnswer}
use Rattle.irr_triplet.proofs.TripletValues.{sound_parts, common_of, same_value, text_readable, zero_absent, beyond_absent, no_fault, no_zero, no_beyond}
use Rattle.irr_triplet.proofs.reading.read_triplet.Goals as goal

pub returns-in-Some-clause-only : goal.returns-in-Some-clause-only
returns-in-Some-clause-only c = λ g h. zero_absent (triplet_denominators h.triplet) c.in-Some.place h.written.0
    (subst (λ o. IsZeroAnswer o (triplet_denominators h.triplet)) c.in-Some.is (c.first_zero.ensures h.triplet (c.components-parts.ensures.parts h.triplet h.spells)))

pub returns-in-Some-first_beyond-clause-only : goal.returns-in-Some-first_beyond-clause-only
returns-in-Some-first_beyond-clause-only c = λ g h. beyond_absent (triplet_numbers h.triplet) c.in-Some-first_beyond.place h.written.1
    (subst (λ o. IsBeyondAnswer o (triplet_numbers h.triplet)) c.in-Some-first_beyond.is (c.first_beyond.ensures h.triplet (c.components-parts.ensures.parts h.triplet h.spells)))

pub operation_of_parts-requires-clause-sound : goal.operation_of_parts-requires-clause-sound
operation_of_parts-requires-clause-sound c =
    let it : IsTriplet c.args.text.now = search rules in
    let parts = c.components-parts.ensures.parts it.triplet it.spells in
    sound_parts c.components-parts.result it.triplet parts
    (no_zero c.first_zero.result (triplet_denominators it.triplet) c.in_default-first_zero.not-Some (c.first_zero.ensures it.triplet parts))
    (no_beyond c.first_beyond.result (triplet_numbers it.triplet) c.in_default-first_beyond.not-Some (c.first_beyond.ensures it.triplet parts))

pub returns-then-not-is_unimodular-clause-fault : goal.returns-then-not-is_unimodular-clause-fault
returns-then-not-is_unimodular-clause-fault c =
    let it : IsTriplet c.args.text.now = search rules in
    let other : unsigned_abs (determinant (operation c.in-Some-operation_of_parts.op).rotation) ≢ 1 = search rules in (
      it,
      λ t sp.
          let parts = c.components-parts.ensures.parts t sp in
          let value = c.in-Some-operation_of_parts.ensures.value t parts in
          record {
            value = operation c.in-Some-operation_of_parts.op;
            written = (
              no_zero c.first_zero.result (triplet_denominators t) c.in_default-first_zero.not-Some (c.first_zero.ensures t parts),
              no_beyond c.first_beyond.result (triplet_numbers t) c.in_default-first_beyond.not-Some (c.first_beyond.ensures t parts),
              value,
            );
            common = common_of t c.in-Some-operation_of_parts.op value c.in-Some-operation_of_parts.ensures.within;
            determinant = other;
          },
    )

pub returns-then-not-is_unimodular-clause-only : goal.returns-then-not-is_unimodular-clause-only
returns-then-not-is_unimodular-clause-only c = λ g h. no_fault c.args.text.now g h Determinant (returns-then-not-is_unimodular-clause-fault c)

pub returns-clause-read : goal.returns-clause-read
returns-clause-read c =
    let it : IsTriplet c.args.text.now = search rules in
    let one : unsigned_abs (determinant (operation c.in-Some-operation_of_parts.op).rotation) ≡ 1 = search rules in
    let parts = c.components-parts.ensures.parts it.triplet it.spells in
    let value = c.in-Some-operation_of_parts.ensures.value it.triplet parts in
    record {
      triplet = it.triplet;
      spells = it.spells;
      written = (
        no_zero c.first_zero.result (triplet_denominators it.triplet) c.in_default-first_zero.not-Some (c.first_zero.ensures it.triplet parts),
        no_beyond c.first_beyond.result (triplet_numbers it.triplet) c.in_default-first_beyond.not-Some (c.first_beyond.ensures it.triplet parts),
        value,
      );
      common = common_of it.triplet c.in-Some-operation_of_parts.op value c.in-Some-operation_of_parts.ensures.within;
      unimodular = one;
    }

pub returns-clause-readable : goal.returns-clause-readable
returns-clause-readable c = text_readable c.args.text.now (operation c.in-Some-operation_of_parts.op) (returns-clause-read c)

pub returns-clause-only : goal.returns-clause-only
returns-clause-only c = λ g h. same_value h.triplet (operation c.in-Some-operation_of_parts.op) g
    (c.in-Some-operation_of_parts.ensures.value h.triplet (c.components-parts.ensures.parts h.triplet h.spells)) h.written.2
