-- By the wave vector to which the operation carries k.
use Rattle.std.proofs.Common.{sym, subst, subst₂, get_or}
use Rattle.irr_algebra.specs.Matrix.{◌⊖◌, null}
use Rattle.irr_space.specs.Operation.{WaveVector}
use Rattle.irr_space.specs.Reciprocal.{AreEquivalent}
use Rattle.irr_seitz.specs.OperationMeaning.{operation}
use Rattle.irr_kvec.specs.WaveMeaning.{wave_vector}
use Rattle.irr_kvec.specs.Centrings.{LatticeOf, IsCentringList}
use Rattle.irr_close.specs.StandsFor.{stands_for}
use Rattle.irr_close.proofs.Bareness.{first_of}
use Rattle.irr_close.proofs.SpaceGroups.{space_group}
use Rattle.irr_little.proofs.Spaces.{form_of, same_reciprocal, canonical_at}
use Rattle.irr_real.proofs.Opposites.{carried_of_reverses, reverses_of_carried}
use Rattle.irr_real.proofs.places.reverses.Goals as goal

pub equivalent-requires-clause-centrings : goal.equivalent-requires-clause-centrings
equivalent-requires-clause-centrings c = subst IsCentringList (sym c.centrings.ensures.list)
    (space_group c.args.group.now).centrings

pub returns : goal.returns
returns c =
    let group = c.args.group.now in
    let k = wave_vector c.args.k.now in
    let w = wave_vector c.image.result in
    let law = (space_group group).is_group in (
      λ t d. reverses_of_carried (stands_for group) law (operation (get_or group.ops.items c.args.place d))
          (canonical_at group d c.args.place c.requires.place).member k w (c.image.ensures.carries d)
          ((same_reciprocal group (w ⊖ (null ⊖ k))).1
          (subst₂ (λ cs (u : WaveVector). AreEquivalent (LatticeOf cs) w u) c.centrings.ensures.list
          c.opposite.ensures.opposite
          (c.equivalent.ensures.0 t))),
      λ h. let d = first_of group.ops.items (form_of group).nonempty in c.equivalent.ensures.1
          (subst₂ (λ cs (u : WaveVector). AreEquivalent (LatticeOf cs) w u) (sym c.centrings.ensures.list)
          (sym c.opposite.ensures.opposite)
          ((same_reciprocal group (w ⊖ (null ⊖ k))).0
          (carried_of_reverses (stands_for group) law (operation (get_or group.ops.items c.args.place d))
          (canonical_at group d c.args.place c.requires.place).member k w (c.image.ensures.carries d) (h d)))),
    )
