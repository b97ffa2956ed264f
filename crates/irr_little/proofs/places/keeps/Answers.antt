use Rattle.std.proofs.Common.{sym, subst, get_or}
use Rattle.irr_algebra.specs.Matrix.{◌⊖◌}
use Rattle.irr_space.specs.Reciprocal.{AreEquivalent}
use Rattle.irr_seitz.specs.OperationMeaning.{operation}
use Rattle.irr_kvec.specs.WaveMeaning.{wave_vector}
use Rattle.irr_kvec.specs.Centrings.{LatticeOf, IsCentringList}
use Rattle.irr_close.specs.StandsFor.{stands_for}
use Rattle.irr_close.proofs.Bareness.{first_of}
use Rattle.irr_little.proofs.Spaces.{form_of, same_reciprocal, canonical_at, kept_of_carried, carried_of_kept}
use Rattle.irr_close.proofs.SpaceGroups.{space_group}
use Rattle.irr_little.proofs.places.keeps.Goals as goal

pub equivalent-requires-clause-centrings : goal.equivalent-requires-clause-centrings
equivalent-requires-clause-centrings c = subst IsCentringList (sym c.centrings.ensures.list) (space_group c.args.group.now).centrings

pub returns : goal.returns
returns c = (
  λ t d. kept_of_carried (stands_for c.args.group.now) (space_group c.args.group.now).is_group
      (operation (get_or c.args.group.now.ops.items c.args.place d))
      (canonical_at c.args.group.now d c.args.place c.requires.place).member (wave_vector c.args.k.now) (wave_vector c.image.result)
      (c.image.ensures.carries d)
      ((same_reciprocal c.args.group.now (wave_vector c.image.result ⊖ wave_vector c.args.k.now)).1
      (subst (λ cs. AreEquivalent (LatticeOf cs) (wave_vector c.image.result) (wave_vector c.args.k.now)) c.centrings.ensures.list
      (c.equivalent.ensures.0 t))),
  λ h. let d = first_of c.args.group.now.ops.items (form_of c.args.group.now).nonempty in c.equivalent.ensures.1
      (subst (λ cs. AreEquivalent (LatticeOf cs) (wave_vector c.image.result) (wave_vector c.args.k.now)) (sym c.centrings.ensures.list)
      ((same_reciprocal c.args.group.now (wave_vector c.image.result ⊖ wave_vector c.args.k.now)).0
      (carried_of_kept (stands_for c.args.group.now) (space_group c.args.group.now).is_group
      (operation (get_or c.args.group.now.ops.items c.args.place d))
      (canonical_at c.args.group.now d c.args.place c.requires.place).member (wave_vector c.args.k.now) (wave_vector c.image.result)
      (c.image.ensures.carries d) (h d)))),
)
