-- kP is reduced as the centrings of the subgroup say.
use Rattle.std.proofs.Common.{◌≡◌, sym, ap, ◌∙◌, subst}
use Rattle.irr_algebra.specs.Matrix.{◌·◌}
use Rattle.irr_space.specs.Operation.{WaveVector}
use Rattle.irr_space.specs.Reciprocal.{IsReduced, AreEquivalent}
use Rattle.irr_kvec.specs.WaveMeaning.{wave_vector}
use Rattle.irr_kvec.specs.Centrings.{LatticeOf, IsCentringList}
use Rattle.irr_kvec.proofs.GroupLattices.{reduced_in_group}
use Rattle.irr_close.specs.StandsFor.{stands_for}
use Rattle.irr_close.specs.declared.group.Group.{Group}
use Rattle.irr_close.proofs.SpaceGroups.{space_group}
use Rattle.irr_little.proofs.Spaces.{centrings_of}
use Rattle.irr_little.proofs.Stars.{reduced_arm}
use Rattle.irr_setting.specs.Setting.{basis, IsSmallSetting}
use Rattle.irr_setting.specs.declared.setting.Setting.{Setting}
use Rattle.irr_subduce.proofs.waves.arm_wave.Goals as goal

pub wave-wave-requires-clause-setting : goal.wave-wave-requires-clause-setting
wave-wave-requires-clause-setting c = subst IsSmallSetting (sym c.setting-setting.ensures) c.args.sub.now.small

pub reduced-requires-clause-centrings : goal.reduced-requires-clause-centrings
reduced-requires-clause-centrings c = subst IsCentringList (sym (c.centrings.ensures.list ∙ ap (λ (h : Group). h.centrings.items) c.group-group.ensures))
    (space_group c.args.sub.now.group).centrings

pub returns : goal.returns
returns c =
    let group = c.args.sub.now.group in
    let there = wave_vector c.wave-wave.result in
    let red : IsReduced (stands_for group) there (wave_vector c.reduced.result)
    = reduced_in_group (stands_for group) group.centrings.items (centrings_of group) there (wave_vector c.reduced.result)
    (subst (λ cs. IsReduced (LatticeOf cs) there (wave_vector c.reduced.result))
    (c.centrings.ensures.list ∙ ap (λ (h : Group). h.centrings.items) c.group-group.ensures)
    c.reduced.ensures.reduced) in record {
      reduced = reduced_arm (stands_for group) there (wave_vector c.reduced.result) red;
      equivalent = subst (λ (w : WaveVector). AreEquivalent (stands_for group) (wave_vector c.reduced.result) w)
          (c.wave-wave.ensures.wave ∙ ap (λ (s : Setting). wave_vector c.args.k.now · basis s) c.setting-setting.ensures)
          red.equivalent;
      limits = c.reduced.ensures.limits;
    }
