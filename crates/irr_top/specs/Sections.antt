-- Sections of an input as the program holds them, and their subgroups.
--   IsLimitedSection sub       the numbers of the setting are within the limits, the generators can be read, and they are fewer than 2^32
--   IsSubOf group S sub        sub is the subgroup that the section S gives of the group
use Rattle.std.specs.Prelude.{◌≡◌, ◌<◌, ◌^◌, List, length}
use Rattle.std.specs.List.{All}
use Rattle.irr_seitz.specs.OperationMeaning.{operation}
use Rattle.irr_seitz.specs.declared.op.Op.{Op}
use Rattle.irr_triplet.specs.Readable.{IsReadable}
use Rattle.irr_close.specs.Limits.{operations}
use Rattle.irr_close.specs.declared.group.Group.{Group}
use Rattle.irr_setting.specs.Setting.{basis, origin, IsSmallSetting}
use Rattle.irr_subduce.specs.Subgroup.{IsSub}
use Rattle.irr_subduce.specs.declared.sub.Sub.{Sub}
use Rattle.irr_input.specs.Stages.{SubContent}
use Rattle.irr_input.specs.declared.input.SubSpec.{SubSpec}
use Rattle.irr_top.specs.SubgroupOf.{generators}

pub record IsLimitedSection (sub : SubSpec) : Type 0 where
  pub setting : IsSmallSetting sub.setting
  pub readable : All (λ g. IsReadable (operation g.op)) sub.gens.items
  pub few : length sub.gens.items < 2 ^ 32

pub record IsSubOf (group : Group) (S : SubContent) (sub : Sub) : Type 0 where
  pub gens : List Op
  pub is_sub : IsSub group sub.setting gens sub
  pub are : operations gens ≡ generators S
  pub is_basis : basis sub.setting ≡ S.basis
  pub is_origin : origin sub.setting ≡ S.origin
