-- A subgroup of a space group in a setting of its own (International Tables A, sections 1.5 and 1.7).
--   HasImage group s g             the image of g in the setting s is in the group
--   HasColumns group s             the columns of P are translations of the group
--   IsFirstOutside group s gens i  the i-th generator, counted from 1, is the first whose image is not in the group
--   IsInside group s gens          P has an inverse, its columns are translations, and all images are in the group
--   IsRefused group s gens e       the first that fails
--   HaveImages group s             each operation of the group has an image with entries and vector of an operation of a group
--   IsSub group s gens sub         sub is the group that the generators generate, and each of its operations has an image in the group
use Rattle.std.specs.Prelude.{ℕ, ◌≡◌, ◌<◌, ◌+◌, ◌⊎◌, ◌↔◌, List, length}
use Rattle.std.specs.List.{All, HoldsAt}
use Rattle.irr_algebra.specs.Fin.{Fin}
use Rattle.irr_algebra.specs.Matrix.{column}
use Rattle.irr_space.specs.Operation.{Operation}
use Rattle.irr_space.specs.SpaceGroup.{Generated, IsTranslation}
use Rattle.irr_seitz.specs.OperationMeaning.{operation}
use Rattle.irr_seitz.specs.declared.op.Op.{Op}
use Rattle.irr_close.specs.Limits.{operations}
use Rattle.irr_close.specs.StandsFor.{stands_for, IsAccepted, IsRefusal}
use Rattle.irr_close.specs.declared.CloseError.TheVariants.{Rotations as CloseRotations, Denominator as CloseDenominator, Centrings as CloseCentrings}
use Rattle.irr_close.specs.declared.group.Group.{Group}
use Rattle.irr_full.specs.Restriction.{IsImage, IsSubgroup}
use Rattle.irr_setting.specs.Setting.{basis, origin, IsSingular, MayBeImage}
use Rattle.irr_setting.specs.declared.setting.Setting.{Setting}
use Rattle.irr_subduce.specs.declared.error.SubError.{SubError}
use Rattle.irr_subduce.specs.declared.error.SubError.TheVariants.{Singular, NotSubgroup, Rotations, Denominator, Centrings, Memory}
use Rattle.irr_subduce.specs.declared.sub.Sub.{Sub}

pub record HasImage (group : Group) (s : Setting) (g : Operation) : Type 0 where
  pub image : Operation
  pub is_image : IsImage (basis s) (origin s) g image
  pub member : stands_for group image

abbrev pub HasColumns : Group → Setting → Type 0
HasColumns group s = (j : Fin 3) → IsTranslation (stands_for group) (column (basis s) j)

pub record IsFirstOutside (group : Group) (s : Setting) (gens : List Op) (i : ℕ) : Type 0 where
  pub before : ℕ
  pub is : i ≡ before + 1
  pub place : before < length gens
  pub outside : HoldsAt (λ g. ¬ (HasImage group s (operation g))) gens before
  pub inside : (j : ℕ) → j < before → HoldsAt (λ g. HasImage group s (operation g)) gens j

pub record IsInside (group : Group) (s : Setting) (gens : List Op) : Type 0 where
  pub regular : ¬ (IsSingular s)
  pub columns : HasColumns group s
  pub images : All (λ g. HasImage group s (operation g)) gens

-- 0 stands for the columns of P
abbrev pub IsOutside : Group → Setting → List Op → ℕ → Type 0
IsOutside group s gens i = ((i ≡ 0) × ¬ (HasColumns group s)) ⊎ (HasColumns group s × IsFirstOutside group s gens i)

abbrev pub IsRefused : Group → Setting → List Op → SubError → Type 0
IsRefused group s gens Singular = IsSingular s
IsRefused group s gens (NotSubgroup i) = ¬ (IsSingular s) × IsOutside group s gens i
IsRefused group s gens Rotations = IsInside group s gens × IsRefusal gens CloseRotations
IsRefused group s gens Denominator = IsInside group s gens × IsRefusal gens CloseDenominator
IsRefused group s gens Centrings = IsInside group s gens × IsRefusal gens CloseCentrings
IsRefused group s gens Memory = Unit {0}

pub record IsSub (group : Group) (s : Setting) (gens : List Op) (sub : Sub) : Type 0 where
  pub inside : IsInside group s gens
  pub accepted : IsAccepted gens
  pub generated : (g : Operation) → stands_for sub.group g ↔ Generated (operations gens) g
  pub phase : sub.group.phase ≡ group.phase
  pub setting : sub.setting ≡ s
  pub image : Operation → Operation
  pub subgroup : IsSubgroup (basis s) (origin s) (stands_for sub.group) (stands_for group) image
