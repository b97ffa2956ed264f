-- The subgroup that a section of an input gives of a group (International Tables A, sections 1.5 and 1.7): the line of its basis, the basis P and the
-- origin p, and generators that are operations in this basis.
--   generators S           the operations of the generators
--   subgroup_of S          the group that they generate, in the basis of the section
--   IsSingular S           the determinant of P is 0
--   HasImage G S g         the image of g is in G
--   HasColumns G S         the columns of P are translations of G
--   IsFirstOutside G S n   the generator on the n-th line is the first whose image is not in G
--   IsInside G S           P has an inverse, its columns are translations of G, and the image of each generator is in G
--   PassLimit S e          the limit e is the first that the generators pass
--   PassNoLimit S          they pass none
--   GivesSubgroup G S      the section gives a subgroup of G
--   GivesNone G S s        it gives none, and s tells the first reason
use Rattle.std.specs.Prelude.{ℕ, ◌≡◌, ◌<◌, Some, List, length, map}
use Rattle.std.specs.List.{All, HoldsAt}
use Rattle.irr_algebra.specs.Fin.{Fin}
use Rattle.irr_algebra.specs.Matrix.{column}
use Rattle.irr_rational.specs.Rational.{rationals}
use Rattle.irr_space.specs.Operation.{Operation}
use Rattle.irr_space.specs.SpaceGroup.{Generated, IsTranslation}
use Rattle.irr_seitz.specs.declared.op.Op.{Op}
use Rattle.irr_close.specs.Limits.{operations}
use Rattle.irr_close.specs.StandsFor.{IsAccepted, IsRefusal}
use Rattle.irr_close.specs.declared.CloseError.{CloseError}
use Rattle.irr_full.specs.Restriction.{IsImage}
use Rattle.irr_setting.specs.Determinant.{determinant_in}
use Rattle.irr_input.specs.Stages.{Placed, SubContent}
use Rattle.irr_input.specs.declared.input.Reason.TheVariants.{Singular, NotInGroup}
use Rattle.irr_top.specs.PassedLimit.{passed_limit}
use Rattle.irr_top.specs.declared.status.Status.{Status}
use Rattle.irr_top.specs.declared.status.Status.TheVariants.{BadInput, TooLarge}
use Rattle.irr_top.specs.declared.status.Kind.{Kind}

abbrev pub generators : SubContent → List Operation
generators S = map (λ (g : Placed). g.operation) S.gens

abbrev pub subgroup_of : SubContent → Operation → Type 0
subgroup_of S = Generated (generators S)

abbrev pub IsSingular : SubContent → Type 0
IsSingular S = determinant_in rationals S.basis ≡ rationals.zero

pub record HasImage (G : Operation → Type 0) (S : SubContent) (g : Operation) : Type 0 where
  pub image : Operation
  pub is_image : IsImage S.basis S.origin g image
  pub member : G image

abbrev pub HasColumns : (Operation → Type 0) → SubContent → Type 0
HasColumns G S = (j : Fin 3) → IsTranslation G (column S.basis j)

pub record IsFirstOutside (G : Operation → Type 0) (S : SubContent) (n : ℕ) : Type 0 where
  pub place : ℕ
  pub inside : place < length S.gens
  pub line : HoldsAt (λ (g : Placed). n ≡ g.line) S.gens place
  pub outside : HoldsAt (λ (g : Placed). ¬ (HasImage G S g.operation)) S.gens place
  pub before : (j : ℕ) → j < place → HoldsAt (λ (g : Placed). HasImage G S g.operation) S.gens j

pub record IsInside (G : Operation → Type 0) (S : SubContent) : Type 0 where
  pub regular : ¬ (IsSingular S)
  pub columns : HasColumns G S
  pub images : All (λ (g : Placed). HasImage G S g.operation) S.gens

pub record PassLimit (S : SubContent) (e : CloseError) : Type 0 where
  pub gens : List Op
  pub are : operations gens ≡ generators S
  pub refusal : IsRefusal gens e

pub record PassNoLimit (S : SubContent) : Type 0 where
  pub gens : List Op
  pub are : operations gens ≡ generators S
  pub accepted : IsAccepted gens

pub record GivesSubgroup (G : Operation → Type 0) (S : SubContent) : Type 0 where
  pub inside : IsInside G S
  pub no_limit : PassNoLimit S

pub data GivesNone (G : Operation → Type 0) (S : SubContent) : Status → Type 0 where
  singular : IsSingular S → GivesNone G S (BadInput S.line Singular)
  columns_outside : ¬ (IsSingular S) → ¬ (HasColumns G S) → GivesNone G S (BadInput S.line NotInGroup)
  generator_outside : {n : ℕ} → ¬ (IsSingular S) → HasColumns G S → IsFirstOutside G S n → GivesNone G S (BadInput n NotInGroup)
  limit : {kind : Kind} (e : CloseError) → passed_limit e ≡ Some kind → IsInside G S → PassLimit S e → GivesNone G S (TooLarge kind)
