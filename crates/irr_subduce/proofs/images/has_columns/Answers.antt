use Rattle.std.proofs.Common.{refl}
use Rattle.irr_algebra.specs.Fin.{Fin, to_nat}
use Rattle.irr_algebra.specs.Fin.Fin.{first, next}
use Rattle.irr_algebra.specs.Matrix.{column}
use Rattle.irr_space.specs.SpaceGroup.{IsTranslation}
use Rattle.irr_close.specs.StandsFor.{stands_for}
use Rattle.irr_rat.proofs.Vectors.{each_of_three}
use Rattle.irr_setting.specs.Setting.{basis}
use Rattle.irr_subduce.proofs.images.has_columns.Goals as goal

pub returns-then-not-has_column : goal.returns-then-not-has_column
unfolding to_nat
returns-then-not-has_column c = (λ t. absurd (cc t), λ h. (c.if-not-has_column.ensures first refl).1 (h first))

pub returns-then-not-has_column-2 : goal.returns-then-not-has_column-2
unfolding to_nat
returns-then-not-has_column-2 c = (λ t. absurd (cc t), λ h. (c.if-not-has_column-2.ensures (next first) refl).1 (h (next first)))

pub returns : goal.returns
unfolding to_nat
returns c = (
  λ t. each_of_three (λ j. IsTranslation (stands_for c.args.group.now) (column (basis c.args.setting.now) j))
      ((c.if-not-has_column.ensures first refl).0 refl) ((c.if-not-has_column-2.ensures (next first) refl).0 refl) ((c.has_column-3.ensures (next (next first)) refl).0 t),
  λ h. (c.has_column-3.ensures (next (next first)) refl).1 (h (next (next first))),
)
