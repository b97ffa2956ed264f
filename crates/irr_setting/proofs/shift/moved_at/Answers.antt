use Rattle.std.proofs.Common.{◌≡◌, sym, refl, ◌∙◌, ap, ap₂, subst, rules, ℕ, ◌<◌, ◌≤◌, ◌^◌, ◌*◌, ◌+◌, ◌+ℤ◌, ◌*ℤ◌, ◌-ℤ◌, pos, [], ◌∷◌, List, ℤ, unsigned_abs, get_or, FitsSigned, to_z, of_z, arith, lit<}
use Rattle.std.specs.Int.{w16, w64, w128}
use Rattle.std.proofs.lemmas.Int.{ints, to_z-of_z, fits_signed_from_abs}
use Rattle.irr_algebra.specs.Fin.{Fin, to_nat}
use Rattle.irr_algebra.specs.Fin.Fin.{first, next}
use Rattle.irr_rational.specs.Ratio.{entry}
use Rattle.irr_rat.proofs.Vectors.{each_of_three}
use Rattle.irr_seitz.specs.Rotation.{rotation_of, IsWithin}
use Rattle.irr_seitz.specs.OperationMeaning.{AreWithin}
use Rattle.irr_seitz.proofs.Sizes.{abs-add, abs-sub, abs-mul, weighted_sum}
use Rattle.irr_setting.specs.Determinant.{row_dot, column_dot}
use Rattle.irr_setting.proofs.Numbers.{small128, at_place, row_within, row_dot_same, row_dot_small, same_within, matrix_row}
use Rattle.irr_setting.proofs.shift.moved_at.Goals as goal

pub dot-requires-clause-left : goal.dot-requires-clause-left
dot-requires-clause-left c = row_within (10 ^ 4) (2 ^ 60) c.args.setting.now.num c.requires.setting.basis (omega arith) c.args.i c.requires.i c.wide.result c.wide.ensures

pub returns-clause-value : goal.returns-clause-value
returns-clause-value c = to_z-of_z w128 c.dot.result (record { sfits = c.dot.type_inv }) ∙ c.dot.ensures.value
    ∙ row_dot_same c.wide.result (get_or c.args.setting.now.num c.args.i []) c.wide-2.result c.args.op.now.num c.wide.ensures c.wide-2.ensures

pub returns-clause-small : goal.returns-clause-small
returns-clause-small c = subst (λ a. unsigned_abs a ≤ 2 ^ 49) (sym (returns-clause-value c))
    (let s = row_dot_small (get_or c.args.setting.now.num c.args.i []) c.args.op.now.num (10 ^ 4) (10 ^ 10) (matrix_row (10 ^ 4) c.args.setting.now.num c.requires.setting.basis c.args.i c.requires.i) c.requires.op.numerators in omega arith)
