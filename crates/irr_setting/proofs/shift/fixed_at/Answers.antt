use Rattle.std.proofs.Common.{◌≡◌, sym, refl, ◌∙◌, ap, ap₂, subst, rules, ℕ, ◌<◌, ◌≤◌, ◌^◌, ◌*◌, ◌+◌, ◌+ℤ◌, ◌*ℤ◌, ◌-ℤ◌, pos, [], ◌∷◌, List, ℤ, unsigned_abs, get_or, FitsSigned, to_z, of_z, arith, lit<}
use Rattle.std.specs.Int.{w16, w64, w128}
use Rattle.std.proofs.lemmas.Int.{ints, to_z-of_z, fits_signed_from_abs}
use Rattle.irr_algebra.specs.Fin.{Fin, to_nat}
use Rattle.irr_algebra.specs.Fin.Fin.{first, next}
use Rattle.irr_rational.specs.Ratio.{entry}
use Rattle.irr_rat.proofs.Vectors.{each_of_three}
use Rattle.irr_seitz.specs.Rotation.{rotation_of, IsWithin}
use Rattle.irr_seitz.specs.OperationMeaning.{AreWithin}
use Rattle.irr_seitz.proofs.Sizes.{abs-add, abs-sub, abs-mul, weighted_sum}
use Rattle.irr_setting.specs.Determinant.{row_dot, column_dot}
use Rattle.irr_setting.proofs.Numbers.{small128, at_place, row_within, row_dot_same, row_dot_small, same_within, matrix_row, entry_place}
use Rattle.irr_setting.proofs.shift.fixed_at.Goals as goal

rest : (c : goal.After-dot) → c.dot.result ≡ row_dot (get_or c.args.rot.now c.args.i []) c.args.setting.now.shift.num
rest c = c.dot.ensures.value ∙ row_dot_same c.short.result (get_or c.args.rot.now c.args.i []) c.wide-origin.result c.args.setting.now.shift.num c.short.ensures c.wide-origin.ensures

rest_small : (c : goal.After-dot) → unsigned_abs (row_dot (get_or c.args.rot.now c.args.i []) c.args.setting.now.shift.num) ≤ 27 * 10 ^ 6
rest_small c = let s = row_dot_small (get_or c.args.rot.now c.args.i []) c.args.setting.now.shift.num 9 (10 ^ 6) (matrix_row 9 c.args.rot.now c.requires.rotation c.args.i c.requires.i) c.requires.setting.origin in omega arith

origin_small : (c : goal.After-dot) → unsigned_abs (get_or c.args.setting.now.shift.num c.args.i (pos 0)) ≤ 10 ^ 6
origin_small c = at_place (λ a. unsigned_abs a ≤ 10 ^ 6) c.args.setting.now.shift.num c.requires.setting.origin c.args.i c.requires.i

pub dot-requires-clause-left : goal.dot-requires-clause-left
dot-requires-clause-left c = row_within 9 (2 ^ 60) c.args.rot.now c.requires.rotation (omega arith) c.args.i c.requires.i c.short.result c.short.ensures

pub dot-requires-clause-right : goal.dot-requires-clause-right
dot-requires-clause-right c = same_within (10 ^ 6) (2 ^ 60) c.wide-origin.result c.args.setting.now.shift.num (omega arith) c.requires.setting.origin c.wide-origin.ensures

pub difference-requires-clause-x : goal.difference-requires-clause-x
difference-requires-clause-x c = small128 (get_or c.wide-origin.result c.args.i (pos 0)) (2 ^ 120) (search rules)
    (at_place (λ a. unsigned_abs a ≤ 2 ^ 120) c.wide-origin.result (same_within (10 ^ 6) (2 ^ 120) c.wide-origin.result c.args.setting.now.shift.num (omega arith) c.requires.setting.origin c.wide-origin.ensures) c.args.i c.requires.i)

pub difference-requires-clause-y : goal.difference-requires-clause-y
difference-requires-clause-y c = small128 c.dot.result (2 ^ 120) (record { sfits = c.dot.type_inv }) (subst (λ a. unsigned_abs a ≤ 2 ^ 120) (sym (rest c)) (let s = rest_small c in omega arith))

pub returns-clause-value : goal.returns-clause-value
returns-clause-value c = to_z-of_z w128 c.difference.result (record { sfits = c.difference.type_inv }) ∙ c.difference.ensures
    ∙ ap₂ ◌-ℤ◌ (to_z-of_z w128 (get_or c.wide-origin.result c.args.i (pos 0)) (search rules) ∙ entry_place c.wide-origin.result c.args.setting.now.shift.num c.wide-origin.ensures c.args.i c.requires.i)
    (to_z-of_z w128 c.dot.result (record { sfits = c.dot.type_inv }) ∙ c.dot.ensures.value
    ∙ row_dot_same c.short.result (get_or c.args.rot.now c.args.i []) c.wide-origin.result c.args.setting.now.shift.num c.short.ensures c.wide-origin.ensures)

pub returns-clause-small : goal.returns-clause-small
returns-clause-small c = subst (λ a. unsigned_abs a ≤ 2 ^ 25) (sym (returns-clause-value c))
    (let s = row_dot_small (get_or c.args.rot.now c.args.i []) c.args.setting.now.shift.num 9 (10 ^ 6) (matrix_row 9 c.args.rot.now c.requires.rotation c.args.i c.requires.i) c.requires.setting.origin in
    let t = abs-sub (get_or c.args.setting.now.shift.num c.args.i (pos 0)) (row_dot (get_or c.args.rot.now c.args.i []) c.args.setting.now.shift.num) (10 ^ 6) ((9 * 10 ^ 6 + 9 * 10 ^ 6) + 9 * 10 ^ 6)
    (at_place (λ a. unsigned_abs a ≤ 10 ^ 6) c.args.setting.now.shift.num c.requires.setting.origin c.args.i c.requires.i) s in omega arith)
