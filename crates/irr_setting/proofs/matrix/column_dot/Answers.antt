use Rattle.std.proofs.Common.{◌≡◌, sym, refl, ◌∙◌, ap, ap₂, subst, rules, ℕ, ◌<◌, ◌≤◌, ◌^◌, ◌*◌, ◌+◌, ◌+ℤ◌, ◌*ℤ◌, ◌-ℤ◌, pos, [], ◌∷◌, List, ℤ, unsigned_abs, get_or, FitsSigned, to_z, of_z, arith, lit<}
use Rattle.std.specs.Int.{w16, w64, w128}
use Rattle.std.specs.Int.RustNames.{int_div, int_rem}
use Rattle.std.proofs.lemmas.Int.{to_z-of_z, fits_signed_from_abs}
use Rattle.irr_algebra.specs.Fin.{Fin, to_nat}
use Rattle.irr_algebra.specs.Fin.Fin.{first, next}
use Rattle.irr_algebra.proofs.Indices.{to_nat-lt}
use Rattle.irr_rational.specs.Ratio.{entry}
use Rattle.irr_rat.proofs.Vectors.{each_of_three}
use Rattle.irr_seitz.specs.Rotation.{rotation_of, IsWithin}
use Rattle.irr_seitz.proofs.Rotations.{within_at}
use Rattle.irr_seitz.proofs.Sizes.{abs-add, abs-sub, abs-mul, weighted_sum}
use Rattle.irr_kvec.proofs.Products.{at_first, at_second, at_third}
use Rattle.irr_setting.specs.Determinant.{row_dot, cross_at, column_dot, determinant_in, cofactor, after}
use Rattle.irr_setting.proofs.Numbers.{small128, at_place, product_small, product_read, sum_small, row_within, rotation_row, cross_cofactors, cofactor_within, determinant_of_row, determinant_small, quotient_only}
use Rattle.irr_setting.proofs.matrix.column_dot.Goals as goal

pub dot-requires-clause-right : goal.dot-requires-clause-right
dot-requires-clause-right c = λ i. let s = within_at 9 c.args.m.now c.requires.within (to_nat i) c.args.j (to_nat-lt i) c.requires.j in subst (λ a. unsigned_abs a ≤ 2 ^ 60) (sym (c.column.ensures i)) (omega arith)

pub returns-clause-value : goal.returns-clause-value
unfolding to_nat
returns-clause-value c = to_z-of_z w128 c.dot.result (record { sfits = c.dot.type_inv }) ∙ c.dot.ensures.value
    ∙ ap₂ ◌+ℤ◌ (ap₂ ◌+ℤ◌ (ap (λ y. get_or c.args.x.now 0 (pos 0) *ℤ y) (c.column.ensures first)) (ap (λ y. get_or c.args.x.now 1 (pos 0) *ℤ y) (c.column.ensures (next first)))) (ap (λ y. get_or c.args.x.now 2 (pos 0) *ℤ y) (c.column.ensures (next (next first))))

pub returns-clause-small : goal.returns-clause-small
returns-clause-small c = subst (λ a. unsigned_abs a ≤ 2 ^ 60) (sym (returns-clause-value c))
    (let s = weighted_sum (get_or c.args.x.now 0 (pos 0)) (get_or c.args.x.now 1 (pos 0)) (get_or c.args.x.now 2 (pos 0))
    (get_or (get_or c.args.m.now 0 []) c.args.j (pos 0)) (get_or (get_or c.args.m.now 1 []) c.args.j (pos 0)) (get_or (get_or c.args.m.now 2 []) c.args.j (pos 0)) (2 ^ 40) 9
    (at_first (λ a. unsigned_abs a ≤ 2 ^ 40) c.args.x.now c.requires.row) (at_second (λ a. unsigned_abs a ≤ 2 ^ 40) c.args.x.now c.requires.row) (at_third (λ a. unsigned_abs a ≤ 2 ^ 40) c.args.x.now c.requires.row)
    (within_at 9 c.args.m.now c.requires.within 0 c.args.j (omega arith) c.requires.j) (within_at 9 c.args.m.now c.requires.within 1 c.args.j (omega arith) c.requires.j) (within_at 9 c.args.m.now c.requires.within 2 c.args.j (omega arith) c.requires.j) in omega arith)
