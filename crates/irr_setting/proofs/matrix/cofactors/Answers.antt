use Rattle.std.proofs.Common.{◌≡◌, sym, refl, ◌∙◌, ap, ap₂, subst, rules, ℕ, ◌<◌, ◌≤◌, ◌^◌, ◌*◌, ◌+◌, ◌+ℤ◌, ◌*ℤ◌, ◌-ℤ◌, pos, [], ◌∷◌, List, ℤ, unsigned_abs, get_or, FitsSigned, to_z, of_z, arith, lit<}
use Rattle.std.specs.Int.{w16, w64, w128}
use Rattle.std.specs.Int.RustNames.{int_div, int_rem}
use Rattle.std.proofs.lemmas.Int.{to_z-of_z, fits_signed_from_abs}
use Rattle.irr_algebra.specs.Fin.{Fin, to_nat}
use Rattle.irr_algebra.specs.Fin.Fin.{first, next}
use Rattle.irr_rational.specs.Ratio.{entry}
use Rattle.irr_rat.proofs.Vectors.{each_of_three}
use Rattle.irr_seitz.specs.Rotation.{rotation_of, IsWithin}
use Rattle.irr_seitz.proofs.Rotations.{within_at}
use Rattle.irr_seitz.proofs.Sizes.{abs-add, abs-sub, abs-mul, weighted_sum}
use Rattle.irr_kvec.proofs.Products.{at_first, at_second, at_third}
use Rattle.irr_setting.specs.Determinant.{row_dot, cross_at, column_dot, determinant_in, cofactor, after}
use Rattle.irr_setting.proofs.Numbers.{small128, at_place, product_small, product_read, sum_small, row_within, rotation_row, cross_cofactors, cofactor_within, determinant_of_row, determinant_small, quotient_only}
use Rattle.irr_setting.proofs.matrix.cofactors.Goals as goal

pub cross-requires-clause-left : goal.cross-requires-clause-left
cross-requires-clause-left c = row_within (10 ^ 4) (2 ^ 60) c.args.num.now c.requires (omega arith) 1 (omega arith) c.wide-y.result c.wide-y.ensures

pub cross-requires-clause-right : goal.cross-requires-clause-right
cross-requires-clause-right c = row_within (10 ^ 4) (2 ^ 60) c.args.num.now c.requires (omega arith) 2 (omega arith) c.wide-z.result c.wide-z.ensures

pub cross-requires-2-clause-left : goal.cross-requires-2-clause-left
cross-requires-2-clause-left c = row_within (10 ^ 4) (2 ^ 60) c.args.num.now c.requires (omega arith) 2 (omega arith) c.wide-z.result c.wide-z.ensures

pub cross-requires-2-clause-right : goal.cross-requires-2-clause-right
cross-requires-2-clause-right c = row_within (10 ^ 4) (2 ^ 60) c.args.num.now c.requires (omega arith) 0 (omega arith) c.wide-x.result c.wide-x.ensures

pub cross-requires-3-clause-left : goal.cross-requires-3-clause-left
cross-requires-3-clause-left c = row_within (10 ^ 4) (2 ^ 60) c.args.num.now c.requires (omega arith) 0 (omega arith) c.wide-x.result c.wide-x.ensures

pub cross-requires-3-clause-right : goal.cross-requires-3-clause-right
cross-requires-3-clause-right c = row_within (10 ^ 4) (2 ^ 60) c.args.num.now c.requires (omega arith) 1 (omega arith) c.wide-y.result c.wide-y.ensures

row : (c : goal.After-cross-3) → (i : Fin 3) (k : ℕ) → to_nat i ≡ k → (r : List ℤ) → ((j : Fin 3) → entry r j ≡ entry (get_or c.args.num.now k []) j) → (j : Fin 3) → entry r j ≡ (rotation_of c.args.num.now).at i j
row c i k e r h = rotation_row c.args.num.now i k e r h

pub returns-clause-value : goal.returns-clause-value
unfolding rotation_of to_nat
returns-clause-value c = each_of_three (λ i. (j : Fin 3) → (rotation_of (c.cross.result ∷ c.cross-2.result ∷ c.cross-3.result ∷ [])).at i j ≡ cofactor (rotation_of c.args.num.now) i j)
    (cross_cofactors (rotation_of c.args.num.now) first c.wide-y.result c.wide-z.result c.cross.result (row c (next first) 1 refl c.wide-y.result c.wide-y.ensures) (row c (next (next first)) 2 refl c.wide-z.result c.wide-z.ensures)
    c.cross.ensures.x c.cross.ensures.y c.cross.ensures.z)
    (cross_cofactors (rotation_of c.args.num.now) (next first) c.wide-z.result c.wide-x.result c.cross-2.result (row c (next (next first)) 2 refl c.wide-z.result c.wide-z.ensures) (row c first 0 refl c.wide-x.result c.wide-x.ensures)
    c.cross-2.ensures.x c.cross-2.ensures.y c.cross-2.ensures.z)
    (cross_cofactors (rotation_of c.args.num.now) (next (next first)) c.wide-x.result c.wide-y.result c.cross-3.result (row c first 0 refl c.wide-x.result c.wide-x.ensures) (row c (next first) 1 refl c.wide-y.result c.wide-y.ensures)
    c.cross-3.ensures.x c.cross-3.ensures.y c.cross-3.ensures.z)

pub returns-clause-small : goal.returns-clause-small
returns-clause-small c = λ i j. subst (λ a. unsigned_abs a ≤ 2 ^ 60) (sym (returns-clause-value c i j)) (cofactor_within (rotation_of c.args.num.now) c.requires i j)
