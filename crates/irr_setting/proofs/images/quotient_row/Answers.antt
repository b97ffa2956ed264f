use Rattle.std.proofs.Common.{◌≡◌, sym, refl, ◌∙◌, ap, ap₂, subst, rules, ℕ, ◌<◌, ◌≤◌, ◌^◌, ◌*◌, ◌+◌, ◌+ℤ◌, ◌*ℤ◌, ◌-ℤ◌, pos, [], ◌∷◌, List, ℤ, unsigned_abs, get_or, FitsSigned, to_z, of_z, arith, lit<}
use Rattle.std.specs.Int.{w16, w64, w128}
use Rattle.std.specs.Int.RustNames.{int_div, int_rem}
use Rattle.std.proofs.lemmas.Int.{ints, to_z-of_z, fits_signed_from_abs}
use Rattle.irr_algebra.specs.Fin.{Fin, to_nat}
use Rattle.irr_algebra.specs.Fin.Fin.{first, next}
use Rattle.irr_algebra.proofs.Indices.{to_nat-lt}
use Rattle.irr_number.specs.Integers.{integers}
use Rattle.irr_rational.specs.Ratio.{entry}
use Rattle.irr_rat.proofs.Vectors.{each_of_three}
use Rattle.irr_seitz.specs.Rotation.{rotation_of, IsWithin}
use Rattle.irr_seitz.proofs.Rotations.{within_at}
use Rattle.irr_seitz.proofs.Sizes.{abs-add, abs-sub, abs-mul, weighted_sum}
use Rattle.irr_kvec.proofs.Products.{at_first, at_second, at_third}
use Rattle.irr_setting.specs.Determinant.{row_dot, cross_at, column_dot, determinant_in, cofactor, after}
use Rattle.irr_setting.proofs.Numbers.{small128, at_place, product_small, product_read, sum_small, row_within, rotation_row, cross_cofactors, cofactor_within, determinant_of_row, determinant_small, quotient_only, quotient_read, read_equation, equation_read, turned_row, narrow_quotient}
use Rattle.irr_setting.proofs.images.quotient_row.Goals as goal

pub dot-requires-clause-right : goal.dot-requires-clause-right
dot-requires-clause-right c = row_within (2 ^ 60) (2 ^ 60) c.args.cofactors.now c.requires.cofactors (omega arith) 0 (omega arith) (get_or c.args.cofactors.now 0 []) (λ j. refl)

pub quotient-requires-clause-divisor : goal.quotient-requires-clause-divisor
quotient-requires-clause-divisor c = small128 c.args.divisor (2 ^ 60) c.ranges.divisor c.requires.divisor

pub returns-in_err-quotient-clause-none : goal.returns-in_err-quotient-clause-none
unfolding to_nat
returns-in_err-quotient-clause-none c = λ _ q h. c.in_err-quotient.ensures.none refl (q first) (h first).1
    (read_equation c.args.divisor (q first) c.dot.result (row_dot c.args.row.now (get_or c.args.cofactors.now 0 [])) c.ranges.divisor (record { sfits = c.dot.type_inv }) c.dot.ensures.value (h first).0)

pub dot-requires-2-clause-right : goal.dot-requires-2-clause-right
dot-requires-2-clause-right c = row_within (2 ^ 60) (2 ^ 60) c.args.cofactors.now c.requires.cofactors (omega arith) 1 (omega arith) (get_or c.args.cofactors.now 1 []) (λ j. refl)

pub quotient-requires-2-clause-divisor : goal.quotient-requires-2-clause-divisor
quotient-requires-2-clause-divisor c = small128 c.args.divisor (2 ^ 60) c.ranges.divisor c.requires.divisor

pub returns-in_err-quotient-2-clause-none : goal.returns-in_err-quotient-2-clause-none
unfolding to_nat
returns-in_err-quotient-2-clause-none c = λ _ q h. c.in_err-quotient-2.ensures.none refl (q (next first)) (h (next first)).1
    (read_equation c.args.divisor (q (next first)) c.dot-2.result (row_dot c.args.row.now (get_or c.args.cofactors.now 1 [])) c.ranges.divisor (record { sfits = c.dot-2.type_inv }) c.dot-2.ensures.value (h (next first)).0)

pub dot-requires-3-clause-right : goal.dot-requires-3-clause-right
dot-requires-3-clause-right c = row_within (2 ^ 60) (2 ^ 60) c.args.cofactors.now c.requires.cofactors (omega arith) 2 (omega arith) (get_or c.args.cofactors.now 2 []) (λ j. refl)

pub quotient-requires-3-clause-divisor : goal.quotient-requires-3-clause-divisor
quotient-requires-3-clause-divisor c = small128 c.args.divisor (2 ^ 60) c.ranges.divisor c.requires.divisor

pub returns-in_err-quotient-3-clause-none : goal.returns-in_err-quotient-3-clause-none
unfolding to_nat
returns-in_err-quotient-3-clause-none c = λ _ q h. c.in_err-quotient-3.ensures.none refl (q (next (next first))) (h (next (next first))).1
    (read_equation c.args.divisor (q (next (next first))) c.dot-3.result (row_dot c.args.row.now (get_or c.args.cofactors.now 2 [])) c.ranges.divisor (record { sfits = c.dot-3.type_inv }) c.dot-3.ensures.value (h (next (next first))).0)

pub returns-clause-some : goal.returns-clause-some
unfolding to_nat
returns-clause-some c = each_of_three (λ j. (c.args.divisor *ℤ entry (to_z w16 (of_z w16 c.in_ok-quotient.field-0) ∷ to_z w16 (of_z w16 c.in_ok-quotient-2.field-0) ∷ to_z w16 (of_z w16 c.in_ok-quotient-3.field-0) ∷ []) j
    ≡ row_dot c.args.row.now (get_or c.args.cofactors.now (to_nat j) []))
    × (unsigned_abs (entry (to_z w16 (of_z w16 c.in_ok-quotient.field-0) ∷ to_z w16 (of_z w16 c.in_ok-quotient-2.field-0) ∷ to_z w16 (of_z w16 c.in_ok-quotient-3.field-0) ∷ []) j) ≤ 9))
    (narrow_quotient c.args.divisor c.in_ok-quotient.field-0 c.dot.result (row_dot c.args.row.now (get_or c.args.cofactors.now 0 [])) c.ranges.divisor (record { sfits = c.dot.type_inv }) c.dot.ensures.value c.in_ok-quotient.ensures.some)
    (narrow_quotient c.args.divisor c.in_ok-quotient-2.field-0 c.dot-2.result (row_dot c.args.row.now (get_or c.args.cofactors.now 1 [])) c.ranges.divisor (record { sfits = c.dot-2.type_inv }) c.dot-2.ensures.value c.in_ok-quotient-2.ensures.some)
    (narrow_quotient c.args.divisor c.in_ok-quotient-3.field-0 c.dot-3.result (row_dot c.args.row.now (get_or c.args.cofactors.now 2 [])) c.ranges.divisor (record { sfits = c.dot-3.type_inv }) c.dot-3.ensures.value c.in_ok-quotient-3.ensures.some)
