use Rattle.std.proofs.Common.{◌≡◌, sym, refl, ◌∙◌, ap, ap₂, subst, rules, ℕ, ◌<◌, ◌≤◌, ◌^◌, ◌*◌, ◌+◌, ◌+ℤ◌, ◌*ℤ◌, ◌-ℤ◌, pos, [], ◌∷◌, List, ℤ, unsigned_abs, get_or, FitsSigned, to_z, of_z, arith, lit<}
use Rattle.std.specs.Int.{w16, w64, w128}
use Rattle.std.specs.Int.RustNames.{int_div, int_rem}
use Rattle.std.proofs.lemmas.Int.{ints, to_z-of_z, fits_signed_from_abs}
use Rattle.irr_algebra.specs.Fin.{Fin, to_nat}
use Rattle.irr_algebra.specs.Fin.Fin.{first, next}
use Rattle.irr_algebra.specs.Matrix.{◌·◌}
use Rattle.irr_algebra.proofs.Indices.{to_nat-lt}
use Rattle.irr_number.specs.Integers.{integers}
use Rattle.irr_rational.specs.Ratio.{entry}
use Rattle.irr_rat.proofs.Vectors.{each_of_three}
use Rattle.irr_seitz.specs.Rotation.{rotation_of, IsWithin}
use Rattle.irr_seitz.proofs.Rotations.{within_at}
use Rattle.irr_seitz.proofs.Sizes.{abs-add, abs-sub, abs-mul, weighted_sum}
use Rattle.irr_kvec.proofs.Products.{at_first, at_second, at_third}
use Rattle.irr_setting.specs.Determinant.{row_dot, cross_at, column_dot, determinant_in, cofactor, after, adjugate}
use Rattle.irr_setting.proofs.Numbers.{small128, at_place, product_small, product_read, sum_small, row_within, rotation_row, cross_cofactors, cofactor_within, determinant_of_row, determinant_small, quotient_only, quotient_read, read_equation, equation_read, turned_row}
use Rattle.irr_setting.proofs.images.rotation.Goals as goal

pub turned-requires-clause-row : goal.turned-requires-clause-row
turned-requires-clause-row c = row_within (10 ^ 4) (2 ^ 40) c.args.num.now c.requires.basis (omega arith) 0 (omega arith) c.wide.result c.wide.ensures

pub returns-in_err-quotient_row-clause-none : goal.returns-in_err-quotient_row-clause-none
unfolding to_nat
returns-in_err-quotient_row-clause-none c = λ _ F q. c.in_err-quotient_row.ensures.none refl (λ j. F.at first j) (λ j. (
  ap (λ d. d *ℤ F.at first j) (to_z-of_z w128 c.determinant-det.result (record { sfits = c.determinant-det.type_inv }) ∙ c.determinant-det.ensures.value) ∙ (q first j).0
      ∙ sym (turned_row c.args.num.now c.args.rot.now first c.wide.result c.turned.result c.cofactors-cofactors.result (rotation_row c.args.num.now first 0 refl c.wide.result c.wide.ensures) c.turned.ensures.value c.cofactors-cofactors.ensures.value j),
  (q first j).1,
))

pub turned-requires-2-clause-row : goal.turned-requires-2-clause-row
turned-requires-2-clause-row c = row_within (10 ^ 4) (2 ^ 40) c.args.num.now c.requires.basis (omega arith) 1 (omega arith) c.wide-2.result c.wide-2.ensures

pub returns-in_err-quotient_row-2-clause-none : goal.returns-in_err-quotient_row-2-clause-none
unfolding to_nat
returns-in_err-quotient_row-2-clause-none c = λ _ F q. c.in_err-quotient_row-2.ensures.none refl (λ j. F.at (next first) j) (λ j. (
  ap (λ d. d *ℤ F.at (next first) j) (to_z-of_z w128 c.determinant-det.result (record { sfits = c.determinant-det.type_inv }) ∙ c.determinant-det.ensures.value) ∙ (q (next first) j).0
      ∙ sym (turned_row c.args.num.now c.args.rot.now (next first) c.wide-2.result c.turned-2.result c.cofactors-cofactors.result (rotation_row c.args.num.now (next first) 1 refl c.wide-2.result c.wide-2.ensures) c.turned-2.ensures.value c.cofactors-cofactors.ensures.value j),
  (q (next first) j).1,
))

pub turned-requires-3-clause-row : goal.turned-requires-3-clause-row
turned-requires-3-clause-row c = row_within (10 ^ 4) (2 ^ 40) c.args.num.now c.requires.basis (omega arith) 2 (omega arith) c.wide-3.result c.wide-3.ensures

pub returns-in_err-quotient_row-3-clause-none : goal.returns-in_err-quotient_row-3-clause-none
unfolding to_nat
returns-in_err-quotient_row-3-clause-none c = λ _ F q. c.in_err-quotient_row-3.ensures.none refl (λ j. F.at (next (next first)) j) (λ j. (
  ap (λ d. d *ℤ F.at (next (next first)) j) (to_z-of_z w128 c.determinant-det.result (record { sfits = c.determinant-det.type_inv }) ∙ c.determinant-det.ensures.value) ∙ (q (next (next first)) j).0
      ∙ sym (turned_row c.args.num.now c.args.rot.now (next (next first)) c.wide-3.result c.turned-3.result c.cofactors-cofactors.result (rotation_row c.args.num.now (next (next first)) 2 refl c.wide-3.result c.wide-3.ensures) c.turned-3.ensures.value c.cofactors-cofactors.ensures.value j),
  (q (next (next first)) j).1,
))

pub returns-clause-some : goal.returns-clause-some
unfolding rotation_of to_nat
returns-clause-some c = each_of_three (λ i. (j : Fin 3) → (determinant_in integers (rotation_of c.args.num.now) *ℤ (rotation_of (c.in_ok-quotient_row.field-0 ∷ c.in_ok-quotient_row-2.field-0 ∷ c.in_ok-quotient_row-3.field-0 ∷ [])).at i j
    ≡ ((rotation_of c.args.num.now · rotation_of c.args.rot.now) · adjugate (rotation_of c.args.num.now)).at i j)
    × (unsigned_abs ((rotation_of (c.in_ok-quotient_row.field-0 ∷ c.in_ok-quotient_row-2.field-0 ∷ c.in_ok-quotient_row-3.field-0 ∷ [])).at i j) ≤ 9))
    (λ j. (
      ap (λ d. d *ℤ entry c.in_ok-quotient_row.field-0 j) (sym (to_z-of_z w128 c.determinant-det.result (record { sfits = c.determinant-det.type_inv }) ∙ c.determinant-det.ensures.value)) ∙ (c.in_ok-quotient_row.ensures.some j).0
          ∙ turned_row c.args.num.now c.args.rot.now first c.wide.result c.turned.result c.cofactors-cofactors.result (rotation_row c.args.num.now first 0 refl c.wide.result c.wide.ensures) c.turned.ensures.value c.cofactors-cofactors.ensures.value j,
      (c.in_ok-quotient_row.ensures.some j).1,
    ))
    (λ j. (
      ap (λ d. d *ℤ entry c.in_ok-quotient_row-2.field-0 j) (sym (to_z-of_z w128 c.determinant-det.result (record { sfits = c.determinant-det.type_inv }) ∙ c.determinant-det.ensures.value)) ∙ (c.in_ok-quotient_row-2.ensures.some j).0
          ∙ turned_row c.args.num.now c.args.rot.now (next first) c.wide-2.result c.turned-2.result c.cofactors-cofactors.result (rotation_row c.args.num.now (next first) 1 refl c.wide-2.result c.wide-2.ensures) c.turned-2.ensures.value c.cofactors-cofactors.ensures.value j,
      (c.in_ok-quotient_row-2.ensures.some j).1,
    ))
    (λ j. (
      ap (λ d. d *ℤ entry c.in_ok-quotient_row-3.field-0 j) (sym (to_z-of_z w128 c.determinant-det.result (record { sfits = c.determinant-det.type_inv }) ∙ c.determinant-det.ensures.value)) ∙ (c.in_ok-quotient_row-3.ensures.some j).0
          ∙ turned_row c.args.num.now c.args.rot.now (next (next first)) c.wide-3.result c.turned-3.result c.cofactors-cofactors.result (rotation_row c.args.num.now (next (next first)) 2 refl c.wide-3.result c.wide-3.ensures) c.turned-3.ensures.value c.cofactors-cofactors.ensures.value j,
      (c.in_ok-quotient_row-3.ensures.some j).1,
    ))
