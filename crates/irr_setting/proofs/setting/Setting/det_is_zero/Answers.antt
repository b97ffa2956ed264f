use Rattle.std.proofs.Common.{◌≡◌, sym, refl, ◌∙◌, ap, ap₂, subst, rules, ℕ, ◌<◌, ◌≤◌, ◌^◌, ◌*◌, ◌+◌, ◌+ℤ◌, ◌*ℤ◌, ◌-ℤ◌, pos, [], ◌∷◌, List, ℤ, unsigned_abs, get_or, FitsSigned, to_z, of_z, arith, lit<}
use Rattle.std.specs.Int.{w16, w64, w128}
use Rattle.std.specs.Int.RustNames.{int_div, int_rem}
use Rattle.std.proofs.lemmas.Int.{to_z-of_z, fits_signed_from_abs}
use Rattle.irr_algebra.specs.Fin.{Fin, to_nat}
use Rattle.irr_algebra.specs.Fin.Fin.{first, next}
use Rattle.irr_rational.specs.Ratio.{entry}
use Rattle.irr_rat.proofs.Vectors.{each_of_three}
use Rattle.irr_seitz.specs.Rotation.{rotation_of, IsWithin}
use Rattle.irr_seitz.proofs.Rotations.{within_at}
use Rattle.irr_seitz.proofs.Sizes.{abs-add, abs-sub, abs-mul, weighted_sum}
use Rattle.irr_kvec.proofs.Products.{at_first, at_second, at_third}
use Rattle.std.proofs.lemmas.Bool.{eqb-true, eq-eqb}
use Rattle.irr_setting.proofs.Bases.{singular_numerators, numerators_singular}
use Rattle.irr_setting.specs.Determinant.{row_dot, cross_at, column_dot, determinant_in, cofactor, after}
use Rattle.irr_setting.proofs.Numbers.{small128, at_place, product_small, product_read, sum_small, row_within, rotation_row, cross_cofactors, cofactor_within, determinant_of_row, determinant_small, quotient_only}
use Rattle.irr_setting.proofs.setting.Setting.det_is_zero.Goals as goal

pub returns : goal.returns
returns c = (
  λ t. numerators_singular c.args.self.now.num c.args.self.now.den c.args.self.now.positive (sym c.determinant.ensures.value ∙ zero_of c.determinant.result (record { sfits = c.determinant.type_inv }) (eqb-true (of_z w128 c.determinant.result) 0 t)),
  λ s. eq-eqb (of_z w128 c.determinant.result) 0 (ap (of_z w128) (c.determinant.ensures.value ∙ singular_numerators c.args.self.now.num c.args.self.now.den c.args.self.now.positive s)),
)
  where
    zero_of : (x : ℤ) → FitsSigned w128 x → of_z w128 x ≡ 0 → x ≡ pos 0
    zero_of x f e = sym (to_z-of_z w128 x f) ∙ ap (to_z w128) e
