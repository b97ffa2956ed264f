use Rattle.std.proofs.Common.{◌≡◌, sym, ◌∙◌, ap, ap₂, subst, ◌≤◌, ℤ, ◌*ℤ◌, unsigned_abs, FitsSigned, to_z, of_z, arith}
use Rattle.std.proofs.lemmas.Int.{to_z-of_z}
use Rattle.std.proofs.lemmas.Int.{fits_signed_from_abs}
use Rattle.std.specs.Int.{w16, w64}
use Rattle.irr_seitz.proofs.Sizes.{abs-mul}
use Rattle.irr_seitz.proofs.rotation.inverse_at.Goals as goal

small : (d m : ℤ) → unsigned_abs d ≤ 1 → unsigned_abs m ≤ 162 → unsigned_abs (d *ℤ m) ≤ 162
small d m h k = abs-mul d m 1 162 h k

read : (d m : ℤ) → FitsSigned w64 d → FitsSigned w64 m → unsigned_abs d ≤ 1 → unsigned_abs m ≤ 162 → to_z w64 (of_z w64 (to_z w64 (of_z w64 d) *ℤ to_z w64 (of_z w64 m))) ≡ d *ℤ m
read d m f g h k = ap (λ a. to_z w64 (of_z w64 a)) (ap₂ ◌*ℤ◌ (to_z-of_z w64 d f) (to_z-of_z w64 m g)) ∙ to_z-of_z w64 (d *ℤ m) (fits_signed_from_abs w64 (d *ℤ m) (let s = small d m h k in omega arith))

narrow : (d m : ℤ) → unsigned_abs d ≤ 1 → unsigned_abs m ≤ 162 → FitsSigned w16 (d *ℤ m)
narrow d m h k = fits_signed_from_abs w16 (d *ℤ m) (let s = small d m h k in omega arith)

pub overflow_cast-result : goal.overflow_cast-result
overflow_cast-result c = subst (FitsSigned w16) (sym (read c.args.det c.cofactor.result c.ranges.det (record { sfits = c.cofactor.type_inv }) c.requires.det c.cofactor.ensures.small))
    (narrow c.args.det c.cofactor.result c.requires.det c.cofactor.ensures.small)

whole : (d m : ℤ) → FitsSigned w64 d → FitsSigned w64 m → unsigned_abs d ≤ 1 → unsigned_abs m ≤ 162
    → to_z w16 (of_z w16 (to_z w64 (of_z w64 (to_z w64 (of_z w64 d) *ℤ to_z w64 (of_z w64 m))))) ≡ d *ℤ m
whole d m f g h k = ap (λ a. to_z w16 (of_z w16 a)) (read d m f g h k) ∙ to_z-of_z w16 (d *ℤ m) (narrow d m h k)

pub returns-clause-value : goal.returns-clause-value
returns-clause-value c = whole c.args.det c.cofactor.result c.ranges.det (record { sfits = c.cofactor.type_inv }) c.requires.det c.cofactor.ensures.small
    ∙ ap (λ m. c.args.det *ℤ m) c.cofactor.ensures.value

pub returns-clause-small : goal.returns-clause-small
returns-clause-small c = subst (λ a. unsigned_abs a ≤ 162) (sym (whole c.args.det c.cofactor.result c.ranges.det (record { sfits = c.cofactor.type_inv }) c.requires.det c.cofactor.ensures.small))
    (small c.args.det c.cofactor.result c.requires.det c.cofactor.ensures.small)
