-- The products are read back, and their sum fits.
use Rattle.std.proofs.Common.{◌≡◌, ◌∙◌, ◌+◌, ap, ap₂, ℤ, pos, ◌+ℤ◌, ◌*ℤ◌, ◌≤◌, ◌^◌, unsigned_abs, FitsSigned, to_z, of_z, arith}
use Rattle.std.specs.Int.{w64}
use Rattle.std.proofs.lemmas.Int.{to_z-of_z, fits_signed_from_abs}
use Rattle.irr_seitz.proofs.Sizes.{abs-add}
use Rattle.irr_product.proofs.sums.numerator.Goals as goal

total : (r s : ℤ) → FitsSigned w64 r → FitsSigned w64 s → unsigned_abs r ≤ 10 ^ 11 → unsigned_abs s ≤ 10 ^ 11
    → to_z w64 (of_z w64 (to_z w64 (of_z w64 r) +ℤ to_z w64 (of_z w64 s))) ≡ r +ℤ s
total r s f g a b = ap (λ z. to_z w64 (of_z w64 z)) (ap₂ ◌+ℤ◌ (to_z-of_z w64 r f) (to_z-of_z w64 s g))
    ∙ to_z-of_z w64 (r +ℤ s) (fits_signed_from_abs w64 (r +ℤ s)
    (let l : unsigned_abs (r +ℤ s) ≤ 10 ^ 11 + 10 ^ 11 = abs-add r s (10 ^ 11) (10 ^ 11) a b in omega arith))

pub returns-clause-value : goal.returns-clause-value
returns-clause-value c = total c.multiple.result c.multiple-2.result (record { sfits = c.multiple.type_inv })
    (record { sfits = c.multiple-2.type_inv }) c.multiple.ensures.small c.multiple-2.ensures.small
    ∙ ap₂ ◌+ℤ◌ (c.multiple.ensures.value ∙ ap (λ v. v *ℤ pos c.args.p) (to_z-of_z w64 c.args.x c.ranges.x))
    (c.multiple-2.ensures.value ∙ ap (λ v. v *ℤ pos c.args.q) (to_z-of_z w64 c.args.y c.ranges.y))
