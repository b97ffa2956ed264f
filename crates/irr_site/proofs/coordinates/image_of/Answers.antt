-- The sum fits.
use Rattle.std.proofs.Common.{◌≡◌, sym, ◌∙◌, ap, ap₂, subst, subst₂, ℕ, ◌*◌, ◌+◌, ◌≤◌, ◌<◌, ◌^◌, arith}
use native.Mathlib.Nat as Nat
use Rattle.irr_algebra.specs.Matrix.{◌⊕◌}
use Rattle.irr_orbit.proofs.Points.{image-parts}
use Rattle.irr_rat.specs.VectorMeaning.{vector}
use Rattle.irr_seitz.specs.OperationMeaning.{AreWithin, operation}
use Rattle.irr_site.proofs.Bounds.{fits_sum}
use Rattle.irr_site.proofs.coordinates.image_of.Goals as goal

-- denominators of at most 100,000 and 1,000
pub small_product : (b d : ℕ) → b ≤ 100000 → d ≤ 1000 → b * d < 2 ^ 32
small_product b d p q = let l : b * d ≤ 100000 * 1000 = Nat.mul-le-mul p q in omega (arith, l)

room : (b d : ℕ) → b ≤ 100000 → d ≤ 1000 → 100000 * d + 27000000 * b < 2 ^ 63
room b d p q = omega (arith, p, q)

pub add-requires : goal.add-requires
add-requires c =
    let b = subst (λ n. n ≤ 100000) (sym c.shift.ensures.denominator) c.requires.denominator in
    fits_sum c.shift.result.num c.turned.result.num c.shift.result.den c.turned.result.den c.shift.result.lowest.positive
    c.turned.result.lowest.positive 100000 27000000
    (subst (AreWithin 100000) (sym c.shift.ensures.numerators) c.requires.numerators) c.turned.ensures.small
    (small_product c.shift.result.den c.turned.result.den b c.turned.ensures.denominator)
    (room c.shift.result.den c.turned.result.den b c.turned.ensures.denominator)

pub returns : goal.returns
returns c = c.add.ensures ∙ ap₂ ◌⊕◌ c.shift.ensures.vector c.turned.ensures.vector
    ∙ sym (image-parts (operation c.args.op.now) (vector c.args.x.now))
