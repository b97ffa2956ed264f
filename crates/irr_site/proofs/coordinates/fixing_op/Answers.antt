-- The difference fits.
use Rattle.std.proofs.Common.{◌≡◌, sym, ◌∙◌, ap, refl, ℕ, ◌*◌, ◌+◌, ◌≤◌, ◌<◌, ◌^◌, arith}
use native.Mathlib.Nat as Nat
use Rattle.irr_algebra.specs.Matrix.{◌⊖◌}
use Rattle.irr_rat.specs.VectorMeaning.{vector}
use Rattle.irr_seitz.specs.OperationMeaning.{operation}
use Rattle.irr_lattice.proofs.Translations.{operation-ext}
use Rattle.irr_site.specs.Points.{fixing}
use Rattle.irr_site.proofs.Bounds.{fits_difference}
use Rattle.irr_site.proofs.SiteGroups.{fixing-rotation, fixing-vector}
use Rattle.irr_site.proofs.coordinates.fixing_op.Goals as goal

small : (b d : ℕ) → b ≤ 1000 → d ≤ 1000 → b * d < 2 ^ 32
small b d p q = let l : b * d ≤ 1000 * 1000 = Nat.mul-le-mul p q in omega (arith, l)

pub sub-shift-requires : goal.sub-shift-requires
sub-shift-requires c = fits_difference c.args.x.now.num c.turned.result.num c.args.x.now.den c.turned.result.den
    c.args.x.now.lowest.positive c.turned.result.lowest.positive 1000000 27000000 c.requires.point.numerators
    c.turned.ensures.small
    (small c.args.x.now.den c.turned.result.den c.requires.point.denominator c.turned.ensures.denominator)
    (let p = c.requires.point.denominator in let q = c.turned.ensures.denominator in omega (arith, p, q))

pub returns : goal.returns
returns c = operation-ext _ (fixing (operation c.args.op.now) (vector c.args.x.now))
    (sym (fixing-rotation (operation c.args.op.now) (vector c.args.x.now)))
    (c.sub-shift.ensures ∙ ap (λ v. vector c.args.x.now ⊖ v) c.turned.ensures.vector
    ∙ sym (fixing-vector (operation c.args.op.now) (vector c.args.x.now)))
