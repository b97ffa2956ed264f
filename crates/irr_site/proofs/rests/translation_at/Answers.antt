-- The sum of both parts.
use Rattle.std.proofs.Common.{◌≡◌, sym, ◌∙◌, ap₂, subst, ℕ, ◌*◌, ◌+◌, ◌≤◌, ◌<◌, ◌^◌, unsigned_abs, arith}
use native.Mathlib.Nat as Nat
use Rattle.irr_algebra.specs.Fin.{Fin}
use Rattle.irr_algebra.specs.Matrix.{◌⊕◌}
use Rattle.irr_rational.specs.Ratio.{entry}
use Rattle.irr_rat.specs.declared.vec3.Vec3.{Vec3}
use Rattle.irr_site.proofs.Bounds.{fits_sum, sum_within}
use Rattle.irr_site.proofs.rests.translation_at.Goals as goal

small : (b d : ℕ) → b ≤ 100000 → d ≤ 1000 → b * d < 2 ^ 32
small b d p q = let l : b * d ≤ 100000 * 1000 = Nat.mul-le-mul p q in omega (arith, l)

room : (b d : ℕ) → b ≤ 100000 → d ≤ 1000 → 2900000 * d + 54000000000 * b < 2 ^ 63
room b d p q = omega (arith, p, q)

left : (v : Vec3) → v.den ≤ 100000 → ((i : Fin 3) → unsigned_abs (entry v.num i) ≤ 29 * v.den) → (i : Fin 3) → unsigned_abs (entry v.num i) ≤ 2900000
left v d h i = let a = h i in omega (arith, a, d)

right : (v : Vec3) → v.den ≤ 1000 → ((i : Fin 3) → unsigned_abs (entry v.num i) ≤ 54000000 * v.den) → (i : Fin 3) → unsigned_abs (entry v.num i) ≤ 54000000000
right v d h i = let a = h i in omega (arith, a, d)

pub add-requires : goal.add-requires
add-requires c =
    let a = c.moved_shift.result in
    let b = c.turned_difference.result in
    fits_sum a.num b.num a.den b.den a.lowest.positive b.lowest.positive 2900000 54000000000
    (left a c.moved_shift.ensures.denominator c.moved_shift.ensures.small)
    (right b c.turned_difference.ensures.denominator c.turned_difference.ensures.small)
    (small a.den b.den c.moved_shift.ensures.denominator c.turned_difference.ensures.denominator)
    (room a.den b.den c.moved_shift.ensures.denominator c.turned_difference.ensures.denominator)

pub returns-clause-small : goal.returns-clause-small
returns-clause-small c =
    let a = c.moved_shift.result in
    let b = c.turned_difference.result in
    sum_within a.num b.num a.den b.den a.lowest.positive b.lowest.positive 29 54000000 c.moved_shift.ensures.small
    c.turned_difference.ensures.small c.add.result.num c.add.result.den c.add.result.lowest c.add.ensures

pub returns-clause-vector : goal.returns-clause-vector
returns-clause-vector c d = c.add.ensures ∙ ap₂ ◌⊕◌ (c.moved_shift.ensures.vector d) (c.turned_difference.ensures.vector d)
