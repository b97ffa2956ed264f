-- The difference over the point's denominator.
use Rattle.std.proofs.Common.{◌≡◌, sym, ◌∙◌, ap, ap₂, subst, ℕ, ◌*◌, ◌+◌, ◌≤◌, ◌<◌, ◌^◌, unsigned_abs, length, get_or, arith}
use native.Mathlib.Nat as Nat
use Rattle.irr_algebra.specs.Fin.{Fin}
use Rattle.irr_algebra.specs.Matrix.{◌·◌, ◌⊖◌}
use Rattle.irr_rational.specs.Integer.{whole_matrix}
use Rattle.irr_rational.specs.Rational.{rationals}
use Rattle.irr_rational.specs.Ratio.{entry}
use Rattle.irr_rat.specs.VectorMeaning.{vector}
use Rattle.irr_rat.specs.declared.vec3.Vec3.{Vec3}
use Rattle.irr_seitz.specs.OperationMeaning.{AreWithin, operation}
use Rattle.irr_seitz.specs.declared.op.Op.{Op}
use Rattle.irr_close.proofs.Denominators.{IsOver, divides_of_over, over-sub, over_of_divides}
use Rattle.irr_little.proofs.Shifts.{entries_at}
use Rattle.irr_site.proofs.Bounds.{difference_within, fits_difference}
use Rattle.irr_site.proofs.OperationLists.{in_length, read_at}
use Rattle.irr_site.proofs.rests.turned_difference.Goals as goal

pub turned-requires-clause-entries : goal.turned-requires-clause-entries
turned-requires-clause-entries c = entries_at c.ops-ops.result.now c.args.group.now.centrings.items c.ops-ops.ensures.canonical
    c.args.op c.index-ops-op.result
    (in_length c.ops-ops.result.now c.args.group.now.ops.items c.ops-ops.ensures.list c.args.op c.requires.left) c.index-ops-op.is

pub turned-requires-2-clause-entries : goal.turned-requires-2-clause-entries
turned-requires-2-clause-entries c = entries_at c.ops-ops.result.now c.args.group.now.centrings.items c.ops-ops.ensures.canonical
    c.args.other c.index-ops-other.result
    (in_length c.ops-ops.result.now c.args.group.now.ops.items c.ops-ops.ensures.list c.args.other c.requires.right) c.index-ops-other.is

small : (b d : ℕ) → b ≤ 1000 → d ≤ 1000 → b * d < 2 ^ 32
small b d p q = let l : b * d ≤ 1000 * 1000 = Nat.mul-le-mul p q in omega (arith, l)

room : (b d : ℕ) → b ≤ 1000 → d ≤ 1000 → 27000000 * d + 27000000 * b < 2 ^ 63
room b d p q = omega (arith, p, q)

pub sub-requires : goal.sub-requires
sub-requires c = fits_difference c.turned.result.num c.turned-2.result.num c.turned.result.den c.turned-2.result.den
    c.turned.result.lowest.positive c.turned-2.result.lowest.positive 27000000 27000000 c.turned.ensures.small c.turned-2.ensures.small
    (small c.turned.result.den c.turned-2.result.den c.turned.ensures.denominator c.turned-2.ensures.denominator)
    (room c.turned.result.den c.turned-2.result.den c.turned.ensures.denominator c.turned-2.ensures.denominator)

-- a number that is at most m is at most m d
times_positive : (v : Vec3) → AreWithin 27000000 v.num → (i : Fin 3) → unsigned_abs (entry v.num i) ≤ 27000000 * v.den
times_positive v h i =
    let a = h i in
    let b : 27000000 * 1 ≤ 27000000 * v.den = Nat.mul-le-mul_left 27000000 v.lowest.positive in
    omega (arith, a, b)

pub returns-clause-small : goal.returns-clause-small
returns-clause-small c = difference_within c.turned.result.num c.turned-2.result.num c.turned.result.den c.turned-2.result.den
    c.turned.result.lowest.positive c.turned-2.result.lowest.positive 27000000 27000000
    (times_positive c.turned.result c.turned.ensures.small) (times_positive c.turned-2.result c.turned-2.ensures.small)
    c.sub.result.num c.sub.result.den c.sub.result.lowest c.sub.ensures

pub returns-clause-denominator : goal.returns-clause-denominator
returns-clause-denominator c =
    let x = c.args.x.now in
    let a = c.turned.result in
    let b = c.turned-2.result in
    Nat.le_trans (Nat.le_of_dvd x.lowest.positive (divides_of_over c.sub.result.num c.sub.result.den x.den c.sub.result.lowest
    (subst (IsOver x.den) (sym c.sub.ensures) (over-sub x.den (vector a) (vector b)
    (over_of_divides a.num a.den x.den a.lowest.positive c.turned.ensures.divides)
    (over_of_divides b.num b.den x.den b.lowest.positive c.turned-2.ensures.divides))))) c.requires.point.denominator

pub returns-clause-vector : goal.returns-clause-vector
returns-clause-vector c d =
    let xs = c.ops-ops.result.now in
    let group = c.args.group.now in
    c.sub.ensures ∙ ap₂ ◌⊖◌ c.turned.ensures.vector c.turned-2.ensures.vector
    ∙ ap₂ (λ (o p : Op). (whole_matrix rationals (operation o).rotation · vector c.args.x.now) ⊖ (whole_matrix rationals (operation p).rotation · vector c.args.x.now))
    (read_at xs group.ops.items c.ops-ops.ensures.list c.args.op c.index-ops-op.result d c.requires.left c.index-ops-op.is)
    (read_at xs group.ops.items c.ops-ops.ensures.list c.args.other c.index-ops-other.result d c.requires.right c.index-ops-other.is)
