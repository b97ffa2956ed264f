-- Translations of a group have small denominators.
--   translation_denominator     at most 32
--   phase_numbers               so the numerators of a translation at a site are small
use Rattle.std.proofs.Common.{◌≡◌, sym, subst, ℕ, ◌*◌, ◌<◌, ◌≤◌, ◌^◌, unsigned_abs, length, arith}
use native.Mathlib.Nat as Nat
use Rattle.irr_algebra.specs.Fin.{Fin}
use Rattle.irr_algebra.specs.Matrix.{◌⊖◌}
use Rattle.irr_algebra.specs.Ring.{whole}
use Rattle.irr_rational.specs.Rational.{rationals, IsWhole}
use Rattle.irr_rational.specs.Ratio.{entry}
use Rattle.irr_lattice.proofs.Vectors.{component-scale}
use Rattle.irr_space.specs.SpaceGroup.{IsTranslation}
use Rattle.irr_rat.specs.VectorMeaning.{vector}
use Rattle.irr_rat.specs.declared.vec3.Vec3.{Vec3}
use Rattle.irr_seitz.specs.OperationMeaning.{AreWithin}
use Rattle.irr_close.specs.StandsFor.{stands_for}
use Rattle.irr_close.specs.declared.group.Group.{Group}
use Rattle.irr_close.proofs.Closure.{whole_flipped}
use Rattle.irr_close.proofs.Denominators.{divides_of_over, over_modulo}
use Rattle.irr_close.proofs.SpaceGroups.{space_group}
use Rattle.irr_little.proofs.Spaces.{centrings_of, form_of}

pub translation_denominator : (group : Group) (v : Vec3) → IsTranslation (stands_for group) (vector v) → v.den ≤ 32
translation_denominator group v m =
    let n = length group.centrings.items in
    let list = (space_group group).centrings in
    let at = ((centrings_of group).translations (vector v)).0 m in
    let c = at.centring in
    let over = over_modulo n (vector c) (vector v)
    (λ i. subst IsWhole (component-scale (whole rationals n) (vector c) i) (list.multiple c at.member i))
    (whole_flipped (vector v) (vector c) at.is_whole) in
    Nat.le_trans (Nat.le_of_dvd (form_of group).has_centring (divides_of_over v.num v.den n v.lowest over)) list.few

pub phase_numbers : (group : Group) (v : Vec3) → IsTranslation (stands_for group) (vector v)
    → ((i : Fin 3) → unsigned_abs (entry v.num i) ≤ 54000029 * v.den) → AreWithin (10 ^ 12) v.num
phase_numbers group v m small i =
    let a = small i in
    let b = translation_denominator group v m in
    let d : 54000029 * v.den ≤ 54000029 * 32 = Nat.mul-le-mul_left 54000029 b in
    omega (arith, a, d)
