-- The exponent of a group of canonical form.
--   small_powers, some_return     what the search for it asks for
--   exponent_of                   the least number for which the rotations return is the exponent
use Rattle.std.proofs.Common.{◌≡◌, sym, ap, subst, ℕ, ◌<◌, ◌≤◌, List, length, get_or}
use Rattle.irr_algebra.specs.Matrix.{unit}
use Rattle.irr_number.specs.Integers.{integers}
use Rattle.irr_theory.specs.Extension.{matrix_power}
use Rattle.irr_space.specs.Operation.{Operation, Rotation}
use Rattle.irr_space.specs.SpaceGroup.{IsExponent}
use Rattle.irr_rat.specs.declared.vec3.Vec3.{Vec3}
use Rattle.irr_seitz.specs.Rotation.{IsWithin}
use Rattle.irr_seitz.specs.OperationMeaning.{operation}
use Rattle.irr_seitz.specs.declared.op.Op.{Op}
use Rattle.std.proofs.lemmas.List.{get_or_default}
use Rattle.irr_close.specs.Closing.{HasRotation}
use Rattle.irr_close.proofs.Bareness.{first_of}
use Rattle.irr_close.specs.Standing.{StandFor}
use Rattle.irr_close.specs.Canonical.{AreCanonical}
use Rattle.irr_close.specs.Exponent.{HaveSmallPowers, Return, IsLeastReturn}
use Rattle.irr_close.proofs.Members.{distinct_numbered, has_rotation}
use Rattle.irr_close.proofs.RotationGroups.{power_in, return_all}

module _ (ops : List Op) (cs : List Vec3) (form : AreCanonical ops cs) where
  pub small_powers : HaveSmallPowers ops
  small_powers i d l k = let t = power_in ops (distinct_numbered ops cs form) form.rotations d i l k in subst (IsWithin 9) (t.2 d)
      (form.within t.0 d t.1)

  pub some_return : (h : ℕ) × (0 < h) × (h ≤ 48) × Return ops h
  some_return = (length ops, form.nonempty, form.few, λ i d l. return_all ops (distinct_numbered ops cs form) form.rotations d i l)

  pub exponent_of : (n : ℕ) → IsLeastReturn ops n → IsExponent (StandFor ops cs) n
  exponent_of n h = record {
    positive = h.positive;
    power = λ g s. power_at g s;
    least = λ k p all. h.least k p
        (λ i d l. let t = has_rotation ops cs form (operation (get_or ops i d)).rotation
        (form_place i d l) in subst (λ (R : Rotation). matrix_power R k ≡ unit integers 3) t.2 (all t.0 t.1));
  }
    where
      power_at : (g : Operation) → StandFor ops cs g → matrix_power g.rotation n ≡ unit integers 3
      power_at g s = let d = first_of ops form.nonempty in subst (λ (R : Rotation). matrix_power R n ≡ unit integers 3) (sym (s.2 d).0)
          (h.power s.0 d s.1)

      form_place : (i : ℕ) (d : Op) → i < length ops → HasRotation ops (operation (get_or ops i d)).rotation
      form_place i d l = (i, l, λ f. ap (λ (x : Op). (operation x).rotation) (get_or_default ops i f d l))
