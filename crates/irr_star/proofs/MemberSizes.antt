-- Sizes of the operations of a group.
--   over_member           their vectors are over each common denominator
--   within_member         no entry of their rotations is above 9
--   members_lcm           two of them have a common denominator of at most 100,000
--   member_denominator    and one as well
--   cell_sizes            components of a vector in the cell
--   same_member, member_same    equal groups have the same operations
use Rattle.std.proofs.Common.{◌≡◌, sym, subst, ℕ, ◌*◌, ◌≤◌, get_or, unsigned_abs}
use Rattle.std.proofs.Math.Logic.{∥∥₁_elim}
use Rattle.std.specs.Int.{◌∣◌}
use native.Mathlib.Nat as Nat
use Rattle.irr_algebra.specs.Fin.{Fin}
use Rattle.irr_algebra.specs.Matrix.{◌⊖◌}
use Rattle.irr_rational.specs.Ratio.{entry}
use Rattle.irr_space.specs.Operation.{Operation, Vector}
use Rattle.irr_space.specs.CanonicalOperation.{IsInCell}
use Rattle.irr_cocycle.proofs.Operations.{sub-add}
use Rattle.irr_rat.specs.Lcm.{IsLcm}
use Rattle.irr_rat.specs.VectorMeaning.{vector, vector_of}
use Rattle.irr_rat.specs.declared.vec3.Vec3.{Vec3}
use Rattle.irr_seitz.specs.Rotation.{IsWithin}
use Rattle.irr_seitz.specs.OperationMeaning.{operation}
use Rattle.irr_seitz.specs.declared.op.Op.{Op}
use Rattle.irr_close.specs.Centring.{AreOverOne}
use Rattle.irr_close.specs.Standing.{StandFor}
use Rattle.irr_close.specs.StandsFor.{stands_for, IsSameGroup}
use Rattle.irr_close.specs.declared.group.Group.{Group}
use Rattle.irr_close.proofs.Bareness.{first_of}
use Rattle.irr_close.proofs.Denominators.{IsOver, divides_of_over, over_of_divides, over-add, over-sub, over_whole}
use Rattle.irr_close.proofs.Denominators.{small_numerators}
use Rattle.irr_close.proofs.Lattice.{divisor_small, lcm_small}
use Rattle.irr_close.proofs.Untruncated.{stable_le}
use Rattle.irr_little.proofs.Spaces.{form_of}

-- v is w, c and a whole vector
together : (D : ℕ) (v w : Vector) → IsOver D w → IsOver D (v ⊖ w) → IsOver D v
together D v w h k = subst (IsOver D) (sub-add v w) (over-add D (v ⊖ w) w k h)

module _ (group : Group) where
  over_common : {A : Type 0} → (AreOverOne group.ops.items group.centrings.items → A) → ¬ (¬ A)
  over_common f denied = ∥∥₁_elim (form_of group).denominator (λ a b. absurd a) (λ t. denied (f t))

  pub over_member : (t : AreOverOne group.ops.items group.centrings.items) (g : Operation) → stands_for group g
      → IsOver t.common g.vector
  unfolding stands_for
  over_member t g s =
      let d = first_of group.ops.items (form_of group).nonempty in
      let c = first_of group.centrings.items (form_of group).has_centring in
      let o = get_or group.ops.items s.0 d in
      let q = (s.2 d).1 in
      let e = get_or group.centrings.items q.0 c in
      together t.common g.vector (operation o).vector (over_of_divides o.num o.den t.common o.lowest.positive
      (t.kept_divide s.0 d s.1))
      (together t.common (g.vector ⊖ (operation o).vector) (vector e)
      (over_of_divides e.num e.den t.common e.lowest.positive (t.divide q.0 c q.1))
      (over_whole t.common ((g.vector ⊖ (operation o).vector) ⊖ vector e) (q.2 c)))

  pub within_member : (g : Operation) → stands_for group g → IsWithin 9 g.rotation
  unfolding stands_for
  within_member g s =
      let d = first_of group.ops.items (form_of group).nonempty in
      subst (IsWithin 9) (sym (s.2 d).0) ((form_of group).within s.0 d s.1)

  divides_common : (t : AreOverOne group.ops.items group.centrings.items) (o : Op) → stands_for group (operation o)
      → o.den ∣ t.common
  divides_common t o m = divides_of_over o.num o.den t.common o.lowest (over_member t (operation o) m)

  pub members_lcm : (o p : Op) → stands_for group (operation o) → stands_for group (operation p) → (m : ℕ)
      → IsLcm o.den p.den m → m ≤ 100000
  members_lcm o p a b m l = stable_le m 100000
      (over_common (λ t. lcm_small o.den p.den t.common m t.positive t.small (divides_common t o a)
      (divides_common t p b) l))

  pub member_denominator : (o : Op) → stands_for group (operation o) → o.den ≤ 100000
  member_denominator o m = stable_le o.den 100000 (over_common
      (λ t. divisor_small o.den t.common t.positive t.small (divides_common t o m)))

  -- the difference of two vectors of operations
  pub shift_denominator : (o p : Op) (t : Vec3) → stands_for group (operation o) → stands_for group (operation p)
      → vector_of t.num t.den ≡ (operation o).vector ⊖ (operation p).vector → t.den ≤ 100000
  shift_denominator o p t a b same = stable_le t.den 100000 (over_common
      (λ u. divisor_small t.den u.common u.positive u.small
      (divides_of_over t.num t.den u.common t.lowest (subst (IsOver u.common) (sym same)
      (over-sub u.common (operation o).vector (operation p).vector (over_member u (operation o) a)
      (over_member u (operation p) b))))))

pub cell_sizes : (o : Op) → IsInCell (operation o).vector → (i : Fin 3) → unsigned_abs (entry o.num i) ≤ 1 * o.den
cell_sizes o cell i = let l = small_numerators o.num o.den o.lowest.positive cell i in subst
    (λ n. unsigned_abs (entry o.num i) ≤ n) (sym (Nat.one-mul o.den)) l

pub same_member : (a b : Group) → IsSameGroup a b → (g : Operation) → stands_for b g → stands_for a g
unfolding stands_for
same_member a b same g s = subst (λ cs. StandFor a.ops.items cs g) same.centrings
    (subst (λ os. StandFor os b.centrings.items g) same.ops s)

pub member_same : (a b : Group) → IsSameGroup a b → (g : Operation) → stands_for a g → stands_for b g
unfolding stands_for
member_same a b same g s = subst (λ cs. StandFor b.ops.items cs g) (sym same.centrings)
    (subst (λ os. StandFor os a.centrings.items g) (sym same.ops) s)
