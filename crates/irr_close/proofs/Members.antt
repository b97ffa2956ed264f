-- Membership in a group of canonical form.
--   small_ops, small_centrings, small_common     its vectors are over a small common denominator
--   distinct_numbered                            different places have different rotations
--   has_rotation, rotation_has                   the rotations of its operations
--   cell_at, cells                               its vectors are in the cell
--   canonical_of                                 each rotation has its canonical operation
--   member_at                                    membership by the place of the rotation
use Rattle.std.proofs.Common.{◌≡◌, sym, ◌∙◌, ap, subst, subst₂, ℕ, ◌<◌, ◌≤◌, ◌↔◌, List, length, get_or, arith}
use Rattle.std.proofs.Math.Logic.{∥∥₁_elim}
use Rattle.std.specs.List.{All, AllPairs}
use Rattle.std.proofs.lemmas.List.{get_or_default}
use Rattle.irr_algebra.specs.Matrix.{◌⊖◌}
use Rattle.irr_algebra.proofs.Indices.{from_nat, to_nat-from_nat}
use Rattle.irr_space.specs.Operation.{Operation, Rotation, Vector}
use Rattle.irr_space.specs.CanonicalOperation.{IsCanonicalOperation, IsInCell, IsNumberedBefore}
use Rattle.irr_rat.specs.Lcm.{IsLcm}
use Rattle.irr_rat.specs.VectorMeaning.{vector}
use Rattle.irr_rat.specs.declared.vec3.Vec3.{Vec3}
use Rattle.irr_seitz.specs.OperationMeaning.{operation}
use Rattle.irr_seitz.specs.declared.op.Op.{Op}
use Rattle.irr_close.specs.Whole.{IsWholeVector}
use Rattle.irr_close.specs.Closing.{HasRotation}
use Rattle.irr_close.specs.Centring.{HasTranslation, AreOverOne}
use Rattle.irr_close.specs.Standing.{StandFor}
use Rattle.irr_close.specs.Canonical.{AreCanonical, numbered}
use Rattle.irr_close.proofs.Closure.{whole_flipped}
use Rattle.irr_close.proofs.Lattice.{divisor_small, lcm_small}
use Rattle.irr_close.proofs.Standing.{same_index}
use Rattle.irr_close.proofs.Bareness.{first_of}
use Rattle.irr_close.proofs.Numbering.{numbered_irrefl}
use Rattle.irr_close.proofs.CanonicalForm.{by_way, flipped}
use Rattle.irr_close.proofs.Untruncated.{stable_le}

module _ (ops : List Op) (cs : List Vec3) (form : AreCanonical ops cs) where
  over : {A : Type 0} → (AreOverOne ops cs → A) → ¬ (¬ A)
  over f denied = ∥∥₁_elim form.denominator (λ a b. absurd a) (λ t. denied (f t))

  pub small_ops : All (λ g. g.den ≤ 100000) ops
  small_ops k d l = stable_le (get_or ops k d).den 100000
      (over (λ t. divisor_small (get_or ops k d).den t.common t.positive t.small (t.kept_divide k d l)))

  pub small_centrings : All (λ c. c.den ≤ 100000) cs
  small_centrings k d l =
      stable_le (get_or cs k d).den 100000 (over (λ t. divisor_small (get_or cs k d).den t.common t.positive t.small (t.divide k d l)))

  pub small_common : All (λ g. All (λ c. (m : ℕ) → IsLcm g.den c.den m → m ≤ 100000) cs) ops
  small_common k d l j e n m h =
      stable_le m 100000 (over (λ t. lcm_small (get_or ops k d).den (get_or cs j e).den t.common m t.positive t.small (t.kept_divide k d l)
      (t.divide j e n) h))

  at_place : (d : Op) (k : ℕ) (l : k < length ops) → numbered ops d (from_nat (length ops) k l) ≡ operation (get_or ops k d)
  at_place d k l = ap (λ n. operation (get_or ops n d)) (to_nat-from_nat (length ops) k l)

  pub distinct_numbered : AllPairs (λ g h. ¬ ((operation g).rotation ≡ (operation h).rotation)) ops
  distinct_numbered i j d l m e =
      let n : i < length ops = omega arith in
      let b : IsNumberedBefore (numbered ops d (from_nat (length ops) i n)).rotation (numbered ops d (from_nat (length ops) j m)).rotation =
      (form.numbering d).ordered (from_nat (length ops) i n) (from_nat (length ops) j m)
      (subst₂ (λ a b. a < b) (sym (to_nat-from_nat (length ops) i n)) (sym (to_nat-from_nat (length ops) j m)) l) in
      numbered_irrefl (operation (get_or ops j d)).rotation (subst₂ (λ g h. IsNumberedBefore g h) (ap (λ (g : Operation). g.rotation) (at_place d i n)
      ∙ e) (ap (λ (g : Operation). g.rotation) (at_place d j m)) b)

  pub cell_at : All (λ g. IsInCell (operation g).vector) ops
  cell_at k d l = subst (λ (g : Operation). IsInCell g.vector) (at_place d k l) ((form.numbering d).canonical (from_nat (length ops) k l)).in_cell

  pub has_rotation : (R : Rotation) → HasRotation ops R → (g : Operation) × StandFor ops cs g × (g.rotation ≡ R)
  has_rotation R h =
      let d = first_of ops form.nonempty in
      let i = from_nat (length ops) h.0 h.1 in
      (numbered ops d i, ((form.numbering d).canonical i).member, ap (λ (g : Operation). g.rotation) (at_place d h.0 h.1) ∙ h.2 d)

  pub cells : All (λ c. IsInCell (vector c)) cs
  cells k d l = form.centrings.in_cell (get_or cs k d) (k, l, get_or_default cs k (get_or cs k d) d l)

  -- r is the vector of g up to a whole one
  pub member_at : (g : Operation) (r : Vector) (k : ℕ) (o : Op) → k < length ops → o ≡ get_or ops k o → (operation o).rotation ≡ g.rotation
      → IsWholeVector (g.vector ⊖ r) → HasTranslation cs ((operation o).vector ⊖ r) ↔ StandFor ops cs g
  member_at g r k o l e same w = (
    λ h. (
      k,
      l,
      λ f. subst (λ (x : Op). (g.rotation ≡ (operation x).rotation) × HasTranslation cs (g.vector ⊖ (operation x).vector)) (e
          ∙ get_or_default ops k o f l) (
            sym same,
            by_way cs form.lattice g.vector r (operation o).vector (form.lattice.whole (g.vector ⊖ r) w)
                (flipped cs form.lattice (operation o).vector r h),
          ),
    ),
    λ s.
        let here : s.0 ≡ k = same_index ops o distinct_numbered s.0 k s.1 l (sym (s.2 o).0 ∙ sym same ∙ ap (λ (x : Op). (operation x).rotation) e) in
        let t : HasTranslation cs (g.vector ⊖ (operation o).vector) = subst (λ (x : Op). HasTranslation cs (g.vector ⊖ (operation x).vector))
        (ap (λ n. get_or ops n o) here ∙ sym e) (s.2 o).1 in
        flipped cs form.lattice r (operation o).vector
        (by_way cs form.lattice r g.vector (operation o).vector (form.lattice.whole (r ⊖ g.vector) (whole_flipped g.vector r w)) t),
  )

pub rotation_has : (ops : List Op) (cs : List Vec3) (g : Operation) → StandFor ops cs g → HasRotation ops g.rotation
rotation_has ops cs g s = (s.0, s.1, λ f. sym (s.2 f).0)

-- each rotation of the group has its canonical operation
pub canonical_of : (ops : List Op) (cs : List Vec3) → AreCanonical ops cs → (g : Operation) → StandFor ops cs g
    → (c : Operation) × IsCanonicalOperation (StandFor ops cs) c × (c.rotation ≡ g.rotation)
canonical_of ops cs form g s =
    let d = first_of ops form.nonempty in
    let i = from_nat (length ops) s.0 s.1 in (
      numbered ops d i,
      (form.numbering d).canonical i,
      ap (λ n. (operation (get_or ops n d)).rotation) (to_nat-from_nat (length ops) s.0 s.1)
          ∙ sym (s.2 d).0,
    )
