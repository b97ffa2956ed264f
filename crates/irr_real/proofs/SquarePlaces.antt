-- The square of an operation that carries k to -k: its place in the table of the little group, and its phase.
--   square_listed        the canonical operation with the rotation of g g is at a place of the table
--   turns_over           n times the product of k and the translation is whole
--   square_is            the place and the phase are those of the square
use Rattle.std.proofs.Common.{◌≡◌, sym, ◌∙◌, ap, subst, ℕ, ◌<◌, pos, length, get_or, slice_index, Contains}
use Rattle.std.specs.Int.{◌∣◌}
use Rattle.irr_algebra.specs.Ring.{whole}
use Rattle.irr_algebra.proofs.Whole.{whole-mul}
use Rattle.irr_number.proofs.Primes.{cofactor}
use Rattle.irr_rational.specs.Integer.{integer}
use Rattle.irr_rational.specs.Rational.{rationals, IsWhole}
use Rattle.irr_rational.proofs.Integers.{integer-pos}
use Rattle.irr_rational.proofs.WholeNumbers.{whole-mul as product_whole, whole-integer}
use Rattle.irr_space.specs.Operation.{Operation, Vector, WaveVector, ◌⊙◌, translation, dot}
use Rattle.irr_space.specs.SpaceGroup.{IsTranslation}
use Rattle.irr_space.specs.Reciprocal.{IsPhase}
use Rattle.irr_space.specs.Star.{IsInLittleGroup}
use Rattle.irr_seitz.specs.OperationMeaning.{operation}
use Rattle.irr_seitz.specs.PhaseMeaning.{sign_of}
use Rattle.irr_seitz.specs.declared.op.Op.{Op}
use Rattle.irr_rep.specs.Twisted.{operation_places, phase_table, place_count}
use Rattle.irr_rep.specs.declared.table.Twisted.{Twisted}
use Rattle.irr_cocycle.proofs.Operations.{rotation-translation-op}
use Rattle.irr_cocycle.proofs.Phases.{order_at}
use Rattle.irr_cocycle.proofs.Reciprocals.{little_rotation}
use Rattle.irr_close.specs.StandsFor.{stands_for}
use Rattle.irr_close.specs.declared.group.Group.{Group}
use Rattle.irr_close.proofs.Bareness.{first_of}
use Rattle.irr_close.proofs.SpaceGroups.{space_group}
use Rattle.irr_little.specs.Products.{IsProduct}
use Rattle.irr_little.specs.Table.{IsLittleTable}
use Rattle.irr_little.proofs.Spaces.{canonical_at, form_of}
use Rattle.irr_little.proofs.SubgroupTables.{product_translation, turns_whole}
use Rattle.irr_reality.specs.Reality.{IsReversing}
use Rattle.irr_reality.proofs.Opposites.{reversing_twice}
use Rattle.irr_real.specs.Places.{IsReversingPlace}
use Rattle.irr_real.specs.Squares.{IsSquareAt}

module _ (group : Group) (k : WaveVector) (t : Twisted) (table : IsLittleTable group k (operation_places t)
    (phase_table t))
    (p : ℕ) (below : p < length group.ops.items) (reverses : IsReversingPlace group k p)
    (q : ℕ) (v : Vector) (product : IsProduct group p p q v) where
  abbrev G : Operation → Type 0
  G = stands_for group

  abbrev at : Op → ℕ → Operation
  at d n = operation (get_or group.ops.items n d)

  reversing : (d : Op) → IsReversing G k (at d p)
  reversing d = record { member = (canonical_at group d p below).member; reverses = reverses d }

  square_little : (d : Op) → IsInLittleGroup G k (at d p ⊙ at d p)
  square_little d = reversing_twice G (space_group group).is_group k (at d p) (at d p) (reversing d) (reversing d)

  pub square_listed : Contains (operation_places t) q
  square_listed = table.places.all q product.below (λ d.
      (little_rotation G (space_group group).is_group k (at d p ⊙ at d p) (at d q) (square_little d)
      (canonical_at group d q product.below).member
      (sym (rotation-translation-op v (at d q)) ∙ ap (λ (g : Operation). g.rotation) (sym (product.is d)))).keeps)

  some_op : Op
  some_op = first_of group.ops.items (form_of group).nonempty

  square_translation : IsTranslation G v
  square_translation = product_translation G (space_group group).is_group (at some_op p) (at some_op p) (at some_op q) v
      (reversing some_op).member (reversing some_op).member (canonical_at group some_op q product.below).member
      (product.is some_op)

  pub turns_over : (n : ℕ) → (phase_table t).order ∣ n → IsWhole (rationals.mul (integer rationals (pos n)) (dot k v))
  turns_over n divides =
      let N = (phase_table t).order in
      let c = cofactor N n divides in
      subst IsWhole
      (sym (rationals.mul_assoc (whole rationals c.0) (integer rationals (pos N)) (dot k v))
      ∙ ap (λ x. rationals.mul x (dot k v)) (rationals.mul_comm (whole rationals c.0) (integer rationals (pos N))
      ∙ ap (λ x. rationals.mul x (whole rationals c.0)) (integer-pos rationals N)
      ∙ sym (whole-mul rationals N c.0) ∙ ap (whole rationals) (sym c.1) ∙ sym (integer-pos rationals n)))
      (product_whole (whole rationals c.0) (rationals.mul (integer rationals (pos N)) (dot k v))
      (subst IsWhole (integer-pos rationals c.0) (whole-integer (pos c.0)))
      (turns_whole G k N (order_at G k N (table.table some_op).is_order) v square_translation))

  pub square_is : (n i x : ℕ) → i < place_count t → slice_index (operation_places t) i ≡ q
      → IsPhase (sign_of group.phase) n k v x
      → IsSquareAt group k t n p i x
  square_is n i x l e phase = record {
    vector = v;
    below = l;
    is_product = λ d. product.is d ∙ ap (λ m. translation v ⊙ operation (get_or group.ops.items m d)) (sym e);
    is_phase = phase;
  }
