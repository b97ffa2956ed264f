-- The sum over the operations that carry k to -k, on any star of k with small representations of the same matrices.
--   same_number, operation_same     the operations of the little group have one order, so one number each
--   square_sum_is                   the sum is that of the theory
--   type_is, type_over_each         so it says the type
use Rattle.std.proofs.Common.{◌≡◌, sym, ◌∙◌, ap, subst, refl, ℕ, ℤ, zero, suc, ◌<◌, ◌≤◌, length, get_or, slice_index}
use Rattle.std.proofs.Common.{arith}
use Rattle.std.specs.Int.{◌∣◌}
use Rattle.irr_algebra.specs.Action.{IsSimple}
use Rattle.irr_algebra.specs.Fin.{Fin, to_nat}
use Rattle.irr_algebra.specs.Matrix.{scale, trace}
use Rattle.irr_algebra.specs.Ring.{whole}
use Rattle.irr_algebra.proofs.Indices.{from_nat, to_nat-from_nat, to_nat-lt, to_nat_inj}
use Rattle.irr_algebra.proofs.Listed.{sum-to_nat}
use Rattle.irr_algebra.proofs.Matrices.{trace-scale}
use Rattle.irr_algebra.proofs.Sums.{sum-ext}
use Rattle.irr_number.specs.Lift.{lift}
use Rattle.irr_number.specs.Number.{Number, numbers, root_power}
use Rattle.irr_number.proofs.NumberField.{number_field}
use Rattle.irr_theory.specs.FactorSystem.{Representation}
use Rattle.irr_theory.proofs.Scalars.{dimension-map_family}
use Rattle.irr_space.specs.Operation.{Operation, WaveVector, ◌⊙◌, translation}
use Rattle.irr_space.specs.PhaseTable.{phases_at, phases_over}
use Rattle.irr_space.specs.CompleteList.{over}
use Rattle.irr_seitz.specs.OperationMeaning.{operation}
use Rattle.irr_seitz.specs.PhaseMeaning.{sign_of}
use Rattle.irr_seitz.specs.declared.op.Op.{Op}
use Rattle.irr_rep.specs.Twisted.{operation_places, phase_table, place_count}
use Rattle.irr_rep.specs.declared.table.Twisted.{Twisted}
use Rattle.irr_cocycle.specs.SpaceGroupLaws.{HasCanonical, IsGroup}
use Rattle.irr_close.specs.StandsFor.{stands_for}
use Rattle.irr_close.specs.declared.group.Group.{Group}
use Rattle.irr_close.proofs.Bareness.{first_of}
use Rattle.irr_close.proofs.SpaceGroups.{space_group}
use Rattle.irr_little.specs.Table.{IsLittleTable, listed_operations}
use Rattle.irr_little.proofs.Spaces.{form_of, has_canonical}
use Rattle.irr_full.specs.Star.{Star}
use Rattle.irr_full.proofs.FullExistence.{full_matrices, full_matrices-is_full}
use Rattle.irr_full.proofs.SameStars.{increasing, place_in, place_in-is, there_back}
use Rattle.irr_forms.specs.Form.{FormType, type_integer, type_number}
use Rattle.irr_reality.specs.Reality.{AreReversing, IsSquareSum}
use Rattle.irr_reality.proofs.EveryOrder.{type_over}
use Rattle.irr_reality.proofs.SquareSums.{sum_of_type, type_of_full, type_of_full_unique, type_of_sum}
use Rattle.irr_real.specs.Answer.{IsTypeOf, IsTypeOverEach}
use Rattle.irr_real.specs.Squares.{IsReversalSum, IsSquareTrace}
use Rattle.irr_real.proofs.Listed.{reversing_numbering}

-- a rising map of numbers
module _ (a n : ℕ) (f : Fin a → Fin n) (rising : (i j : Fin a) → to_nat i < to_nat j → to_nat (f i) < to_nat (f j))
  where
    above : (k : ℕ) (l : k < a) → k ≤ to_nat (f (from_nat a k l))
    above zero l = omega arith
    above (suc k) l =
        let m : k < a = omega (arith, l) in
        let x = to_nat-from_nat a k m in
        let y = to_nat-from_nat a (suc k) l in
        let up = rising (from_nat a k m) (from_nat a (suc k) l) (omega (arith, x, y)) in
        let before = above k m in
        omega (arith, up, before)

    at_least : (i : Fin a) → to_nat i ≤ to_nat (f i)
    at_least i =
        let l = to_nat-lt i in
        subst (λ j. to_nat i ≤ to_nat (f j)) (to_nat_inj (from_nat a (to_nat i) l) i (to_nat-from_nat a (to_nat i) l))
        (above (to_nat i) l)

module _ (group : Group) (k : WaveVector) (t : Twisted) (table : IsLittleTable group k (operation_places t)
    (phase_table t))
    (S : Star (sign_of group.phase) (stands_for group) k) where
  some_op : Op
  some_op = first_of group.ops.items (form_of group).nonempty

  abbrev G : Operation → Type 0
  G = stands_for group

  law : IsGroup (stands_for group)
  law = (space_group group).is_group

  chosen : HasCanonical (stands_for group)
  chosen = has_canonical group

  -- the star with the table of the program
  abbrev own : Star (sign_of group.phase) (stands_for group) k
  own = record {
    count = S.count;
    canonical = S.canonical;
    canonical_numbering = S.canonical_numbering;
    arms = S.arms;
    arm = S.arm;
    number = S.number;
    are_arms = S.are_arms;
    places = place_count t;
    operation = listed_operations group (place_count t) (operation_places t) some_op;
    numbering = table.numbering some_op;
    table = phase_table t;
    is_table = table.table some_op;
  }

  same_number : (p : Fin S.places) → to_nat (place_in G law chosen S own p) ≡ to_nat p
  same_number p =
      let a = at_least S.places (place_count t) (place_in G law chosen S own) (increasing G law chosen S own) p in
      let b = at_least (place_count t) S.places (place_in G law chosen own S) (increasing G law chosen own S)
      (place_in G law chosen S own p) in
      let e = ap to_nat (there_back G law chosen S own p) in
      omega (arith, a, b, e)

  operation_same : (p : Fin S.places) → operation (get_or group.ops.items
      (slice_index (operation_places t) (to_nat p)) some_op) ≡ S.operation p
  operation_same p = ap (λ n. operation (get_or group.ops.items (slice_index (operation_places t) n) some_op))
      (sym (same_number p))
      ∙ place_in-is G law chosen S own p

  module _ (M : ℕ) (v : S.table.order ∣ M) {d : ℕ} (D : Representation (phases_over S.table M v) d) (c : Number M)
      (made : IsReversalSum group k t M D.at c) where
    abbrev ops : Fin (length made.places) → Operation
    ops = listed_operations group (length made.places) made.places some_op

    numbering : AreReversing G k (listed_operations group (length made.places) made.places some_op)
    numbering = reversing_numbering group k made.places made.reversing some_op

    term_at : (i : Fin (length made.places)) → IsSquareTrace group k t M D.at (slice_index made.places (to_nat i))
        (made.term (to_nat i))
    term_at i = made.each (to_nat i) (to_nat-lt i)

    square_sum_is : IsSquareSum S M v D (listed_operations group (length made.places) made.places some_op) c
    square_sum_is = record {
      matrix = λ i. scale (numbers M) (root_power M (term_at i).exponent) (D.at (term_at i).place);
      is_matrix = λ i. record {
        vector = (term_at i).square.vector;
        place = (term_at i).place;
        exponent = (term_at i).exponent;
        is_product = (term_at i).square.is_product some_op
            ∙ ap (λ (g : Operation). translation (term_at i).square.vector ⊙ g) (operation_same (term_at i).place);
        is_phase = (term_at i).square.is_phase;
        is_matrix = refl;
      };
      is_sum = made.is_sum ∙ sym (sum-to_nat (numbers M) (length made.places) made.term)
          ∙ sum-ext (numbers M) (length made.places) (λ i. made.term (to_nat i))
          (λ i. trace (scale (numbers M) (root_power M (term_at i).exponent) (D.at (term_at i).place)))
          (λ i. (term_at i).is ∙ sym (trace-scale (numbers M) (root_power M (term_at i).exponent)
          (D.at (term_at i).place)));
    }

    module _ (positive : 0 < M) (simple : IsSimple D.at) (r : ℤ)
        (says : (x : FormType) → c ≡ (numbers M).mul (whole (numbers M) S.places) (type_number (numbers M) x) → r
        ≡ type_integer x) where
      pub type_is : IsTypeOf S M v D r
      type_is =
          let m = length made.places in
          let A = full_matrices G law chosen S M positive v D in
          let of = full_matrices-is_full G law chosen S M positive v D in
          let x = type_of_full G law chosen S M positive v D simple A of m ops numbering in
          let e = sum_of_type G law chosen S M positive v D simple A of m ops numbering c square_sum_is x.0 x.1 in
          record {
            form_type = x.0;
            number = says x.0 e;
            has_type = λ B is. type_of_sum G law chosen S M positive v D simple B is m ops numbering c square_sum_is
                x.0 e;
            only = λ B is y h. type_of_full_unique G law chosen S M positive v D simple B is m ops numbering y x.0 h
                (type_of_sum G law chosen S M positive v D simple B is m ops numbering c square_sum_is x.0 e);
          }

  module _ (M : ℕ) (positive : 0 < M) (v : S.table.order ∣ M) {d : ℕ} (D : Representation (phases_at S.table) d)
      (simple : IsSimple D.at) (c : Number M)
      (made : IsReversalSum group k t M (over S.table M v D).at c) (r : ℤ)
      (says : (x : FormType) → c ≡ (numbers M).mul (whole (numbers M) S.places) (type_number (numbers M) x) → r
      ≡ type_integer x) where
    simple_over : IsSimple (over S.table M v D).at
    simple_over = dimension-map_family (number_field S.table.order S.table.order_positive) (number_field M positive)
        (lift S.table.order M S.table.order_positive v) D D simple

    pub type_over_each : IsTypeOverEach S M v D r
    type_over_each =
        let is = type_is M v (over S.table M v D) c made positive simple_over r says in
        record {
          form_type = is.form_type;
          number = is.number;
          has_type = λ some K large w u A of. type_over G law chosen S M K some large v w u D simple A of
              (listed_operations group (length made.places) made.places some_op)
              (numbering M v (over S.table M v D) c made) is.form_type
              (is.has_type A of);
        }
