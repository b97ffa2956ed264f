-- The table of a line group.
--   line_subgroup          the line group is a subgroup of the little group of each of its points
--   line_order_at          the order of a line is a multiple of that of each point
--   line_has_table         the canonical operations of a line group have a table of phases
use Rattle.std.proofs.Common.{◌≡◌, sym, ◌∙◌, ap, subst, ℕ, suc, pos, ◌<◌, ◌/◌}
use Rattle.std.specs.Int.{◌∣◌}
use native.Mathlib.Nat as Nat
use Rattle.irr_algebra.specs.Fin.{Fin}
use Rattle.irr_algebra.specs.Fin.Fin.{first}
use Rattle.irr_algebra.specs.Ring.{whole}
use Rattle.irr_algebra.proofs.Whole.{whole-mul}
use Rattle.irr_rational.specs.Rational.{rationals, IsWhole}
use Rattle.irr_rational.proofs.Integers.{integer-pos}
use Rattle.irr_rational.proofs.WholeNumbers.{whole-mul as product_whole, whole-integer}
use Rattle.irr_space.specs.Operation.{Operation, Vector, WaveVector, dot}
use Rattle.irr_space.specs.Reciprocal.{IsPhase, IsReciprocal, Sign, times}
use Rattle.irr_space.specs.CanonicalOperation.{IsNumbering}
use Rattle.irr_space.specs.PhaseTable.{PhaseTable}
use Rattle.irr_cocycle.specs.SpaceGroupLaws.{IsGroup, HasCanonical}
use Rattle.irr_cocycle.specs.SubgroupTable.{IsSubgroupAt, IsOrderAt, IsTableAt}
use Rattle.irr_cocycle.proofs.Operations.{dot-times}
use Rattle.irr_line.specs.LineGroup.{IsInLineGroup, IsLineOrder, IsLineTable}
use Rattle.irr_line.proofs.LineGroups.{line_little, line_identity, line_product, line_inverse, line_rotation}
use Rattle.irr_cocycle.proofs.PhaseTables.{subgroup_table, subgroup_table-is_table}

module _ (G : Operation → Type 0) where
  -- multiples of vectors of T* are in T*
  pub multiple_reciprocal : (k : WaveVector) (q m : ℕ) → q ∣ m → IsReciprocal G (times q k) → IsReciprocal G (times m k)
  multiple_reciprocal k q m d r = record {
    is_whole = λ t u. subst IsWhole (turns t) (product_whole (whole rationals (m / q)) (dot (times q k) t)
        (subst IsWhole (integer-pos rationals (m / q)) (whole-integer (pos (m / q)))) (r.is_whole t u));
  }
    where
      turns : (t : Vector) → rationals.mul (whole rationals (m / q)) (dot (times q k) t) ≡ dot (times m k) t
      turns t = ap (rationals.mul (whole rationals (m / q))) (dot-times q k t) ∙ sym (rationals.mul_assoc (whole rationals (m / q)) (whole rationals q) (dot k t))
          ∙ ap (λ x. rationals.mul x (dot k t)) (sym (whole-mul rationals (m / q) q) ∙ ap (whole rationals) (Nat.div-mul_cancel q d)) ∙ sym (dot-times m k t)

  module _ {n : ℕ} (point : Fin (suc n) → WaveVector) where
    pub line_subgroup : IsGroup G → (i : Fin (suc n)) → IsSubgroupAt G (point i) (IsInLineGroup G point)
    line_subgroup group i = record {
      little = line_little G point i;
      identity = line_identity G point group;
      product = line_product G point group;
      inverse = line_inverse G point group;
      rotation = line_rotation G point group;
    }

    pub line_order_at : (order : ℕ) → IsLineOrder G point order → (i : Fin (suc n)) → IsOrderAt G (point i) order
    line_order_at order o i = record {
      exponent = o.exponent;
      multiple = o.common;
      is_exponent = o.is_exponent;
      positive = o.is_common.positive;
      reciprocal = multiple_reciprocal (point i) (o.period i) o.common (o.is_common.divides i) (o.is_period i).reciprocal;
      is_product = o.is_product;
    }

    pub line_order-positive : (order : ℕ) → IsLineOrder G point order → 0 < order
    line_order-positive order o = subst (λ x. 0 < x) (sym o.is_product) (Nat.mul-pos o.is_exponent.positive o.is_common.positive)

    pub line_has_table : IsGroup G → HasCanonical G → (s : Sign) (order h : ℕ) (ops : Fin h → Operation) → IsNumbering G (IsInLineGroup G point) ops
        → IsLineOrder G point order → (T : PhaseTable h) × IsLineTable s G point ops T
    line_has_table group chosen s order h ops numbering o =
        of_table (subgroup_table G (IsInLineGroup G point) group chosen s (point first) (line_subgroup group first) ops numbering order (line_order_at order o first))
        (subgroup_table-is_table G (IsInLineGroup G point) group chosen s (point first) (line_subgroup group first) ops numbering order (line_order_at order o first))
      where
        of_table : (T : PhaseTable h) → IsTableAt s G (point first) order ops T → (T : PhaseTable h) × IsLineTable s G point ops T
        of_table T t = (
          T,
          record {
            is_order = subst (IsLineOrder G point) (sym t.same_order) o;
            quotient = t.quotient;
            is_translation = t.is_translation;
            products = t.products;
            phases = λ i j. subst (λ m. IsPhase s m (point first) (t.quotient i j) (T.exponent i j)) (sym t.same_order) (t.phases i j);
          },
        )
