-- A line of one point, and that a line has one table.
--   one_point_group       its line group is the little group
--   one_point_table       its table is that of the little group
--   line_table_unique     the operations of a line group have one table
--   line_table_alike      and a table with its order, products and exponents is it
use Rattle.std.proofs.Common.{◌≡◌, sym, ◌∙◌, ap, subst, ℕ, suc, ◌↔◌}
use Rattle.irr_algebra.specs.Fin.{Fin}
use Rattle.irr_algebra.specs.Fin.Fin.{first}
use Rattle.irr_algebra.specs.Matrix.{◌⊖◌}
use Rattle.irr_algebra.proofs.Indices.{only_first}
use Rattle.irr_algebra.proofs.Matrices.{sub_self}
use Rattle.irr_space.specs.Operation.{Operation, WaveVector, ◌⊙◌, translation, turned}
use Rattle.irr_space.specs.Reciprocal.{IsPhase, Sign}
use Rattle.irr_space.specs.CanonicalOperation.{IsNumbering}
use Rattle.irr_space.specs.Star.{IsInLittleGroup}
use Rattle.irr_space.specs.PhaseTable.{PhaseTable, IsTableOf}
use Rattle.irr_cocycle.proofs.Operations.{rotation-translation-op, turned-sub}
use Rattle.irr_cocycle.proofs.Phases.{phase_unique}
use Rattle.irr_cocycle.proofs.Numberings.{rotation_distinct}
use Rattle.irr_line.specs.LineGroup.{IsInLineGroup, IsLineOrder, IsLineTable}
use Rattle.irr_line.proofs.Orders.{line_order_unique, one_point_order}
use Rattle.irr_line.proofs.Readings.{one_translation}

module _ (G : Operation → Type 0) (point : Fin 1 → WaveVector) where
  pub one_point_group : (g : Operation) → IsInLineGroup G point g ↔ IsInLittleGroup G (point first) g
  one_point_group g = (
    λ p. p.in_little,
    λ p. record {
      in_little = p;
      keeps_step = λ i. subst (λ j. turned (point j ⊖ point first) g ≡ point j ⊖ point first) (only_first i)
          (turned-sub (point first) (point first) g ∙ sub_self (turned (point first) g) ∙ sym (sub_self (point first)));
    },
  )

  pub one_point_table : (s : Sign) {h : ℕ} (ops : Fin h → Operation) (T : PhaseTable h) → IsLineTable s G point ops T ↔ IsTableOf s G (point first) ops T
  one_point_table s ops T = (
    λ t. record {
      is_order = (one_point_order G point T.order).0 t.is_order;
      quotient = t.quotient;
      is_translation = t.is_translation;
      products = t.products;
      phases = t.phases;
    },
    λ t. record {
      is_order = (one_point_order G point T.order).1 t.is_order;
      quotient = t.quotient;
      is_translation = t.is_translation;
      products = t.products;
      phases = t.phases;
    },
  )

-- the same order, products and exponents
abbrev pub AreAlike : {h : ℕ} (T U : PhaseTable h) → Type 0
AreAlike {h} T U = (T.order ≡ U.order) × ((i j : Fin h) → (T.product i j ≡ U.product i j) × (T.exponent i j ≡ U.exponent i j))

module _ (s : Sign) (G : Operation → Type 0) {n : ℕ} (point : Fin (suc n) → WaveVector) {h : ℕ} (ops : Fin h → Operation)
    (numbering : IsNumbering G (IsInLineGroup G point) ops) (T U : PhaseTable h) (t : IsLineTable s G point ops T) (u : IsLineTable s G point ops U) where
  same_order : T.order ≡ U.order
  same_order = line_order_unique G point T.order U.order t.is_order u.is_order

  same_product : (i j : Fin h) → T.product i j ≡ U.product i j
  same_product i j = rotation_distinct G (IsInLineGroup G point) ops numbering (T.product i j) (U.product i j)
      (sym (rotation-translation-op (t.quotient i j) (ops (T.product i j))) ∙ ap (λ (g : Operation). g.rotation) (sym (t.products i j) ∙ u.products i j)
      ∙ rotation-translation-op (u.quotient i j) (ops (U.product i j)))

  same_quotient : (i j : Fin h) → t.quotient i j ≡ u.quotient i j
  same_quotient i j = one_translation (t.quotient i j) (u.quotient i j) (ops (U.product i j))
      (ap (λ l. translation (t.quotient i j) ⊙ ops l) (sym (same_product i j)) ∙ sym (t.products i j) ∙ u.products i j)

  same_exponent : (i j : Fin h) → T.exponent i j ≡ U.exponent i j
  same_exponent i j = phase_unique s U.order (point first) (u.quotient i j) (T.exponent i j) (U.exponent i j)
      (subst (λ m. IsPhase s m (point first) (u.quotient i j) (T.exponent i j)) same_order (subst (λ q. IsPhase s T.order (point first) q (T.exponent i j)) (same_quotient i j) (t.phases i j)))
      (u.phases i j)

  pub line_table_unique : AreAlike T U
  line_table_unique = (same_order, λ i j. (same_product i j, same_exponent i j))

-- a table like that of a line is that of the line
pub line_table_alike : (s : Sign) (G : Operation → Type 0) {n : ℕ} (point : Fin (suc n) → WaveVector) {h : ℕ} (ops : Fin h → Operation)
    (T U : PhaseTable h) → AreAlike T U → IsLineTable s G point ops T → IsLineTable s G point ops U
line_table_alike s G point ops T U alike t = record {
  is_order = subst (IsLineOrder G point) alike.0 t.is_order;
  quotient = t.quotient;
  is_translation = t.is_translation;
  products = λ i j. t.products i j ∙ ap (λ l. translation (t.quotient i j) ⊙ ops l) (alike.1 i j).0;
  phases = λ i j. subst (λ x. IsPhase s U.order (point first) (t.quotient i j) x) (alike.1 i j).1
      (subst (λ N. IsPhase s N (point first) (t.quotient i j) (T.exponent i j)) alike.0 (t.phases i j));
}
