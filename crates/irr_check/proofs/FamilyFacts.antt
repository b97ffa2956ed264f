-- What is known of a representation of a report within the limits.
--   checkable, own_shape, traces_fit     it can be tried, and its traces can be worked out
--   family_of                            a small one as a representation
--   characters_of                        two with their traces as characters
--   small_traces, own_row                rows of traces and characters
--   dimension_unique                     a space of intertwiners has one dimension
use Rattle.std.proofs.Common.{◌≡◌, sym, ◌∙◌, subst, refl, ℕ, ◌*◌, ◌^◌, ◌<◌, ◌≤◌, List, [], ◌∷◌, length, arith}
use Rattle.std.specs.List.{All}
use native.Mathlib.Nat as Nat
use Rattle.irr_algebra.specs.Action.{HasDimension}
use Rattle.irr_algebra.specs.Field.{Field}
use Rattle.irr_algebra.specs.Fin.{Fin, to_nat}
use Rattle.irr_algebra.specs.Matrix.{trace}
use Rattle.irr_algebra.specs.Ring.{whole}
use Rattle.irr_algebra.proofs.Fields.{mul_cancel, whole_inj}
use Rattle.irr_algebra.proofs.Indices.{to_nat-lt}
use Rattle.irr_theory.specs.FactorSystem.{FactorSystem, Representation}
use Rattle.irr_theory.proofs.Dimensions.{dimension-trace_sum}
use Rattle.irr_theory.proofs.Inverses.{places-ne-zero}
use Rattle.irr_space.specs.PhaseTable.{PhaseTable, phases_over}
use Rattle.irr_cyc.specs.declared.scalars.Scalar.{Ghosts}
use Rattle.irr_mat.specs.declared.matrices.Mat.{Mat}
use Rattle.irr_mat.specs.Entries.{first_order}
use Rattle.irr_mat.specs.Size.{TraceFits}
use Rattle.irr_rep.specs.Defects.{IsCheckable}
use Rattle.irr_rep.specs.Family.{HasShape, matrix_at, representation}
use Rattle.irr_char.specs.Characters.{AreCharacters, IsRowOf, IsSmallRow}
use Rattle.irr_char.proofs.ScalarProducts.{small_row}
use Rattle.irr_report.specs.Content.{number_at}
use Rattle.irr_report.specs.declared.report.RepText.{RepText}
use Rattle.irr_check.specs.Faults.{HasTrace, IsSmall, own}
use Rattle.irr_report.specs.Limits.{IsChecked}

pub dimension_unique : (F : Field) {T : FactorSystem F.ring} {a b : ℕ} (A : Representation T a) (B : Representation T b) (m n : ℕ)
    → HasDimension A.at B.at m → HasDimension A.at B.at n → m ≡ n
dimension_unique F {T} A B m n d e = whole_inj F m n (mul_cancel F (whole F.ring T.places) (whole F.ring m) (whole F.ring n) (places-ne-zero F T)
    (dimension-trace_sum F A B d ∙ sym (dimension-trace_sum F A B e)))

trace_sums : (d n e : ℕ) → d ≤ 48 → n ≤ 12000 → e ≤ 4096 → d * 2 ^ 30 * n * e < 2 ^ 110
trace_sums d n e k l m =
    let a : d * 2 ^ 30 * n * e ≤ 48 * 2 ^ 30 * 12000 * 4096 = Nat.mul-le-mul (Nat.mul-le-mul (Nat.mul-le-mul_right (2 ^ 30) k) l) m in
    let b : 48 * 2 ^ 30 * 12000 * 4096 < 2 ^ 110 = omega arith in
    Nat.lt_of_le_of_lt a b

square_within : (e : ℕ) → e ≤ 4096 → e * e ≤ 2 ^ 60
square_within e l =
    let a : e * e ≤ 4096 * 4096 = Nat.mul-le-mul l l in
    omega arith

module _ {S : Type 0} {G : Ghosts S} where
  one_order : (m n : ℕ) (mats : List (Mat S G)) → 0 < length mats → All (λ x. first_order G.order_of x.entries.items ≡ m) mats
      → All (λ x. first_order G.order_of x.entries.items ≡ n) mats → n ≡ m
  one_order m n [] l a b = absurd (omega arith)
  one_order m n (x ∷ mats) l a b = sym (b 0 x l) ∙ a 0 x l

  module _ {h : ℕ} (T : PhaseTable h) (t : RepText S G) (is : IsChecked T.order h t) where
    abbrev pub checkable : IsCheckable T t.family.dim t.family.mats.items
    checkable = record { n = T.order; divides = own T; denominator = is.denominator; limits = is.family }

    pub own_shape : HasShape T.order (length t.family.mats.items) t.family.dim t.family.mats.items
    own_shape = record {
      count = refl;
      positive = is.family.shape.positive;
      rows = is.family.shape.rows;
      cols = is.family.shape.cols;
      orders = is.family.shape.orders;
    }

    module _ (limit : T.order ≤ 12000) where
      trace_fits : (i : Fin h) → TraceFits T.order (matrix_at T.order t.family.dim t.family.mats.items i)
      trace_fits i = record {
        s = 2 ^ 30;
        d = is.denominator;
        within = is.family.within i;
        denominators = square_within is.denominator is.family.limited;
        sums = trace_sums t.family.dim T.order is.denominator is.family.few limit is.family.limited;
      }

      pub traces_fit : (m g : ℕ) → HasShape m g t.family.dim t.family.mats.items → (i : Fin g)
          → TraceFits m (matrix_at m t.family.dim t.family.mats.items i)
      traces_fit m g shape i = at_count g (sym is.family.shape.count ∙ shape.count) i
        where
          at_order : 0 < length t.family.mats.items → (i : Fin h) → TraceFits m (matrix_at m t.family.dim t.family.mats.items i)
          at_order l j = subst (λ k. TraceFits k (matrix_at k t.family.dim t.family.mats.items j))
              (one_order m T.order t.family.mats.items l shape.orders is.family.shape.orders) (trace_fits j)

          at_count : (g : ℕ) → h ≡ g → (i : Fin g) → TraceFits m (matrix_at m t.family.dim t.family.mats.items i)
          at_count g e = subst (λ k. (i : Fin k) → TraceFits m (matrix_at m t.family.dim t.family.mats.items i)) e
              (λ j. at_order (let l = to_nat-lt j in let s = is.family.shape.count in omega arith) j)

    -- the characters as a row
    pub own_row : IsRowOf {h = h} G.order_of G.value T.order (λ i. number_at G.value T.order t.chars.items (to_nat i)) t.chars.items
    unfolding number_at
    own_row = record { count = is.row.count; orders = is.row.orders; numbers_at = λ i. refl }

    -- the traces of a small one are a row of small numbers
    pub small_traces : IsSmall T t → (row : List S)
        → IsRowOf {h = h} G.order_of G.value T.order (λ i. trace (matrix_at T.order t.family.dim t.family.mats.items i)) row
        → IsSmallRow G.order_of G.value T.order h row
    unfolding representation
    small_traces p row r = small_row T T.order T.order_positive (own T) G.order_of G.value
        (representation T T.order (own T) t.family.dim t.family.mats.items p) row is.family.few r

  module _ {h : ℕ} (T : PhaseTable h) where
    abbrev pub family_of : (t : RepText S G) → IsSmall T t → Representation (phases_over T T.order (own T)) t.family.dim
    family_of t p = record {
      at = λ i. matrix_at T.order t.family.dim t.family.mats.items i;
      at-start = p.at-start;
      at-product = p.at-product;
    }

    pub traced_row : (t : RepText S G) → IsChecked T.order h t → ((i : Fin h) → HasTrace T t i) → (xs : List S) → xs ≡ t.chars.items
        → IsRowOf {h = h} G.order_of G.value T.order (λ i. trace (matrix_at T.order t.family.dim t.family.mats.items i)) xs
    unfolding number_at
    traced_row t is s xs e = subst (IsRowOf {h = h} G.order_of G.value T.order (λ i. trace (matrix_at T.order t.family.dim t.family.mats.items i))) (sym e)
        (record { count = is.row.count; orders = is.row.orders; numbers_at = s })

    -- two with their traces as characters
    abbrev pub characters_of : (a b : RepText S G) → IsChecked T.order h a → IsChecked T.order h b → (p : IsSmall T a) (q : IsSmall T b)
        → ((i : Fin h) → HasTrace T a i) → ((i : Fin h) → HasTrace T b i) → (xs ys : List S) → xs ≡ a.chars.items → ys ≡ b.chars.items
        → AreCharacters G.order_of G.value T xs ys
    characters_of a b is_a is_b p q s u xs ys e f = record {
      n = T.order;
      divides = own T;
      left_size = a.family.dim;
      right_size = b.family.dim;
      left = family_of a p;
      right = family_of b q;
      left_few = is_a.family.few;
      right_few = (let few = is_b.family.few in omega arith);
      left_row = traced_row a is_a s xs e;
      right_row = traced_row b is_b u ys f;
    }
