-- Matrices of the program that hold matrices of numbers: the conditions of their calls, and what the calls give.
--   item-matrix                          a matrix of a family holds the matrix at its place
--   order_limited                        the order of a matrix is limited
--   sums_fit, product_fits, multiple_fits        conditions of comparisons, products and multiples
--   same-to, same-from                   equal matrices
--   multiplied, scaled                   products and multiples
--   fit_of_unit, fit_of_product, fit_of_multiple, fit_of_both    sizes over one denominator up to 4096
use Rattle.std.proofs.Common.{◌≡◌, sym, ◌∙◌, ap₂, subst, ℕ, ◌+◌, ◌*◌, ◌<◌, ◌≤◌, ◌^◌, List, [], ◌∷◌, length, get_or, refl, arith}
use native.Mathlib.Nat as Nat
use Rattle.irr_algebra.specs.Fin.{Fin, to_nat}
use Rattle.irr_algebra.specs.Matrix.{Matrix, ◌·◌, scale, unit}
use Rattle.irr_number.specs.Number.{Number, numbers}
use Rattle.irr_canonical.specs.RootSum.{IsRootSum}
use Rattle.irr_cyc.specs.declared.scalars.Scalar.{Ghosts}
use Rattle.irr_mat.specs.declared.matrices.Mat.{Mat}
use Rattle.irr_mat.specs.Entries.{first_order, matrix_of}
use Rattle.irr_mat.specs.Size.{IsWithin, MultiplesFit, ProductFits, SumsFit}
use Rattle.irr_mat.proofs.Bounds.{within-mul, within-scale, within-unit}
use Rattle.irr_rep.specs.Family.{HasShape, matrix_at}
use Rattle.irr_rep.specs.Defects.{IsMatrix}
use Rattle.irr_rep.proofs.Families.{item-cols, item-order, item-rows, matrix_at-item}

first_entry : {S : Type 0} (order : S → ℕ) (xs : List S) → 0 < length xs → (x : S) × (order x ≡ first_order order xs)
unfolding first_order
first_entry order [] l = absurd (omega arith)
first_entry order (x ∷ xs) l = (x, refl)

module _ {S : Type 0} {G : Ghosts S} where
  pub item-matrix : {h : ℕ} (n d : ℕ) (mats : List (Mat S G)) (k : ℕ) (m : Mat S G) → k < length mats → m ≡ get_or mats k m → HasShape n h d mats
      → (i : Fin h) → to_nat i ≡ k → IsMatrix n d (matrix_at n d mats i) m
  item-matrix n d mats k m l is s i e = record {
    rows = item-rows n d mats k m l is s;
    cols = item-cols n d mats k m l is s;
    order = item-order n d mats k m l is s;
    value = sym (matrix_at-item n d mats k m l is i e);
  }

  -- what holds of the order of each number holds of that of a matrix
  pub order_of_matrix : (P : ℕ → Type 0) → ((x : S) → P (G.order_of x)) → (m : Mat S G) → P (first_order G.order_of m.entries.items)
  order_of_matrix P h m =
      let some : 0 < length m.entries.items = subst (λ k. 0 < k) (sym m.filled) (Nat.mul-pos m.some_rows m.some_cols) in
      let x = first_entry G.order_of m.entries.items some in
      subst P x.1 (h x.0)

  module _ (n d : ℕ) (a b : Matrix (numbers n) d d) (m k : Mat S G) (left : IsMatrix n d a m) (right : IsMatrix n d b k) where
    abbrev M : (u r c : ℕ) → Matrix (numbers u) r c
    M u r c = matrix_of G.value u r c m.entries.items

    abbrev K : (u r c : ℕ) → Matrix (numbers u) r c
    K u r c = matrix_of G.value u r c k.entries.items

    pub sums_fit : SumsFit n a b → SumsFit (first_order G.order_of m.entries.items)
        (matrix_of G.value (first_order G.order_of m.entries.items) m.rows m.cols m.entries.items)
        (matrix_of G.value (first_order G.order_of m.entries.items) k.rows k.cols k.entries.items)
    sums_fit fits =
        subst (λ u. SumsFit u (M u m.rows m.cols) (K u k.rows k.cols)) (sym left.order)
        (subst (λ r. SumsFit n (M n r m.cols) (K n k.rows k.cols)) (sym left.rows)
        (subst (λ c. SumsFit n (M n d c) (K n k.rows k.cols)) (sym left.cols)
        (subst (λ r. SumsFit n (M n d d) (K n r k.cols)) (sym right.rows)
        (subst (λ c. SumsFit n (M n d d) (K n d c)) (sym right.cols)
        (subst (λ x. SumsFit n x (K n d d)) (sym left.value) (subst (λ x. SumsFit n a x) (sym right.value) fits))))))

    pub product_fits : ProductFits n a b → ProductFits (first_order G.order_of m.entries.items)
        (matrix_of G.value (first_order G.order_of m.entries.items) m.rows m.cols m.entries.items)
        (matrix_of G.value (first_order G.order_of m.entries.items) m.cols k.cols k.entries.items)
    product_fits fits =
        subst (λ u. ProductFits u (M u m.rows m.cols) (K u m.cols k.cols)) (sym left.order)
        (subst (λ r. ProductFits n (M n r m.cols) (K n m.cols k.cols)) (sym left.rows)
        (subst (λ c. ProductFits n (M n d c) (K n c k.cols)) (sym left.cols)
        (subst (λ c. ProductFits n (M n d d) (K n d c)) (sym right.cols)
        (subst (λ x. ProductFits n x (K n d d)) (sym left.value) (subst (λ x. ProductFits n a x) (sym right.value) fits)))))

    pub same-to : matrix_of G.value (first_order G.order_of m.entries.items) m.rows m.cols m.entries.items
        ≡ matrix_of G.value (first_order G.order_of m.entries.items) m.rows m.cols k.entries.items → a ≡ b
    same-to e = sym left.value
        ∙ subst (λ c. M n d c ≡ K n d c) left.cols (subst (λ r. M n r m.cols ≡ K n r m.cols) left.rows
        (subst (λ u. M u m.rows m.cols ≡ K u m.rows m.cols) left.order e))
        ∙ right.value

    pub same-from : a ≡ b → (m.rows ≡ k.rows) × (m.cols ≡ k.cols) × (matrix_of G.value
        (first_order G.order_of m.entries.items) m.rows m.cols m.entries.items
        ≡ matrix_of G.value (first_order G.order_of m.entries.items) m.rows m.cols k.entries.items)
    same-from e = (
      left.rows ∙ sym right.rows,
      left.cols ∙ sym right.cols,
      subst (λ u. M u m.rows m.cols ≡ K u m.rows m.cols) (sym left.order) (subst (λ r. M n r m.cols ≡ K n r m.cols) (sym left.rows)
          (subst (λ c. M n d c ≡ K n d c) (sym left.cols) (left.value ∙ e ∙ sym right.value))),
    )

    pub multiplied : (z : Mat S G) → z.rows ≡ m.rows → z.cols ≡ k.cols
        → first_order G.order_of z.entries.items ≡ first_order G.order_of m.entries.items
        → matrix_of G.value (first_order G.order_of m.entries.items) m.rows k.cols z.entries.items
        ≡ matrix_of G.value (first_order G.order_of m.entries.items) m.rows m.cols m.entries.items · matrix_of G.value
        (first_order G.order_of m.entries.items) m.cols k.cols k.entries.items
        → IsMatrix n d (a · b) z
    multiplied z r c o v = record {
      rows = r ∙ left.rows;
      cols = c ∙ right.cols;
      order = o ∙ left.order;
      value =
          subst (λ w. matrix_of G.value n d w z.entries.items ≡ M n d d · K n d w) right.cols
          (subst (λ w. matrix_of G.value n d k.cols z.entries.items ≡ M n d w · K n w k.cols) left.cols
          (subst (λ w. matrix_of G.value n w k.cols z.entries.items ≡ M n w m.cols · K n m.cols k.cols) left.rows
          (subst (λ u. matrix_of G.value u m.rows k.cols z.entries.items ≡ M u m.rows m.cols · K u m.cols k.cols) left.order v)))
          ∙ ap₂ (λ (x y : Matrix (numbers n) d d). x · y) left.value right.value;
    }

  module _ (n d : ℕ) (a : Matrix (numbers n) d d) (m : Mat S G) (is : IsMatrix n d a m) (x : S) where
    pub multiple_fits : MultiplesFit n (G.value n x) a → MultiplesFit (first_order G.order_of m.entries.items)
        (G.value (first_order G.order_of m.entries.items) x)
        (matrix_of G.value (first_order G.order_of m.entries.items) m.rows m.cols m.entries.items)
    multiple_fits fits =
        subst (λ u. MultiplesFit u (G.value u x) (matrix_of G.value u m.rows m.cols m.entries.items)) (sym is.order)
        (subst (λ r. MultiplesFit n (G.value n x) (matrix_of G.value n r m.cols m.entries.items)) (sym is.rows)
        (subst (λ c. MultiplesFit n (G.value n x) (matrix_of G.value n d c m.entries.items)) (sym is.cols)
        (subst (λ y. MultiplesFit n (G.value n x) y) (sym is.value) fits)))

    pub scaled : (s : Number n) → G.value n x ≡ s → (z : Mat S G) → z.rows ≡ m.rows → z.cols ≡ m.cols
        → first_order G.order_of z.entries.items ≡ first_order G.order_of m.entries.items
        → matrix_of G.value (first_order G.order_of m.entries.items) m.rows m.cols z.entries.items
        ≡ scale (numbers (first_order G.order_of m.entries.items)) (G.value (first_order G.order_of m.entries.items) x)
        (matrix_of G.value (first_order G.order_of m.entries.items) m.rows m.cols m.entries.items)
        → IsMatrix n d (scale (numbers n) s a) z
    scaled s e z r c o v = record {
      rows = r ∙ is.rows;
      cols = c ∙ is.cols;
      order = o ∙ is.order;
      value =
          subst (λ w. matrix_of G.value n d w z.entries.items ≡ scale (numbers n) (G.value n x) (matrix_of G.value n d w m.entries.items)) is.cols
          (subst (λ w. matrix_of G.value n w m.cols z.entries.items ≡ scale (numbers n) (G.value n x)
          (matrix_of G.value n w m.cols m.entries.items)) is.rows
          (subst (λ u. matrix_of G.value u m.rows m.cols z.entries.items ≡ scale (numbers u) (G.value u x)
          (matrix_of G.value u m.rows m.cols m.entries.items)) is.order v))
          ∙ ap₂ (scale (numbers n)) e is.value;
    }

-- multiples by a sum of few powers
pub fit_of_multiple : (n den : ℕ) → n ≤ 12000 → den ≤ 4096 → (d : ℕ) (a : Matrix (numbers n) d d) → IsWithin n (2 ^ 30) den a
    → (s : ℕ) (x : Number n) → s ≤ 4096 → IsRootSum n s 1 x → MultiplesFit n x a
fit_of_multiple n den order limited d a u s x l f = record {
  s = s;
  d = 1;
  t = 2 ^ 30;
  e = den;
  factor = f;
  right = u;
  denominators = omega (arith, limited);
  sizes =
      let e : s * n * (2 ^ 30 * n) ≤ 4096 * 12000 * (2 ^ 30 * 12000) = Nat.mul-le-mul (Nat.mul-le-mul l order) (Nat.mul-le-mul_left (2 ^ 30) order) in
      let k : 4096 * 12000 * (2 ^ 30 * 12000) ≤ 2 ^ 100 = omega arith in Nat.le_trans e k;
}

-- sizes over one denominator
module _ (n d den : ℕ) (order : n ≤ 12000) (few : d ≤ 48) (limited : den ≤ 4096) where
  square : den * den ≤ 4096 * 4096
  square = Nat.mul-le-mul limited limited

  entries : 2 ^ 30 * n ≤ 2 ^ 30 * 12000
  entries = omega (arith, order)

  one : 1 * n ≤ 1 * 12000
  one = omega (arith, order)

  over_one : 1 * den ≤ 1 * 4096
  over_one = omega (arith, limited)

  module _ (a : Matrix (numbers n) d d) (u : IsWithin n (2 ^ 30) den a) where
    pub fit_of_unit : SumsFit n a (unit (numbers n) d)
    fit_of_unit = record {
      s = 2 ^ 30;
      d = den;
      t = 1;
      e = 1;
      left = u;
      right = within-unit n d;
      denominators = omega (arith, limited);
      sizes = let e : 1 * n * den ≤ 1 * 12000 * 4096 = Nat.mul-le-mul one limited in omega (arith, order, e);
    }

    module _ (b : Matrix (numbers n) d d) (w : IsWithin n (2 ^ 30) den b) where
      pub fit_of_product : ProductFits n a b
      fit_of_product = record {
        s = 2 ^ 30;
        d = den;
        t = 2 ^ 30;
        e = den;
        left = u;
        right = w;
        denominators =
            let e : den * den * (den * den) ≤ 4096 * 4096 * (4096 * 4096) = Nat.mul-le-mul square square in
            let l : 4096 * 4096 * (4096 * 4096) ≤ 2 ^ 60 = omega arith in Nat.le_trans e l;
        products =
            let e : 2 ^ 30 * n * (2 ^ 30 * n) ≤ 2 ^ 30 * 12000 * (2 ^ 30 * 12000) = Nat.mul-le-mul entries entries in
            let l : 2 ^ 30 * 12000 * (2 ^ 30 * 12000) ≤ 2 ^ 100 = omega arith in Nat.le_trans e l;
        sums =
            let e : d * (2 ^ 30 * 2 ^ 30) * n * (den * den) ≤ 48 * (2 ^ 30 * 2 ^ 30) * 12000 * (4096 * 4096) =
            Nat.mul-le-mul (Nat.mul-le-mul (Nat.mul-le-mul_right (2 ^ 30 * 2 ^ 30) few) order) square in
            let l : 48 * (2 ^ 30 * 2 ^ 30) * 12000 * (4096 * 4096) < 2 ^ 110 = omega arith in Nat.lt_of_le_of_lt e l;
      }

      -- a product and a multiple of a third matrix
      pub fit_of_both : (s : ℕ) (x : Number n) (c : Matrix (numbers n) d d) → s ≤ 4096 → IsRootSum n s 1 x → IsWithin n (2 ^ 30) den c
          → SumsFit n (a · b) (scale (numbers n) x c)
      fit_of_both s x c small f y = record {
        s = d * (2 ^ 30 * 2 ^ 30);
        d = den * den;
        t = s * 2 ^ 30;
        e = 1 * den;
        left = within-mul n d d d (2 ^ 30) den (2 ^ 30) den a b u w;
        right = within-scale n d d s 1 (2 ^ 30) den x c f y;
        denominators =
            let e : den * den * (1 * den) ≤ 4096 * 4096 * (1 * 4096) = Nat.mul-le-mul square over_one in
            let l : 4096 * 4096 * (1 * 4096) ≤ 2 ^ 60 = omega arith in Nat.le_trans e l;
        sizes =
            let e : d * (2 ^ 30 * 2 ^ 30) * n * (1 * den) ≤ 48 * (2 ^ 30 * 2 ^ 30) * 12000 * (1 * 4096) =
            Nat.mul-le-mul (Nat.mul-le-mul (Nat.mul-le-mul_right (2 ^ 30 * 2 ^ 30) few) order) over_one in
            let k : s * 2 ^ 30 * n * (den * den) ≤ 4096 * 2 ^ 30 * 12000 * (4096 * 4096) =
            Nat.mul-le-mul (Nat.mul-le-mul (Nat.mul-le-mul_right (2 ^ 30) small) order) square in
            let l : 48 * (2 ^ 30 * 2 ^ 30) * 12000 * (1 * 4096) + 4096 * 2 ^ 30 * 12000 * (4096 * 4096) < 2 ^ 110 = omega arith in
            Nat.lt_of_le_of_lt (Nat.add-le-add e k) l;
      }
