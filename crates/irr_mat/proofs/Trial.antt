-- Sizes for the trial of a projection with entries z^e over d, and of sums and products of powers of z.
use Rattle.std.proofs.Common.{◌≡◌, sym, ◌∙◌, subst, ℕ, ◌*◌, ◌<◌, ◌≤◌, List, arith}
use native.Mathlib.Nat as Nat
use Rattle.irr_algebra.specs.Matrix.{Matrix, ◌·◌, scale, unit}
use Rattle.irr_number.specs.Number.{Number, numbers}
use Rattle.irr_mat.specs.Entries.{matrix_of}
use Rattle.irr_mat.specs.Size.{IsWithin, MultiplesFit, ProductFits, ProductsFit, SumsFit, TraceFits}
use Rattle.irr_canonical.specs.RootSum.{IsRootSum}
use Rattle.irr_canonical.proofs.RootSums.{IsRootSum-zero}
use Rattle.irr_mat.proofs.Bounds.{within-more, within-mul, within-scale, within-unit}

squares : (d : ℕ) → d ≤ 3 → d * d ≤ 9
squares d h = Nat.mul-le-mul h h

module _ {S : Type 0} (value : (n : ℕ) → S → Number n) (n r d : ℕ) (few : r ≤ 3) (small : d ≤ 3) (limited : n ≤ 12000) (xs : List S) (w : IsWithin n 1 d (matrix_of value n r r xs)) where
  square_order : n * n ≤ 144000000
  square_order = Nat.mul-le-mul limited limited

  times_order : r * n ≤ 36000
  times_order = Nat.mul-le-mul few limited

  pub product_fits : (c : ℕ) → c ≡ r → ProductFits n (matrix_of value n r c xs) (matrix_of value n c c xs)
  product_fits c e = subst (λ k. ProductFits n (matrix_of value n r k xs) (matrix_of value n k k xs)) (sym e) (record {
    s = 1;
    d = d;
    t = 1;
    e = d;
    left = w;
    right = w;
    denominators = Nat.le_trans (Nat.mul-le-mul (squares d small) (squares d small)) (omega arith);
    products = let q : n * n ≤ 144000000 = square_order in omega arith;
    sums = let q : r * n * (d * d) ≤ 36000 * 9 = Nat.mul-le-mul times_order (squares d small) in omega arith;
  })

  pub trace_fits : TraceFits n (matrix_of value n r r xs)
  trace_fits = record {
    s = 1;
    d = d;
    within = w;
    denominators = let q : d * d ≤ 9 = squares d small in omega arith;
    sums = let q : r * n * d ≤ 36000 * 3 = Nat.mul-le-mul times_order small in omega arith;
  }

  -- the square, as the program has it
  module _ (c m p q : ℕ) (ys : List S) (e : c ≡ r) (order : m ≡ n) (rows : p ≡ r) (cols : q ≡ c)
      (is : matrix_of value n r c ys ≡ matrix_of value n r c xs · matrix_of value n c c xs) where
    square-is : matrix_of value n r r ys ≡ matrix_of value n r r xs · matrix_of value n r r xs
    square-is = subst (λ k. matrix_of value n r k ys ≡ matrix_of value n r k xs · matrix_of value n k k xs) e is

    at_r : SumsFit n (matrix_of value n r r ys) (matrix_of value n r r xs)
    at_r = record {
      s = r * (1 * 1);
      d = d * d;
      t = 1;
      e = d;
      left = subst (IsWithin n (r * (1 * 1)) (d * d)) (sym square-is) (within-mul n r r r 1 d 1 d (matrix_of value n r r xs) (matrix_of value n r r xs) w w);
      right = w;
      denominators = Nat.le_trans (Nat.mul-le-mul (squares d small) small) (omega arith);
      sizes = let u : r * n * d ≤ 36000 * 3 = Nat.mul-le-mul times_order small in let v : n * (d * d) ≤ 12000 * 9 = Nat.mul-le-mul limited (squares d small) in omega arith;
    }

    pub sums_fit : SumsFit m (matrix_of value m p q ys) (matrix_of value m r c xs)
    sums_fit =
        subst (λ k. SumsFit k (matrix_of value k p q ys) (matrix_of value k r c xs)) (sym order)
        (subst (λ k. SumsFit n (matrix_of value n k q ys) (matrix_of value n r c xs)) (sym rows)
        (subst (λ k. SumsFit n (matrix_of value n r k ys) (matrix_of value n r c xs)) (sym (cols ∙ e))
        (subst (λ k. SumsFit n (matrix_of value n r r ys) (matrix_of value n r k xs)) (sym e) at_r)))

    pub idempotent : matrix_of value m p q ys ≡ matrix_of value m p q xs → matrix_of value n r r xs · matrix_of value n r r xs ≡ matrix_of value n r r xs
    idempotent same = sym square-is
        ∙ subst (λ k. matrix_of value n r k ys ≡ matrix_of value n r k xs) (cols ∙ e)
        (subst (λ k. matrix_of value n k q ys ≡ matrix_of value n k q xs) rows
        (subst (λ k. matrix_of value k p q ys ≡ matrix_of value k p q xs) order same))

-- the unit matrix of 3 rows, and its multiple by 0
module _ {S : Type 0} (value : (n : ℕ) → S → Number n) (n : ℕ) (xs : List S) (p q : ℕ) (rows : p ≡ 3) (cols : q ≡ 3) (is : matrix_of value n 3 3 xs ≡ unit (numbers n) 3) where
  unit_at : (r c : ℕ) → r ≡ 3 → c ≡ 3 → IsWithin n 1 1 (matrix_of value n r c xs)
  unit_at r c e f = subst (λ k. IsWithin n 1 1 (matrix_of value n k c xs)) (sym e) (subst (λ k. IsWithin n 1 1 (matrix_of value n 3 k xs)) (sym f) (subst (IsWithin n 1 1) (sym is) (within-unit n 3)))

  pub unit-within : (m : ℕ) → m ≡ n → IsWithin m 1 1 (matrix_of value m p p xs)
  unit-within m order = subst (λ k. IsWithin k 1 1 (matrix_of value k p p xs)) (sym order) (unit_at p p rows rows)

  module _ (x : S) (zero : value n x ≡ (numbers n).zero) (m : ℕ) (order : m ≡ n) where
    one : 0 < 1
    one = omega arith

    factor : IsRootSum n 0 1 (value n x)
    factor = subst (IsRootSum n 0 1) (sym zero) (IsRootSum-zero n 1 one)

    pub zero_fits : MultiplesFit m (value m x) (matrix_of value m p q xs)
    zero_fits = subst (λ k. MultiplesFit k (value k x) (matrix_of value k p q xs)) (sym order) (record {
      s = 0;
      d = 1;
      t = 1;
      e = 1;
      factor = factor;
      right = unit_at p q rows cols;
      denominators = omega arith;
      sizes = omega arith;
    })

    pub zero-within : (k u v : ℕ) (ys : List S) → k ≡ m → u ≡ p → matrix_of value m p q ys ≡ scale (numbers m) (value m x) (matrix_of value m p q xs) → IsWithin k 1 1 (matrix_of value k u u ys)
    zero-within k u v ys e f g =
        subst (λ w. IsWithin w 1 1 (matrix_of value w u u ys)) (sym (e ∙ order))
        (subst (λ w. IsWithin n 1 1 (matrix_of value n w w ys)) (sym (f ∙ rows))
        (subst (λ w. IsWithin n 1 1 (matrix_of value n 3 w ys)) cols
        (subst (λ w. IsWithin n 1 1 (matrix_of value n w q ys)) rows
        (subst (IsWithin n 1 1) (sym (subst (λ w. matrix_of value w p q ys ≡ scale (numbers w) (value w x) (matrix_of value w p q xs)) order g))
        (within-more n p q 0 1 1 (scale (numbers n) (value n x) (matrix_of value n p q xs)) (omega arith) (within-scale n p q 0 1 1 1 (value n x) (matrix_of value n p q xs) factor (unit_at p q rows cols)))))))

-- a matrix of powers of z, at the sizes and the order that a call names
pub within_to : {S : Type 0} (value : (n : ℕ) → S → Number n) (n k s d : ℕ) (xs : List S) → IsWithin n s d (matrix_of value n k k xs)
    → (m r c : ℕ) → m ≡ n → r ≡ k → c ≡ k → IsWithin m s d (matrix_of value m r c xs)
within_to value n k s d xs w m r c e f g =
    subst (λ v. IsWithin v s d (matrix_of value v r c xs)) (sym e)
    (subst (λ v. IsWithin n s d (matrix_of value n v c xs)) (sym f)
    (subst (λ v. IsWithin n s d (matrix_of value n k v xs)) (sym g) w))

-- powers of z can be multiplied, and sums of at most two can be compared
pub powers_fit : (m : ℕ) {r c p q : ℕ} (a : Matrix (numbers m) r c) (b : Matrix (numbers m) p q) → m ≤ 12000 → IsWithin m 1 1 a → IsWithin m 1 1 b → ProductsFit m a b
powers_fit m a b limited u v = record {
  s = 1;
  d = 1;
  t = 1;
  e = 1;
  left = u;
  right = v;
  denominators = omega arith;
  sizes = let l : m * m ≤ 144000000 = Nat.mul-le-mul limited limited in omega arith;
}

pub few_fit : (m s t : ℕ) {r c p q : ℕ} (a : Matrix (numbers m) r c) (b : Matrix (numbers m) p q) → m ≤ 12000 → s ≤ 2 → t ≤ 2 → IsWithin m s 1 a → IsWithin m t 1 b → SumsFit m a b
few_fit m s t a b limited p q u v = record {
  s = s;
  d = 1;
  t = t;
  e = 1;
  left = u;
  right = v;
  denominators = omega arith;
  sizes = let k : s * m ≤ 2 * 12000 = Nat.mul-le-mul p limited in let l : t * m ≤ 2 * 12000 = Nat.mul-le-mul q limited in omega arith;
}
