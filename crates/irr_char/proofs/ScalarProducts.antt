-- The scalar product of two characters is a dimension.
--   row_within, small_row    the character of a small representation of at most s rows, and of at most 48
--   terms-trace_sum          the terms add up to the sum over the places of products of traces
--   terms-within, few_terms, mean_denominator, mean_size, whole_small     sizes of the terms, their sums and the mean
--   dimension-sum            the sum is the number of places times the dimension
--   mean-value               the mean is the dimension
--   own_order, divides_at, left_at, right_at, dimension_at, terms_at, sum-within, sum-whole     the same at the order of the first number
--   next-value               a term as the program makes it
use Rattle.std.proofs.Common.{◌≡◌, sym, ◌∙◌, ap, ap₂, subst, ℕ, ◌+◌, ◌*◌, ◌-◌, ◌/◌, ◌%◌, ◌<◌, ◌≤◌, ◌^◌, pos, List, length, get_or, map, arith}
use native.Mathlib.Nat as Nat
use Rattle.std.specs.Int.{◌∣◌}
use Rattle.std.proofs.lemmas.List.Elements.{All-get_or}
use Rattle.irr_algebra.specs.Fin.{Fin, to_nat}
use Rattle.irr_algebra.specs.Ring.{whole}
use Rattle.irr_algebra.specs.Action.{HasDimension}
use Rattle.irr_algebra.specs.Listed.{sum_below}
use Rattle.irr_algebra.specs.Matrix.{trace}
use Rattle.irr_algebra.proofs.Indices.{from_nat, to_nat-from_nat, to_nat-lt}
use Rattle.irr_algebra.proofs.Matrices.{trace-scale}
use Rattle.irr_algebra.proofs.Sums.{sum-ext}
use Rattle.irr_algebra.proofs.Rings.{one-mul}
use Rattle.irr_algebra.proofs.Whole.{whole-mul, whole-one}
use Rattle.irr_number.specs.Number.{Number, numbers, root_power}
use Rattle.irr_number.specs.Lift.{lift}
use Rattle.irr_number.proofs.Lifts.{lift-root_power}
use Rattle.irr_number.proofs.NumberField.{number_field}
use Rattle.irr_number.proofs.RootPowers.{root_power-mod}
use Rattle.irr_theory.specs.FactorSystem.{Representation}
use Rattle.irr_theory.specs.Traces.{back, trace_sum}
use Rattle.irr_theory.proofs.Dimensions.{dimension-trace_sum}
use Rattle.irr_theory.proofs.Existence.{dimension_exists}
use Rattle.irr_rational.specs.Integer.{integer}
use Rattle.irr_rational.proofs.Integers.{integer-pos}
use Rattle.irr_canonical.specs.Coefficient.{denominator, size}
use Rattle.irr_canonical.specs.RootSum.{IsRootSum}
use Rattle.irr_canonical.proofs.RootSizes.{denominator_of_IsRootSum, size_of_IsRootSum}
use Rattle.irr_canonical.proofs.RootSums.{IsRootSum-more}
use Rattle.irr_canonical.proofs.Sums.{eq_of_mul}
use Rattle.irr_mat.proofs.PartialSums.{PartialSum, partial-within}
use Rattle.irr_mat.proofs.Projections.{whole_le_size}
use Rattle.irr_space.specs.PhaseTable.{PhaseTable, phases_over}
use Rattle.irr_rep.proofs.TraceRoots.{trace-IsRootSum}
use Rattle.irr_char.specs.Rows.{row_of}
use Rattle.irr_char.specs.Characters.{AreCharacters, IsRowOf, IsRowWithin, IsSmallRow, average_term}
use Rattle.irr_char.proofs.AverageTerms.{term-small}
use Rattle.irr_char.proofs.Traces.{extended, extended-is, sum-extended}

module _ {h : ℕ} (T : PhaseTable h) (n : ℕ) (positive : 0 < n) (v : T.order ∣ n) where
  pub row_within : {S : Type 0} (order : S → ℕ) (value : (m : ℕ) → S → Number m) {d : ℕ} (A : Representation (phases_over T n v) d) (row : List S)
      (s : ℕ) → d ≤ s → IsRowOf {h = h} order value n (λ i. trace (A.at i)) row → IsRowWithin order value n h s row
  row_within order value A row s few r = record {
    count = r.count;
    orders = r.orders;
    small = λ i. subst (IsRootSum n s 1) (sym (r.numbers_at i)) (IsRootSum-more n s few (trace-IsRootSum n positive T v A i));
  }

  pub small_row : {S : Type 0} (order : S → ℕ) (value : (m : ℕ) → S → Number m) {d : ℕ} (A : Representation (phases_over T n v) d) (row : List S)
      → d ≤ 48 → IsRowOf {h = h} order value n (λ i. trace (A.at i)) row → IsSmallRow order value n h row
  small_row order value A row few r = row_within order value A row 48 few r

  -- the inverse of a phase
  phase-inverse : (i j : Fin h) → ((phases_over T n v).phase-invertible i j).inverse ≡ root_power n
      ((T.order - 1) * T.exponent i j % T.order * (n / T.order))
  phase-inverse i j =
      ap (lift T.order n T.order_positive v).map (sym (root_power-mod T.order ((T.order - 1) * T.exponent i j)))
      ∙ lift-root_power T.order n T.order_positive v ((T.order - 1) * T.exponent i j % T.order)
      ∙ ap (root_power n) (Nat.mul_comm (n / T.order) ((T.order - 1) * T.exponent i j % T.order))

  pub terms-trace_sum : {a b : ℕ} (A : Representation (phases_over T n v) a) (B : Representation (phases_over T n v) b) (f g : Fin h → Number n)
      → ((i : Fin h) → f i ≡ trace (A.at i)) → ((i : Fin h) → g i ≡ trace (B.at i))
      → sum_below (numbers n) h (extended n (average_term T n f g)) ≡ trace_sum A B
  unfolding average_term trace_sum back
  terms-trace_sum A B f g p q =
      sum-extended n (average_term T n f g)
      ∙ sum-ext (numbers n) h (average_term T n f g) (λ i. (numbers n).mul (trace (B.at i)) (trace (back A i))) (λ i.
      ap₂ (numbers n).mul (q i) (ap₂ (numbers n).mul (sym (phase-inverse i (T.opposite i))) (p (T.opposite i))
      ∙ sym (trace-scale (numbers n) ((phases_over T n v).phase-invertible i (T.opposite i)).inverse (A.at (T.opposite i)))))

  -- the sum is the number of places times the dimension
  pub dimension-sum : {a b : ℕ} (A : Representation (phases_over T n v) a) (B : Representation (phases_over T n v) b) (f g : Fin h → Number n)
      → ((i : Fin h) → f i ≡ trace (A.at i)) → ((i : Fin h) → g i ≡ trace (B.at i))
      → (m : ℕ) × HasDimension A.at B.at m × (sum_below (numbers n) h (extended n (average_term T n f g)) ≡ whole (numbers n) (h * m))
  dimension-sum A B f g p q =
      let d = dimension_exists (number_field n positive) A B in (
        d.0,
        d.1,
        terms-trace_sum A B f g p q ∙ sym (whole-mul (numbers n) h d.0 ∙ dimension-trace_sum (number_field n positive) A B d.1),
      )

-- each term so far
pub terms-within : {h : ℕ} (T : PhaseTable h) (n : ℕ) (f g : Fin h → Number n) → ((i : Fin h) → IsRootSum n 48 1 (f i))
    → ((i : Fin h) → IsRootSum n 2304 1 (g i))
    → (k : ℕ) → k < h → IsRootSum n 110592 1 (extended n (average_term T n f g) k)
terms-within {h} T n f g a b k l = subst (IsRootSum n 110592 1) (sym (extended-is n (average_term T n f g) k l))
    (term-small T n f g a b (from_nat h k l))

-- one more term can be added
pub few_terms : (n h k : ℕ) → n ≤ 12000 → h ≤ 48 → k < h → k * 110592 * n * 1 + 110592 * n * 1 < 2 ^ 110
few_terms n h k l q r =
    let m : k ≤ 48 = omega (arith, q, r) in
    let a : k * 110592 * n ≤ 48 * 110592 * 12000 = Nat.mul-le-mul (Nat.mul-le-mul_right 110592 m) l in
    let b : 110592 * n ≤ 110592 * 12000 = omega arith in
    omega arith

-- the sum can be divided by the number of places, and is small where it is whole
module _ (n h : ℕ) (x : Number n) (positive : 0 < n) (limited : n ≤ 12000) (few : h ≤ 48) (sum : IsRootSum n (h * 110592) 1 x) where
  total : size n x ≤ h * 110592 * n
  total = size_of_IsRootSum n positive (h * 110592) 1 x sum

  pub mean_denominator : denominator n x * h ≤ 2 ^ 60
  mean_denominator =
      let one : denominator n x ≤ 1 = Nat.le_of_dvd (omega arith) (denominator_of_IsRootSum n positive (h * 110592) 1 x sum) in
      let a : denominator n x * h ≤ 1 * 48 = Nat.mul-le-mul one few in
      omega arith

  pub mean_size : size n x * 1 ≤ 2 ^ 100
  mean_size =
      let a : h * 110592 * n ≤ 48 * 110592 * 12000 = Nat.mul-le-mul (Nat.mul-le-mul_right 110592 few) limited in
      let b = total in
      omega arith

  -- h times m is at most the size of the sum
  pub whole_small : (m : ℕ) → 0 < h → x ≡ whole (numbers n) (h * m) → m < 2 ^ 31
  whole_small m some e =
      let a : h * m ≤ size n x = whole_le_size n positive (h * m) x e in
      let b : h * 110592 * n ≤ h * (110592 * 12000) = subst (λ k. k ≤ h * (110592 * 12000)) (sym (Nat.mul_assoc h 110592 n))
      (Nat.mul-le-mul_left h (Nat.mul-le-mul_left 110592 limited)) in
      let c : h * m ≤ h * (110592 * 12000) = Nat.le_trans (Nat.le_trans a total) b in
      let d : m ≤ 110592 * 12000 = Nat.le_of_mul-le-mul_left c some in
      omega arith

-- the number that times h is h times m is m
mean-whole : (n h m : ℕ) (x y : Number n) → 0 < n → 0 < h
    → (numbers n).mul (whole (numbers n) h) y ≡ (numbers n).mul (integer (numbers n) (pos 1)) x → x ≡ whole (numbers n) (h * m)
    → y ≡ whole (numbers n) m
mean-whole n h m x y positive some e is = eq_of_mul n positive h some y (whole (numbers n) m)
    (e ∙ ap (λ u. (numbers n).mul u x) (integer-pos (numbers n) 1 ∙ whole-one (numbers n)) ∙ one-mul (numbers n) x ∙ is ∙ whole-mul (numbers n) h m)

-- the same as the program makes it
pub mean-value : {S : Type 0} (order : S → ℕ) (value : (m : ℕ) → S → Number m) (n h d m : ℕ) (x y : S) → 0 < n → 0 < h → d ≡ h → order x ≡ n
    → order y ≡ order x
    → (numbers (order x)).mul (whole (numbers (order x)) d) (value (order x) y) ≡ (numbers (order x)).mul (integer (numbers (order x)) (pos 1))
    (value (order x) x)
    → value n x ≡ whole (numbers n) (h * m) → value (order y) y ≡ whole (numbers (order y)) m
mean-value order value n h d m x y positive some e f o v is =
    let k = order x in
    let at_h : (numbers k).mul (whole (numbers k) h) (value k y) ≡ (numbers k).mul (integer (numbers k) (pos 1)) (value k x) =
    subst (λ c. (numbers k).mul (whole (numbers k) c) (value k y) ≡ (numbers k).mul (integer (numbers k) (pos 1)) (value k x)) e v in
    let at_n : (numbers n).mul (whole (numbers n) h) (value n y) ≡ (numbers n).mul (integer (numbers n) (pos 1)) (value n x) =
    subst (λ u. (numbers u).mul (whole (numbers u) h) (value u y) ≡ (numbers u).mul (integer (numbers u) (pos 1)) (value u x)) f at_h in
    subst (λ u. value u y ≡ whole (numbers u) m) (sym (o ∙ f)) (mean-whole n h m (value n x) (value n y) positive some at_n is)

-- the characters at the order n of their numbers
module _ {S : Type 0} {h : ℕ} (order : S → ℕ) (value : (m : ℕ) → S → Number m) (T : PhaseTable h) (a b : List S)
    (p : AreCharacters order value T a b) where
  pub own_order : (x : S) (n m : ℕ) → x ≡ get_or a 0 x → m ≡ order x → n ≡ m → n ≡ p.n
  own_order x n m is e f =
      let some : to_nat T.start < h = to_nat-lt T.start in
      let within : 0 < length a = subst (λ k. 0 < k) (sym p.left_row.count) (omega (arith, some)) in
      f ∙ e ∙ ap order is ∙ All-get_or (λ y. order y ≡ p.n) a 0 x within p.left_row.orders

  module _ (n : ℕ) (e : n ≡ p.n) (positive : 0 < n) where
    pub divides_at : T.order ∣ n
    divides_at = subst (λ m. T.order ∣ m) (sym e) p.divides

    above : 0 < p.n
    above = subst (λ m. 0 < m) e positive

    pub left_at : IsSmallRow order value n h a
    left_at = subst (λ m. IsSmallRow order value m h a) (sym e) (small_row T p.n above p.divides order value p.left a p.left_few p.left_row)

    pub right_at : IsRowWithin order value n h 2304 b
    right_at = subst (λ m. IsRowWithin order value m h 2304 b) (sym e)
        (row_within T p.n above p.divides order value p.right b 2304 p.right_few p.right_row)

    pub dimension_at : (m : ℕ) × HasDimension p.left.at p.right.at m
        × (sum_below (numbers n) h (extended n (average_term T n (row_of n (map (value n) a)) (row_of n (map (value n) b)))) ≡ whole (numbers n)
        (h * m))
    dimension_at =
        let d = dimension-sum T p.n above p.divides p.left p.right (row_of p.n (map (value p.n) a))
        (row_of p.n (map (value p.n) b)) p.left_row.numbers_at p.right_row.numbers_at in (
          d.0,
          d.1,
          subst (λ m. sum_below (numbers m) h (extended m (average_term T m (row_of m (map (value m) a)) (row_of m (map (value m) b)))) ≡ whole
              (numbers m) (h * d.0)) (sym e) d.2,
        )

    pub terms_at : (k : ℕ) → k < h → IsRootSum n 110592 1 (extended n (average_term T n (row_of n (map (value n) a)) (row_of n (map (value n) b))) k)
    terms_at k l = terms-within T n (row_of n (map (value n) a)) (row_of n (map (value n) b)) left_at.small right_at.small k l

    -- the sum of all
    module _ (k : ℕ) (x : S) (done : k ≡ h)
        (s : PartialSum order value n (extended n (average_term T n (row_of n (map (value n) a)) (row_of n (map (value n) b)))) k x) where
      pub sum-within : IsRootSum n (h * 110592) 1 (value n x)
      sum-within = subst (λ u. IsRootSum n (u * 110592) 1 (value n x)) done
          (partial-within order value n (extended n (average_term T n (row_of n (map (value n) a)) (row_of n (map (value n) b)))) k 110592 1 x s
          (omega arith) (λ i q. terms_at i (subst (λ u. i < u) done q)))

      pub sum-whole : value n x ≡ whole (numbers n) (h * dimension_at.0)
      sum-whole = subst (λ u. value n x ≡ sum_below (numbers n) u (extended n (average_term T n (row_of n (map (value n) a)) (row_of n (map (value n) b)))))
          done s.is_sum ∙ dimension_at.2

-- a term as the program makes it
pub next-value : {h : ℕ} (n : ℕ) (f : Fin h → Number n) (k : ℕ) (l : k < h) (x : Number n) → ((i : Fin h) → to_nat i ≡ k → x ≡ f i)
    → x ≡ extended n f k
next-value {h} n f k l x v = v (from_nat h k l) (to_nat-from_nat h k l) ∙ sym (extended-is n f k l)
