-- Products of monomial matrices.
--   product_row, product_exponent     row and exponent of a column of the product
--   AreProduct                        the first columns of the product
--   monomial-mul                      the product is a product of matrices
--   rules-mul                         it is monomial
use Rattle.std.proofs.Common.{◌≡◌, sym, ◌∙◌, ap, ap₂, subst, ℕ, ◌+◌, ◌%◌, ◌<◌, List, length, slice_index, arith}
use native.Mathlib.Nat as Nat
use Rattle.irr_algebra.specs.Fin.{to_nat}
use Rattle.irr_algebra.specs.Listed.{sum_below}
use Rattle.irr_algebra.specs.Matrix.{◌·◌}
use Rattle.irr_algebra.specs.Ring.{Ring}
use Rattle.irr_algebra.proofs.Indices.{to_nat-lt}
use Rattle.irr_algebra.proofs.Listed.{sum-to_nat}
use Rattle.irr_algebra.proofs.Matrices.{matrix-ext, mul-at}
use Rattle.irr_algebra.proofs.Rings.{ring_laws}
use Rattle.irr_number.specs.Element.{delta}
use Rattle.irr_number.specs.Number.{Number, numbers, root_power}
use Rattle.irr_number.specs.SumLaws.{sum_below-delta, sum_below_cong}
use Rattle.irr_number.proofs.RootPowers.{root_power-mod, root_power-mul}
use Rattle.irr_mono.specs.Monomial.{AreRules, monomial, monomial_entry}
use Rattle.irr_mono.proofs.Tables.{AreTables}

-- the second matrix takes column k to row q k, and the first one that row's column to row p (q k)
pub record IsProductColumn (N : ℕ) (p e q f : List ℕ) (k i x : ℕ) : Type 0 where
  pub row : i ≡ slice_index p (slice_index q k)
  pub exponent : x ≡ (slice_index e (slice_index q k) + slice_index f k) % N

module _ (N : ℕ) (p e q f : List ℕ) where
  abbrev pub AreProduct : ℕ → List ℕ → List ℕ → Type 0
  AreProduct n ps es = AreTables (IsProductColumn N p e q f) n ps es

  -- one term of an entry of the product
  turn : (R : Ring) (x d y : R.Carrier) → R.mul x (R.mul d y) ≡ R.mul d (R.mul x y)
  turn R x d y = simp (ring_laws, R)

  -- only one term is not 0
  product-sum : (n i j : ℕ) → slice_index q j < n
      → sum_below (numbers N) n (λ k. (numbers N).mul (monomial_entry N p e i k) (monomial_entry N q f k j))
      ≡ (numbers N).mul (monomial_entry N p e i (slice_index q j)) (root_power N (slice_index f j))
  unfolding monomial_entry
  product-sum n i j l =
      sum_below_cong (numbers N) n
      (λ k. (numbers N).mul (monomial_entry N p e i k) (monomial_entry N q f k j))
      (λ k. (numbers N).mul (delta (numbers N) (slice_index q j) k) ((numbers N).mul (monomial_entry N p e i k) (root_power N (slice_index f j))))
      (λ k _. turn (numbers N) (monomial_entry N p e i k) (delta (numbers N) (slice_index q j) k) (root_power N (slice_index f j)))
      ∙ sum_below-delta (numbers N) n (slice_index q j) (λ k. (numbers N).mul (monomial_entry N p e i k) (root_power N (slice_index f j))) l

  -- it is an entry of the product
  product-power : (ps es : List ℕ) (i j : ℕ) → IsProductColumn N p e q f j (slice_index ps j) (slice_index es j)
      → monomial_entry N ps es i j ≡ (numbers N).mul (monomial_entry N p e i (slice_index q j)) (root_power N (slice_index f j))
  unfolding monomial_entry
  product-power ps es i j h =
      ap₂ (λ a x. (numbers N).mul (delta (numbers N) a i) (root_power N x)) h.row h.exponent
      ∙ ap ((numbers N).mul d) (root_power-mod N (a + b) ∙ sym (root_power-mul N a b))
      ∙ sym ((numbers N).mul_assoc d (root_power N a) (root_power N b))
    where
      a : ℕ
      a = slice_index e (slice_index q j)

      b : ℕ
      b = slice_index f j

      d : Number N
      d = delta (numbers N) (slice_index p (slice_index q j)) i

  pub monomial-mul : (n : ℕ) (ps es : List ℕ) → ((k : ℕ) → k < n → slice_index q k < n) → AreProduct n ps es → monomial N n ps es ≡ monomial N n p e · monomial N n q f
  unfolding monomial
  monomial-mul n ps es inside h = matrix-ext (λ i j.
      product-power ps es (to_nat i) (to_nat j) (h.each (to_nat j) (to_nat-lt j))
      ∙ sym (mul-at (monomial N n p e) (monomial N n q f) i j
      ∙ sum-to_nat (numbers N) n (λ k. (numbers N).mul (monomial_entry N p e (to_nat i) k) (monomial_entry N q f k (to_nat j)))
      ∙ product-sum n (to_nat i) (to_nat j) (inside (to_nat j) (to_nat-lt j))))

  pub rules-mul : (n : ℕ) (ps es : List ℕ) → 0 < N → AreRules N p e → AreRules N q f → length q ≡ length p → length q ≡ n → AreProduct n ps es → AreRules N ps es
  rules-mul n ps es pos g h same len t = record {
    some = omega (arith, h.some, len, t.first);
    few = omega (arith, h.few, len, t.first);
    same = t.second ∙ sym t.first;
    inside = λ j l. let lj : j < length q = within j l in
        subst (λ i. i < length ps) (sym (t.each j (small j l)).row) (let le : slice_index p (slice_index q j) < length p = g.inside (slice_index q j) (onto j lj) in omega (arith, same, len, t.first));
    distinct = λ j k lj lk s. h.distinct j k (within j lj) (within k lk)
        (g.distinct (slice_index q j) (slice_index q k) (onto j (within j lj)) (onto k (within k lk)) (sym (t.each j (small j lj)).row ∙ s ∙ (t.each k (small k lk)).row));
    below = λ j l. subst (λ x. x < N) (sym (t.each j (small j l)).exponent) (Nat.mod-lt (slice_index e (slice_index q j) + slice_index f j) pos);
  }
    where
      small : (j : ℕ) → j < length ps → j < n
      small j l = subst (λ m. j < m) t.first l

      within : (j : ℕ) → j < length ps → j < length q
      within j l = subst (λ m. j < m) (t.first ∙ sym len) l

      onto : (j : ℕ) → j < length q → slice_index q j < length p
      onto j l = subst (λ m. slice_index q j < m) same (h.inside j l)
