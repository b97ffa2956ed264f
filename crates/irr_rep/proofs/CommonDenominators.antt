-- Families times a common denominator of their entries.
--   root_sum_cleared, within_cleared      a number or a matrix times a divisor q of its denominator q c has the denominator c
--   root_sum_of_power                     q z^j is a sum of q powers
--   family_order                          what holds of the order of each number holds of that of a family
--   divisor_within                        a divisor of a denominator is within its limit
--   divisor_positive, divisor_limited     the same of the denominator of a limited family
--   entry_within                          an entry of a matrix is within its sizes
--   checkable_multiples                   a family times a divisor of its denominator can be checked
--   multiplies-to, multiplies-from        its products are right where those of the family are
use Rattle.std.proofs.Common.{◌≡◌, sym, ◌∙◌, ap, ap₂, subst, ℕ, ◌*◌, ◌/◌, ◌<◌, ◌≤◌, ◌^◌, List, length, arith}
use native.Mathlib.Nat as Nat
use Rattle.std.specs.Int.{◌∣◌}
use Rattle.irr_algebra.specs.Fin.{Fin}
use Rattle.irr_algebra.specs.Matrix.{Matrix, ◌·◌, scale}
use Rattle.irr_algebra.specs.Ring.{Ring, whole}
use Rattle.irr_algebra.proofs.Indices.{from_nat, to_nat-from_nat}
use Rattle.irr_algebra.proofs.Matrices.{matrix-ext, mul-scale, scale-at, scale-mul, scale-scale}
use Rattle.irr_algebra.proofs.Whole.{whole-mul}
use Rattle.irr_number.specs.Number.{Number, numbers, root_power}
use Rattle.irr_number.proofs.Primes.{divisor_pos}
use Rattle.irr_canonical.specs.RootSum.{IsRootSum}
use Rattle.irr_canonical.proofs.RootSums.{IsRootSum-many, IsRootSum-more, IsRootSum-root}
use Rattle.irr_canonical.proofs.Sums.{eq_of_mul}
use Rattle.irr_space.specs.PhaseTable.{PhaseTable, phases_over}
use Rattle.irr_cyc.specs.declared.scalars.Scalar.{Ghosts}
use Rattle.irr_mat.specs.declared.matrices.Mat.{Mat}
use Rattle.irr_mat.specs.Entries.{IsEntry, first_order, matrix_of}
use Rattle.irr_mat.specs.Size.{IsWithin}
use Rattle.irr_rep.specs.Family.{HasShape, matrix_at}
use Rattle.irr_rep.specs.Defects.{AreMultiples, IsCheckable, IsLimited, IsMatrix, Multiplies, MultipliesBy}
use Rattle.irr_rep.proofs.Families.{item-order}
use Rattle.irr_rep.proofs.MatrixForms.{order_of_matrix}
use Rattle.irr_rep.proofs.SingleEntries.{item}

pub quotient_positive : (q d : ℕ) → 0 < d → q ∣ d → 0 < d / q
quotient_positive q d p v = divisor_pos (d / q) d p (subst (λ k. d / q ∣ k) (Nat.div-mul_cancel q v) (Nat.dvd-mul_right (d / q) q))

pub divisor_within : (q d : ℕ) → 0 < d → d ≤ 4096 → q ∣ d → q ≤ 4096
divisor_within q d p l v = Nat.le_trans (Nat.le_of_dvd p v) l

pub root_sum_cleared : (N s q d : ℕ) (x : Number N) → q ∣ d → IsRootSum N s d x → IsRootSum N s (d / q) ((numbers N).mul (whole (numbers N) q) x)
root_sum_cleared N s q d x v h = record {
  positive = quotient_positive q d h.positive v;
  powers = h.powers;
  few = h.few;
  multiple =
      sym ((numbers N).mul_assoc (whole (numbers N) (d / q)) (whole (numbers N) q) x)
      ∙ ap (λ y. (numbers N).mul y x) (sym (whole-mul (numbers N) (d / q) q) ∙ ap (whole (numbers N)) (Nat.div-mul_cancel q v)) ∙ h.multiple;
}

pub within_cleared : (N r c s q d : ℕ) (a : Matrix (numbers N) r c) → q ∣ d → IsWithin N s d a
    → IsWithin N s (d / q) (scale (numbers N) (whole (numbers N) q) a)
unfolding scale
within_cleared N r c s q d a v w = record {
  positive = quotient_positive q d w.positive v;
  entry = λ i j. root_sum_cleared N s q d (a.at i j) v (w.entry i j);
}

pub root_sum_of_power : (N q j : ℕ) → 0 < q → IsRootSum N q 1 ((numbers N).mul (whole (numbers N) q) (root_power N j))
root_sum_of_power N q j p = IsRootSum-more N q (omega arith)
    (subst (λ k. IsRootSum N (q * 1) k ((numbers N).mul (whole (numbers N) q) (root_power N j))) one
    (root_sum_cleared N (q * 1) q (q * 1) (root_power N j) (Nat.dvd-mul_right q 1) (IsRootSum-many N q p (IsRootSum-root N j))))
  where
    one : q * 1 / q ≡ 1
    one = Nat.mul-div_cancel_left 1 p

module _ {S : Type 0} {G : Ghosts S} where
  pub family_order : (P : ℕ → Type 0) → ((x : S) → P (G.order_of x)) → (n h d : ℕ) (mats : List (Mat S G)) → HasShape n h d mats → 0 < h → P n
  family_order P f n h d mats s l =
      let some : 0 < length mats = subst (λ k. 0 < k) (sym s.count) l in
      let m = item mats 0 some in
      subst P (item-order n d mats 0 m.0 some m.1 s) (order_of_matrix P f m.0)

  pub denominator_positive : (n h d e : ℕ) (mats : List (Mat S G)) → IsLimited n h d e mats → Fin h → 0 < e
  denominator_positive n h d e mats l i = (l.within i).positive

  pub divisor_positive : (n h d e q : ℕ) (mats : List (Mat S G)) → IsLimited n h d e mats → Fin h → q ∣ e → 0 < q
  divisor_positive n h d e q mats l i v = divisor_pos q e (denominator_positive n h d e mats l i) v

  pub divisor_limited : (n h d e q : ℕ) (mats : List (Mat S G)) → IsLimited n h d e mats → Fin h → q ∣ e → q ≤ 4096
  divisor_limited n h d e q mats l i v = divisor_within q e (denominator_positive n h d e mats l i) l.limited v

  pub entry_within : (n r s d : ℕ) (a : Matrix (numbers n) r r) (m : Mat S G) → IsMatrix n r a m → IsWithin n s d a → (i j : ℕ) (x : S)
      → i < m.rows → j < m.cols → G.order_of x ≡ first_order G.order_of m.entries.items
      → ((u : ℕ) → IsEntry (matrix_of G.value u m.rows m.cols m.entries.items) i j (G.value u x))
      → IsRootSum (G.order_of x) s d (G.value (G.order_of x) x)
  entry_within n r s d a m is w i j x li lj o at =
      let p = from_nat m.rows i li in
      let q = from_nat m.cols j lj in
      let whole_matrix : IsWithin n s d (matrix_of G.value n m.rows m.cols m.entries.items) =
      subst (λ k. IsWithin n s d (matrix_of G.value n m.rows k m.entries.items)) (sym is.cols)
      (subst (λ k. IsWithin n s d (matrix_of G.value n k r m.entries.items)) (sym is.rows) (subst (IsWithin n s d) (sym is.value) w)) in
      subst (λ u. IsRootSum u s d (G.value u x)) (sym (o ∙ is.order))
      (subst (IsRootSum n s d) (sym ((at n).is_entry p q (to_nat-from_nat m.rows i li) (to_nat-from_nat m.cols j lj))) (whole_matrix.entry p q))

  pub limits_of_multiples : (n h d q e : ℕ) (mats multiples : List (Mat S G)) → q ∣ e → IsLimited n h d e mats → AreMultiples n h d q mats multiples
      → IsLimited n h d (e / q) multiples
  limits_of_multiples n h d q e mats multiples v l a = record {
    shape = a.shape;
    few = l.few;
    limited = Nat.le_trans (Nat.div-le_self e q) l.limited;
    within = λ i. subst (IsWithin n (2 ^ 30) (e / q)) (sym (a.multiple i)) (within_cleared n d d (2 ^ 30) q e (matrix_at n d mats i) v (l.within i));
  }

  abbrev pub checkable_multiples : {h : ℕ} (T : PhaseTable h) (d q : ℕ) (mats multiples : List (Mat S G)) (p : IsCheckable T d mats)
      → q ∣ p.denominator
      → AreMultiples p.n h d q mats multiples → IsCheckable T d multiples
  checkable_multiples {h} T d q mats multiples p v a = record {
    n = p.n;
    divides = p.divides;
    denominator = p.denominator / q;
    limits = limits_of_multiples p.n h d q p.denominator mats multiples v p.limits a;
  }

-- a factor that is not 0 is taken from both sides
scale-cancel : (n r c q : ℕ) → 0 < n → 0 < q → (a b : Matrix (numbers n) r c)
    → scale (numbers n) (whole (numbers n) q) a ≡ scale (numbers n) (whole (numbers n) q) b → a ≡ b
scale-cancel n r c q pn pq a b e = matrix-ext (λ i j. eq_of_mul n pn q pq (a.at i j) (b.at i j)
    (sym (scale-at (numbers n) (whole (numbers n) q) a i j) ∙ ap (λ (m : Matrix (numbers n) r c). m.at i j) e
    ∙ scale-at (numbers n) (whole (numbers n) q) b i j))

module _ (R : Ring) {r : ℕ} (q s : R.Carrier) (a b w : Matrix R r r) where
  product_of_scaled : scale R q a · scale R q b ≡ scale R q (scale R q (a · b))
  product_of_scaled = scale-mul R q a (scale R q b) ∙ ap (scale R q) (mul-scale R q a b)

  scaled_twice : scale R (R.mul q s) (scale R q w) ≡ scale R q (scale R q (scale R s w))
  scaled_twice = scale-scale R (R.mul q s) q w ∙ ap (λ x. scale R x w) (R.mul_comm (R.mul q s) q)
      ∙ sym (scale-scale R q (R.mul q s) w) ∙ ap (scale R q) (sym (scale-scale R q s w))

module _ {S : Type 0} {G : Ghosts S} {h : ℕ} (T : PhaseTable h) (n : ℕ) (v : T.order ∣ n) (d q : ℕ) (mats multiples : List (Mat S G))
    (positive : 0 < n)
    (some : 0 < q) (are : AreMultiples n h d q mats multiples) (i j : Fin h) where
  abbrev k : Number n
  k = whole (numbers n) q

  abbrev x : Number n
  x = (phases_over T n v).phase i j

  left : matrix_at n d multiples i · matrix_at n d multiples j ≡ scale (numbers n) k
      (scale (numbers n) k (matrix_at n d mats i · matrix_at n d mats j))
  left = ap₂ (λ (a b : Matrix (numbers n) d d). a · b) (are.multiple i) (are.multiple j)
      ∙ product_of_scaled (numbers n) k x (matrix_at n d mats i) (matrix_at n d mats j) (matrix_at n d mats i)

  right : scale (numbers n) ((numbers n).mul k x) (matrix_at n d multiples (T.product i j))
      ≡ scale (numbers n) k (scale (numbers n) k (scale (numbers n) x (matrix_at n d mats (T.product i j))))
  right = ap (scale (numbers n) ((numbers n).mul k x)) (are.multiple (T.product i j))
      ∙ scaled_twice (numbers n) k x (matrix_at n d mats i) (matrix_at n d mats j) (matrix_at n d mats (T.product i j))

  pub multiplies-to : MultipliesBy T n v d multiples q i j → Multiplies T n v d mats i j
  multiplies-to e = scale-cancel n d d q positive some _ _ (scale-cancel n d d q positive some _ _ (sym left ∙ e ∙ right))

  pub multiplies-from : Multiplies T n v d mats i j → MultipliesBy T n v d multiples q i j
  multiplies-from e = left ∙ ap (λ m. scale (numbers n) k (scale (numbers n) k m)) e ∙ sym right
