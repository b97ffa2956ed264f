-- Periods and orders of wave vectors.
--   dot-plus                 products with sums of wave vectors
--   multiple_of, multiple_of_divisor, sum_of, equivalent_of, turned_of     which multiples of wave vectors are in T*
--   period-divides           the period divides each number that takes the wave vector into T*
--   least_number             the least positive number with a decided property
--   order_within             the order of a wave vector, where it is decided what is in T*, divides each multiple of the exponent
--                            times such a number
--   exponent_unique, period_unique, order_unique, order_positive
use Rattle.std.proofs.Common.{◌≡◌, sym, ◌∙◌, ap, ap₂, subst, refl, ℕ, zero, suc, pos, ◌<◌, ◌≤◌, ◌+◌, ◌*◌, ◌/◌, ◌%◌, ◌⊎◌, inl, inr, arith, le_antisymm}
use Rattle.std.proofs.lemmas.Bool.{cases_lt}
use Rattle.std.specs.Int.{◌∣◌}
use native.Mathlib.Nat as Nat
use Rattle.irr_algebra.specs.Ring.{Ring, whole}
use Rattle.irr_algebra.specs.Fin.Fin.{first}
use Rattle.irr_algebra.specs.Matrix.{Matrix, ◌·◌, ◌⊕◌}
use Rattle.irr_algebra.proofs.Matrices.{matrix-ext, mul-at}
use Rattle.irr_algebra.proofs.Rings.{ring_laws, add-mul}
use Rattle.irr_algebra.proofs.Sums.{sum-ext, sum-add}
use Rattle.irr_algebra.proofs.Whole.{whole-mul as whole_product, whole-add as whole_sum}
use Rattle.irr_rational.specs.Rational.{Rational, rationals, IsWhole}
use Rattle.irr_rational.proofs.Integers.{integer-pos}
use Rattle.irr_rational.proofs.WholeNumbers.{whole-integer, whole-add, whole-mul, whole-neg}
use Rattle.irr_space.specs.Operation.{Operation, WaveVector, Vector, dot, turned}
use Rattle.irr_space.specs.SpaceGroup.{IsExponent, IsTranslation}
use Rattle.irr_space.specs.Reciprocal.{IsReciprocal, AreEquivalent, IsPeriod, IsOrder, times}
use Rattle.irr_cocycle.specs.SpaceGroupLaws.{IsGroup}
use Rattle.irr_cocycle.proofs.Operations.{wide, dot-sub, dot-times, dot-turned}
use Rattle.irr_cocycle.proofs.Reciprocals.{translation-turned}

whole_count : (n : ℕ) → IsWhole (whole rationals n)
whole_count n = subst IsWhole (integer-pos rationals n) (whole-integer (pos n))

add-mul_matrix : {R : Ring} {l m n : ℕ} (a b : Matrix R l m) (c : Matrix R m n) → (a ⊕ b) · c ≡ a · c ⊕ b · c
unfolding ◌⊕◌
add-mul_matrix {R} {l} {m} {n} a b c = matrix-ext (λ i j. mul-at (a ⊕ b) c i j
    ∙ sum-ext R m (λ k. R.mul (R.add (a.at i k) (b.at i k)) (c.at k j))
    (λ k. R.add (R.mul (a.at i k) (c.at k j)) (R.mul (b.at i k) (c.at k j)))
    (λ k. add-mul R (a.at i k) (b.at i k) (c.at k j))
    ∙ sum-add R m (λ k. R.mul (a.at i k) (c.at k j)) (λ k. R.mul (b.at i k) (c.at k j))
    ∙ ap₂ R.add (sym (mul-at a c i j)) (sym (mul-at b c i j)))

pub dot-plus : (k l : WaveVector) (t : Vector) → dot (k ⊕ l) t ≡ rationals.add (dot k t) (dot l t)
unfolding dot ◌⊕◌
dot-plus k l t = ap (λ (m : Matrix rationals 1 1). m.at first first) (add-mul_matrix k l t)

module _ (G : Operation → Type 0) where
  -- n k.t is whole for each translation t
  multiple_from : (n : ℕ) (k : WaveVector)
      → ((t : Vector) → IsTranslation G t → IsWhole (rationals.mul (whole rationals n) (dot k t)))
      → IsReciprocal G (times n k)
  multiple_from n k h = record { is_whole = λ t m. subst IsWhole (sym (dot-times n k t)) (h t m) }

  multiple_at : (n : ℕ) (k : WaveVector) → IsReciprocal G (times n k) → (t : Vector) → IsTranslation G t
      → IsWhole (rationals.mul (whole rationals n) (dot k t))
  multiple_at n k r t m = subst IsWhole (dot-times n k t) (r.is_whole t m)

  pub multiple_of : (c n : ℕ) (k : WaveVector) → IsReciprocal G (times n k) → IsReciprocal G (times (c * n) k)
  multiple_of c n k r = multiple_from (c * n) k (λ t m. subst IsWhole
      (sym (ap (λ x. rationals.mul x (dot k t)) (whole_product rationals c n)
      ∙ rationals.mul_assoc (whole rationals c) (whole rationals n) (dot k t)))
      (whole-mul (whole rationals c) (rationals.mul (whole rationals n) (dot k t)) (whole_count c)
      (multiple_at n k r t m)))

  pub multiple_of_divisor : (m n : ℕ) (k : WaveVector) → m ∣ n → IsReciprocal G (times m k) → IsReciprocal G (times n k)
  multiple_of_divisor m n k v r = subst (λ x. IsReciprocal G (times x k))
      (Nat.mul_comm (n / m) m ∙ Nat.mul-div_cancel' m v) (multiple_of (n / m) m k r)

  -- what is left of a multiple
  rest_of : (a b : ℕ) (k : WaveVector) → IsReciprocal G (times (a + b) k) → IsReciprocal G (times a k)
      → IsReciprocal G (times b k)
  rest_of a b k r s = multiple_from b k (λ t m. subst IsWhole
      (ap (λ x. rationals.add (rationals.mul x (dot k t))
      (rationals.neg (rationals.mul (whole rationals a) (dot k t)))) (whole_sum rationals a b)
      ∙ left (whole rationals a) (whole rationals b) (dot k t))
      (whole-add (rationals.mul (whole rationals (a + b)) (dot k t))
      (rationals.neg (rationals.mul (whole rationals a) (dot k t)))
      (multiple_at (a + b) k r t m) (whole-neg (rationals.mul (whole rationals a) (dot k t)) (multiple_at a k s t m))))
    where
      left : (x y d : Rational) → rationals.add (rationals.mul (rationals.add x y) d)
          (rationals.neg (rationals.mul x d)) ≡ rationals.mul y d
      left x y d = simp (ring_laws, rationals)

  pub sum_of : (n : ℕ) (k l : WaveVector) → IsReciprocal G (times n k) → IsReciprocal G (times n l)
      → IsReciprocal G (times n (k ⊕ l))
  sum_of n k l r s = multiple_from n (k ⊕ l) (λ t m. subst IsWhole
      (sym (ap (rationals.mul (whole rationals n)) (dot-plus k l t)
      ∙ rationals.mul-add (whole rationals n) (dot k t) (dot l t)))
      (whole-add (rationals.mul (whole rationals n) (dot k t)) (rationals.mul (whole rationals n) (dot l t))
      (multiple_at n k r t m) (multiple_at n l s t m)))

  pub equivalent_of : (n : ℕ) (k w : WaveVector) → AreEquivalent G w k → IsReciprocal G (times n k)
      → IsReciprocal G (times n w)
  equivalent_of n k w e r = multiple_from n w (λ t m. subst IsWhole (regrouped (whole rationals n) (dot w t) (dot k t))
      (whole-add (rationals.mul (whole rationals n) (rationals.add (dot w t) (rationals.neg (dot k t))))
      (rationals.mul (whole rationals n) (dot k t))
      (whole-mul (whole rationals n) (rationals.add (dot w t) (rationals.neg (dot k t))) (whole_count n)
      (subst IsWhole (dot-sub w k t) (e.is_whole t m)))
      (multiple_at n k r t m)))
    where
      regrouped : (c x y : Rational) → rationals.add (rationals.mul c (rationals.add x (rationals.neg y)))
          (rationals.mul c y) ≡ rationals.mul c x
      regrouped c x y = simp (ring_laws, rationals)

  pub turned_of : IsGroup G → (n : ℕ) (k : WaveVector) (g : Operation) → G g → IsReciprocal G (times n k)
      → IsReciprocal G (times n (turned k g))
  turned_of group n k g m r = multiple_from n (turned k g)
      (λ t h. subst (λ x. IsWhole (rationals.mul (whole rationals n) x)) (dot-turned k g t)
      (multiple_at n k r (wide g · t) (translation-turned G group g t m h)))

  pub period-divides : (k : WaveVector) (q n : ℕ) → IsPeriod G k q → IsReciprocal G (times n k) → q ∣ n
  period-divides k q n p r = from_rest (n % q) refl
    where
      rest_in : IsReciprocal G (times (n % q) k)
      rest_in = rest_of (q * (n / q)) (n % q) k (subst (λ x. IsReciprocal G (times x k)) (sym (Nat.div-add-mod n q)) r)
          (multiple_of_divisor q (q * (n / q)) k (Nat.dvd-mul_right q (n / q)) p.reciprocal)

      from_rest : (x : ℕ) → n % q ≡ x → q ∣ n
      from_rest zero e = Nat.dvd_of_mod-eq-zero q e
      from_rest (suc x) e = absurd (
          let l : q ≤ n % q = p.least (n % q) (omega (arith, e)) rest_in in
          let b : n % q < q = Nat.mod-lt n p.positive in omega (arith, l, b))

-- the least positive number with a property that is decided
pub least_number : (P : ℕ → Type 0) → ((n : ℕ) → P n ⊎ (P n → ⊥)) → (m : ℕ) → 0 < m → P m
    → (q : ℕ) × (0 < q) × P q × ((n : ℕ) → 0 < n → P n → q ≤ n)
least_number P decide m positive at = elim (search m) [
  | inl found ↦ found
  | inr none ↦ absurd (none m positive (omega arith) at)
]
  where
    search : (b : ℕ) → ((q : ℕ) × (0 < q) × P q × ((n : ℕ) → 0 < n → P n → q ≤ n)) ⊎ ((n : ℕ) → 0 < n → n ≤ b → P n → ⊥)
    search zero = inr (λ n l u p. omega (arith, l, u))
    search (suc b) = elim (search b) [
      | inl found ↦ inl found
      | inr none ↦ (elim (decide (suc b)) [
        | inl p ↦ inl (
          suc b,
          omega arith,
          p,
          λ n l q. elim
              (cases_lt n (suc b)) [ inl below ↦ absurd (none n l (omega (arith, below)) q) | inr f ↦ omega (arith, f) ],
        )
        | inr f ↦ inr (λ n l u p. elim (cases_lt n (suc b)) [
          | inl below ↦ none n l (omega (arith, below)) p
          | inr g ↦ (let same : n ≡ suc b = omega (arith, g, u) in f (subst P same p))
        ])
      ])
    ]

module _ (G : Operation → Type 0) (decide : (k : WaveVector) → IsReciprocal G k ⊎ (IsReciprocal G k → ⊥)) where
  -- the order exists, and divides
  pub order_within : (k : WaveVector) (e m M : ℕ) → IsExponent G e → 0 < m → IsReciprocal G (times m k) → e * m ∣ M
      → (n : ℕ) × IsOrder G k n × (n ∣ M)
  order_within k e m M exponent positive at v =
      let t = least_number (λ n. IsReciprocal G (times n k)) (λ n. decide (times n k)) m positive at in
      let p : IsPeriod G k t.0 = record { positive = t.1; reciprocal = t.2; least = t.3 } in (
        e * t.0,
        record { exponent = e; period = t.0; is_exponent = exponent; is_period = p; is_product = refl },
        Nat.dvd_trans (e * t.0) (Nat.mul-dvd-mul_left t.0 e (period-divides G k t.0 m p at)) v,
      )

pub exponent_unique : (G : Operation → Type 0) (d e : ℕ) → IsExponent G d → IsExponent G e → d ≡ e
exponent_unique G d e a b = le_antisymm (a.least e b.positive b.power) (b.least d a.positive a.power)

pub period_unique : (G : Operation → Type 0) (k : WaveVector) (d e : ℕ) → IsPeriod G k d → IsPeriod G k e → d ≡ e
period_unique G k d e a b = le_antisymm (a.least e b.positive b.reciprocal) (b.least d a.positive a.reciprocal)

pub order_unique : (G : Operation → Type 0) (k : WaveVector) (m n : ℕ) → IsOrder G k m → IsOrder G k n → m ≡ n
order_unique G k m n a b = a.is_product ∙ ap₂ (λ x y. x * y) (exponent_unique G a.exponent b.exponent a.is_exponent b.is_exponent)
    (period_unique G k a.period b.period a.is_period b.is_period) ∙ sym b.is_product

pub order_positive : (G : Operation → Type 0) (k : WaveVector) (n : ℕ) → IsOrder G k n → 0 < n
order_positive G k n o = subst (λ x. 0 < x) (sym o.is_product) (Nat.mul-pos o.is_exponent.positive o.is_period.positive)
