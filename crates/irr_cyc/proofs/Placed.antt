-- Sums of coefficients at places, step by step.
--   placed_sum f place i k    the sum of the first i coefficients that are placed at k
--   placed-write              what a list that has the sums holds after one more coefficient
--   placed-bound              the sum is at most that of the absolute coefficients
--   placed-all                all of them, as a weighted sum
use Rattle.std.proofs.Common.{◌≡◌, refl, sym, ◌∙◌, ap, subst, ℕ, ℤ, pos, zero, suc, ◌+◌, ◌*◌, ◌%◌, ◌<◌, ◌≤◌, ◌+ℤ◌, ◌*ℤ◌, inl, inr, List, length, unsigned_abs, slice_set, arith, add-one, get_or-set_other, get_or-set_same}
use Rattle.std.proofs.lemmas.Int.{unsigned_abs-mul}
use native.Mathlib.Decide.{ℕ_discrete}
use native.Mathlib.Nat as Nat
use Rattle.irr_algebra.specs.Listed.{sum_below}
use Rattle.irr_algebra.specs.Ring.{Ring}
use Rattle.irr_algebra.proofs.Rings.{mul-zero, ring_laws}
use Rattle.irr_number.specs.Element.{delta, weighted_sum}
use Rattle.irr_number.specs.Integers.{integers}
use Rattle.irr_number.specs.SumLaws.{delta-other, delta-same, same_or_not}
use Rattle.irr_canonical.specs.Coefficient.{total_below}
use Rattle.irr_canonical.proofs.Sizes.{unsigned_abs-add}
use Rattle.irr_cyc.specs.Form.{at}

-- the coefficients f 0, .., f (i - 1) that are placed at k, added up
unfoldable pub placed_sum : (f : ℕ → ℤ) (place : ℕ → ℕ) (i k : ℕ) → ℤ
placed_sum f place i k = sum_below integers i (λ j. f j *ℤ delta integers (place j) k)

module _ (f : ℕ → ℤ) (place : ℕ → ℕ) where
  pub placed-zero : (k : ℕ) → placed_sum f place 0 k ≡ pos 0
  unfolding placed_sum sum_below
  placed-zero k = refl

  pub placed-step : (i k : ℕ) → placed_sum f place (i + 1) k ≡ placed_sum f place i k +ℤ (f i *ℤ delta integers (place i) k)
  unfolding placed_sum sum_below
  placed-step i k = ap (λ n. sum_below integers n (λ j. f j *ℤ delta integers (place j) k)) (add-one i)

  -- a coefficient 0 leaves the sum as it is
  pub placed-nothing : (i k : ℕ) → f i ≡ pos 0 → placed_sum f place (i + 1) k ≡ placed_sum f place i k
  placed-nothing i k e = placed-step i k ∙ ap (λ x. placed_sum f place i k +ℤ (x *ℤ delta integers (place i) k)) e
      ∙ nothing integers (placed_sum f place i k) (delta integers (place i) k)
    where
      nothing : (R : Ring) (p d : R.Carrier) → R.add p (R.mul R.zero d) ≡ p
      nothing R p d = simp (ring_laws, R)

  pub placed-all : (n k : ℕ) → placed_sum f place n k ≡ weighted_sum n f (λ i. delta integers (place i) k)
  unfolding placed_sum weighted_sum
  placed-all n k = refl

  term-bound : (i k : ℕ) → unsigned_abs (f i *ℤ delta integers (place i) k) ≤ unsigned_abs (f i)
  term-bound i k = elim (same_or_not (place i) k) [
    | inl e ↦ (let s : unsigned_abs (f i *ℤ delta integers (place i) k) ≡ unsigned_abs (f i) = ap unsigned_abs (ap (λ x. f i *ℤ x) (ap (λ x. delta integers x k) e ∙ delta-same integers k) ∙ integers.mul-one (f i)) in omega arith)
    | inr n ↦ (let s : unsigned_abs (f i *ℤ delta integers (place i) k) ≡ 0 = ap unsigned_abs (ap (λ x. f i *ℤ x) (delta-other integers (place i) k n) ∙ mul-zero integers (f i)) in omega arith)
  ]

  pub placed-bound : (i k : ℕ) → unsigned_abs (placed_sum f place i k) ≤ total_below i (λ j. unsigned_abs (f j))
  unfolding placed_sum sum_below total_below
  placed-bound zero k = omega arith
  placed-bound (suc i) k = omega (arith, unsigned_abs-add (placed_sum f place i k) (f i *ℤ delta integers (place i) k), placed-bound i k, term-bound i k)

  -- one more coefficient, times x
  pub placed-write : (old now : List ℤ) (x v : ℤ) (i : ℕ) → length now ≡ length old → place i < length now
      → ((k : ℕ) → k < length old → at now k ≡ at old k +ℤ (x *ℤ placed_sum f place i k)) → v ≡ at now (place i) +ℤ (x *ℤ f i)
      → (k : ℕ) → k < length old → at (slice_set now (place i) v) k ≡ at old k +ℤ (x *ℤ placed_sum f place (i + 1) k)
  placed-write old now x v i len lt h is k lk = elim (ℕ_discrete k (place i)) [
    | yes e ↦ ap (at (slice_set now (place i) v)) e ∙ get_or-set_same now (place i) v (pos 0) lt ∙ is ∙ ap (λ y. at now y +ℤ (x *ℤ f i)) (sym e) ∙ ap (λ y. y +ℤ (x *ℤ f i)) (h k lk)
        ∙ gather integers (at old k) x (placed_sum f place i k) (f i)
        ∙ ap (λ y. at old k +ℤ (x *ℤ (placed_sum f place i k +ℤ (f i *ℤ y)))) (sym (ap (λ y. delta integers y k) (sym e) ∙ delta-same integers k))
        ∙ ap (λ y. at old k +ℤ (x *ℤ y)) (sym (placed-step i k))
    | no ne ↦ get_or-set_other now (place i) k v (pos 0) ne ∙ h k lk ∙ ap (λ y. at old k +ℤ (x *ℤ y))
        (sym (placed-step i k ∙ ap (λ y. placed_sum f place i k +ℤ (f i *ℤ y)) (delta-other integers (place i) k (λ s. ne (sym s))) ∙ none integers (placed_sum f place i k) (f i)))
  ]
    where
      gather : (R : Ring) (a x p c : R.Carrier) → R.add (R.add a (R.mul x p)) (R.mul x c) ≡ R.add a (R.mul x (R.add p (R.mul c R.one)))
      gather R a x p c = simp (ring_laws, R)

      none : (R : Ring) (p c : R.Carrier) → R.add p (R.mul c R.zero) ≡ p
      none R p c = simp (ring_laws, R)

-- more terms, a greater sum
pub total-more : (f : ℕ → ℕ) (i n : ℕ) → i ≤ n → total_below i f ≤ total_below n f
unfolding total_below
total-more f i zero h = let e : i ≡ 0 = omega arith in let s : total_below i f ≡ 0 = ap (λ k. total_below k f) e in omega arith
total-more f i (suc n) h = elim (ℕ_discrete i (suc n)) [
  | yes e ↦ (let s : total_below i f ≡ total_below (suc n) f = ap (λ k. total_below k f) e in omega arith)
  | no ne ↦ omega (arith, total-more f i n (omega (arith, ne)))
]

total-step : (f : ℕ → ℕ) (i : ℕ) → total_below (i + 1) f ≡ total_below i f + f i
unfolding total_below
total-step f i = ap (λ k. total_below k f) (add-one i)

-- on the way no sum is greater than all together
pub running-bound : (f : ℕ → ℤ) (place : ℕ → ℕ) (a s x : ℤ) (i n k : ℕ) (most : ℕ) → i < n → a ≡ s +ℤ (x *ℤ placed_sum f place i k) → unsigned_abs s + unsigned_abs x * total_below n (λ j. unsigned_abs (f j)) ≤ most
    → unsigned_abs a + unsigned_abs x * unsigned_abs (f i) ≤ most
running-bound f place a s x i n k most lt e h =
    let is : unsigned_abs a ≡ unsigned_abs (s +ℤ (x *ℤ placed_sum f place i k)) = ap unsigned_abs e in
    let m : unsigned_abs (x *ℤ placed_sum f place i k) ≡ unsigned_abs x * unsigned_abs (placed_sum f place i k) = unsigned_abs-mul x (placed_sum f place i k) in
    let t : total_below (i + 1) (λ j. unsigned_abs (f j)) ≡ total_below i (λ j. unsigned_abs (f j)) + unsigned_abs (f i) = total-step (λ j. unsigned_abs (f j)) i in
    let g : total_below (i + 1) (λ j. unsigned_abs (f j)) ≤ total_below n (λ j. unsigned_abs (f j)) = total-more (λ j. unsigned_abs (f j)) (i + 1) n (omega arith) in
    sum-up (unsigned_abs a) (unsigned_abs s) (unsigned_abs x) (unsigned_abs (placed_sum f place i k)) (total_below i (λ j. unsigned_abs (f j))) (unsigned_abs (f i)) (total_below n (λ j. unsigned_abs (f j))) most
    (omega (arith, is, m, unsigned_abs-add s (x *ℤ placed_sum f place i k))) (placed-bound f place i k) (omega arith) h
  where
    sum-up : (a s x p t y total most : ℕ) → a ≤ s + x * p → p ≤ t → t + y ≤ total → s + x * total ≤ most → a + x * y ≤ most
    sum-up a s x p t y total most ha hp ht h = omega (arith, Nat.mul-le-mul_left x hp, Nat.mul-le-mul_left x ht)

-- at the start nothing is placed
pub nothing-placed : (f : ℕ → ℤ) (place : ℕ → ℕ) (a x : ℤ) (k : ℕ) → a ≡ a +ℤ (x *ℤ placed_sum f place 0 k)
nothing-placed f place a x k = sym (ap (λ y. a +ℤ (x *ℤ y)) (placed-zero f place k) ∙ ap (λ y. a +ℤ y) (mul-zero integers x) ∙ integers.add-zero a)

-- sums of rows, each times a coefficient
module _ (n : ℕ) (f g : ℕ → ℤ) where
  row : (i k : ℕ) → ℤ
  row i k = weighted_sum n g (λ j. delta integers ((i + j) % n) k)

  pub rows : (i k : ℕ) → ℤ
  rows i k = sum_below integers i (λ h. f h *ℤ weighted_sum n g (λ j. delta integers ((h + j) % n) k))

  pub rows-zero : (k : ℕ) → rows 0 k ≡ pos 0
  unfolding rows sum_below
  rows-zero k = refl

  pub rows-step : (i k : ℕ) → rows (i + 1) k ≡ rows i k +ℤ (f i *ℤ weighted_sum n g (λ j. delta integers ((i + j) % n) k))
  unfolding rows sum_below
  rows-step i k = ap (λ m. sum_below integers m (λ h. f h *ℤ weighted_sum n g (λ j. delta integers ((h + j) % n) k))) (add-one i)

  pub rows-all : (k : ℕ) → rows n k ≡ weighted_sum n f (λ i. weighted_sum n g (λ j. delta integers ((i + j) % n) k))
  unfolding rows weighted_sum
  rows-all k = refl

  row-bound : (i k : ℕ) → unsigned_abs (weighted_sum n g (λ j. delta integers ((i + j) % n) k)) ≤ total_below n (λ j. unsigned_abs (g j))
  row-bound i k = subst (λ z. unsigned_abs z ≤ total_below n (λ j. unsigned_abs (g j))) (placed-all g (λ j. (i + j) % n) n k) (placed-bound g (λ j. (i + j) % n) n k)

  pub rows-bound : (i k : ℕ) → unsigned_abs (rows i k) ≤ total_below i (λ j. unsigned_abs (f j)) * total_below n (λ j. unsigned_abs (g j))
  unfolding rows sum_below total_below
  rows-bound zero k = omega arith
  rows-bound (suc i) k = omega (
    arith,
    unsigned_abs-add (rows i k) (f i *ℤ weighted_sum n g (λ j. delta integers ((i + j) % n) k)),
    rows-bound i k,
    unsigned_abs-mul (f i) (weighted_sum n g (λ j. delta integers ((i + j) % n) k)),
    Nat.mul-le-mul_left (unsigned_abs (f i)) (row-bound i k),
  )

  pub rows-next : (i k most : ℕ) → i < n → total_below n (λ j. unsigned_abs (f j)) * total_below n (λ j. unsigned_abs (g j)) ≤ most
      → unsigned_abs (rows i k) + unsigned_abs (f i) * total_below n (λ j. unsigned_abs (g j)) ≤ most
  rows-next i k most lt h =
      let t : total_below (i + 1) (λ j. unsigned_abs (f j)) ≡ total_below i (λ j. unsigned_abs (f j)) + unsigned_abs (f i) = total-step (λ j. unsigned_abs (f j)) i in
      let m : total_below (i + 1) (λ j. unsigned_abs (f j)) ≤ total_below n (λ j. unsigned_abs (f j)) = total-more (λ j. unsigned_abs (f j)) (i + 1) n (omega arith) in
      up (unsigned_abs (rows i k)) (total_below i (λ j. unsigned_abs (f j))) (unsigned_abs (f i)) (total_below n (λ j. unsigned_abs (f j))) (total_below n (λ j. unsigned_abs (g j))) most (rows-bound i k) (omega arith) h
    where
      up : (r t y total y_total most : ℕ) → r ≤ t * y_total → t + y ≤ total → total * y_total ≤ most → r + y * y_total ≤ most
      up r t y total y_total most hr ht h = omega (arith, hr, Nat.mul-le-mul_right y_total ht)

-- where nothing was before
pub bare : (a b p : ℤ) → a ≡ pos 0 → b ≡ a +ℤ (pos 1 *ℤ p) → b ≡ p
bare a b p z e = e ∙ ap (λ x. x +ℤ (pos 1 *ℤ p)) z ∙ zero-one integers p
  where
    zero-one : (R : Ring) (p : R.Carrier) → R.add R.zero (R.mul R.one p) ≡ p
    zero-one R p = simp (ring_laws, R)
