-- Sums over the places of the squares of a matrix, which are pairs (x,y) of places with x <= y, or x < y, where places are pairs of an
-- arm and a row.
--   upper-value, strict-value     what stands at a pair, by its parts
--   symmetric-diagonal_at, skew-diagonal_at       the diagonal entries of the squares
--   symmetric_both, skew_both     what the classes of (i,j) and (j,i) have together
--   symmetric_above, skew_above   nothing is in the class of (i,j) with i above j
use Rattle.std.proofs.Common.{◌≡◌, sym, ◌∙◌, ap, ap₂, refl, ℕ, ◌<◌, ◌≤◌, ◌+◌, ◌*◌, arith, inl, inr}
use Rattle.std.proofs.lemmas.Bool.{cases_lt}
use native.Mathlib.Nat as Nat
use Rattle.irr_algebra.specs.Ring.{Ring}
use Rattle.irr_algebra.specs.Fin.{Fin, to_nat}
use Rattle.irr_algebra.specs.Sum.{sum, delta}
use Rattle.irr_algebra.specs.Matrix.{Matrix, ◌·◌, trace}
use Rattle.irr_algebra.specs.Pair.{times, pair, on_pairs}
use Rattle.irr_algebra.proofs.Indices.{same_or_not, to_nat-lt}
use Rattle.irr_algebra.proofs.Rings.{ring_laws, zero-add, zero-mul, mul-zero}
use Rattle.irr_algebra.proofs.Sums.{delta-ne, delta-eq, sum-ext, sum-zero, sum-add, sum-mul, mul-sum, sum-neg}
use Rattle.irr_algebra.proofs.Pairs.{on_pairs-pair, to_nat-pair, ext_pairs}
use Rattle.irr_full.specs.Full.{block}
use Rattle.irr_forms.specs.Square.{upper, strict, on_upper, on_strict, upper_first, upper_second, strict_first, strict_second, symmetric_square, skew_square}
use Rattle.irr_forms.proofs.Triangles.{on_upper-both, on_upper-map, on_strict-both, on_strict-ext, sum-upper, sum-square, sum-strict_add}
use Rattle.irr_forms.proofs.PairOrder.{strict-within}
use Rattle.irr_forms.proofs.SquareLaws.{symmetric-entry, skew-entry}
use Rattle.irr_product.proofs.PairSums.{arm_sum}
use Rattle.irr_power.specs.Places.{arm_of, upper_class, strict_class, symmetric_sum, skew_sum}

pub upper-value : {A : Type 0} (n : ℕ) (g : Fin n → Fin n → A) (p : Fin (upper n)) → on_upper n (λ x. g x x) g p ≡ g (upper_first n p) (upper_second n p)
upper-value n g p = sym (on_upper-both g n (λ x. x) (λ x y. x) (λ x. x) (λ x y. y) p)

pub strict-value : {A : Type 0} (n : ℕ) (g : Fin n → Fin n → A) (p : Fin (strict n)) → on_strict n g p ≡ g (strict_first n p) (strict_second n p)
strict-value n g p = sym (on_strict-both g n (λ x y. x) (λ x y. y) p)

-- the row of a place
row_of : (a d : ℕ) → Fin (times a d) → Fin d
row_of a d = on_pairs a d (λ i r. r)

by_parts : (a d : ℕ) (x : Fin (times a d)) → to_nat x ≡ to_nat (arm_of a d x) * d + to_nat (row_of a d x)
unfolding row_of
by_parts a d x = ap to_nat (ext_pairs a d (λ x. x) (λ x. pair d (arm_of a d x) (row_of a d x))
    (λ i r. sym (ap₂ (λ k t. pair d k t) (on_pairs-pair d (λ i r. i) i r) (on_pairs-pair d (λ i r. r) i r))) x)
    ∙ to_nat-pair d (arm_of a d x) (row_of a d x)

-- an earlier place has no later arm
arm_ordered : (a d : ℕ) (x y : Fin (times a d)) → to_nat x < to_nat y → to_nat (arm_of a d x) ≤ to_nat (arm_of a d y)
arm_ordered a d x y l = elim (cases_lt (to_nat (arm_of a d y)) (to_nat (arm_of a d x))) [
  | inl below ↦ absurd (
      let p = by_parts a d x in
      let q = by_parts a d y in
      let r = to_nat-lt (row_of a d y) in
      let m : (to_nat (arm_of a d y) + 1) * d ≤ to_nat (arm_of a d x) * d = Nat.mul-le-mul_right d (omega (arith, below)) in
      let e = Nat.add-mul (to_nat (arm_of a d y)) 1 d in
      let o = Nat.one-mul d in
      omega (arith, l, p, q, r, m, e, o))
  | inr above ↦ omega (arith, above)
]

module _ (R : Ring) where
  open R use {Carrier, zero as 𝟘, add as ◌⊹◌, mul as ◌⊛◌, neg}

  infixl 65 ◌⊹◌
  infixl 70 ◌⊛◌
  pub symmetric-diagonal_at : (n : ℕ) (m : Matrix R n n) (p : Fin (upper n)) → (symmetric_square m).at p p
      ≡ on_upper n (λ x. m.at x x ⊛ m.at x x) (λ x y. m.at x x ⊛ m.at y y ⊹ m.at x y ⊛ m.at y x) p
  symmetric-diagonal_at n m p = symmetric-entry R n m p p
      ∙ upper-value n (λ x y. on_upper n (λ k. m.at x k ⊛ m.at y k) (λ k l. m.at x k ⊛ m.at y l ⊹ m.at x l ⊛ m.at y k) p) p
      ∙ sym (on_upper-map (λ (h : Fin n → Fin n → Carrier). h (upper_first n p) (upper_second n p)) n one two p)
      ∙ ap (λ (h : Fin n → Carrier). h (upper_second n p)) (on_upper-both (λ (x : Fin n) (h : Fin n → Fin n → Carrier). h x) n (λ x. x) (λ x y. x) one two p)
      ∙ on_upper-both (λ (y : Fin n) (h : Fin n → Carrier). h y) n (λ x. x) (λ x y. y) (λ x. one x x) (λ x y. two x y x) p
    where
      one : Fin n → Fin n → Fin n → Carrier
      one k x y = m.at x k ⊛ m.at y k

      two : Fin n → Fin n → Fin n → Fin n → Carrier
      two k l x y = m.at x k ⊛ m.at y l ⊹ m.at x l ⊛ m.at y k

  pub skew-diagonal_at : (n : ℕ) (m : Matrix R n n) (p : Fin (strict n)) → (skew_square m).at p p
      ≡ on_strict n (λ x y. m.at x x ⊛ m.at y y ⊹ neg (m.at x y ⊛ m.at y x)) p
  skew-diagonal_at n m p = skew-entry R n m p p
      ∙ strict-value n (λ x y. on_strict n (λ k l. m.at x k ⊛ m.at y l ⊹ neg (m.at x l ⊛ m.at y k)) p) p
      ∙ strict-value n (λ k l. m.at (strict_first n p) k ⊛ m.at (strict_second n p) l ⊹ neg (m.at (strict_first n p) l ⊛ m.at (strict_second n p) k)) p
      ∙ sym (strict-value n (λ x y. m.at x x ⊛ m.at y y ⊹ neg (m.at x y ⊛ m.at y x)) p)

  delta-pair : {a b : ℕ} (i k : Fin a) (j l : Fin b) → delta R (pair b i j) (pair b k l) ≡ delta R i k ⊛ delta R j l
  delta-pair {a} {b} i k j l = elim (same_or_not i k) [
    | inl e ↦ (elim (same_or_not j l) [
      | inl f ↦ delta-eq R (pair b i j) (pair b k l) (ap₂ (λ x y. pair b x y) e f) ∙ sym (ap₂ R.mul (delta-eq R i k e) (delta-eq R j l f) ∙ R.mul-one R.one)
      | inr g ↦ delta-ne R (pair b i j) (pair b k l) (λ w. g (second w)) ∙ sym (ap (R.mul (delta R i k)) (delta-ne R j l g) ∙ mul-zero R (delta R i k))
    ])
    | inr g ↦ delta-ne R (pair b i j) (pair b k l) (λ w. g (former w)) ∙ sym (ap (λ c. R.mul c (delta R j l)) (delta-ne R i k g) ∙ zero-mul R (delta R j l))
  ]
    where
      former : pair b i j ≡ pair b k l → i ≡ k
      former e = sym (on_pairs-pair b (λ i r. i) i j) ∙ ap (on_pairs a b (λ i r. i)) e ∙ on_pairs-pair b (λ i r. i) k l

      second : pair b i j ≡ pair b k l → j ≡ l
      second e = sym (on_pairs-pair b (λ i r. r) i j) ∙ ap (on_pairs a b (λ i r. r)) e ∙ on_pairs-pair b (λ i r. r) k l

  -- pairs in order are not the pair (i,j) with i above j
  delta_above : {a : ℕ} (i j k l : Fin a) → to_nat j < to_nat i → to_nat k ≤ to_nat l → delta R (pair a i j) (pair a k l) ≡ 𝟘
  delta_above i j k l above within = delta-pair i k j l ∙ elim (same_or_not i k) [
    | inl e ↦ ap (R.mul (delta R i k)) (delta-ne R j l (λ f. let x : to_nat i ≡ to_nat k = ap to_nat e in let y : to_nat j ≡ to_nat l = ap to_nat f in
        absurd (omega (arith, above, within, x, y)))) ∙ mul-zero R (delta R i k)
    | inr g ↦ ap (λ c. R.mul c (delta R j l)) (delta-ne R i k g) ∙ zero-mul R (delta R j l)
  ]

  delta_turned : {a : ℕ} (i j k l : Fin a) → delta R (pair a j i) (pair a k l) ≡ delta R (pair a i j) (pair a l k)
  delta_turned i j k l = delta-pair j k i l ∙ R.mul_comm (delta R j k) (delta R i l) ∙ sym (delta-pair i l j k)

  four : (x y z w : Carrier) → x ⊹ y ⊹ (z ⊹ w) ≡ x ⊹ z ⊹ (y ⊹ w)
  four x y z w = simp (ring_laws, R)

  module _ (a d : ℕ) where
    -- the sums over one class of what stands at the pairs
    pub upper_sum : (f : Fin (times a d) → Carrier) (g : Fin (times a d) → Fin (times a d) → Carrier) → Fin (times a a) → Carrier
    upper_sum f g c = sum R (upper (times a d)) (λ p. delta R c (upper_class a d p) ⊛ on_upper (times a d) f g p)

    pub strict_sum : (g : Fin (times a d) → Fin (times a d) → Carrier) → Fin (times a a) → Carrier
    strict_sum g c = sum R (strict (times a d)) (λ p. delta R c (strict_class a d p) ⊛ on_strict (times a d) g p)

    pub cross_sum : (g : Fin (times a d) → Fin (times a d) → Carrier) (i j : Fin a) → Carrier
    cross_sum g i j = sum R d (λ r. sum R d (λ t. g (pair d i r) (pair d j t)))

    abbrev at_class : Fin (times a a) → Fin (times a d) → Fin (times a d) → Carrier
    at_class c x y = delta R c (pair a (arm_of a d x) (arm_of a d y))

    -- by places, and by pairs of different places
    upper_split : (f : Fin (times a d) → Carrier) (g : Fin (times a d) → Fin (times a d) → Carrier) (c : Fin (times a a))
        → upper_sum f g c ≡ sum R (times a d) (λ x. at_class c x x ⊛ f x)
        ⊹ sum R (strict (times a d)) (on_strict (times a d) (λ x y. at_class c x y ⊛ g x y))
    unfolding upper_sum
    upper_split f g c = sum-ext R (upper (times a d)) (λ p. delta R c (upper_class a d p) ⊛ on_upper (times a d) f g p)
        (on_upper (times a d) (λ x. at_class c x x ⊛ f x) (λ x y. at_class c x y ⊛ g x y))
        (λ p. on_upper-both (λ (e : Fin (times a a)) (z : Carrier). delta R c e ⊛ z) (times a d)
        (λ x. pair a (arm_of a d x) (arm_of a d x)) (λ x y. pair a (arm_of a d x) (arm_of a d y)) f g p)
        ∙ sum-upper R (times a d) (λ x. at_class c x x ⊛ f x) (λ x y. at_class c x y ⊛ g x y)

    strict_split : (g : Fin (times a d) → Fin (times a d) → Carrier) (c : Fin (times a a))
        → strict_sum g c ≡ sum R (strict (times a d)) (on_strict (times a d) (λ x y. at_class c x y ⊛ g x y))
    unfolding strict_sum
    strict_split g c = sum-ext R (strict (times a d)) (λ p. delta R c (strict_class a d p) ⊛ on_strict (times a d) g p)
        (on_strict (times a d) (λ x y. at_class c x y ⊛ g x y))
        (λ p. on_strict-both (λ (e : Fin (times a a)) (z : Carrier). delta R c e ⊛ z) (times a d)
        (λ x y. pair a (arm_of a d x) (arm_of a d y)) g p)

    -- the pairs of different places of both classes
    both_strict : (g : Fin (times a d) → Fin (times a d) → Carrier) → ((x y : Fin (times a d)) → g x y ≡ g y x) → (i j : Fin a)
        → sum R (strict (times a d)) (on_strict (times a d) (λ x y. at_class (pair a i j) x y ⊛ g x y))
        ⊹ sum R (strict (times a d)) (on_strict (times a d) (λ x y. at_class (pair a j i) x y ⊛ g x y))
        ≡ sum R (strict (times a d)) (on_strict (times a d) (λ x y. at_class (pair a i j) x y ⊛ g x y ⊹ at_class (pair a i j) y x ⊛ g y x))
    both_strict g even i j =
        sum-strict_add R (times a d) (λ x y. at_class (pair a i j) x y ⊛ g x y) (λ x y. at_class (pair a j i) x y ⊛ g x y)
        ∙ sum-ext R (strict (times a d)) (on_strict (times a d) (λ x y. at_class (pair a i j) x y ⊛ g x y ⊹ at_class (pair a j i) x y ⊛ g x y))
        (on_strict (times a d) (λ x y. at_class (pair a i j) x y ⊛ g x y ⊹ at_class (pair a i j) y x ⊛ g y x))
        (on_strict-ext (times a d) (λ x y. ap (R.add (at_class (pair a i j) x y ⊛ g x y))
        (ap₂ R.mul (delta_turned i j (arm_of a d x) (arm_of a d y)) (even x y))))

    -- all pairs of a place of one arm and one of another
    all_pairs : (g : Fin (times a d) → Fin (times a d) → Carrier) (i j : Fin a)
        → sum R (times a d) (λ x. sum R (times a d) (λ y. at_class (pair a i j) x y ⊛ g x y)) ≡ cross_sum g i j
    unfolding cross_sum
    all_pairs g i j =
        sum-ext R (times a d) (λ x. sum R (times a d) (λ y. at_class (pair a i j) x y ⊛ g x y))
        (λ x. delta R i (arm_of a d x) ⊛ sum R d (λ t. g x (pair d j t))) (λ x.
        sum-ext R (times a d) (λ y. at_class (pair a i j) x y ⊛ g x y) (λ y. delta R i (arm_of a d x) ⊛ (delta R j (arm_of a d y) ⊛ g x y))
        (λ y. ap (λ z. z ⊛ g x y) (delta-pair i (arm_of a d x) j (arm_of a d y)) ∙ R.mul_assoc (delta R i (arm_of a d x)) (delta R j (arm_of a d y)) (g x y))
        ∙ sym (mul-sum R (times a d) (delta R i (arm_of a d x)) (λ y. delta R j (arm_of a d y) ⊛ g x y))
        ∙ ap (R.mul (delta R i (arm_of a d x))) (arm_sum R a d j (λ y. g x y)))
        ∙ arm_sum R a d i (λ x. sum R d (λ t. g x (pair d j t)))

    pub upper_both : (f : Fin (times a d) → Carrier) (g : Fin (times a d) → Fin (times a d) → Carrier)
        → ((x : Fin (times a d)) → g x x ≡ f x ⊹ f x) → ((x y : Fin (times a d)) → g x y ≡ g y x) → (i j : Fin a)
        → upper_sum f g (pair a i j) ⊹ upper_sum f g (pair a j i) ≡ cross_sum g i j
    upper_both f g twice even i j =
        ap₂ R.add (upper_split f g (pair a i j)) (upper_split f g (pair a j i))
        ∙ four (places (pair a i j)) (pairs (pair a i j)) (places (pair a j i)) (pairs (pair a j i))
        ∙ ap₂ R.add both_places (both_strict g even i j)
        ∙ sym (sum-square R (times a d) (λ x y. at_class (pair a i j) x y ⊛ g x y))
        ∙ all_pairs g i j
      where
        places : Fin (times a a) → Carrier
        places c = sum R (times a d) (λ x. at_class c x x ⊛ f x)

        pairs : Fin (times a a) → Carrier
        pairs c = sum R (strict (times a d)) (on_strict (times a d) (λ x y. at_class c x y ⊛ g x y))

        both_places : places (pair a i j) ⊹ places (pair a j i) ≡ sum R (times a d) (λ x. at_class (pair a i j) x x ⊛ g x x)
        both_places =
            sym (sum-add R (times a d) (λ x. at_class (pair a i j) x x ⊛ f x) (λ x. at_class (pair a j i) x x ⊛ f x))
            ∙ sum-ext R (times a d) (λ x. at_class (pair a i j) x x ⊛ f x ⊹ at_class (pair a j i) x x ⊛ f x) (λ x. at_class (pair a i j) x x ⊛ g x x)
            (λ x. ap (λ z. at_class (pair a i j) x x ⊛ f x ⊹ z ⊛ f x) (delta_turned i j (arm_of a d x) (arm_of a d x))
            ∙ sym (R.mul-add (at_class (pair a i j) x x) (f x) (f x)) ∙ ap (R.mul (at_class (pair a i j) x x)) (sym (twice x)))

    pub strict_both : (g : Fin (times a d) → Fin (times a d) → Carrier)
        → ((x : Fin (times a d)) → g x x ≡ 𝟘) → ((x y : Fin (times a d)) → g x y ≡ g y x) → (i j : Fin a)
        → strict_sum g (pair a i j) ⊹ strict_sum g (pair a j i) ≡ cross_sum g i j
    strict_both g none even i j =
        ap₂ R.add (strict_split g (pair a i j)) (strict_split g (pair a j i))
        ∙ both_strict g even i j
        ∙ sym (zero-add R pairs) ∙ ap (λ z. z ⊹ pairs) (sym no_places)
        ∙ sym (sum-square R (times a d) (λ x y. at_class (pair a i j) x y ⊛ g x y))
        ∙ all_pairs g i j
      where
        pairs : Carrier
        pairs = sum R (strict (times a d)) (on_strict (times a d) (λ x y. at_class (pair a i j) x y ⊛ g x y ⊹ at_class (pair a i j) y x ⊛ g y x))

        no_places : sum R (times a d) (λ x. at_class (pair a i j) x x ⊛ g x x) ≡ 𝟘
        no_places = sum-ext R (times a d) (λ x. at_class (pair a i j) x x ⊛ g x x) (λ x. 𝟘)
            (λ x. ap (R.mul (at_class (pair a i j) x x)) (none x) ∙ mul-zero R (at_class (pair a i j) x x)) ∙ sum-zero R (times a d)

    -- nothing stands at the pairs of different places of the class of (i,j) with i above j
    no_pairs : (g : Fin (times a d) → Fin (times a d) → Carrier) (i j : Fin a) → to_nat j < to_nat i
        → sum R (strict (times a d)) (on_strict (times a d) (λ x y. at_class (pair a i j) x y ⊛ g x y)) ≡ 𝟘
    no_pairs g i j l =
        sum-ext R (strict (times a d)) (on_strict (times a d) (λ x y. at_class (pair a i j) x y ⊛ g x y)) (λ p. 𝟘)
        (λ p. strict-value (times a d) (λ x y. at_class (pair a i j) x y ⊛ g x y) p
        ∙ ap (λ z. z ⊛ g (strict_first (times a d) p) (strict_second (times a d) p))
        (delta_above i j (arm_of a d (strict_first (times a d) p)) (arm_of a d (strict_second (times a d) p)) l
        (arm_ordered a d (strict_first (times a d) p) (strict_second (times a d) p) (strict-within (times a d) p)))
        ∙ zero-mul R (g (strict_first (times a d) p) (strict_second (times a d) p)))
        ∙ sum-zero R (strict (times a d))

    pub upper_above : (f : Fin (times a d) → Carrier) (g : Fin (times a d) → Fin (times a d) → Carrier) (i j : Fin a) → to_nat j < to_nat i
        → upper_sum f g (pair a i j) ≡ 𝟘
    upper_above f g i j l = upper_split f g (pair a i j)
        ∙ ap₂ R.add
        (sum-ext R (times a d) (λ x. at_class (pair a i j) x x ⊛ f x) (λ x. 𝟘)
        (λ x. ap (λ z. z ⊛ f x) (delta_above i j (arm_of a d x) (arm_of a d x) l (omega arith)) ∙ zero-mul R (f x)) ∙ sum-zero R (times a d))
        (no_pairs g i j l) ∙ R.add-zero 𝟘

    pub strict_above : (g : Fin (times a d) → Fin (times a d) → Carrier) (i j : Fin a) → to_nat j < to_nat i
        → strict_sum g (pair a i j) ≡ 𝟘
    strict_above g i j l = strict_split g (pair a i j) ∙ no_pairs g i j l

    cross_parts : (f g : Fin d → Carrier) (h : Fin d → Fin d → Carrier)
        → sum R d (λ r. sum R d (λ t. f r ⊛ g t ⊹ h r t)) ≡ sum R d f ⊛ sum R d g ⊹ sum R d (λ r. sum R d (λ t. h r t))
    cross_parts f g h =
        sum-ext R d (λ r. sum R d (λ t. f r ⊛ g t ⊹ h r t)) (λ r. f r ⊛ sum R d g ⊹ sum R d (λ t. h r t))
        (λ r. sum-add R d (λ t. f r ⊛ g t) (λ t. h r t) ∙ ap (λ z. z ⊹ sum R d (λ t. h r t)) (sym (mul-sum R d (f r) g)))
        ∙ sum-add R d (λ r. f r ⊛ sum R d g) (λ r. sum R d (λ t. h r t))
        ∙ ap (λ z. z ⊹ sum R d (λ r. sum R d (λ t. h r t))) (sym (sum-mul R d f (sum R d g)))

    module _ (m : Matrix R (times a d) (times a d)) where
      ones : Fin (times a d) → Carrier
      ones x = m.at x x ⊛ m.at x x

      added : Fin (times a d) → Fin (times a d) → Carrier
      added x y = m.at x x ⊛ m.at y y ⊹ m.at x y ⊛ m.at y x

      subtracted : Fin (times a d) → Fin (times a d) → Carrier
      subtracted x y = m.at x x ⊛ m.at y y ⊹ neg (m.at x y ⊛ m.at y x)

      by_symmetric : (c : Fin (times a a)) → symmetric_sum R a d m c ≡ upper_sum ones added c
      unfolding upper_sum ones added
      by_symmetric c = sum-ext R (upper (times a d)) (λ p. delta R c (upper_class a d p) ⊛ (symmetric_square m).at p p)
          (λ p. delta R c (upper_class a d p) ⊛ on_upper (times a d) ones added p)
          (λ p. ap (R.mul (delta R c (upper_class a d p))) (symmetric-diagonal_at (times a d) m p))

      by_skew : (c : Fin (times a a)) → skew_sum R a d m c ≡ strict_sum subtracted c
      unfolding strict_sum subtracted
      by_skew c = sum-ext R (strict (times a d)) (λ p. delta R c (strict_class a d p) ⊛ (skew_square m).at p p)
          (λ p. delta R c (strict_class a d p) ⊛ on_strict (times a d) subtracted p)
          (λ p. ap (R.mul (delta R c (strict_class a d p))) (skew-diagonal_at (times a d) m p))

      added_cross : (i j : Fin a) → cross_sum added i j ≡ trace (block d m i i) ⊛ trace (block d m j j) ⊹ trace (block d m i j · block d m j i)
      unfolding cross_sum added trace block ◌·◌
      added_cross i j = cross_parts (λ r. m.at (pair d i r) (pair d i r)) (λ t. m.at (pair d j t) (pair d j t))
          (λ r t. m.at (pair d i r) (pair d j t) ⊛ m.at (pair d j t) (pair d i r))

      subtracted_cross : (i j : Fin a)
          → cross_sum subtracted i j ≡ trace (block d m i i) ⊛ trace (block d m j j) ⊹ neg (trace (block d m i j · block d m j i))
      unfolding cross_sum subtracted trace block ◌·◌
      subtracted_cross i j = cross_parts (λ r. m.at (pair d i r) (pair d i r)) (λ t. m.at (pair d j t) (pair d j t))
          (λ r t. neg (m.at (pair d i r) (pair d j t) ⊛ m.at (pair d j t) (pair d i r)))
          ∙ ap (R.add (sum R d (λ r. m.at (pair d i r) (pair d i r)) ⊛ sum R d (λ t. m.at (pair d j t) (pair d j t))))
          (sum-ext R d (λ r. sum R d (λ t. neg (m.at (pair d i r) (pair d j t) ⊛ m.at (pair d j t) (pair d i r))))
          (λ r. neg (sum R d (λ t. m.at (pair d i r) (pair d j t) ⊛ m.at (pair d j t) (pair d i r))))
          (λ r. sum-neg R d (λ t. m.at (pair d i r) (pair d j t) ⊛ m.at (pair d j t) (pair d i r)))
          ∙ sum-neg R d (λ r. sum R d (λ t. m.at (pair d i r) (pair d j t) ⊛ m.at (pair d j t) (pair d i r))))

      pub symmetric_both : (i j : Fin a) → symmetric_sum R a d m (pair a i j) ⊹ symmetric_sum R a d m (pair a j i)
          ≡ trace (block d m i i) ⊛ trace (block d m j j) ⊹ trace (block d m i j · block d m j i)
      unfolding ones added
      symmetric_both i j = ap₂ R.add (by_symmetric (pair a i j)) (by_symmetric (pair a j i))
          ∙ upper_both ones added (λ x. refl) (λ x y. ap₂ R.add (R.mul_comm (m.at x x) (m.at y y)) (R.mul_comm (m.at x y) (m.at y x))) i j
          ∙ added_cross i j

      pub skew_both : (i j : Fin a) → skew_sum R a d m (pair a i j) ⊹ skew_sum R a d m (pair a j i)
          ≡ trace (block d m i i) ⊛ trace (block d m j j) ⊹ neg (trace (block d m i j · block d m j i))
      unfolding subtracted
      skew_both i j = ap₂ R.add (by_skew (pair a i j)) (by_skew (pair a j i))
          ∙ strict_both subtracted (λ x. R.add-neg (m.at x x ⊛ m.at x x))
          (λ x y. ap₂ R.add (R.mul_comm (m.at x x) (m.at y y)) (ap neg (R.mul_comm (m.at x y) (m.at y x)))) i j
          ∙ subtracted_cross i j

      pub symmetric_above : (i j : Fin a) → to_nat j < to_nat i → symmetric_sum R a d m (pair a i j) ≡ 𝟘
      symmetric_above i j l = by_symmetric (pair a i j) ∙ upper_above ones added i j l

      pub skew_above : (i j : Fin a) → to_nat j < to_nat i → skew_sum R a d m (pair a i j) ≡ 𝟘
      skew_above i j l = by_skew (pair a i j) ∙ strict_above subtracted i j l
