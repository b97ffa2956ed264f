-- Sums over the places of a direct product, which are pairs of pairs.
--   arm_of               the first of the pair that an index stands for
--   pair_class           the pair of the firsts of both pairs
--   pair_class-parts, pair_class-at     so at each pair, and at each pair of pairs
--   arm_sum              the sum over the pairs with one first
--   class_sum            the diagonal of a Kronecker product over the pairs of pairs with two firsts
use Rattle.std.proofs.Common.{◌≡◌, sym, ◌∙◌, ap, ap₂, ℕ, inl, inr}
use Rattle.irr_algebra.specs.Ring.{Ring}
use Rattle.irr_algebra.specs.Fin.{Fin}
use Rattle.irr_algebra.specs.Sum.{sum, delta}
use Rattle.irr_algebra.specs.Matrix.{Matrix}
use Rattle.irr_algebra.specs.Pair.{times, pair, on_pairs, kron}
use Rattle.irr_algebra.proofs.Indices.{same_or_not}
use Rattle.irr_algebra.proofs.Rings.{mul-zero, zero-mul, mul_left_comm}
use Rattle.irr_algebra.proofs.Sums.{delta-ne, delta-eq, sum-ext, sum-mul, mul-sum, sum-delta}
use Rattle.irr_algebra.proofs.Pairs.{kron-at, on_pairs-pair, sum-times}

abbrev pub arm_of : (a d : ℕ) → Fin (times a d) → Fin a
arm_of a d = on_pairs a d (λ i r. i)

abbrev pub pair_class : (a c b d : ℕ) → Fin (times (times a c) (times b d)) → Fin (times a b)
pair_class a c b d = on_pairs (times a c) (times b d)
    (λ p q. pair b (on_pairs a c (λ i r. i) p) (on_pairs b d (λ j t. j) q))

pub pair_class-parts : (a c b d : ℕ) (p : Fin (times a c)) (q : Fin (times b d))
    → pair_class a c b d (pair (times b d) p q) ≡ pair b (arm_of a c p) (arm_of b d q)
pair_class-parts a c b d p q = on_pairs-pair (times b d)
    (λ p q. pair b (on_pairs a c (λ i r. i) p) (on_pairs b d (λ j t. j) q)) p q

pub pair_class-at : (a c b d : ℕ) (i : Fin a) (r : Fin c) (j : Fin b) (t : Fin d)
    → pair_class a c b d (pair (times b d) (pair c i r) (pair d j t)) ≡ pair b i j
pair_class-at a c b d i r j t = pair_class-parts a c b d (pair c i r) (pair d j t)
    ∙ ap₂ (λ x y. pair b x y) (on_pairs-pair c (λ i r. i) i r) (on_pairs-pair d (λ j t. j) j t)

module _ (R : Ring) where
  pub arm_sum : (a d : ℕ) (i : Fin a) (f : Fin (times a d) → R.Carrier)
      → sum R (times a d) (λ p. R.mul (delta R i (arm_of a d p)) (f p)) ≡ sum R d (λ r. f (pair d i r))
  arm_sum a d i f =
      sum-times R a d (λ p. R.mul (delta R i (arm_of a d p)) (f p))
      ∙ sum-ext R a (λ k. sum R d (λ r. R.mul (delta R i (arm_of a d (pair d k r))) (f (pair d k r))))
      (λ k. R.mul (delta R i k) (sum R d (λ r. f (pair d k r))))
      (λ k. sum-ext R d (λ r. R.mul (delta R i (arm_of a d (pair d k r))) (f (pair d k r)))
      (λ r. R.mul (delta R i k) (f (pair d k r)))
      (λ r. ap (λ z. R.mul (delta R i z) (f (pair d k r))) (on_pairs-pair d (λ i r. i) k r))
      ∙ sym (mul-sum R d (delta R i k) (λ r. f (pair d k r))))
      ∙ sum-delta R a i (λ k. sum R d (λ r. f (pair d k r)))

  delta-pair : {a b : ℕ} (i k : Fin a) (j l : Fin b) → delta R (pair b i j) (pair b k l)
      ≡ R.mul (delta R i k) (delta R j l)
  delta-pair {a} {b} i k j l = elim (same_or_not i k) [
    | inl e ↦ (elim (same_or_not j l) [
      | inl f ↦ delta-eq R (pair b i j) (pair b k l) (ap₂ (λ x y. pair b x y) e f)
          ∙ sym (ap₂ R.mul (delta-eq R i k e) (delta-eq R j l f) ∙ R.mul-one R.one)
      | inr g ↦ delta-ne R (pair b i j) (pair b k l) (λ w. g (second w))
          ∙ sym (ap (R.mul (delta R i k)) (delta-ne R j l g) ∙ mul-zero R (delta R i k))
    ])
    | inr g ↦ delta-ne R (pair b i j) (pair b k l) (λ w. g (former w))
        ∙ sym (ap (λ c. R.mul c (delta R j l)) (delta-ne R i k g) ∙ zero-mul R (delta R j l))
  ]
    where
      former : pair b i j ≡ pair b k l → i ≡ k
      former e = sym (on_pairs-pair b (λ i r. i) i j) ∙ ap (on_pairs a b (λ i r. i)) e ∙ on_pairs-pair b (λ i r. i) k l

      second : pair b i j ≡ pair b k l → j ≡ l
      second e = sym (on_pairs-pair b (λ i r. r) i j) ∙ ap (on_pairs a b (λ i r. r)) e ∙ on_pairs-pair b (λ i r. r) k l

  pub class_sum : (a c b d : ℕ) (m : Matrix R (times a c) (times a c)) (n : Matrix R (times b d) (times b d))
      (i : Fin a) (j : Fin b)
      → sum R (times (times a c) (times b d))
      (λ x. R.mul (delta R (pair b i j) (pair_class a c b d x)) ((kron m n).at x x))
      ≡ R.mul (sum R c (λ r. m.at (pair c i r) (pair c i r))) (sum R d (λ t. n.at (pair d j t) (pair d j t)))
  class_sum a c b d m n i j =
      sum-times R (times a c) (times b d) (λ x. R.mul (delta R (pair b i j) (pair_class a c b d x)) ((kron m n).at x x))
      ∙ sum-ext R (times a c)
      (λ p. sum R (times b d) (λ q. R.mul (delta R (pair b i j) (pair_class a c b d (pair (times b d) p q)))
      ((kron m n).at (pair (times b d) p q) (pair (times b d) p q))))
      (λ p. R.mul (left p) rights) each
      ∙ sym (sum-mul R (times a c) left rights)
      ∙ ap₂ R.mul (arm_sum a c i (λ p. m.at p p)) (arm_sum b d j (λ q. n.at q q))
    where
      left : Fin (times a c) → R.Carrier
      left p = R.mul (delta R i (arm_of a c p)) (m.at p p)

      right : Fin (times b d) → R.Carrier
      right q = R.mul (delta R j (arm_of b d q)) (n.at q q)

      rights : R.Carrier
      rights = sum R (times b d) (λ q. R.mul (delta R j (arm_of b d q)) (n.at q q))

      four : (x y z w : R.Carrier) → R.mul (R.mul x y) (R.mul z w) ≡ R.mul (R.mul x z) (R.mul y w)
      four x y z w = simp (R.mul_assoc, mul_left_comm R)

      term : (p : Fin (times a c)) (q : Fin (times b d))
          → R.mul (delta R (pair b i j) (pair_class a c b d (pair (times b d) p q)))
          ((kron m n).at (pair (times b d) p q) (pair (times b d) p q))
          ≡ R.mul (left p) (right q)
      term p q = ap₂ R.mul (ap (delta R (pair b i j)) (pair_class-parts a c b d p q)
          ∙ delta-pair i (arm_of a c p) j (arm_of b d q)) (kron-at m n p q p q)
          ∙ four (delta R i (arm_of a c p)) (delta R j (arm_of b d q)) (m.at p p) (n.at q q)

      each : (p : Fin (times a c))
          → sum R (times b d) (λ q. R.mul (delta R (pair b i j) (pair_class a c b d (pair (times b d) p q)))
          ((kron m n).at (pair (times b d) p q) (pair (times b d) p q)))
          ≡ R.mul (left p) rights
      each p = sum-ext R (times b d)
          (λ q. R.mul (delta R (pair b i j) (pair_class a c b d (pair (times b d) p q)))
          ((kron m n).at (pair (times b d) p q) (pair (times b d) p q)))
          (λ q. R.mul (left p) (right q)) (term p)
          ∙ sym (mul-sum R (times b d) (left p) right)
