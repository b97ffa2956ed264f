-- Sums of terms in the ring of the numbers.
--   sum-append, sum-insert, sum-set, sum-remove    lists with one more term
--   row-append, row-product, row-lift, row-all     rows of products and lifts
--   sum-scaled                                     each coefficient times a whole number
use Rattle.std.proofs.Common.{◌≡◌, refl, sym, ◌∙◌, ap, ap₂, ℕ, ℤ, suc, pos, ◌+◌, ◌*◌, ◌/◌, ◌<◌, ◌+ℤ◌, ◌*ℤ◌, List, [], ◌∷◌, ◌++◌, take, drop, map, length}
use Rattle.std.proofs.lemmas.List.{take-append-drop}
use lib.Seq.{drop-cons}
use Rattle.std.specs.Int.{◌∣◌}
use native.Mathlib.Nat as Nat
use Rattle.irr_algebra.specs.Ring.{Ring}
use Rattle.irr_algebra.proofs.Homomorphisms.{map-zero}
use Rattle.irr_algebra.proofs.Rings.{mul-zero, ring_laws, zero-add, zero-mul}
use Rattle.irr_number.specs.Integers.{integers}
use Rattle.irr_number.specs.Lift.{lift}
use Rattle.irr_number.specs.Number.{Number, numbers, root_power}
use Rattle.irr_number.proofs.Lifts.{lift-root_power}
use Rattle.irr_number.proofs.RootPowers.{root_power-mul}
use Rattle.irr_rational.specs.Integer.{integer}
use Rattle.irr_rational.proofs.Integers.{integer-add, integer-mul, integer-zero, map-integer}
use Rattle.irr_cyc.specs.Terms.{terms_sum}
use Rattle.irr_sparse.specs.TermList.{coefficient_at, exponent_at, row_sum}

-- c z^j
abbrev pub term_value : (N j : ℕ) (c : ℤ) → Number N
term_value N j c = (numbers N).mul (integer (numbers N) c) (root_power N j)

module _ (N : ℕ) where
  pub sum-none : terms_sum N [] ≡ (numbers N).zero
  unfolding terms_sum
  sum-none = refl

  pub sum-cons : (t : ℕ × ℤ) (ts : List (ℕ × ℤ)) → terms_sum N (t ∷ ts) ≡ (numbers N).add (term_value N t.0 t.1) (terms_sum N ts)
  unfolding terms_sum
  sum-cons t ts = refl

  pub sum-append : (xs ys : List (ℕ × ℤ)) → terms_sum N (xs ++ ys) ≡ (numbers N).add (terms_sum N xs) (terms_sum N ys)
  unfolding terms_sum
  sum-append [] ys = sym (zero-add (numbers N) (terms_sum N ys))
  sum-append (t ∷ xs) ys = ap ((numbers N).add (term_value N t.0 t.1)) (sum-append xs ys) ∙ sym ((numbers N).add_assoc (term_value N t.0 t.1) (terms_sum N xs) (terms_sum N ys))

  pub sum-one : (t : ℕ × ℤ) → terms_sum N (t ∷ []) ≡ term_value N t.0 t.1
  unfolding terms_sum
  sum-one t = (numbers N).add-zero (term_value N t.0 t.1)

  pub sum-more : (ts : List (ℕ × ℤ)) (t : ℕ × ℤ) → terms_sum N (ts ++ t ∷ []) ≡ (numbers N).add (terms_sum N ts) (term_value N t.0 t.1)
  sum-more ts t = sum-append ts (t ∷ []) ∙ ap ((numbers N).add (terms_sum N ts)) (sum-one t)

  pub value-add : (j : ℕ) (a c : ℤ) → term_value N j (a +ℤ c) ≡ (numbers N).add (term_value N j a) (term_value N j c)
  value-add j a c = ap (λ x. (numbers N).mul x (root_power N j)) (integer-add (numbers N) a c) ∙ spread (numbers N) (integer (numbers N) a) (integer (numbers N) c) (root_power N j)
    where
      spread : (R : Ring) (a c z : R.Carrier) → R.mul (R.add a c) z ≡ R.add (R.mul a z) (R.mul c z)
      spread R a c z = simp (ring_laws, R)

  pub value-none : (j : ℕ) → term_value N j (pos 0) ≡ (numbers N).zero
  value-none j = ap (λ x. (numbers N).mul x (root_power N j)) (integer-zero (numbers N)) ∙ zero-mul (numbers N) (root_power N j)

  middle : (R : Ring) (a t b : R.Carrier) → R.add a (R.add t b) ≡ R.add (R.add a b) t
  middle R a t b = simp (ring_laws, R)

  further : (R : Ring) (a t c b : R.Carrier) → R.add a (R.add (R.add t c) b) ≡ R.add (R.add a (R.add t b)) c
  further R a t c b = simp (ring_laws, R)

  -- a term put in at a place
  pub sum-insert : (ts : List (ℕ × ℤ)) (k j : ℕ) (c : ℤ) → terms_sum N (take k ts ++ (j, c) ∷ drop k ts) ≡ (numbers N).add (terms_sum N ts) (term_value N j c)
  sum-insert ts k j c = sum-append (take k ts) ((j, c) ∷ drop k ts) ∙ ap ((numbers N).add (terms_sum N (take k ts))) (sum-cons (j, c) (drop k ts))
      ∙ middle (numbers N) (terms_sum N (take k ts)) (term_value N j c) (terms_sum N (drop k ts))
      ∙ ap (λ x. (numbers N).add x (term_value N j c)) (sym (sum-append (take k ts) (drop k ts)) ∙ ap (terms_sum N) (take-append-drop k ts))

  -- the term at a place
  parts : (ts : List (ℕ × ℤ)) (k : ℕ) → k < length ts
      → terms_sum N ts ≡ (numbers N).add (terms_sum N (take k ts)) ((numbers N).add (term_value N (exponent_at ts k) (coefficient_at ts k)) (terms_sum N (drop (suc k) ts)))
  parts ts k lt = ap (terms_sum N) (sym (take-append-drop k ts)) ∙ sum-append (take k ts) (drop k ts)
      ∙ ap (λ us. (numbers N).add (terms_sum N (take k ts)) (terms_sum N us)) (drop-cons ts k (0, pos 0) lt)
      ∙ ap ((numbers N).add (terms_sum N (take k ts))) (sum-cons (exponent_at ts k, coefficient_at ts k) (drop (suc k) ts))

  -- a coefficient added to that at a place
  pub sum-set : (ts : List (ℕ × ℤ)) (k j : ℕ) (c : ℤ) → k < length ts → exponent_at ts k ≡ j
      → terms_sum N (take k ts ++ (j, coefficient_at ts k +ℤ c) ∷ drop (suc k) ts) ≡ (numbers N).add (terms_sum N ts) (term_value N j c)
  sum-set ts k j c lt e = sum-append (take k ts) ((j, coefficient_at ts k +ℤ c) ∷ drop (suc k) ts)
      ∙ ap ((numbers N).add (terms_sum N (take k ts))) (sum-cons (j, coefficient_at ts k +ℤ c) (drop (suc k) ts) ∙ ap (λ x. (numbers N).add x (terms_sum N (drop (suc k) ts))) (value-add j (coefficient_at ts k) c))
      ∙ further (numbers N) (terms_sum N (take k ts)) (term_value N j (coefficient_at ts k)) (term_value N j c) (terms_sum N (drop (suc k) ts))
      ∙ ap (λ i. (numbers N).add ((numbers N).add (terms_sum N (take k ts)) ((numbers N).add (term_value N i (coefficient_at ts k)) (terms_sum N (drop (suc k) ts)))) (term_value N j c)) (sym e)
      ∙ ap (λ x. (numbers N).add x (term_value N j c)) (sym (parts ts k lt))

  -- a term that is taken away
  pub sum-remove : (ts : List (ℕ × ℤ)) (k j : ℕ) (c : ℤ) → k < length ts → exponent_at ts k ≡ j → coefficient_at ts k +ℤ c ≡ pos 0
      → terms_sum N (take k ts ++ drop (suc k) ts) ≡ (numbers N).add (terms_sum N ts) (term_value N j c)
  sum-remove ts k j c lt e z = sum-append (take k ts) (drop (suc k) ts)
      ∙ ap ((numbers N).add (terms_sum N (take k ts))) (sym (zero-add (numbers N) (terms_sum N (drop (suc k) ts))) ∙ ap (λ x. (numbers N).add x (terms_sum N (drop (suc k) ts))) (sym (ap (term_value N j) z ∙ value-none j)) ∙ sym (sum-cons (j, coefficient_at ts k +ℤ c) (drop (suc k) ts)))
      ∙ sym (sum-append (take k ts) ((j, coefficient_at ts k +ℤ c) ∷ drop (suc k) ts))
      ∙ sum-set ts k j c lt e

  -- each coefficient times a whole number
  pub sum-scaled : (k : ℤ) (ts : List (ℕ × ℤ)) → terms_sum N (map (λ t. (t.0, t.1 *ℤ k)) ts) ≡ (numbers N).mul (integer (numbers N) k) (terms_sum N ts)
  unfolding terms_sum
  sum-scaled k [] = sym (mul-zero (numbers N) (integer (numbers N) k))
  sum-scaled k (t ∷ ts) = ap₂ (numbers N).add (ap (λ x. (numbers N).mul x (root_power N t.0)) (integer-mul (numbers N) t.1 k)) (sum-scaled k ts)
      ∙ gather (numbers N) (integer (numbers N) t.1) (integer (numbers N) k) (root_power N t.0) (terms_sum N ts)
    where
      gather : (R : Ring) (c k z s : R.Carrier) → R.add (R.mul (R.mul c k) z) (R.mul k s) ≡ R.mul k (R.add (R.mul c z) s)
      gather R c k z s = simp (ring_laws, R)

  module _ (k : ℤ) (s f : ℕ) where
    pub row-none : row_sum N k s f [] ≡ (numbers N).zero
    unfolding row_sum
    row-none = refl

    pub row-more : (ts : List (ℕ × ℤ)) (t : ℕ × ℤ) → row_sum N k s f (ts ++ t ∷ []) ≡ (numbers N).add (row_sum N k s f ts) (term_value N (s + f * t.0) (k *ℤ t.1))
    unfolding row_sum
    row-more [] t = (numbers N).add_comm (term_value N (s + f * t.0) (k *ℤ t.1)) (numbers N).zero
    row-more (u ∷ ts) t = ap ((numbers N).add (term_value N (s + f * u.0) (k *ℤ u.1))) (row-more ts t) ∙ sym ((numbers N).add_assoc (term_value N (s + f * u.0) (k *ℤ u.1)) (row_sum N k s f ts) (term_value N (s + f * t.0) (k *ℤ t.1)))

  -- a row of a product
  pub row-product : (k : ℤ) (s : ℕ) (ts : List (ℕ × ℤ)) → row_sum N k s 1 ts ≡ (numbers N).mul (term_value N s k) (terms_sum N ts)
  unfolding row_sum terms_sum
  row-product k s [] = sym (mul-zero (numbers N) (term_value N s k))
  row-product k s (t ∷ ts) = ap₂ (numbers N).add
      (λ i. (numbers N).mul (integer-mul (numbers N) k t.1 i) ((ap (λ x. root_power N (s + x)) (Nat.one-mul t.0) ∙ sym (root_power-mul N s t.0)) i)) (row-product k s ts)
      ∙ gather (numbers N) (integer (numbers N) k) (integer (numbers N) t.1) (root_power N s) (root_power N t.0) (terms_sum N ts)
    where
      gather : (R : Ring) (k c y z s : R.Carrier) → R.add (R.mul (R.mul k c) (R.mul y z)) (R.mul (R.mul k y) s) ≡ R.mul (R.mul k y) (R.add (R.mul c z) s)
      gather R k c y z s = simp (ring_laws, R)

-- the terms at another order
pub row-lift : (N M : ℕ) (hN : 0 < N) (v : N ∣ M) (ts : List (ℕ × ℤ)) → row_sum M (pos 1) 0 (M / N) ts ≡ (lift N M hN v).map (terms_sum N ts)
unfolding row_sum terms_sum
row-lift N M hN v [] = sym (map-zero (lift N M hN v))
row-lift N M hN v (t ∷ ts) = ap₂ (numbers M).add
    (λ i. (numbers M).mul ((ap (integer (numbers M)) (integers.mul_comm (pos 1) t.1 ∙ integers.mul-one t.1) ∙ sym (map-integer (lift N M hN v) t.1)) i) ((ap (root_power M) (Nat.zero-add (M / N * t.0)) ∙ sym (lift-root_power N M hN v t.0)) i)) (row-lift N M hN v ts)
    ∙ ap (λ x. (numbers M).add x ((lift N M hN v).map (terms_sum N ts))) (sym ((lift N M hN v).map-mul (integer (numbers N) t.1) (root_power N t.0)))
    ∙ sym ((lift N M hN v).map-add ((numbers N).mul (integer (numbers N) t.1) (root_power N t.0)) (terms_sum N ts))
