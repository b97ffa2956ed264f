-- Lists of terms, changed at a place.
--   terms-from, terms-below, terms-increasing      what exponents keep
--   terms-insert, terms-set, terms-remove          a term put in, changed and taken away
--   total-insert, total-set, total-remove          the sums of absolute coefficients
use Rattle.std.proofs.Common.{◌≡◌, ◌≢◌, ◌∙◌, ap, subst, ℕ, ℤ, zero, suc, pos, ◌+◌, ◌<◌, ◌≤◌, ◌+ℤ◌, List, [], ◌∷◌, ◌++◌, take, drop, length, unsigned_abs, arith}
use Rattle.std.proofs.lemmas.List.Sums.{sum_by-append, sum_by-cons, sum_by-take-drop}
use lib.Seq.{drop-cons}
use native.Mathlib.Nat as Nat
use Rattle.irr_number.specs.Basis.{InBasis}
use Rattle.irr_canonical.proofs.Sizes.{unsigned_abs-add}
use Rattle.irr_sparse.specs.TermList.{AreTerms, IsIncreasing, IsTerm, coefficient_at, exponent_at, total}

pub term-lower : (N b m j : ℕ) (c : ℤ) → b ≤ m → IsTerm N m j c → IsTerm N b j c
term-lower N b m j c le t = record { from = (let f : m ≤ j = t.from in omega arith); below = t.below; basis = t.basis; nonzero = t.nonzero }

pub terms-none : (N b : ℕ) → AreTerms N b []
unfolding AreTerms
terms-none N b = tt

pub terms-cons : (N b : ℕ) (t : ℕ × ℤ) (ts : List (ℕ × ℤ)) → IsTerm N b t.0 t.1 → AreTerms N (suc t.0) ts → AreTerms N b (t ∷ ts)
unfolding AreTerms
terms-cons N b t ts h r = (h, r)

pub terms-head : (N b : ℕ) (t : ℕ × ℤ) (ts : List (ℕ × ℤ)) → AreTerms N b (t ∷ ts) → IsTerm N b t.0 t.1
unfolding AreTerms
terms-head N b t ts h = h.0

pub terms-tail : (N b : ℕ) (t : ℕ × ℤ) (ts : List (ℕ × ℤ)) → AreTerms N b (t ∷ ts) → AreTerms N (suc t.0) ts
unfolding AreTerms
terms-tail N b t ts h = h.1

pub terms-lower : (N b m : ℕ) (ts : List (ℕ × ℤ)) → b ≤ m → AreTerms N m ts → AreTerms N b ts
terms-lower N b m [] le h = terms-none N b
terms-lower N b m (t ∷ ts) le h = terms-cons N b t ts (term-lower N b m t.0 t.1 le (terms-head N m t ts h)) (terms-tail N m t ts h)

-- exponents and coefficients at places
pub terms-at : (N b : ℕ) (ts : List (ℕ × ℤ)) (i : ℕ) → AreTerms N b ts → i < length ts → IsTerm N b (exponent_at ts i) (coefficient_at ts i)
terms-at N b [] i h lt = absurd (omega arith)
terms-at N b (t ∷ ts) zero h lt = terms-head N b t ts h
terms-at N b (t ∷ ts) (suc i) h lt =
    let first : b ≤ t.0 = (terms-head N b t ts h).from in
    term-lower N b (suc t.0) (exponent_at ts i) (coefficient_at ts i) (omega arith) (terms-at N (suc t.0) ts i (terms-tail N b t ts h) (omega arith))

pub terms-increasing : (N b : ℕ) (ts : List (ℕ × ℤ)) → AreTerms N b ts → IsIncreasing ts
terms-increasing N b [] h i k lt lk = absurd (omega arith)
terms-increasing N b (t ∷ ts) h i zero lt lk = absurd (omega arith)
terms-increasing N b (t ∷ ts) h zero (suc k) lt lk = (terms-at N (suc t.0) ts k (terms-tail N b t ts h) (omega arith)).from
terms-increasing N b (t ∷ ts) h (suc i) (suc k) lt lk = terms-increasing N (suc t.0) ts (terms-tail N b t ts h) i k (omega arith) (omega arith)

-- the terms before a place, with others behind
pub terms-front : (N b j k : ℕ) (ts ws : List (ℕ × ℤ)) → AreTerms N b ts → ((i : ℕ) → i < k → i < length ts → exponent_at ts i < j) → b ≤ j → AreTerms N j ws → AreTerms N b (take k ts ++ ws)
terms-front N b j zero ts ws h before le r = terms-lower N b j ws le r
terms-front N b j (suc k) [] ws h before le r = terms-lower N b j ws le r
terms-front N b j (suc k) (t ∷ ts) ws h before le r = terms-cons N b t (take k ts ++ ws) (terms-head N b t ts h)
    (terms-front N (suc t.0) j k ts ws (terms-tail N b t ts h) (λ i lt li. before (suc i) (omega arith) (omega arith)) (before 0 (omega arith) (omega arith)) r)

-- the terms from a place on
pub terms-back : (N b m k : ℕ) (ts : List (ℕ × ℤ)) → AreTerms N b ts → (k < length ts → m ≤ exponent_at ts k) → AreTerms N m (drop k ts)
terms-back N b m zero [] h after = terms-none N m
terms-back N b m zero (t ∷ ts) h after = let first : IsTerm N b t.0 t.1 = terms-head N b t ts h in
    terms-cons N m t ts (record { from = after (omega arith); below = first.below; basis = first.basis; nonzero = first.nonzero }) (terms-tail N b t ts h)
terms-back N b m (suc k) [] h after = terms-none N m
terms-back N b m (suc k) (t ∷ ts) h after = terms-back N (suc t.0) m k ts (terms-tail N b t ts h) (λ lt. after (omega arith))

module _ (N : ℕ) (ts : List (ℕ × ℤ)) (k j : ℕ) (h : AreTerms N 0 ts) (before : (i : ℕ) → i < k → exponent_at ts i < j) where
  pub terms-insert : (c : ℤ) → IsTerm N 0 j c → (k < length ts → j < exponent_at ts k) → AreTerms N 0 (take k ts ++ (j, c) ∷ drop k ts)
  terms-insert c t after = terms-front N 0 j k ts ((j, c) ∷ drop k ts) h (λ i lt li. before i lt) (omega arith)
      (terms-cons N j (j, c) (drop k ts) (record { from = Nat.le_refl j; below = t.below; basis = t.basis; nonzero = t.nonzero }) (terms-back N 0 (suc j) k ts h after))

  rest : k < length ts → exponent_at ts k ≡ j → AreTerms N (suc j) (drop (suc k) ts)
  rest lt e = terms-back N 0 (suc j) (suc k) ts h (λ l. let s : exponent_at ts k < exponent_at ts (suc k) = terms-increasing N 0 ts h k (suc k) (omega arith) l in omega (arith, e))

  pub terms-set : (c : ℤ) → k < length ts → exponent_at ts k ≡ j → c ≢ pos 0 → AreTerms N 0 (take k ts ++ (j, c) ∷ drop (suc k) ts)
  terms-set c lt e ne = terms-front N 0 j k ts ((j, c) ∷ drop (suc k) ts) h (λ i l li. before i l) (omega arith)
      (terms-cons N j (j, c) (drop (suc k) ts) (record { from = Nat.le_refl j; below = subst (λ x. x < N) e (terms-at N 0 ts k h lt).below; basis = subst (λ x. InBasis N x) e (terms-at N 0 ts k h lt).basis; nonzero = ne }) (rest lt e))

  pub terms-remove : k < length ts → exponent_at ts k ≡ j → AreTerms N 0 (take k ts ++ drop (suc k) ts)
  terms-remove lt e = terms-front N 0 j k ts (drop (suc k) ts) h (λ i l li. before i l) (omega arith) (terms-lower N j (suc j) (drop (suc k) ts) (omega arith) (rest lt e))

module _ (ts : List (ℕ × ℤ)) (k : ℕ) where
  both : total (take k ts) + total (drop k ts) ≡ total ts
  both = sum_by-take-drop (λ (t : ℕ × ℤ). unsigned_abs t.1) ts k

  pub total-insert : (j : ℕ) (c : ℤ) → total (take k ts ++ (j, c) ∷ drop k ts) ≤ total ts + unsigned_abs c
  total-insert j c =
      let a : total (take k ts ++ (j, c) ∷ drop k ts) ≡ total (take k ts) + total ((j, c) ∷ drop k ts) = sum_by-append (λ (t : ℕ × ℤ). unsigned_abs t.1) (take k ts) ((j, c) ∷ drop k ts) in
      let b : total ((j, c) ∷ drop k ts) ≡ unsigned_abs c + total (drop k ts) = sum_by-cons (λ (t : ℕ × ℤ). unsigned_abs t.1) (j, c) (drop k ts) in
      omega (arith, a, b, both)

  here : k < length ts → total (drop k ts) ≡ unsigned_abs (coefficient_at ts k) + total (drop (suc k) ts)
  here lt = ap total (drop-cons ts k (0, pos 0) lt) ∙ sum_by-cons (λ (t : ℕ × ℤ). unsigned_abs t.1) (exponent_at ts k, coefficient_at ts k) (drop (suc k) ts)

  pub total-set : (j : ℕ) (c : ℤ) → k < length ts → total (take k ts ++ (j, coefficient_at ts k +ℤ c) ∷ drop (suc k) ts) ≤ total ts + unsigned_abs c
  total-set j c lt =
      let a : total (take k ts ++ (j, coefficient_at ts k +ℤ c) ∷ drop (suc k) ts) ≡ total (take k ts) + total ((j, coefficient_at ts k +ℤ c) ∷ drop (suc k) ts) = sum_by-append (λ (t : ℕ × ℤ). unsigned_abs t.1) (take k ts) ((j, coefficient_at ts k +ℤ c) ∷ drop (suc k) ts) in
      let b : total ((j, coefficient_at ts k +ℤ c) ∷ drop (suc k) ts) ≡ unsigned_abs (coefficient_at ts k +ℤ c) + total (drop (suc k) ts) = sum_by-cons (λ (t : ℕ × ℤ). unsigned_abs t.1) (j, coefficient_at ts k +ℤ c) (drop (suc k) ts) in
      omega (arith, a, b, both, here lt, unsigned_abs-add (coefficient_at ts k) c)

  pub total-remove : k < length ts → total (take k ts ++ drop (suc k) ts) ≤ total ts
  total-remove lt =
      let a : total (take k ts ++ drop (suc k) ts) ≡ total (take k ts) + total (drop (suc k) ts) = sum_by-append (λ (t : ℕ × ℤ). unsigned_abs t.1) (take k ts) (drop (suc k) ts) in
      omega (arith, a, both, here lt)

  pub coefficient-le : k < length ts → unsigned_abs (coefficient_at ts k) ≤ total ts
  coefficient-le lt = omega (arith, both, here lt)
