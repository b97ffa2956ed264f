-- Sizes of sums, products and multiples of matrices.
--   IsRootSum-sum         a sum over indices
--   within-list           a listed matrix
--   one_power             one power of z, from its term
--   within-more, within-unit, within-add, within-add_same, within-scale, within-mul, within-kron, within-trace
use Rattle.std.proofs.Common.{◌≡◌, sym, ◌∙◌, ap, subst, ℕ, pos, zero, suc, ◌+◌, ◌*◌, ◌/◌, ◌%◌, ◌<◌, ◌≤◌, ◌⊎◌, inl, inr, refl, List, [], ◌∷◌, All, false, length, get_or, map, arith}
use Rattle.std.proofs.lemmas.List.{get_or-map}
use Rattle.irr_algebra.specs.Ring.{whole}
use Rattle.irr_algebra.proofs.Rings.{one-mul}
use Rattle.irr_number.specs.Number.{root_power}
use Rattle.irr_canonical.specs.RootSum.{signed_sum, with_sign}
use Rattle.irr_rational.proofs.Integers.{integer-one}
use Rattle.irr_cyc.specs.Terms.{terms_sum}
use Rattle.irr_mat.specs.Entries.{matrix_of}
use Rattle.irr_mat.proofs.Entries.{matrix_of-at, place-lt}
use Rattle.irr_algebra.specs.Fin.{Fin, to_nat}
use Rattle.irr_algebra.specs.Fin.Fin.{first, next}
use Rattle.irr_algebra.specs.Sum.{sum, delta}
use Rattle.irr_algebra.specs.Matrix.{Matrix, ◌·◌, ◌⊕◌, scale, trace, unit}
use Rattle.irr_algebra.specs.Pair.{kron, pair, times}
use Rattle.irr_algebra.proofs.Indices.{from_nat, same_or_not, to_nat-lt}
use Rattle.irr_algebra.proofs.Pairs.{kron-at, times-mul}
use Rattle.irr_algebra.proofs.Sums.{delta-eq, delta-ne}
use Rattle.irr_number.specs.Number.{Number, numbers}
use Rattle.irr_canonical.specs.RootSum.{IsRootSum}
use Rattle.irr_canonical.proofs.RootSums.{IsRootSum-add, IsRootSum-add_same, IsRootSum-more, IsRootSum-mul, IsRootSum-one, IsRootSum-zero}
use Rattle.irr_mat.specs.Size.{IsWithin}
use Rattle.irr_mat.proofs.Blocks.{pair-index, quotient-lt, remainder-lt}

pub IsRootSum-sum : (N s d n : ℕ) (f : Fin n → Number N) → 0 < d → ((i : Fin n) → IsRootSum N s d (f i)) → IsRootSum N (n * s) d (sum (numbers N) n f)
unfolding sum
IsRootSum-sum N s d zero f p h = IsRootSum-more N (0 * s) (omega arith) (IsRootSum-zero N d p)
IsRootSum-sum N s d (suc n) f p h = IsRootSum-more N (suc n * s) (omega arith) (IsRootSum-add_same N (h first) (IsRootSum-sum N s d n (λ i. f (next i)) p (λ i. h (next i))))

positive-mul : (d e : ℕ) → 0 < d → 0 < e → 0 < d * e
positive-mul zero e p q = absurd (omega arith)
positive-mul (suc d) e p q = omega arith

pub within-more : (N r c s t d : ℕ) (a : Matrix (numbers N) r c) → s ≤ t → IsWithin N s d a → IsWithin N t d a
within-more N r c s t d a l h = record { positive = h.positive; entry = λ i j. IsRootSum-more N t l (h.entry i j) }

pub within-unit : (N n : ℕ) → IsWithin N 1 1 (unit (numbers N) n)
unfolding unit
within-unit N n = record { positive = one; entry = λ i j. at i j (same_or_not i j) }
  where
    one : 0 < 1
    one = omega arith

    at : (i j : Fin n) → (i ≡ j) ⊎ (i ≡ j → ⊥) → IsRootSum N 1 1 (delta (numbers N) i j)
    at i j (inl e) = subst (IsRootSum N 1 1) (sym (delta-eq (numbers N) i j e)) (IsRootSum-one N)
    at i j (inr f) = subst (IsRootSum N 1 1) (sym (delta-ne (numbers N) i j f)) (IsRootSum-more N 1 (omega arith) (IsRootSum-zero N 1 one))

pub within-add : (N r c s d t e : ℕ) (a b : Matrix (numbers N) r c) → IsWithin N s d a → IsWithin N t e b → IsWithin N (e * s + d * t) (d * e) (a ⊕ b)
unfolding ◌⊕◌
within-add N r c s d t e a b h k = record { positive = positive-mul d e h.positive k.positive; entry = λ i j. IsRootSum-add N (h.entry i j) (k.entry i j) }

pub within-add_same : (N r c s d t : ℕ) (a b : Matrix (numbers N) r c) → IsWithin N s d a → IsWithin N t d b → IsWithin N (s + t) d (a ⊕ b)
unfolding ◌⊕◌
within-add_same N r c s d t a b h k = record { positive = h.positive; entry = λ i j. IsRootSum-add_same N (h.entry i j) (k.entry i j) }

pub within-scale : (N r c s d t e : ℕ) (x : Number N) (a : Matrix (numbers N) r c) → IsRootSum N s d x → IsWithin N t e a → IsWithin N (s * t) (d * e) (scale (numbers N) x a)
unfolding scale
within-scale N r c s d t e x a h k = record { positive = positive-mul d e h.positive k.positive; entry = λ i j. IsRootSum-mul N h (k.entry i j) }

pub within-mul : (N r m c s d t e : ℕ) (a : Matrix (numbers N) r m) (b : Matrix (numbers N) m c) → IsWithin N s d a → IsWithin N t e b → IsWithin N (m * (s * t)) (d * e) (a · b)
unfolding ◌·◌
within-mul N r m c s d t e a b h k = record {
  positive = positive-mul d e h.positive k.positive;
  entry = λ i j. IsRootSum-sum N (s * t) (d * e) m (λ l. (numbers N).mul (a.at i l) (b.at l j)) (positive-mul d e h.positive k.positive) (λ l. IsRootSum-mul N (h.entry i l) (k.entry l j));
}

pub within-trace : (N n s d : ℕ) (a : Matrix (numbers N) n n) → IsWithin N s d a → IsRootSum N (n * s) d (trace a)
unfolding trace
within-trace N n s d a h = IsRootSum-sum N s d n (λ i. a.at i i) h.positive (λ i. h.entry i i)

-- a factor of a product that is not 0
second-positive : (m p k : ℕ) → k < m * p → 0 < p
second-positive m zero k l = absurd (omega arith)
second-positive m (suc p) k l = omega arith

-- what holds of each pair of indices
at_pairs : (m p : ℕ) (P : Fin (times m p) → Type 0) → ((i : Fin m) (k : Fin p) → P (pair p i k)) → (x : Fin (times m p)) → P x
at_pairs m p P h x =
    let l : to_nat x < times m p = to_nat-lt x in
    let q : 0 < p = second-positive m p (to_nat x) (subst (λ w. to_nat x < w) (times-mul m p) l) in
    let u : to_nat x / p < m = quotient-lt m p (to_nat x) q l in
    let v : to_nat x % p < p = remainder-lt p (to_nat x) q in
    subst P (pair-index m p q (to_nat x) x refl u v) (h (from_nat m (to_nat x / p) u) (from_nat p (to_nat x % p) v))

pub within-kron : (N r c p q s d t e : ℕ) (a : Matrix (numbers N) r c) (b : Matrix (numbers N) p q) → IsWithin N s d a → IsWithin N t e b → IsWithin N (s * t) (d * e) (kron a b)
within-kron N r c p q s d t e a b h k = record {
  positive = positive-mul d e h.positive k.positive;
  entry = λ x y. at_pairs r p (λ x. IsRootSum N (s * t) (d * e) ((kron a b).at x y)) (λ i u.
      at_pairs c q (λ y. IsRootSum N (s * t) (d * e) ((kron a b).at (pair p i u) y)) (λ j v.
      subst (IsRootSum N (s * t) (d * e)) (sym (kron-at a b i u j v)) (IsRootSum-mul N (h.entry i j) (k.entry u v))) y) x;
}

-- the values of a list
all_values : {S : Type 0} (value : (n : ℕ) → S → Number n) (N s d : ℕ) (xs : List S) → All (λ x. IsRootSum N s d (value N x)) xs → (p : ℕ) → p < length xs → IsRootSum N s d (get_or (map (value N) xs) p (numbers N).zero)
all_values value N s d [] h p l = absurd (omega arith)
all_values value N s d (x ∷ xs) h p l = subst (IsRootSum N s d) (sym (get_or-map (value N) (x ∷ xs) p x (numbers N).zero l)) (h p x l)

pub within-list : {S : Type 0} (value : (n : ℕ) → S → Number n) (N r c s d : ℕ) (xs : List S) → 0 < d → length xs ≡ r * c → All (λ x. IsRootSum N s d (value N x)) xs → IsWithin N s d (matrix_of value N r c xs)
within-list value N r c s d xs p full h = record {
  positive = p;
  entry = λ i j. subst (IsRootSum N s d) (sym (matrix_of-at (λ _. 0) value N r c xs i j))
      (all_values value N s d xs h (to_nat i * c + to_nat j) (subst (λ k. to_nat i * c + to_nat j < k) (sym full) (place-lt (to_nat i) c (to_nat j) r (to_nat-lt i) (to_nat-lt j))));
}

-- one power of z over d
pub one_power : (N d e : ℕ) (x : Number N) → 0 < d → (numbers N).mul (whole (numbers N) d) x ≡ terms_sum N ((e, pos 1) ∷ []) → IsRootSum N 1 d x
unfolding terms_sum signed_sum with_sign
one_power N d e x p v = record {
  positive = p;
  powers = record { negative = false; exponent = e } ∷ [];
  few = omega arith;
  multiple = v ∙ ap (λ y. (numbers N).add y (numbers N).zero) (ap (λ y. (numbers N).mul y (root_power N e)) (integer-one (numbers N)) ∙ one-mul (numbers N) (root_power N e));
}
