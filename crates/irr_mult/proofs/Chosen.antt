-- Of some indices those with a property that is decided, in order.
--   Chosen P           their list
--   chosen             it exists
--   sum_of_classes     the sum over chosen places is that over the classes of which these are the places
use Rattle.std.proofs.Common.{◌≡◌, sym, ◌∙◌, ap, refl, ℕ, zero, suc, ◌<◌, ◌≤◌, ◌⊎◌, inl, inr, arith}
use Rattle.irr_algebra.specs.Ring.{Ring}
use Rattle.irr_algebra.specs.Fin.{Fin, to_nat}
use Rattle.irr_algebra.specs.Fin.Fin.{first, next}
use Rattle.irr_algebra.specs.Sum.{sum, delta}
use Rattle.irr_algebra.proofs.Sums.{sum-ext, sum-zero, sum-mul, sum_swap, sum-delta, delta-ne, delta_iff}
use Rattle.irr_algebra.proofs.Indices.{all_or_one, same_or_not}

-- the indices with P, each once, in order
pub record Chosen {e : ℕ} (P : Fin e → Type 0) : Type 0 where
  pub count : ℕ
  pub few : count ≤ e
  pub places : Fin count → Fin e
  pub holds : (i : Fin count) → P (places i)
  pub all : (j : Fin e) → P j → (i : Fin count) × (places i ≡ j)
  pub ordered : (i j : Fin count) → to_nat i < to_nat j → to_nat (places i) < to_nat (places j)

-- the first index does not have P
without_first : {e : ℕ} (P : Fin (suc e) → Type 0) → (P first → ⊥) → Chosen (λ j. P (next j)) → Chosen P
unfolding to_nat
without_first {e} P none rest = record {
  count = rest.count;
  few = let l = rest.few in omega (arith, l);
  places = λ i. next (rest.places i);
  holds = rest.holds;
  all = all;
  ordered = λ i j l. let k = rest.ordered i j l in omega (arith, k);
}
  where
    all : (j : Fin (suc e)) → P j → (i : Fin rest.count) × (next (rest.places i) ≡ j)
    all first p = absurd (none p)
    all (next j) p = let found = rest.all j p in (found.0, ap next found.1)

-- and it does
with_first : {e : ℕ} (P : Fin (suc e) → Type 0) → P first → Chosen (λ j. P (next j)) → Chosen P
unfolding to_nat
with_first {e} P here rest = record {
  count = suc rest.count;
  few = let l = rest.few in omega (arith, l);
  places = places;
  holds = holds;
  all = all;
  ordered = ordered;
}
  where
    places : Fin (suc rest.count) → Fin (suc e)
    places first = first
    places (next i) = next (rest.places i)

    holds : (i : Fin (suc rest.count)) → P (places i)
    holds first = here
    holds (next i) = rest.holds i

    all : (j : Fin (suc e)) → P j → (i : Fin (suc rest.count)) × (places i ≡ j)
    all first p = (first, refl)
    all (next j) p = let found = rest.all j p in (next found.0, ap next found.1)

    ordered : (i j : Fin (suc rest.count)) → to_nat i < to_nat j → to_nat (places i) < to_nat (places j)
    ordered first first l = absurd (omega (arith, l))
    ordered first (next j) l = omega arith
    ordered (next i) first l = absurd (omega (arith, l))
    ordered (next i) (next j) l = let k = rest.ordered i j (omega (arith, l)) in omega (arith, k)

pub chosen : (e : ℕ) (P : Fin e → Type 0) → ((j : Fin e) → P j ⊎ (P j → ⊥)) → Chosen P
chosen zero P decide = record {
  count = zero;
  few = omega arith;
  places = λ i. elim i [ ];
  holds = λ i. elim i [ ];
  all = λ j. elim j [ ];
  ordered = λ i. elim i [ ];
}
chosen (suc e) P decide = elim (decide first) [
  | inl here ↦ with_first P here (chosen e (λ j. P (next j)) (λ j. decide (next j)))
  | inr none ↦ without_first P none (chosen e (λ j. P (next j)) (λ j. decide (next j)))
]

module _ (R : Ring) where
  module _ {n m : ℕ} (index : Fin n → Fin m) (injective : (t u : Fin n) → index t ≡ index u → t ≡ u) (c : Fin m) where
    -- the deltas of different indices at one of them
    one_of : (t : Fin n) → index t ≡ c → sum R n (λ u. delta R (index u) c) ≡ R.one
    one_of t e = sum-ext R n (λ u. delta R (index u) c) (λ u. R.mul (delta R t u) R.one)
        (λ u. delta_iff R (index u) c t u (λ f. injective t u (e ∙ sym f)) (λ f. ap index (sym f) ∙ e)
        ∙ sym (R.mul-one (delta R t u)))
        ∙ sum-delta R n t (λ u. R.one)

    none_of : ((t : Fin n) → index t ≡ c → ⊥) → sum R n (λ u. delta R (index u) c) ≡ R.zero
    none_of none = sum-ext R n (λ u. delta R (index u) c) (λ u. R.zero) (λ u. delta-ne R (index u) c (none u)) ∙ sum-zero R n

  -- two lists of different indices that both have one, or both not
  counted_alike : {n m q e : ℕ} (index : Fin n → Fin m) → ((t u : Fin n) → index t ≡ index u → t ≡ u)
      → (places : Fin q → Fin e) → ((i l : Fin q) → places i ≡ places l → i ≡ l) → (c : Fin m) (j : Fin e)
      → ((t : Fin n) → index t ≡ c → (i : Fin q) × (places i ≡ j))
      → ((i : Fin q) → places i ≡ j → (t : Fin n) × (index t ≡ c))
      → sum R n (λ t. delta R (index t) c) ≡ sum R q (λ i. delta R (places i) j)
  counted_alike {n} {m} {q} {e} index injective places apart c j there back =
      elim (all_or_one n (λ t. index t ≡ c → ⊥) (λ t. index t ≡ c) (λ t. elim (same_or_not (index t) c) [
        | inl same ↦ inr same
        | inr other ↦ inl other
      ])) [
        | inl none ↦ none_of index injective c none
            ∙ sym (none_of places apart j (λ i f. let found = back i f in none found.0 found.1))
        | inr one ↦ one_of index injective c one.0 one.1
            ∙ sym (let found = there one.0 one.1 in one_of places apart j found.0 found.1)
      ]

  -- the sum over some places is the sum of f times how often each place is there
  sum_of_places : {q e : ℕ} (places : Fin q → Fin e) (f : Fin e → R.Carrier)
      → sum R q (λ i. f (places i)) ≡ sum R e (λ j. R.mul (sum R q (λ i. delta R (places i) j)) (f j))
  sum_of_places {q} {e} places f =
      sum-ext R q (λ i. f (places i)) (λ i. sum R e (λ j. R.mul (delta R (places i) j) (f j)))
      (λ i. sym (sum-delta R e (places i) f))
      ∙ sum_swap R q e (λ i j. R.mul (delta R (places i) j) (f j))
      ∙ sum-ext R e (λ j. sum R q (λ i. R.mul (delta R (places i) j) (f j)))
      (λ j. R.mul (sum R q (λ i. delta R (places i) j)) (f j))
      (λ j. sym (sum-mul R q (λ i. delta R (places i) j) (f j)))

  -- the places of some classes, added up class by class
  pub sum_of_classes : {n m q e : ℕ} (index : Fin n → Fin m) → ((t u : Fin n) → index t ≡ index u → t ≡ u)
      → (places : Fin q → Fin e) → ((i l : Fin q) → places i ≡ places l → i ≡ l) → (class : Fin e → Fin m)
      → ((j : Fin e) (t : Fin n) → index t ≡ class j → (i : Fin q) × (places i ≡ j))
      → ((i : Fin q) → (t : Fin n) × (index t ≡ class (places i)))
      → (f : Fin e → R.Carrier)
      → sum R n (λ t. sum R e (λ j. R.mul (delta R (index t) (class j)) (f j))) ≡ sum R q (λ i. f (places i))
  sum_of_classes {n} {m} {q} {e} index injective places apart class there back f =
      sum_swap R n e (λ t j. R.mul (delta R (index t) (class j)) (f j))
      ∙ sum-ext R e (λ j. sum R n (λ t. R.mul (delta R (index t) (class j)) (f j)))
      (λ j. R.mul (sum R q (λ i. delta R (places i) j)) (f j))
      (λ j. sym (sum-mul R n (λ t. delta R (index t) (class j)) (f j))
      ∙ ap (λ x. R.mul x (f j)) (counted_alike index injective places apart (class j) j (there j)
      (λ i l. let found = back i in (found.0, found.1 ∙ ap class l))))
      ∙ sym (sum_of_places places f)
