-- Two lists in one order, without repetition, that have the same items are the same.
--   Agree f g              they have the same item at each number
--   same_length, agree     they have one length, and agree
use Rattle.std.proofs.Common.{◌≡◌, sym, refl, ap, ◌∙◌, subst, subst₂, inl, inr, ℕ, zero, suc, ◌<◌, ◌≤◌, arith}
use Rattle.std.proofs.lemmas.Bool.{cases_lt}
use Rattle.irr_algebra.specs.Fin.{Fin, to_nat}
use Rattle.irr_algebra.proofs.Indices.{from_nat, to_nat-from_nat, to_nat-lt, to_nat_inj}

abbrev pub Agree : {X : Type 0} {n m : ℕ} (f : Fin n → X) (g : Fin m → X) → Type 0
Agree {n = n} {m = m} f g = (i : Fin n) (j : Fin m) → to_nat i ≡ to_nat j → f i ≡ g j

module _ {X : Type 0} (R : X → X → Type 0) (irreflexive : (x : X) → R x x → ⊥) (chain : (x y z : X) → R x y → R y z → R x z) where
  abbrev IsOrdered : {n : ℕ} (f : Fin n → X) → Type 0
  IsOrdered {n} f = (i j : Fin n) → to_nat i < to_nat j → R (f i) (f j)

  -- what stands before stands at the lesser number
  before : {n : ℕ} (f : Fin n → X) → IsOrdered f → (i j : Fin n) → R (f i) (f j) → to_nat i < to_nat j
  before f ordered i j r = elim (cases_lt (to_nat i) (to_nat j)) [
    | inl less ↦ less
    | inr past ↦ absurd (elim (cases_lt (to_nat j) (to_nat i)) [
      | inl behind ↦ irreflexive (f i) (chain (f i) (f j) (f i) r (ordered j i behind))
      | inr same ↦ irreflexive (f i) (subst (λ x. R (f i) (f x)) (to_nat_inj j i (omega (arith, past, same))) r)
    ])
  ]

  -- one item stands at one number
  injective : {n : ℕ} (f : Fin n → X) → IsOrdered f → (i j : Fin n) → f i ≡ f j → to_nat i ≤ to_nat j
  injective f ordered i j e = elim (cases_lt (to_nat j) (to_nat i)) [
    | inl less ↦ absurd (irreflexive (f i) (subst (λ x. R x (f i)) (sym e) (ordered j i less)))
    | inr past ↦ past
  ]

  module _ {n m : ℕ} (f : Fin n → X) (g : Fin m → X) (ordered_f : IsOrdered f) (ordered_g : IsOrdered g)
      (into : (i : Fin n) → (j : Fin m) × (g j ≡ f i)) where
    above : (k : ℕ) (i : Fin n) → to_nat i ≡ k → k ≤ to_nat (into i).0
    above zero i e = omega arith
    above (suc k) i e =
        let l : to_nat i < n = to_nat-lt i in
        let inside : k < n = omega (arith, l, e) in
        let at : to_nat (from_nat n k inside) ≡ k = to_nat-from_nat n k inside in
        let less : to_nat (into (from_nat n k inside)).0 < to_nat (into i).0 = before g ordered_g (into (from_nat n k inside)).0 (into i).0
        (subst₂ R (sym (into (from_nat n k inside)).1) (sym (into i).1) (ordered_f (from_nat n k inside) i (omega (arith, at, e)))) in
        let b = above k (from_nat n k inside) at in
        omega (arith, less, b)

  not_longer : (n m : ℕ) (f : Fin n → X) (g : Fin m → X) → IsOrdered f → IsOrdered g → ((i : Fin n) → (j : Fin m) × (g j ≡ f i)) → n ≤ m
  not_longer zero m f g ordered_f ordered_g into = omega arith
  not_longer (suc n) m f g ordered_f ordered_g into =
      let inside : n < suc n = omega arith in
      let last : Fin (suc n) = from_nat (suc n) n inside in
      let a : n ≤ to_nat (into last).0 = above f g ordered_f ordered_g into n last (to_nat-from_nat (suc n) n inside) in
      let b : to_nat (into last).0 < m = to_nat-lt (into last).0 in
      omega (arith, a, b)

  module _ {n m : ℕ} (f : Fin n → X) (g : Fin m → X) (ordered_f : IsOrdered f) (ordered_g : IsOrdered g)
      (into : (i : Fin n) → (j : Fin m) × (g j ≡ f i)) (back : (j : Fin m) → (i : Fin n) × (f i ≡ g j)) where
    pub same_length : n ≡ m
    same_length =
        let a : n ≤ m = not_longer n m f g ordered_f ordered_g into in
        let b : m ≤ n = not_longer m n g f ordered_g ordered_f back in
        omega (arith, a, b)

    pub agree : Agree f g
    agree i j e =
        let a : to_nat i ≤ to_nat (into i).0 = above f g ordered_f ordered_g into (to_nat i) i refl in
        let b : to_nat (into i).0 ≤ to_nat (back (into i).0).0 = above g f ordered_g ordered_f back (to_nat (into i).0) (into i).0 refl in
        let c : to_nat (back (into i).0).0 ≤ to_nat i = injective f ordered_f (back (into i).0).0 i ((back (into i).0).1 ∙ (into i).1) in
        let same : to_nat (into i).0 ≡ to_nat j = omega (arith, a, b, c, e) in
        sym (into i).1 ∙ ap g (to_nat_inj (into i).0 j same)
