-- The first of some lists, one after another.
--   first_gathered k f        the lists at the first k places
--   gathered_none, gathered_step, gathered_all     no place, one more, and all places, after another list
--   gathered-same             lists that are equal place by place
--   IsGatheredFrom P k xs     the lists at the first k places, of each of which P holds
--   from_none, from_more, from_all     no place, one more, and all places
use Rattle.std.proofs.Common.{◌≡◌, sym, ◌∙◌, ap, ap₂, subst, refl, inl, inr, ℕ, zero, suc, ◌+◌, ◌<◌, ◌≤◌, ◌⊎◌, List, [], ◌++◌, append-nil, append_assoc, arith}
use Rattle.irr_algebra.specs.Fin.{Fin, to_nat}
use Rattle.irr_algebra.specs.Fin.Fin.{first, next}
use Rattle.irr_algebra.proofs.Indices.{to_nat_inj}
use Rattle.irr_number.specs.SumLaws.{same_or_not}
use Rattle.irr_compat.specs.Parts.{gathered}

pub first_gathered : {X : Type 0} → ℕ → {n : ℕ} → (Fin n → List X) → List X
first_gathered zero f = []
first_gathered (suc k) {n = zero} f = []
first_gathered (suc k) {n = suc n} f = f first ++ first_gathered k (λ i. f (next i))

one_more : {X : Type 0} (k n : ℕ) (f : Fin n → List X) (q : Fin n) → to_nat q ≡ k → first_gathered (suc k) f ≡ first_gathered k f ++ f q
unfolding first_gathered to_nat
one_more zero zero f q e = elim q [ ]
one_more (suc k) zero f q e = elim q [ ]
one_more zero (suc n) f first e = append-nil (f first)
one_more (suc k) (suc n) f first e = absurd (omega (arith, e))
one_more zero (suc n) f (next q) e = absurd (omega (arith, e))
one_more (suc k) (suc n) f (next q) e = ap (λ t. f first ++ t) (one_more k n (λ i. f (next i)) q (omega (arith, e)))
    ∙ sym (append_assoc (f first) (first_gathered k (λ i. f (next i))) (f (next q)))

all_of : {X : Type 0} (k n : ℕ) (f : Fin n → List X) → n ≤ k → first_gathered k f ≡ gathered n f
unfolding first_gathered gathered
all_of zero zero f l = refl
all_of (suc k) zero f l = refl
all_of zero (suc n) f l = absurd (omega (arith, l))
all_of (suc k) (suc n) f l = ap (λ t. f first ++ t) (all_of k n (λ i. f (next i)) (omega (arith, l)))

plus_one : (k : ℕ) → suc k ≡ k + 1
plus_one k = omega arith

module _ {X : Type 0} (before : List X) {n : ℕ} (f : Fin n → List X) where
  pub gathered_none : before ≡ before ++ first_gathered 0 f
  unfolding first_gathered
  gathered_none = sym (append-nil before)

  pub gathered_step : (xs : List X) (k : ℕ) (q : Fin n) → to_nat q ≡ k → xs ≡ before ++ first_gathered k f
      → xs ++ f q ≡ before ++ first_gathered (k + 1) f
  gathered_step xs k q e t = ap (λ u. u ++ f q) t ∙ append_assoc before (first_gathered k f) (f q)
      ∙ ap (λ u. before ++ u) (sym (one_more k n f q e) ∙ ap (λ j. first_gathered j f) (plus_one k))

  pub gathered_all : (xs : List X) (k : ℕ) → n ≤ k → xs ≡ before ++ first_gathered k f → xs ≡ before ++ gathered n f
  gathered_all xs k l t = t ∙ ap (λ u. before ++ u) (all_of k n f l)

pub gathered-same : {X : Type 0} (n : ℕ) (f g : Fin n → List X) → ((i : Fin n) → f i ≡ g i) → gathered n f ≡ gathered n g
unfolding gathered
gathered-same zero f g e = refl
gathered-same (suc n) f g e = ap₂ (λ x y. x ++ y) (e first) (gathered-same n (λ i. f (next i)) (λ i. g (next i)) (λ i. e (next i)))

first-same : {X : Type 0} (k n : ℕ) (f g : Fin n → List X) → ((i : Fin n) → to_nat i < k → f i ≡ g i) → first_gathered k f ≡ first_gathered k g
unfolding first_gathered to_nat
first-same zero n f g e = refl
first-same (suc k) zero f g e = refl
first-same (suc k) (suc n) f g e = ap₂ (λ x y. x ++ y) (e first (omega arith)) (first-same k n (λ i. f (next i)) (λ i. g (next i)) (λ i l. e (next i) (omega (arith, l))))

-- a list for each place below k, of which something holds, and one more
module _ {X : Type 0} {n : ℕ} (P : Fin n → List X → Type 0) where
  pub record IsGatheredFrom (k : ℕ) (xs : List X) : Type 0 where
    pub lists : Fin n → List X
    pub holds : (i : Fin n) → to_nat i < k → P i (lists i)
    pub is : xs ≡ [] ++ first_gathered k lists

  pub from_none : IsGatheredFrom 0 []
  unfolding first_gathered
  from_none = record { lists = λ i. []; holds = λ i l. absurd (omega (arith, l)); is = refl }

  changed_by : (k : ℕ) (xs : List X) (f : Fin n → List X) (i : Fin n) → (k ≡ to_nat i) ⊎ (k ≡ to_nat i → ⊥) → List X
  changed_by k xs f i (inl e) = xs
  changed_by k xs f i (inr o) = f i

  changed : ℕ → List X → (Fin n → List X) → Fin n → List X
  changed k xs f i = changed_by k xs f i (same_or_not k (to_nat i))

  changed-here : (k : ℕ) (xs : List X) (f : Fin n → List X) (i : Fin n) → k ≡ to_nat i → changed k xs f i ≡ xs
  unfolding changed changed_by
  changed-here k xs f i e = at (same_or_not k (to_nat i))
    where
      at : (d : (k ≡ to_nat i) ⊎ (k ≡ to_nat i → ⊥)) → changed_by k xs f i d ≡ xs
      at (inl s) = refl
      at (inr o) = absurd (o e)

  changed-there : (k : ℕ) (xs : List X) (f : Fin n → List X) (i : Fin n) → ¬ (k ≡ to_nat i) → changed k xs f i ≡ f i
  unfolding changed changed_by
  changed-there k xs f i o = at (same_or_not k (to_nat i))
    where
      at : (d : (k ≡ to_nat i) ⊎ (k ≡ to_nat i → ⊥)) → changed_by k xs f i d ≡ f i
      at (inl s) = absurd (o s)
      at (inr p) = refl

  pub from_more : (k : ℕ) (q : Fin n) → to_nat q ≡ k → (ys : List X) → P q ys → (xs after : List X) → after ≡ xs ++ ys → IsGatheredFrom k xs → IsGatheredFrom (k + 1) after
  from_more k q e ys here xs after is so = record {
    lists = changed k ys so.lists;
    holds = λ i l. elim (same_or_not k (to_nat i)) [
      | inl s ↦ subst (P i) (sym (changed-here k ys so.lists i s)) (subst (λ (j : Fin n). P j ys) (to_nat_inj q i (e ∙ s)) here)
      | inr o ↦ subst (P i) (sym (changed-there k ys so.lists i o)) (so.holds i (omega (arith, l, o)))
    ];
    is = is ∙ ap (λ (zs : List X). xs ++ zs) (sym (changed-here k ys so.lists q (sym e)))
        ∙ gathered_step [] (changed k ys so.lists) xs k q e (so.is ∙ first-same k n so.lists (changed k ys so.lists) (λ i l. sym (changed-there k ys so.lists i (λ s. omega (arith, l, s)))));
  }

  pub from_all : (k : ℕ) → n ≤ k → (xs : List X) (so : IsGatheredFrom k xs) → xs ≡ gathered n so.lists
  from_all k l xs so = gathered_all [] so.lists xs k l so.is
