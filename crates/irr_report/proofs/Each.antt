-- Lists that are related item by item.
--   each-length            they are as long
--   each-more              one more item
--   each-at                at a place
--   each-of_read           what is read of texts
--   untruncated            equations of numbers from what is only known to be
--   all-same, one-order    numbers of one order have that of the first
use Rattle.std.proofs.Common.{◌≡◌, refl, sym, ap, ℕ, zero, suc, ◌<◌, List, [], ◌∷◌, ◌++◌, length, get_or, map, All, arith, ◌∙◌, inl, inr}
use Rattle.std.proofs.Math.Logic.{∥∥₁_elim}
use Rattle.std.proofs.lemmas.Bool.{cases_lt}
use Rattle.irr_number.specs.Number.{Number}
use Rattle.irr_mat.specs.Entries.{first_order, HaveOneOrder}
use Rattle.irr_report.specs.StageValues.{AreEach, IsValueOf}
use Rattle.irr_report.specs.ValueTexts.{AreReadAs}

pub each-length : {A B : Type 0} (R : A → B → Type 0) (xs : List A) (ys : List B) → AreEach R xs ys → length xs ≡ length ys
each-length R [] [] h = refl
each-length R [] (y ∷ ys) h = absurd h
each-length R (x ∷ xs) [] h = absurd h
each-length R (x ∷ xs) (y ∷ ys) h = ap suc (each-length R xs ys h.1)

pub each-more : {A B : Type 0} (R : A → B → Type 0) (xs : List A) (ys : List B) (x : A) (y : B) → AreEach R xs ys → R x y
    → AreEach R (xs ++ x ∷ []) (ys ++ y ∷ [])
each-more R [] [] x y h r = (r, tt)
each-more R [] (b ∷ ys) x y h r = absurd h
each-more R (a ∷ xs) [] x y h r = absurd h
each-more R (a ∷ xs) (b ∷ ys) x y h r = (h.0, each-more R xs ys x y h.1 r)

pub each-image : {A B D : Type 0} (R : A → B → Type 0) (Q : A → D → Type 0) (g : B → D) → ((a : A) (b : B) → R a b → Q a (g b))
    → (xs : List A) (ys : List B) → AreEach R xs ys → AreEach Q xs (map g ys)
each-image R Q g k [] [] h = tt
each-image R Q g k [] (y ∷ ys) h = absurd h
each-image R Q g k (x ∷ xs) [] h = absurd h
each-image R Q g k (x ∷ xs) (y ∷ ys) h = (k x y h.0, each-image R Q g k xs ys h.1)

pub each-at : {A B : Type 0} (R : A → B → Type 0) (xs : List A) (ys : List B) (i : ℕ) (c : A) (d : B) → AreEach R xs ys → i < length xs
    → R (get_or xs i c) (get_or ys i d)
each-at R [] ys i c d h lt = absurd (omega arith)
each-at R (x ∷ xs) [] i c d h lt = absurd h
each-at R (x ∷ xs) (y ∷ ys) zero c d h lt = h.0
each-at R (x ∷ xs) (y ∷ ys) (suc i) c d h lt = each-at R xs ys i c d h.1 (omega arith)

pub each-all : {A B : Type 0} (R : A → B → Type 0) (Q : B → Type 0) → ((a : A) (b : B) → R a b → Q b) → (xs : List A) (ys : List B) → AreEach R xs ys → All Q ys
each-all R Q k xs [] h i d lt = absurd (omega arith)
each-all R Q k [] (y ∷ ys) h i d lt = absurd h
each-all R Q k (x ∷ xs) (y ∷ ys) h zero d lt = k x y h.0
each-all R Q k (x ∷ xs) (y ∷ ys) h (suc i) d lt = each-all R Q k xs ys h.1 i d (omega arith)

module _ {S : Type 0} (order : S → ℕ) (value : (n : ℕ) → S → Number n) (n : ℕ) where
  pub each-of_read : (texts : List (List ℕ)) (xs : List S) → AreReadAs order value n texts xs → AreEach (IsValueOf order value n) texts xs
  each-of_read [] [] h = tt
  each-of_read [] (x ∷ xs) h = absurd (omega (arith, h.count))
  each-of_read (t ∷ texts) [] h = absurd (omega (arith, h.count))
  each-of_read (t ∷ texts) (x ∷ xs) h = (
    (h.orders 0 x (omega arith), h.numbers 0 x (omega arith)),
    each-of_read texts xs (record {
      count = omega (arith, h.count);
      orders = λ i d lt. h.orders (suc i) d (omega (arith, lt));
      numbers = λ i d lt. h.numbers (suc i) d (omega (arith, lt));
    }),
  )

stable : (a b : ℕ) → ((a ≡ b → ⊥) → ⊥) → a ≡ b
stable a b h = elim (cases_lt a b) [
  | inl lt ↦ absurd (h (λ e. omega (arith, lt, e)))
  | inr ge ↦ elim (cases_lt b a) [
    | inl lt ↦ absurd (h (λ e. omega (arith, lt, e)))
    | inr le ↦ omega (arith, ge, le)
  ]
]

pub untruncated : {A : Type 0} (a b : ℕ) → ∥ A ∥₁ → (A → a ≡ b) → a ≡ b
untruncated a b t f = stable a b (λ denied. ∥∥₁_elim t (λ x y. absurd x) (λ s. denied (f s)))

pub one-order : {S : Type 0} (order : S → ℕ) (n : ℕ) (xs : List S) → All (λ x. order x ≡ n) xs → HaveOneOrder order xs
unfolding first_order
one-order order n [] h k d lt = absurd (omega arith)
one-order order n (x ∷ xs) h k d lt = h k d lt ∙ sym (h 0 x (omega arith))
