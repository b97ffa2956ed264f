-- Places of lists that stand one after another.
--
-- on_plus-left   f stands at the left indices
-- on_plus-right  and g at the right ones
-- by_plus        what holds at the left and at the right indices holds at each
-- by_last        what holds before the last index and at it holds at each
-- by_last-widen  it is the given proof before the last index
-- by_last-last   and the given one at it
-- on_last-widen  f stands before the last index
-- on_last-last   and a at it
-- to_nat-left    a left index has its own number
-- to_nat-right   a right one has the first count added
-- to_nat-widen   an index keeps its number
-- to_nat-last    the last index below n + 1 is n
-- widen_or_last  each index is before the last or the last
-- append-left    the first list's members stand at the left indices
-- append-right   and the second's at the right ones
-- append-before  the first list's members have their own numbers
-- append-after   and the second's the first count added
-- append-count   the counts are added
use Rattle.std.proofs.Common.{◌⊎◌, inl, inr, ◌≡◌, sym, ◌∙◌, ap, refl, ℕ, zero, suc, ◌+◌, arith}
use Rattle.irr_algebra.specs.Ring.{Ring}
use Rattle.irr_algebra.specs.Fin.{Fin, to_nat}
use Rattle.irr_algebra.specs.Fin.Fin.{first, next}
use Rattle.irr_algebra.specs.Pair.{plus, left, right, on_plus}
use Rattle.irr_algebra.proofs.Indices.{to_nat_inj}
use Rattle.irr_algebra.proofs.Pairs.{plus-add}
use Rattle.irr_theory.specs.FactorSystem.{FactorSystem}
use Rattle.irr_theory.specs.Representations.{Representations}
use Rattle.irr_ascent.specs.Joined.{family, append, widen, last, on_last}

pub on_plus-left : {A : Type 0} {m : ℕ} (n : ℕ) (f : Fin m → A) (g : Fin n → A) (i : Fin m) → on_plus m n f g (left n i) ≡ f i
unfolding on_plus left
on_plus-left n f g first = refl
on_plus-left n f g (next i) = on_plus-left n (λ x. f (next x)) g i

pub on_plus-right : {A : Type 0} (m : ℕ) {n : ℕ} (f : Fin m → A) (g : Fin n → A) (j : Fin n) → on_plus m n f g (right m j) ≡ g j
unfolding on_plus right
on_plus-right zero f g j = refl
on_plus-right (suc m) f g j = on_plus-right m (λ x. f (next x)) g j

pub by_plus : (m n : ℕ) (P : Fin (plus m n) → Type 0) → ((i : Fin m) → P (left n i)) → ((j : Fin n) → P (right m j)) → (k : Fin (plus m n)) → P k
unfolding left right
by_plus zero n P p q k = q k
by_plus (suc m) n P p q first = p first
by_plus (suc m) n P p q (next k) = by_plus m n (λ x. P (next x)) (λ i. p (next i)) q k

pub by_last : (n : ℕ) (P : Fin (suc n) → Type 0) → ((i : Fin n) → P (widen i)) → P last → (k : Fin (suc n)) → P k
unfolding widen last
by_last zero P p q first = q
by_last zero P p q (next k) = elim k [ ]
by_last (suc n) P p q first = p first
by_last (suc n) P p q (next k) = by_last n (λ x. P (next x)) (λ i. p (next i)) q k

pub by_last-widen : (n : ℕ) (P : Fin (suc n) → Type 0) (p : (i : Fin n) → P (widen i)) (q : P last) (i : Fin n) → by_last n P p q (widen i) ≡ p i
unfolding widen last by_last
by_last-widen zero P p q i = elim i [ ]
by_last-widen (suc n) P p q first = refl
by_last-widen (suc n) P p q (next i) = by_last-widen n (λ x. P (next x)) (λ i. p (next i)) q i

pub by_last-last : (n : ℕ) (P : Fin (suc n) → Type 0) (p : (i : Fin n) → P (widen i)) (q : P last) → by_last n P p q last ≡ q
unfolding widen last by_last
by_last-last zero P p q = refl
by_last-last (suc n) P p q = by_last-last n (λ x. P (next x)) (λ i. p (next i)) q

pub on_last-widen : {A : Type 0} {n : ℕ} (f : Fin n → A) (a : A) (i : Fin n) → on_last f a (widen i) ≡ f i
unfolding on_last widen
on_last-widen {n = zero} f a i = elim i [ ]
on_last-widen {n = suc n} f a first = refl
on_last-widen {n = suc n} f a (next i) = on_last-widen (λ j. f (next j)) a i

pub on_last-last : {A : Type 0} {n : ℕ} (f : Fin n → A) (a : A) → on_last f a last ≡ a
unfolding on_last last
on_last-last {n = zero} f a = refl
on_last-last {n = suc n} f a = on_last-last (λ j. f (next j)) a

pub to_nat-left : {m : ℕ} (n : ℕ) (i : Fin m) → to_nat (left n i) ≡ to_nat i
unfolding left to_nat
to_nat-left n first = refl
to_nat-left n (next i) = ap suc (to_nat-left n i)

pub to_nat-right : (m : ℕ) {n : ℕ} (j : Fin n) → to_nat (right m j) ≡ m + to_nat j
unfolding right to_nat
to_nat-right zero j = omega arith
to_nat-right (suc m) j = let h = to_nat-right m j in omega arith

pub to_nat-widen : {n : ℕ} (i : Fin n) → to_nat (widen i) ≡ to_nat i
unfolding widen to_nat
to_nat-widen first = refl
to_nat-widen (next i) = ap suc (to_nat-widen i)

pub to_nat-last : (n : ℕ) → to_nat (last {n = n}) ≡ n
unfolding last to_nat
to_nat-last zero = refl
to_nat-last (suc n) = ap suc (to_nat-last n)

-- an index is before the last, or the last
pub widen_or_last : (n : ℕ) (i : Fin (suc n)) → ((k : Fin n) × (i ≡ widen k)) ⊎ (i ≡ last)
widen_or_last n = by_last n (λ i. ((k : Fin n) × (i ≡ widen k)) ⊎ (i ≡ last)) (λ k. inl (k, refl)) (inr refl)

module _ {R : Ring} {T : FactorSystem R} (A B : Representations T) where
  pub append-left : (i : Fin A.count) → family (append A B) (left B.count i) ≡ family A i
  append-left i = on_plus-left B.count (family A) (family B) i

  pub append-right : (j : Fin B.count) → family (append A B) (right A.count j) ≡ family B j
  append-right j = on_plus-right A.count (family A) (family B) j

  -- the same by numbers
  pub append-before : (m : Fin (append A B).count) (i : Fin A.count) → to_nat m ≡ to_nat i → family (append A B) m ≡ family A i
  append-before m i e = ap (family (append A B)) (to_nat_inj m (left B.count i) (e ∙ sym (to_nat-left B.count i))) ∙ append-left i

  pub append-after : (m : Fin (append A B).count) (j : Fin B.count) → to_nat m ≡ A.count + to_nat j → family (append A B) m ≡ family B j
  append-after m j e = ap (family (append A B)) (to_nat_inj m (right A.count j) (e ∙ sym (to_nat-right A.count j))) ∙ append-right j

  pub append-count : (append A B).count ≡ A.count + B.count
  append-count = plus-add A.count B.count
