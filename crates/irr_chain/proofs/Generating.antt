-- Marking the p-th powers and the commutators of the members one by one.
--   Before members n q       q is one of the first n members
--   Marking T H p marks P Q  the powers of P and the commutators of Q are marked, and others only of H
--   Row members n m q r      the pair q, r stands before the n-th and the m-th member
--   marking-start            nothing is marked
--   row-start, row-step, row-end    one row of pairs
--   marking-members          all members
use Rattle.std.specs.Prelude.{ℕ, ◌≡◌, ◌<◌, ◌+◌, ◌⊎◌, List, Bool, length, slice_index, EachIndex, true, false}
use Rattle.std.proofs.Common.{sym, ◌∙◌, ap, subst, inl, inr, arith, set, get_or-set_same, length-set}
use Rattle.std.proofs.lemmas.List.{get_or_default}
use Rattle.irr_number.specs.SumLaws.{same_or_not}
use Rattle.irr_algebra.specs.Fin.{Fin, to_nat}
use Rattle.irr_algebra.proofs.Indices.{from_nat, to_nat-from_nat, to_nat-lt, to_nat_inj}
use Rattle.irr_space.specs.PhaseTable.{PhaseTable}
use Rattle.irr_chain.specs.NormalSubgroup.{In}
use Rattle.irr_chain.specs.Marks.{IsMarked, Marked, Generators}
use Rattle.irr_chain.specs.Quotient.{commutator, power}
use Rattle.irr_chain.proofs.Markings.{marked-more, marked-only}

-- q is one of the first n members
abbrev pub Before : {h : ℕ} → List ℕ → ℕ → Fin h → Type 0
Before members n q = (a : ℕ) × (a < n) × (slice_index members a ≡ to_nat q)

pub record Marking {h : ℕ} (T : PhaseTable h) (H : Fin h → Type 0) (p : ℕ) (marks : List Bool) (P : Fin h → Type 0) (Q : Fin h → Fin h → Type 0) : Type 0 where
  pub count : length marks ≡ h
  pub powers : (i : Fin h) → P i → Marked marks (power T i p)
  pub commutators : (i j : Fin h) → Q i j → Marked marks (commutator T i j)
  pub only : (k : Fin h) → Marked marks k
      → ((i : Fin h) × H i × (k ≡ power T i p)) ⊎ ((i : Fin h) × (j : Fin h) × H i × H j × (k ≡ commutator T i j))

module _ {h : ℕ} (T : PhaseTable h) (H : Fin h → Type 0) (p : ℕ) where
  pub marking-start : (marks : List Bool) (P : Fin h → Type 0) (Q : Fin h → Fin h → Type 0) → length marks ≡ h
      → ((k : ℕ) → IsMarked marks k → ⊥) → ((i : Fin h) → P i → ⊥) → ((i j : Fin h) → Q i j → ⊥) → Marking T H p marks P Q
  marking-start marks P Q size none no_power no_commutator = record {
    count = size;
    powers = λ i m. absurd (no_power i m);
    commutators = λ i j m. absurd (no_commutator i j m);
    only = λ k m. absurd (none (to_nat k) m);
  }

  module _ (marks : List Bool) (P : Fin h → Type 0) (Q : Fin h → Fin h → Type 0) (so : Marking T H p marks P Q) where
    -- fewer are asked for
    pub marking-fewer : (R : Fin h → Type 0) (S : Fin h → Fin h → Type 0) → ((i : Fin h) → R i → P i) → ((i j : Fin h) → S i j → Q i j) → Marking T H p marks R S
    marking-fewer R S f g = record {
      count = so.count;
      powers = λ i m. so.powers i (f i m);
      commutators = λ i j m. so.commutators i j (g i j m);
      only = so.only;
    }

    stays : (k i : Fin h) → Marked marks i → Marked (set marks (to_nat k) true) i
    stays k i m = marked-more marks (to_nat k) (inside (to_nat-lt k) so.count) (to_nat i) m
      where
        inside : to_nat k < h → length marks ≡ h → to_nat k < length marks
        inside l e = omega arith

    itself : (k : Fin h) → Marked (set marks (to_nat k) true) k
    itself k = get_or-set_same marks (to_nat k) true false (inside (to_nat-lt k) so.count)
      where
        inside : to_nat k < h → length marks ≡ h → to_nat k < length marks
        inside l e = omega arith

    pub marking-power : (x : Fin h) → H x → (R : Fin h → Type 0) → ((i : Fin h) → R i → P i ⊎ (i ≡ x)) → Marking T H p (set marks (to_nat (power T x p)) true) R Q
    marking-power x own R split = record {
      count = length-set marks (to_nat (power T x p)) true ∙ so.count;
      powers = λ i m. elim (split i m) [
        | inl d ↦ stays (power T x p) (power T i p) (so.powers i d)
        | inr e ↦ subst (λ v. Marked (set marks (to_nat (power T x p)) true) (power T v p)) (sym e) (itself (power T x p))
      ];
      commutators = λ i j m. stays (power T x p) (commutator T i j) (so.commutators i j m);
      only = λ k m. elim (marked-only marks (to_nat (power T x p)) (to_nat k) m) [
        | inl d ↦ so.only k d
        | inr e ↦ inl (x, own, to_nat_inj k (power T x p) e)
      ];
    }

    pub marking-commutator : (x y : Fin h) → H x → H y → (S : Fin h → Fin h → Type 0) → ((i j : Fin h) → S i j → Q i j ⊎ ((i ≡ x) × (j ≡ y)))
        → Marking T H p (set marks (to_nat (commutator T x y)) true) P S
    marking-commutator x y a b S split = record {
      count = length-set marks (to_nat (commutator T x y)) true ∙ so.count;
      powers = λ i m. stays (commutator T x y) (power T i p) (so.powers i m);
      commutators = λ i j m. elim (split i j m) [
        | inl d ↦ stays (commutator T x y) (commutator T i j) (so.commutators i j d)
        | inr e ↦ subst (λ v. Marked (set marks (to_nat (commutator T x y)) true) (commutator T v j)) (sym e.0)
            (subst (λ v. Marked (set marks (to_nat (commutator T x y)) true) (commutator T x v)) (sym e.1) (itself (commutator T x y)))
      ];
      only = λ k m. elim (marked-only marks (to_nat (commutator T x y)) (to_nat k) m) [
        | inl d ↦ so.only k d
        | inr e ↦ inr (x, y, a, b, to_nat_inj k (commutator T x y) e)
      ];
    }

    pub marking-all : ((i : Fin h) → H i → P i) → ((i j : Fin h) → H i → H j → Q i j) → Generators T H p marks
    marking-all f g = record {
      powers = λ i m. so.powers i (f i m);
      commutators = λ i j m n. so.commutators i j (g i j m n);
      only = so.only;
    }

-- the pair stands before row n and column m
abbrev pub Row : {h : ℕ} → List ℕ → ℕ → ℕ → Fin h → Fin h → Type 0
Row members n m q r = (Before members n q × In members r) ⊎ ((slice_index members n ≡ to_nat q) × Before members m r)

module _ {h : ℕ} (members : List ℕ) where
  before-in : (n : ℕ) → n ≡ length members → (q : Fin h) → In members q → Before members n q
  before-in n e q (a, l, s) = (a, omega arith, sym (get_or_default members a (to_nat q) 0 l) ∙ s)

  in-before : (n : ℕ) → n ≡ length members → (q : Fin h) → Before members n q → In members q
  in-before n e q (a, l, s) = inside (omega arith)
    where
      inside : a < length members → In members q
      inside m = (a, m, get_or_default members a (to_nat q) 0 m ∙ s)

  before-more : (n : ℕ) (x : Fin h) → to_nat x ≡ slice_index members n → (q : Fin h) → Before members (n + 1) q → Before members n q ⊎ (q ≡ x)
  before-more n x at q (a, l, s) = elim (same_or_not a n) [
    | inl e ↦ inr (to_nat_inj q x (sym s ∙ ap (slice_index members) e ∙ sym at))
    | inr f ↦ inl (a, omega (arith, f), s)
  ]

  before-last : (n : ℕ) (q : Fin h) → slice_index members n ≡ to_nat q → Before members (n + 1) q
  before-last n q s = (n, omega arith, s)

module _ {h : ℕ} (T : PhaseTable h) (members : List ℕ) (below : EachIndex members (λ a. slice_index members a < h)) (p : ℕ) (marks : List Bool) where
  -- the member at a position
  member : (n : ℕ) → n < length members → Fin h
  member n l = from_nat h (slice_index members n) (below n l)

  member-number : (n : ℕ) (l : n < length members) → to_nat (member n l) ≡ slice_index members n
  unfolding member
  member-number n l = to_nat-from_nat h (slice_index members n) (below n l)

  member-in : (n : ℕ) (l : n < length members) → In members (member n l)
  member-in n l = (n, l, get_or_default members n (to_nat (member n l)) 0 l ∙ sym (member-number n l))

  pub row-start : (n k : ℕ) → n < length members → ((q : Fin h) → to_nat q ≡ slice_index members n → k ≡ to_nat (power T q p))
      → Marking T (In members) p marks (Before members n) (λ q r. Before members n q × In members r)
      → Marking T (In members) p (set marks k true) (Before members (n + 1)) (Row members n 0)
  row-start n k l is so =
      let x : Fin h = member n l in
      subst (λ v. Marking T (In members) p (set marks v true) (Before members (n + 1)) (Row members n 0)) (sym (is x (member-number n l)))
      (marking-power T (In members) p marks (Before members n) (Row members n 0)
      (marking-fewer T (In members) p marks (Before members n) (λ q r. Before members n q × In members r) so (Before members n) (Row members n 0) (λ i m. m) whole)
      x (member-in n l) (Before members (n + 1)) (before-more members n x (member-number n l)))
    where
      whole : (i j : Fin h) → Row members n 0 i j → Before members n i × In members j
      whole i j (inl m) = m
      whole i j (inr (e, (a, m, s))) = absurd (omega arith)

  pub row-step : (n m k : ℕ) → n < length members → m < length members
      → ((q r : Fin h) → to_nat q ≡ slice_index members n → to_nat r ≡ slice_index members m → k ≡ to_nat (commutator T q r))
      → Marking T (In members) p marks (Before members (n + 1)) (Row members n m)
      → Marking T (In members) p (set marks k true) (Before members (n + 1)) (Row members n (m + 1))
  row-step n m k l v is so =
      let x : Fin h = member n l in
      let y : Fin h = member m v in
      subst (λ w. Marking T (In members) p (set marks w true) (Before members (n + 1)) (Row members n (m + 1))) (sym (is x y (member-number n l) (member-number m v)))
      (marking-commutator T (In members) p marks (Before members (n + 1)) (Row members n m) so x y (member-in n l) (member-in m v) (Row members n (m + 1))
      (split x y (member-number n l) (member-number m v)))
    where
      split : (x y : Fin h) → to_nat x ≡ slice_index members n → to_nat y ≡ slice_index members m
          → (i j : Fin h) → Row members n (m + 1) i j → Row members n m i j ⊎ ((i ≡ x) × (j ≡ y))
      split x y s t i j (inl b) = inl (inl b)
      split x y s t i j (inr (e, b)) = elim (before-more members m y t j b) [
        | inl c ↦ inl (inr (e, c))
        | inr d ↦ inr (to_nat_inj i x (sym e ∙ sym s), d)
      ]

  pub row-end : (n m : ℕ) → n < length members → m ≡ length members → Marking T (In members) p marks (Before members (n + 1)) (Row members n m)
      → Marking T (In members) p marks (Before members (n + 1)) (λ q r. Before members (n + 1) q × In members r)
  row-end n m l e so = marking-fewer T (In members) p marks (Before members (n + 1)) (Row members n m) so (Before members (n + 1)) (λ q r. Before members (n + 1) q × In members r)
      (λ i b. b) (λ i j b. row i j (before-more members n (member n l) (member-number n l) i b.0) b.1)
    where
      row : (i j : Fin h) → Before members n i ⊎ (i ≡ member n l) → In members j → Row members n m i j
      row i j (inl b) c = inl (b, c)
      row i j (inr d) c = inr (sym (ap to_nat d ∙ member-number n l), before-in members m e j c)

  pub marking-members : (n : ℕ) → n ≡ length members → Marking T (In members) p marks (Before members n) (λ q r. Before members n q × In members r)
      → Generators T (In members) p marks
  marking-members n e so = marking-all T (In members) p marks (Before members n) (λ q r. Before members n q × In members r) so
      (before-in members n e) (λ i j a b. (before-in members n e i a, b))
