-- Marks that are set one by one, and the list of the marked places.
--   Listing marks members i      the members are the marked places below i, in increasing order
--   listing-push, listing-skip   one step of the list
--   grows-same, grows-join       growing marks
--   grows-product                the mark of a product
--   unmarked-mark, unmarked-less what is left unmarked
--   marked-more                  the marks that were set stay
use Rattle.std.specs.Prelude.{ℕ, zero, suc, ◌≡◌, ◌<◌, ◌≤◌, ◌+◌, ◌⊎◌, List, [], ◌∷◌, ◌++◌, length, slice_index, Contains, Bool, true, false, not, cond}
use Rattle.std.proofs.Common.{sym, ◌∙◌, ap, subst, refl, inl, inr, arith, get_or, set, get_or-set_same, get_or-set_other, length-append, length-set, take, drop}
use Rattle.std.proofs.lemmas.Bool.{cases_lt}
use Rattle.std.proofs.Math.ListN.{get_or-append}
use Rattle.std.proofs.Math.Seq.{get_or-append_seam, take-append_seam}
use Rattle.std.proofs.lemmas.List.{get_or_default, get_or_past}
use Rattle.std.proofs.lemmas.List.Elements.{Contains-append_left, Contains-push, Contains-push_cases}
use Rattle.std.proofs.lemmas.List.Sums.{sum_by-cons, sum_by-set}
use Rattle.irr_number.specs.SumLaws.{same_or_not}
use Rattle.irr_algebra.specs.Fin.{Fin, to_nat}
use Rattle.irr_algebra.proofs.Indices.{from_nat, to_nat-from_nat, to_nat-lt}
use Rattle.irr_space.specs.PhaseTable.{PhaseTable}
use Rattle.irr_chain.specs.Marks.{IsMarked, Marked, Grows, unmarked}
use Rattle.irr_chain.specs.Series.{IsIncreasing}

-- the members are the marked places below i
pub record Listing (marks : List Bool) (members : List ℕ) (i : ℕ) : Type 0 where
  pub few : length members ≤ i
  pub increasing : IsIncreasing members
  pub below : (k : ℕ) → Contains members k → k < i
  pub marked : (k : ℕ) → Contains members k → IsMarked marks k
  pub complete : (k : ℕ) → k < i → IsMarked marks k → Contains members k

member-at : (members : List ℕ) (a : ℕ) → a < length members → Contains members (slice_index members a)
member-at members a lt = (a, lt, get_or_default members a (slice_index members a) 0 lt)

pub listing-none : (marks : List Bool) → Listing marks [] 0
listing-none marks = record {
  few = omega arith;
  increasing = λ a b l m. absurd (omega arith);
  below = λ k c. absurd (let l : c.0 < 0 = c.1 in omega arith);
  marked = λ k c. absurd (let l : c.0 < 0 = c.1 in omega arith);
  complete = λ k l m. absurd (omega arith);
}

pub listing-push : (marks : List Bool) (members : List ℕ) (i : ℕ) → Listing marks members i → IsMarked marks i → Listing marks (members ++ i ∷ []) (i + 1)
listing-push marks members i so m = record {
  few = longer (length-append members (i ∷ [])) so.few;
  increasing = rising;
  below = λ k c. elim (Contains-push_cases members i k c) [
    | inl d ↦ (let l : k < i = so.below k d in omega arith)
    | inr e ↦ omega arith
  ];
  marked = λ k c. elim (Contains-push_cases members i k c) [ inl d ↦ so.marked k d | inr e ↦ subst (IsMarked marks) e m ];
  complete = λ k l n. elim (same_or_not i k) [
    | inl e ↦ subst (Contains (members ++ i ∷ [])) e (Contains-push members i)
    | inr f ↦ Contains-append_left members (i ∷ []) k (so.complete k (other k l f) n)
  ];
}
  where
    longer : length (members ++ i ∷ []) ≡ length members + 1 → length members ≤ i → length (members ++ i ∷ []) ≤ i + 1
    longer e l = omega arith

    other : (k : ℕ) → k < i + 1 → (i ≡ k → ⊥) → k < i
    other k l f = omega (arith, f)

    rising : IsIncreasing (members ++ i ∷ [])
    rising a b l m =
        let size : length (members ++ i ∷ []) ≡ length members + 1 = length-append members (i ∷ []) in
        elim (cases_lt b (length members)) [
          | inl inside ↦ (
              let first : a < length members = omega arith in
              let x = get_or-append members (i ∷ []) 0 a first in
              let y = get_or-append members (i ∷ []) 0 b inside in
              subst (λ v. v < slice_index (members ++ i ∷ []) b) (sym x) (subst (λ v. slice_index members a < v) (sym y) (so.increasing a b l inside)))
          | inr last ↦ (
              let first : a < length members = omega arith in
              let end : length members ≡ b = omega arith in
              let x = get_or-append members (i ∷ []) 0 a first in
              let y : slice_index (members ++ i ∷ []) b ≡ i =
              subst (λ v. slice_index (members ++ i ∷ []) v ≡ i) end (get_or-append_seam members i [] 0) in
              subst (λ v. v < slice_index (members ++ i ∷ []) b) (sym x)
              (subst (λ v. slice_index members a < v) (sym y) (so.below (slice_index members a) (member-at members a first))))
        ]

pub listing-skip : (marks : List Bool) (members : List ℕ) (i : ℕ) → Listing marks members i → get_or marks i false ≡ false → Listing marks members (i + 1)
listing-skip marks members i so m = record {
  few = (let l : length members ≤ i = so.few in omega arith);
  increasing = so.increasing;
  below = λ k c. (let l : k < i = so.below k c in omega arith);
  marked = so.marked;
  complete = λ k l n. elim (same_or_not i k) [
    | inl e ↦ absurd (unset k e n)
    | inr f ↦ so.complete k (omega (arith, f)) n
  ];
}
  where
    unset : (k : ℕ) → i ≡ k → IsMarked marks k → ⊥
    unset k e n = let d : true ≡ false = sym n ∙ ap (λ v. get_or marks v false) (sym e) ∙ m in cc

-- the marks that were set stay
pub marked-more : (marks : List Bool) (k : ℕ) → k < length marks → (i : ℕ) → IsMarked marks i → IsMarked (set marks k true) i
marked-more marks k lt i m = elim (same_or_not i k) [
  | inl e ↦ subst (λ v. get_or (set marks k true) v false ≡ true) (sym e) (get_or-set_same marks k true false lt)
  | inr f ↦ get_or-set_other marks k i true false f ∙ m
]

-- and the others are not set but at k
pub marked-only : (marks : List Bool) (k i : ℕ) → IsMarked (set marks k true) i → IsMarked marks i ⊎ (i ≡ k)
marked-only marks k i m = elim (same_or_not i k) [
  | inl e ↦ inr e
  | inr f ↦ inl (sym (get_or-set_other marks k i true false f) ∙ m)
]

-- 1 where the mark is not set
abbrev pub missing : Bool → ℕ
missing b = cond (not b) 1 0

open_mark : (b : Bool) → b ≡ false → missing b ≡ 1
open_mark true e = absurd (cc)
open_mark false e = refl

unmarked-cons : (x : Bool) (xs : List Bool) → unmarked (x ∷ xs) ≡ missing x + unmarked xs
unmarked-cons x xs = sum_by-cons missing x xs

pub unmarked-mark : (marks : List Bool) (k : ℕ) → k < length marks → get_or marks k false ≡ false → unmarked (set marks k true) < unmarked marks
unmarked-mark marks k lt e =
    let s = sum_by-set missing marks k true false lt in
    let v : missing (get_or marks k false) ≡ 1 = open_mark (get_or marks k false) e in
    omega (arith, s, v)

-- a place past the marks is not marked
pub marked-within : (marks : List Bool) (k : ℕ) → IsMarked marks k → k < length marks
marked-within marks k m = elim (cases_lt k (length marks)) [
  | inl l ↦ l
  | inr l ↦ absurd (let e : true ≡ false = sym m ∙ get_or_past marks k false l in cc)
]

-- what a call wrote through a slice of a vector
pub written : (n : ℕ) (new old : List Bool) → n ≡ length new → take n (new ++ drop (length new) old) ≡ new
written n new old e = ap (λ k. take k (new ++ drop (length new) old)) e ∙ take-append_seam new (drop (length new) old)

pub unmarked-le : (old new : List Bool) → length old ≡ length new → ((k : ℕ) → IsMarked old k → IsMarked new k) → unmarked new ≤ unmarked old
unmarked-le [] [] e f = omega arith
unmarked-le [] (y ∷ ys) e f = absurd (omega arith)
unmarked-le (x ∷ xs) [] e f = absurd (omega arith)
unmarked-le (x ∷ xs) (y ∷ ys) e f =
    let rest : unmarked ys ≤ unmarked xs = unmarked-le xs ys (omega arith) (λ k m. f (suc k) m) in
    let here : missing y ≤ missing x = open_le x y (f 0) in
    omega (arith, unmarked-cons x xs, unmarked-cons y ys)
  where
    open_le : (a b : Bool) → (a ≡ true → b ≡ true) → missing b ≤ missing a
    open_le true true g = omega arith
    open_le true false g = absurd (let d : false ≡ true = g refl in cc)
    open_le false true g = omega arith
    open_le false false g = omega arith

-- with one more mark, fewer are left
pub unmarked-less : (old new : List Bool) (k : ℕ) → length old ≡ length new → ((i : ℕ) → IsMarked old i → IsMarked new i) → (IsMarked old k → ⊥) → IsMarked new k
    → unmarked new < unmarked old
unmarked-less old [] k e f out m = absurd (let l : k < 0 = marked-within [] k m in omega arith)
unmarked-less [] (y ∷ ys) k e f out m = absurd (omega arith)
unmarked-less (x ∷ xs) (y ∷ ys) zero e f out m =
    let rest : unmarked ys ≤ unmarked xs = unmarked-le xs ys (omega arith) (λ k n. f (suc k) n) in
    let here : missing y < missing x = open_less x y out m in
    omega (arith, unmarked-cons x xs, unmarked-cons y ys)
  where
    open_less : (a b : Bool) → (a ≡ true → ⊥) → b ≡ true → missing b < missing a
    open_less true b g n = absurd (g refl)
    open_less false true g n = omega arith
    open_less false false g n = absurd (cc)
unmarked-less (x ∷ xs) (y ∷ ys) (suc k) e f out m =
    let rest : unmarked ys < unmarked xs = unmarked-less xs ys k (omega arith) (λ i n. f (suc i) n) out m in
    let here : missing y ≤ missing x = open_le x y (f 0) in
    omega (arith, unmarked-cons x xs, unmarked-cons y ys)
  where
    open_le : (a b : Bool) → (a ≡ true → b ≡ true) → missing b ≤ missing a
    open_le true true g = omega arith
    open_le true false g = absurd (let d : false ≡ true = g refl in cc)
    open_le false true g = omega arith
    open_le false false g = omega arith

module _ {h : ℕ} (T : PhaseTable h) where
  pub grows-same : (marks : List Bool) → Grows T marks marks
  grows-same marks = record { count = refl; kept = λ i m. m; within = λ members subgroup all i m. all i m }

  pub grows-join : (old new newer : List Bool) → Grows T old new → Grows T new newer → Grows T old newer
  grows-join old new newer first second = record {
    count = second.count ∙ first.count;
    kept = λ i m. second.kept i (first.kept i m);
    within = λ members subgroup all i m. second.within members subgroup (first.within members subgroup all) i m;
  }

  pub grows-product : (marks : List Bool) (p q : Fin h) → length marks ≡ h → Marked marks p → Marked marks q
      → Grows T marks (set marks (to_nat (T.product p q)) true)
  grows-product marks p q size m n = record {
    count = length-set marks (to_nat (T.product p q)) true;
    kept = λ i k. marked-more marks (to_nat (T.product p q)) (inside (to_nat-lt (T.product p q))) (to_nat i) k;
    within = λ members subgroup all i k. elim (marked-only marks (to_nat (T.product p q)) (to_nat i) k) [
      | inl d ↦ all i d
      | inr e ↦ subst (Contains members) (sym e) (subgroup.products_inside p q (all p m) (all q n))
    ];
  }
    where
      inside : to_nat (T.product p q) < h → to_nat (T.product p q) < length marks
      inside l = omega arith

  pub grows-at : (marks : List Bool) (i j k : ℕ) → i < h → j < h → length marks ≡ h → IsMarked marks i → IsMarked marks j
      → ((p q : Fin h) → to_nat p ≡ i → to_nat q ≡ j → k ≡ to_nat (T.product p q)) → Grows T marks (set marks k true)
  grows-at marks i j k a b size m n product =
      let p : Fin h = from_nat h i a in
      let q : Fin h = from_nat h j b in
      subst (λ v. Grows T marks (set marks v true)) (sym (product p q (to_nat-from_nat h i a) (to_nat-from_nat h j b)))
      (grows-product marks p q size (subst (IsMarked marks) (sym (to_nat-from_nat h i a)) m) (subst (IsMarked marks) (sym (to_nat-from_nat h j b)) n))
