-- The lists over all members are a climbed list.
--
-- no_index     there is no index below 0
-- one_index    there is one index below 1
-- some_index   it is below 1
-- union_climb  a list that holds the members of the lists over all members is a climbed list
-- union_full   so it is full
-- lists_exist  where the field has the roots there is a list over each member
use Rattle.std.proofs.Common.{◌≡◌, sym, ◌∙◌, ap, subst, ℕ, ◌-◌, ◌<◌, ◌⊎◌, inl, inr, arith}
use Rattle.irr_algebra.specs.Field.{Field}
use Rattle.irr_algebra.specs.Fin.{Fin, to_nat}
use Rattle.irr_algebra.specs.Matrix.{trace}
use Rattle.irr_algebra.specs.Action.{Equivalent}
use Rattle.irr_algebra.proofs.Indices.{same_or_not, from_nat, to_nat-from_nat, to_nat-lt, to_nat_inj}
use Rattle.irr_theory.specs.Extension.{iterate}
use Rattle.irr_theory.specs.FactorSystem.{FactorSystem}
use Rattle.irr_theory.specs.Representations.{Representations, IsFull}
use Rattle.irr_clifford.specs.Subgroup.{Subgroup, restrict}
use Rattle.irr_clifford.specs.Cyclic.{CyclicQuotient, conjugate, IsInduced}
use Rattle.irr_clifford.specs.Climb.{IsClimb, ClimbChoice, occurrences}
use Rattle.irr_clifford.proofs.InducedFamily.{induced_family, induced_family-is}
use Rattle.irr_clifford.proofs.Labels.{occurrences_by_labels}
use Rattle.irr_clifford.proofs.Least.{IsLeast, least_unique, least_exists}
use Rattle.irr_clifford.proofs.Orbits.{iterate-fixed, iterate-back}
use Rattle.irr_clifford.proofs.Split.{index-positive}
use Rattle.irr_clifford.proofs.Squares.{climb_full}
use Rattle.irr_clifford.proofs.Turns.{turned_period}
use Rattle.irr_ascent.specs.Joined.{Family, family, listed, none, IsUnion}
use Rattle.irr_ascent.proofs.Orbit.{least_of_strict, strict_of_least, strict_or_not}
use Rattle.irr_ascent.proofs.Members.{extensions_over, multiples_extend, induced_over, none_over}
use Rattle.irr_ascent.specs.Over.{AreOver, IsLeastOfOrbit}

-- there is no index below 0, and one below 1
no_index : (n : ℕ) → n ≡ 0 → Fin n → ⊥
no_index n e i = let k = to_nat-lt i in omega arith

one_index : (n : ℕ) → n ≡ 1 → (i j : Fin n) → i ≡ j
one_index n e i j = let k = to_nat-lt i in let l = to_nat-lt j in to_nat_inj i j (omega arith)

some_index : (n : ℕ) → n ≡ 1 → Fin n
some_index n e = from_nat n 0 (omega arith)

module _ (F : Field) {T : FactorSystem F.ring} {H : Subgroup T} (Q : CyclicQuotient H) (small : (Q.index ≡ 2) ⊎ (Q.index ≡ 3)) (L : Representations H.table)
    (full : IsFull L) (turn : Fin L.count → Fin L.count) (turns : (l : Fin L.count) → Equivalent (conjugate Q (L.member l)) (L.member (turn l)).at)
    (over : Fin L.count → Representations T) (lists : (l : Fin L.count) → AreOver Q L turn l (over l)) (M : Representations T) (u : IsUnion over M) where
  open F use {ring as R}

  period : (l : Fin L.count) → iterate turn Q.index l ≡ l
  period = turned_period F Q L turn turns full

  abbrev Place : Type 0
  Place = (l : Fin L.count) × Fin (over l).count

  abbrev pair_of : (l : Fin L.count) → Fin (over l).count → Place
  pair_of l j = (l, j)

  -- the member under each one, and its place in the list over that
  unfoldable below : Fin M.count → Fin L.count
  below m = (u.at m).0

  unfoldable place : (m : Fin M.count) → Fin (over (below m)).count
  unfolding below
  place m = (u.at m).1

  -- the same place of the same list is the same place
  place_inj : (m n : Fin M.count) → u.at m ≡ u.at n → m ≡ n
  place_inj m n e = sym (u.index_of-at m) ∙ ap (λ (s : Place). u.index_of s.0 s.1) e ∙ u.index_of-at n

  -- a fact on the family in the list over l is one on that of M
  at_family : (P : Family T → Type 0) (m : Fin M.count) → P (family (over (below m)) (place m)) → P (family M m)
  unfolding below place
  at_family P m h = subst P (sym (u.same m)) h

  extends : (m : Fin M.count) → turn (below m) ≡ below m → Equivalent (restrict H (M.member m)) (L.member (below m)).at
  extends m e = at_family (λ f. Equivalent (restrict H f.1) (L.member (below m)).at) m ((lists (below m)).extends e (place m))

  -- under a member that is not fixed stands the least of its orbit
  least : (m : Fin M.count) → (turn (below m) ≡ below m → ⊥) → IsLeastOfOrbit turn Q.index (below m)
  least m free = go (strict_or_not turn Q.index small period (below m) free)
    where
      go : IsLeastOfOrbit turn Q.index (below m) ⊎ (IsLeastOfOrbit turn Q.index (below m) → ⊥) → IsLeastOfOrbit turn Q.index (below m)
      go (inl h) = h
      go (inr h) = absurd (no_index (over (below m)).count ((lists (below m)).no_other free h) (place m))

  induced : (m : Fin M.count) → (turn (below m) ≡ below m → ⊥) → IsInduced Q (L.member (below m)) (M.member m)
  induced m free = at_family (λ f. IsInduced Q (L.member (below m)) f.1) m ((lists (below m)).induced free (least m free) (place m))

  abbrev trace_at : Fin T.places → Family T → R.Carrier
  trace_at x f = trace (f.1.at x)

  -- places of one list
  in_list : (l k : Fin L.count) (i : Fin (over l).count) (j : Fin (over k).count) → l ≡ k → (P : (k : Fin L.count) → Fin (over k).count → Type 0)
      → ((j : Fin (over l).count) → P l j) → P k j
  in_list l k i j e P h = subst (λ k. (j : Fin (over k).count) → P k j) e h j

  differ : (m n : Fin M.count) → (m ≡ n → ⊥) → turn (below m) ≡ below m → below m ≡ below n
      → (x : Fin T.places) × (trace ((M.member m).at x) ≡ trace ((M.member n).at x) → ⊥)
  unfolding below place
  differ m n d f e = at_family (λ g. (x : Fin T.places) × (trace_at x g ≡ trace_at x (family M n) → ⊥)) m
      (at_family (λ g. (x : Fin T.places) × (trace_at x (family (over (below m)) (place m)) ≡ trace_at x g → ⊥)) n
      (in_list (below m) (below n) (place m) (place n) e
      (λ k j. (u.at m ≡ (k, j) → ⊥) → (x : Fin T.places) × (trace_at x (family (over (below m)) (place m)) ≡ trace_at x (family (over k) j) → ⊥))
      (λ j a. (lists (below m)).differ f (place m) j (λ q. a (ap (λ (j : Fin (over (below m)).count). pair_of (below m) j) q)))
      (λ q. d (place_inj m n q))))

  below-index_of : (l : Fin L.count) (k : Fin (over l).count) → below (u.index_of l k) ≡ l
  unfolding below
  below-index_of l k = ap (λ (s : Place). s.0) (u.at-index_of l k)

  place-lt : (l : Fin L.count) (m : Fin M.count) → below m ≡ l → to_nat (place m) < (over l).count
  place-lt l m e = subst (λ l. to_nat (place m) < (over l).count) e (to_nat-lt (place m))

  -- the place in the list over l, where the member is over l, and j elsewhere
  label : (l : Fin L.count) → Fin (over l).count → (m : Fin M.count) → (below m ≡ l) ⊎ (below m ≡ l → ⊥) → Fin (over l).count
  label l j m (inl e) = from_nat (over l).count (to_nat (place m)) (place-lt l m e)
  label l j m (inr n) = j

  to_nat-label : (l : Fin L.count) (j : Fin (over l).count) (m : Fin M.count) (d : (below m ≡ l) ⊎ (below m ≡ l → ⊥)) → below m ≡ l
      → to_nat (label l j m d) ≡ to_nat (place m)
  unfolding label
  to_nat-label l j m (inl e) f = to_nat-from_nat (over l).count (to_nat (place m)) (place-lt l m e)
  to_nat-label l j m (inr n) f = absurd (n f)

  index-number : (l : Fin L.count) (m : Fin M.count) → below m ≡ l → (k : Fin (over l).count) → to_nat k ≡ to_nat (place m) → u.index_of l k ≡ m
  unfolding below place
  index-number l m e = subst (λ l. (k : Fin (over l).count) → to_nat k ≡ to_nat (place m) → u.index_of l k ≡ m) e
      (λ k q. ap (u.index_of (below m)) (to_nat_inj k (place m) q) ∙ u.index_of-at m)

  place-index_of : (l : Fin L.count) (k : Fin (over l).count) → to_nat (place (u.index_of l k)) ≡ to_nat k
  unfolding place
  place-index_of l k = ap (λ (s : Place). to_nat s.1) (u.at-index_of l k)

  first_over : (l : Fin L.count) → turn l ≡ l → Fin (over l).count
  first_over l f = let e = (lists l).extensions f in let h = index-positive Q in from_nat (over l).count 0 (omega arith)

  all_of : (l : Fin L.count) → turn l ≡ l → occurrences below l ≡ Q.index
  all_of l f =
      occurrences_by_labels F (over l).count below l (λ m. label l (first_over l f) m (same_or_not (below m) l)) (u.index_of l) (below-index_of l)
      (λ k. to_nat_inj (label l (first_over l f) (u.index_of l k) (same_or_not (below (u.index_of l k)) l)) k
      (to_nat-label l (first_over l f) (u.index_of l k) (same_or_not (below (u.index_of l k)) l) (below-index_of l k) ∙ place-index_of l k))
      (λ m e. index-number l m e (label l (first_over l f) m (same_or_not (below m) l)) (to_nat-label l (first_over l f) m (same_or_not (below m) l) e))
      ∙ (lists l).extensions f

  covered : (l : Fin L.count) → (turn l ≡ l → ⊥) → (m : Fin M.count) × (a : Fin Q.index) × (iterate turn (to_nat a) (below m) ≡ l)
  covered l f =
      let r = least_exists turn Q.index small period L.count l (to_nat-lt l) in
      at_least r.0 r.1 r.2.0 r.2.1
    where
      free : (r : Fin L.count) (a : Fin Q.index) → iterate turn (to_nat a) r ≡ l → turn r ≡ r → ⊥
      free r a e g = f (subst (λ m. turn m ≡ m) (sym (iterate-fixed turn (to_nat a) r g) ∙ e) g)

      at_least : (r : Fin L.count) → IsLeast turn Q.index r → (a : Fin Q.index) → iterate turn (to_nat a) r ≡ l
          → (m : Fin M.count) × (a : Fin Q.index) × (iterate turn (to_nat a) (below m) ≡ l)
      at_least r h a e =
          let k = some_index (over r).count ((lists r).one_induced (free r a e) (strict_of_least turn Q.index small period r (free r a e) h)) in
          (u.index_of r k, a, ap (iterate turn (to_nat a)) (below-index_of r k) ∙ e)

  apart : (m n : Fin M.count) → (m ≡ n → ⊥) → (turn (below m) ≡ below m → ⊥) → (a : Fin Q.index) → iterate turn (to_nat a) (below m) ≡ below n → ⊥
  unfolding below place
  apart m n d f a e = d (place_inj m n (in_list (below m) (below n) (place m) (place n) one (λ k j. u.at m ≡ pair_of k j)
      (λ j. ap (pair_of (below m)) (one_index (over (below m)).count ((lists (below m)).one_induced f (least m f)) (place m) j))))
    where
      back : iterate turn (Q.index - to_nat a) (below n) ≡ below m
      back = let l = to_nat-lt a in iterate-back turn Q.index small period (to_nat a) (omega arith) (below m) (below n) e

      free : turn (below n) ≡ below n → ⊥
      free g = f (subst (λ l. turn l ≡ l) (sym (iterate-fixed turn (Q.index - to_nat a) (below n) g) ∙ back) g)

      one : below m ≡ below n
      one = least_unique turn Q.index small period (below m) (below n) a
          (least_of_strict turn Q.index (below m) (least m f)) (least_of_strict turn Q.index (below n) (least n free)) e

  pub union_climb : IsClimb Q L M
  union_climb = record {
    turn = turn;
    turns = turns;
    below = below;
    extends = extends;
    induced = induced;
    extensions_differ = differ;
    all_extensions = all_of;
    orbits_covered = covered;
    orbits_apart = apart;
  }

  pub union_full : IsFull M
  union_full = climb_full F Q small L full M union_climb

module _ (F : Field) {T : FactorSystem F.ring} {H : Subgroup T} (Q : CyclicQuotient H) (small : (Q.index ≡ 2) ⊎ (Q.index ≡ 3)) (L : Representations H.table)
    (full : IsFull L) (c : ClimbChoice Q L) where
  -- a list over each member
  pub lists_exist : (l : Fin L.count) → (B : Representations T) × AreOver Q L c.turn l B
  lists_exist l = by_turn (same_or_not (c.turn l) l)
    where
      by_turn : (c.turn l ≡ l) ⊎ (c.turn l ≡ l → ⊥) → (B : Representations T) × AreOver Q L c.turn l B
      by_turn (inl e) =
          let extend = multiples_extend Q (L.member l) (c.matrix l e) (c.stands l e) c.roots in (
            listed (L.size l) (λ a. (extend a).0),
            extensions_over F Q L full c.turn l e (c.matrix l e) (c.stands l e) c.roots (λ a. (extend a).0) (λ a. (extend a).1),
          )
      by_turn (inr n) = by_order (strict_or_not c.turn Q.index small (turned_period F Q L c.turn c.turns full) l n)
        where
          by_order : IsLeastOfOrbit c.turn Q.index l ⊎ (IsLeastOfOrbit c.turn Q.index l → ⊥) → (B : Representations T) × AreOver Q L c.turn l B
          by_order (inl h) = (
            listed {n = 1} _ (λ k. induced_family Q (L.member l)),
            induced_over Q L c.turn l (induced_family Q (L.member l)) n h (induced_family-is Q (L.member l)),
          )
          by_order (inr h) = (none T, none_over Q L c.turn l n h)
