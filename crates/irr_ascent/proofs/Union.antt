-- Lists that hold the members of others.
--
-- union_none    no lists have no members
-- union_append  with one more list there are its members besides
-- joined_union  the joined list holds the members of the lists
-- joined_grown  one list more, joined, is appended
-- each_grown    what holds of each list and of one more holds of each of these
-- union_grown   one list more is appended to a list that holds the members of the others
use Rattle.std.proofs.Common.{subst, ◌≡◌, sym, ◌∙◌, ap, ap₂, ℕ, zero, suc}
use mathlib.Core.Path.{fun_ext}
use Rattle.irr_algebra.specs.Ring.{Ring}
use Rattle.irr_algebra.specs.Fin.{Fin}
use Rattle.irr_algebra.specs.Pair.{left, right, on_plus}
use Rattle.irr_theory.specs.FactorSystem.{FactorSystem}
use Rattle.irr_theory.specs.Representations.{Representations}
use Rattle.irr_ascent.specs.Joined.{family, none, append, widen, last, on_last, joined, IsUnion}
use Rattle.irr_ascent.proofs.Places.{on_plus-left, on_plus-right, by_plus, by_last, by_last-widen, by_last-last}
use Rattle.irr_ascent.proofs.Places.{on_last-widen, on_last-last, append-left, append-right}

module _ {R : Ring} {T : FactorSystem R} where
  pub union_none : (over : Fin 0 → Representations T) → IsUnion over (none T)
  union_none over = record {
    at = λ m. elim m [ ];
    index_of = λ l k. elim l [ ];
    at-index_of = λ l k. elim l [ ];
    index_of-at = λ m. elim m [ ];
    same = λ m. elim m [ ];
  }

  module _ {n : ℕ} (over : Fin (suc n) → Representations T) (M : Representations T) (u : IsUnion (λ l. over (widen l)) M) where
    abbrev Place : Type 0
    Place = (l : Fin (suc n)) × Fin (over l).count

    before : Fin M.count → Place
    before m = (widen (u.at m).0, (u.at m).1)

    after : Fin (over last).count → Place
    after k = (last, k)

    at : Fin (append M (over last)).count → Place
    at = on_plus {A = Place} M.count (over last).count before after

    abbrev Index : Fin (suc n) → Type 0
    Index l = Fin (over l).count → Fin (append M (over last)).count

    index_before : (l : Fin n) → Index (widen l)
    index_before l k = left (over last).count (u.index_of l k)

    index_after : Index last
    index_after k = right M.count k

    index_of : (l : Fin (suc n)) → Index l
    index_of = by_last n Index index_before index_after

    at-before : (m : Fin M.count) → at (left (over last).count m) ≡ before m
    unfolding at
    at-before m = on_plus-left {A = Place} (over last).count before after m

    at-after : (k : Fin (over last).count) → at (right M.count k) ≡ after k
    unfolding at
    at-after k = on_plus-right {A = Place} M.count before after k

    index-widen : (l : Fin n) (k : Fin (over (widen l)).count) → index_of (widen l) k ≡ left (over last).count (u.index_of l k)
    unfolding index_of index_before
    index-widen l k = ap (λ (f : Index (widen l)). f k) (by_last-widen n Index index_before index_after l)

    index-last : (k : Fin (over last).count) → index_of last k ≡ right M.count k
    unfolding index_of index_after
    index-last k = ap (λ (f : Index last). f k) (by_last-last n Index index_before index_after)

    there : (l : Fin (suc n)) (k : Fin (over l).count) → at (index_of l k) ≡ (l, k)
    unfolding before after
    there = by_last n (λ l. (k : Fin (over l).count) → at (index_of l k) ≡ (l, k))
        (λ l k. ap at (index-widen l k) ∙ at-before (u.index_of l k)
        ∙ ap (λ (s : (l : Fin n) × Fin (over (widen l)).count). (widen s.0, s.1)) (u.at-index_of l k))
        (λ k. ap at (index-last k) ∙ at-after k)

    back_again : (m : Fin (append M (over last)).count) → index_of (at m).0 (at m).1 ≡ m
    unfolding before after
    back_again = by_plus M.count (over last).count (λ m. index_of (at m).0 (at m).1 ≡ m)
        (λ m. ap (λ (s : Place). index_of s.0 s.1) (at-before m) ∙ index-widen (u.at m).0 (u.at m).1 ∙ ap (left (over last).count) (u.index_of-at m))
        (λ k. ap (λ (s : Place). index_of s.0 s.1) (at-after k) ∙ index-last k)

    same : (m : Fin (append M (over last)).count) → family (append M (over last)) m ≡ family (over (at m).0) (at m).1
    unfolding before after
    same = by_plus M.count (over last).count (λ m. family (append M (over last)) m ≡ family (over (at m).0) (at m).1)
        (λ m. append-left M (over last) m ∙ u.same m ∙ ap (λ (s : Place). family (over s.0) s.1) (sym (at-before m)))
        (λ k. append-right M (over last) k ∙ ap (λ (s : Place). family (over s.0) s.1) (sym (at-after k)))

    pub union_append : IsUnion over (append M (over last))
    union_append = record { at = at; index_of = index_of; at-index_of = there; index_of-at = back_again; same = same }

  pub joined_union : (n : ℕ) (over : Fin n → Representations T) → IsUnion over (joined n over)
  joined_union zero over = union_none over
  joined_union (suc n) over = union_append over (joined n (λ l. over (widen l))) (joined_union n (λ l. over (widen l)))

  pub joined_grown : (n : ℕ) (over : Fin n → Representations T) (B : Representations T) → joined (suc n) (on_last over B) ≡ append (joined n over) B
  joined_grown n over B =
      ap₂ (λ (f : Fin n → Representations T) (A : Representations T). append (joined n f) A) (fun_ext (λ l. on_last-widen over B l)) (on_last-last over B)

  -- what holds of each list and of one more holds of each of these
  pub each_grown : {n : ℕ} (over : Fin n → Representations T) (B : Representations T) (P : Fin (suc n) → Representations T → Type 0)
      → ((l : Fin n) → P (widen l) (over l)) → P last B → (l : Fin (suc n)) → P l (on_last over B l)
  each_grown {n} over B P p q = by_last n (λ l. P l (on_last over B l))
      (λ l. subst (P (widen l)) (sym (on_last-widen over B l)) (p l)) (subst (P last) (sym (on_last-last over B)) q)

  pub union_grown : {n : ℕ} (over : Fin n → Representations T) (M B : Representations T) → IsUnion over M → IsUnion (on_last over B) (append M B)
  union_grown {n} over M B u = subst (λ (C : Representations T). IsUnion (on_last over B) (append M C)) (on_last-last over B)
      (union_append (on_last over B) M (subst (λ (f : Fin n → Representations T). IsUnion f M) (fun_ext (λ l. sym (on_last-widen over B l))) u))
