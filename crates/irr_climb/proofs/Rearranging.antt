-- Items taken out of their slots, in the order of a list of places.
--   AreTaken                 the items at the first k places are taken, and the others are still in their slots
--   taken_none, taken_more   none; one more
--   written_back             what a call wrote through a slice of a vector
--   slot_filled              the slot of the next place is full
use Rattle.std.proofs.Common.{◌≡◌, ◌≢◌, sym, ◌∙◌, ap, subst, ℕ, ◌+◌, ◌<◌, ◌⊎◌, inl, inr, List, [], ◌∷◌, ◌++◌, Option, None, Some, length, slice_index, get_or, map, set, take, drop, length-append, arith}
use Rattle.std.proofs.Math.Seq.{get_or-append_seam, take-append_seam}
use Rattle.std.proofs.lemmas.List.{get_or-map, get_or-set_other, get_or_append_left, length-map, length-set}
use Rattle.irr_char.proofs.RowForms.{before_or_at}

pub written_back : {X : Type 0} (n : ℕ) (new old : List X) → n ≡ length new → take n (new ++ drop (length new) old) ≡ new
written_back n new old e = ap (λ k. take k (new ++ drop (length new) old)) e ∙ take-append_seam new (drop (length new) old)

module _ {X : Type 0} (items : List X) (places : List ℕ) where
  pub record AreTaken (k : ℕ) (slots : List (Option X)) (taken : List X) : Type 0 where
    pub slots_count : length slots ≡ length items
    pub waiting : (b : ℕ) → ((a : ℕ) → a < k → slice_index places a ≡ b → ⊥) → get_or slots b None ≡ get_or (map Some items) b None
    pub count : length taken ≡ k
    pub taken_items : (a : ℕ) (e : X) → a < k → get_or taken a e ≡ get_or items (slice_index places a) e

  pub taken_none : (slots : List (Option X)) (taken : List X) → slots ≡ map Some items → taken ≡ [] → AreTaken 0 slots taken
  taken_none slots taken s t = record {
    slots_count = ap length s ∙ length-map items Some;
    waiting = λ b n. ap (λ xs. get_or xs b None) s;
    count = ap length t;
    taken_items = λ a e l. absurd (omega (arith, l));
  }

  item_at : (xs : List X) (b : ℕ) → b < length xs → (x : X) × (get_or (map Some xs) b None ≡ Some x)
  item_at [] b l = absurd (omega (arith, l))
  item_at (y ∷ ys) b l = (get_or (y ∷ ys) b y, get_or-map Some (y ∷ ys) b y None l)

  same_some : (x y : X) → Some x ≡ Some y → x ≡ y
  same_some x y e = cc

  item_value : (b : ℕ) (x e : X) → b < length items → get_or (map Some items) b None ≡ Some x → x ≡ get_or items b e
  item_value b x e l s = same_some x (get_or items b e) (sym s ∙ get_or-map Some items b e None l)

  module _ (within : (a : ℕ) → a < length places → slice_index places a < length items)
      (distinct : (a b : ℕ) → a < b → b < length places → slice_index places a ≡ slice_index places b → ⊥) where
    module _ (k : ℕ) (slots : List (Option X)) (taken : List X) (are : AreTaken k slots taken) (inside : k < length places) where
      next_waits : get_or slots (slice_index places k) None ≡ get_or (map Some items) (slice_index places k) None
      next_waits = are.waiting (slice_index places k) (λ a l e. distinct a k l inside e)

      pub slot_filled : (x : X) × (get_or slots (slice_index places k) None ≡ Some x)
      slot_filled = let s = item_at items (slice_index places k) (within k inside) in (s.0, next_waits ∙ s.1)

      pub taken_more : (place : ℕ) → place ≡ slice_index places k → (x : X) → get_or slots place None ≡ Some x → (after : List (Option X))
          → after ≡ set slots place None
          → (more : List X) → more ≡ taken ++ x ∷ [] → AreTaken (k + 1) after more
      taken_more place e x own after f more g = record {
        slots_count = ap length f ∙ length-set slots place None ∙ are.slots_count;
        waiting = λ b n. ap (λ xs. get_or xs b None) f
            ∙ get_or-set_other slots place b None None (λ q. n k (let l : k < k + 1 = omega arith in l) (sym e ∙ sym q))
            ∙ are.waiting b (λ a l. n a (let m : a < k + 1 = omega (arith, l) in m));
        count = ap length g ∙ length-append taken (x ∷ []) ∙ ap (λ j. j + 1) are.count;
        taken_items = λ a d l. ap (λ xs. get_or xs a d) g ∙ at a d (before_or_at a k l);
      }
        where
          at : (a : ℕ) (d : X) → (a < k) ⊎ (a ≡ k) → get_or (taken ++ x ∷ []) a d ≡ get_or items (slice_index places a) d
          at a d (inl l) = get_or_append_left taken (x ∷ []) d a (subst (λ j. a < j) (sym are.count) l) ∙ are.taken_items a d l
          at a d (inr q) = ap (λ j. get_or (taken ++ x ∷ []) j d) (q ∙ sym are.count) ∙ get_or-append_seam taken x [] d
              ∙ item_value (slice_index places k) x d (within k inside) (sym next_waits ∙ ap (λ p. get_or slots p None) (sym e) ∙ own)
              ∙ ap (λ j. get_or items (slice_index places j) d) (sym q)
