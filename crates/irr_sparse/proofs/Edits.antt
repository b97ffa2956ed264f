-- A term added to a list, at the place of its exponent.
--   IsPlace ts k j       the first k exponents are below j, and the others are not
--   Added ts us j c      us are the terms ts with c z^j added
--   added-push, added-insert, added-remove, added-set     by the four ways to add it
use Rattle.std.proofs.Common.{◌≡◌, ◌≢◌, sym, ◌∙◌, ap, subst, ℕ, ℤ, suc, pos, ◌+◌, ◌<◌, ◌≤◌, ◌+ℤ◌, List, [], ◌∷◌, ◌++◌, take, drop, length, slice_set, slice_index_or, unsigned_abs, arith}
use Rattle.std.proofs.lemmas.List.{drop_all, get_or_read, set_split, take_all}
use Rattle.irr_number.specs.Number.{numbers}
use Rattle.irr_cyc.specs.Terms.{terms_sum}
use Rattle.irr_sparse.specs.TermList.{AreTerms, IsTerm, coefficient_at, exponent_at, total}
use Rattle.irr_sparse.proofs.Lists.{coefficient-le, terms-insert, terms-remove, terms-set, total-insert, total-remove, total-set}
use Rattle.irr_sparse.proofs.Sums.{sum-insert, sum-remove, sum-set, term_value}

pub record IsPlace (ts : List (ℕ × ℤ)) (k j : ℕ) : Type 0 where
  pub within : k ≤ length ts
  pub before : (i : ℕ) → i < k → exponent_at ts i < j
  pub after : k < length ts → j ≤ exponent_at ts k

pub place_in : (slice ts : List (ℕ × ℤ)) (k j : ℕ) → slice ≡ ts → k ≤ length slice → ((i : ℕ) → i < k → exponent_at slice i < j) → (k < length slice → j ≤ exponent_at slice k) → IsPlace ts k j
place_in slice ts k j e w b a = subst (λ (us : List (ℕ × ℤ)). IsPlace us k j) e (record { within = w; before = b; after = a })

pub record Added (ts us : List (ℕ × ℤ)) (j : ℕ) (c : ℤ) : Type 0 where
  pub terms : (n : ℕ) → AreTerms n 0 ts → IsTerm n 0 j c → AreTerms n 0 us
  pub sum : (n : ℕ) → terms_sum n us ≡ (numbers n).add (terms_sum n ts) (term_value n j c)
  pub most : total us ≤ total ts + unsigned_abs c

module _ (ts us : List (ℕ × ℤ)) (k j : ℕ) (c d : ℤ) (place : IsPlace ts k j) where
  pub added-insert : d ≡ c → us ≡ take k ts ++ (j, d) ∷ drop k ts → (k < length ts → exponent_at ts k ≢ j) → Added ts us j c
  added-insert e is ne = subst (λ (ws : List (ℕ × ℤ)). Added ts ws j c) (sym (is ∙ ap (λ x. take k ts ++ (j, x) ∷ drop k ts) e)) (record {
    terms = λ n h t. terms-insert n ts k j h place.before c t (λ lt. let ge : j ≤ exponent_at ts k = place.after lt in omega (arith, ne lt));
    sum = λ n. sum-insert n ts k j c;
    most = total-insert ts k j c;
  })

  pub added-push : d ≡ c → us ≡ ts ++ (j, d) ∷ [] → k ≡ length ts → Added ts us j c
  added-push e is end = added-insert e (is ∙ λ i. sym (take_all k ts (omega arith)) i ++ (j, d) ∷ sym (drop_all k ts (omega arith)) i) (λ lt. absurd (omega arith))

  module _ (x : ℕ × ℤ) (within : k < length ts) (read : x ≡ slice_index_or ts k x) where
    read_at : x ≡ slice_index_or ts k (0, pos 0)
    read_at = get_or_read ts k x within read (0, pos 0)

    pub other_exponent : x.0 ≢ j → exponent_at ts k ≢ j
    other_exponent ne e = ne (ap (λ (t : ℕ × ℤ). t.0) read_at ∙ e)

    pub added-remove : us ≡ take k ts ++ drop (suc k) ts → x.0 ≡ j → x.1 +ℤ c ≡ pos 0 → Added ts us j c
    added-remove is e z =
        let at_exponent : exponent_at ts k ≡ j = sym (ap (λ (t : ℕ × ℤ). t.0) read_at) ∙ e in
        let at_zero : coefficient_at ts k +ℤ c ≡ pos 0 = ap (λ y. y +ℤ c) (sym (ap (λ (t : ℕ × ℤ). t.1) read_at)) ∙ z in
        subst (λ (ws : List (ℕ × ℤ)). Added ts ws j c) (sym is) (record {
          terms = λ n h t. terms-remove n ts k j h place.before within at_exponent;
          sum = λ n. sum-remove n ts k j c within at_exponent at_zero;
          most = (let le : total (take k ts ++ drop (suc k) ts) ≤ total ts = total-remove ts k within in omega arith);
        })

    pub added-set : us ≡ slice_set ts k (j, d) → d ≡ x.1 +ℤ c → x.0 ≡ j → x.1 +ℤ c ≢ pos 0 → Added ts us j c
    added-set is ed e ne =
        let at_exponent : exponent_at ts k ≡ j = sym (ap (λ (t : ℕ × ℤ). t.0) read_at) ∙ e in
        let at_sum : x.1 +ℤ c ≡ coefficient_at ts k +ℤ c = ap (λ y. y +ℤ c) (ap (λ (t : ℕ × ℤ). t.1) read_at) in
        subst (λ (ws : List (ℕ × ℤ)). Added ts ws j c) (sym (is ∙ set_split ts k (j, d) within ∙ ap (λ y. take k ts ++ (j, y) ∷ drop (suc k) ts) (ed ∙ at_sum))) (record {
          terms = λ n h t. terms-set n ts k j h place.before (coefficient_at ts k +ℤ c) within at_exponent (λ z. ne (at_sum ∙ z));
          sum = λ n. sum-set n ts k j c within at_exponent;
          most = total-set ts k j c within;
        })

    pub read_le : unsigned_abs x.1 ≤ total ts
    read_le = let le : unsigned_abs (coefficient_at ts k) ≤ total ts = coefficient-le ts k within in let s : unsigned_abs x.1 ≡ unsigned_abs (coefficient_at ts k) = ap (λ (t : ℕ × ℤ). unsigned_abs t.1) read_at in omega arith
