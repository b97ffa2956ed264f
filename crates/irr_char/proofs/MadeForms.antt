-- Forms made one after another.
--   denominator_positive     denominators are positive
--   FormsSoFar, RowsSoFar    the first k forms of a row, and of rows
--   forms-none, forms-more, forms-all, and the same of rows
use Rattle.std.proofs.Common.{◌≡◌, sym, ◌∙◌, ap, subst, ℕ, ◌+◌, ◌<◌, ◌⊎◌, inl, inr, List, [], ◌∷◌, ◌++◌, length, get_or, map, length-append, arith}
use Rattle.std.specs.List.{All}
use Rattle.std.proofs.Math.Seq.{get_or-append_seam}
use Rattle.std.proofs.lemmas.List.{get_or_append_left, get_or-map}
use Rattle.std.proofs.lemmas.List.Elements.{All-get_or}
use Rattle.irr_algebra.specs.Fin.{to_nat}
use Rattle.irr_algebra.proofs.Indices.{to_nat-lt}
use Rattle.irr_number.specs.Number.{Number, numbers}
use Rattle.irr_canonical.specs.Coefficient.{canonical, denominator}
use Rattle.irr_char.specs.declared.forms.Form.{Form}
use Rattle.irr_char.specs.Rows.{IsFormOf, AreFormsOf, AreRowsOf, row_of, row_at}
use Rattle.irr_char.proofs.RowForms.{before_or_at}

pub denominator_positive : (n : ℕ) (x : Number n) → 0 < denominator n x
unfolding denominator
denominator_positive n x = (canonical n x).den_pos

module _ {X : Type 0} (order_of : X → ℕ) (value : (n : ℕ) → X → Number n) where
  pub record FormsSoFar (row : List X) (forms : List Form) (k : ℕ) : Type 0 where
    pub count : length forms ≡ k
    pub form : (n : ℕ) → All (λ x. order_of x ≡ n) row → (i : ℕ) → i < k → (d : Form)
        → IsFormOf n (get_or (map (value n) row) i (numbers n).zero) (get_or forms i d).den (get_or forms i d).terms.items

  pub forms-none : (row : List X) (forms : List Form) → forms ≡ [] → FormsSoFar row forms 0
  forms-none row forms e = record { count = ap length e; form = λ n o i l d. absurd (omega arith) }

  pub forms-more : (row : List X) (forms after : List Form) (k : ℕ) (x : X) (made : Form) → FormsSoFar row forms k → k < length row
      → x ≡ get_or row k x → after ≡ forms ++ made ∷ []
      → ((n : ℕ) → order_of x ≡ n → IsFormOf n (value n x) made.den made.terms.items) → FormsSoFar row after (k + 1)
  forms-more row forms after k x made h l e s m = record {
    count = ap length s ∙ length-append forms (made ∷ []) ∙ ap (λ j. j + 1) h.count;
    form = λ n o i b d. subst (λ fs. IsFormOf n (get_or (map (value n) row) i (numbers n).zero) (get_or fs i d).den (get_or fs i d).terms.items)
        (sym s) (at n o i d (before_or_at i k b));
  }
    where
      at : (n : ℕ) → All (λ x. order_of x ≡ n) row → (i : ℕ) (d : Form) → (i < k) ⊎ (i ≡ k)
          → IsFormOf n (get_or (map (value n) row) i (numbers n).zero) (get_or (forms ++ made ∷ []) i d).den
          (get_or (forms ++ made ∷ []) i d).terms.items
      at n o i d (inl b) = subst (λ (y : Form). IsFormOf n (get_or (map (value n) row) i (numbers n).zero) y.den y.terms.items)
          (sym (get_or_append_left forms (made ∷ []) d i (let c : length forms ≡ k = h.count in omega arith))) (h.form n o i b d)
      at n o i d (inr q) = subst (λ (y : Form). IsFormOf n (get_or (map (value n) row) i (numbers n).zero) y.den y.terms.items)
          (sym (ap (λ j. get_or (forms ++ made ∷ []) j d) (q ∙ sym h.count) ∙ get_or-append_seam forms made [] d))
          (subst (λ z. IsFormOf n z made.den made.terms.items)
          (sym (ap (λ j. get_or (map (value n) row) j (numbers n).zero) q ∙ get_or-map (value n) row k x (numbers n).zero l
          ∙ ap (value n) (sym e)))
          (m n (ap order_of e ∙ All-get_or (λ y. order_of y ≡ n) row k x l o)))

  pub forms-all : (row : List X) (forms : List Form) (k : ℕ) → FormsSoFar row forms k → k ≡ length row → (n h : ℕ) → length row ≡ h
      → All (λ x. order_of x ≡ n) row → AreFormsOf {h = h} n (row_of n (map (value n) row)) forms
  forms-all row forms k f e n h s o = record {
    same_length = f.count ∙ e ∙ s;
    form = λ i d. f.form n o (to_nat i) (let b : to_nat i < h = to_nat-lt i in omega arith) d;
  }

  pub record RowsSoFar (rows : List (List X)) (forms : List (List Form)) (k : ℕ) : Type 0 where
    pub count : length forms ≡ k
    pub forms_at : (n h : ℕ) → All (λ row. length row ≡ h) rows → All (All (λ x. order_of x ≡ n)) rows → (a : ℕ) → a < k
        → AreFormsOf {h = h} n (row_at n (map (map (value n)) rows) a) (get_or forms a [])

  pub rows-none : (rows : List (List X)) (forms : List (List Form)) → forms ≡ [] → RowsSoFar rows forms 0
  rows-none rows forms e = record { count = ap length e; forms_at = λ n h s o a l. absurd (omega arith) }

  pub rows-more : (rows : List (List X)) (forms after : List (List Form)) (k : ℕ) (row : List X) (made : List Form) → RowsSoFar rows forms k
      → k < length rows → get_or rows k [] ≡ row → after ≡ forms ++ made ∷ []
      → ((n h : ℕ) → length row ≡ h → All (λ x. order_of x ≡ n) row → AreFormsOf {h = h} n (row_of n (map (value n) row)) made)
      → RowsSoFar rows after (k + 1)
  rows-more rows forms after k row made f l e s m = record {
    count = ap length s ∙ length-append forms (made ∷ []) ∙ ap (λ j. j + 1) f.count;
    forms_at = λ n h u o a b. subst (λ fs. AreFormsOf {h = h} n (row_at n (map (map (value n)) rows) a) (get_or fs a [])) (sym s)
        (at n h u o a (before_or_at a k b));
  }
    where
      at : (n h : ℕ) → All (λ row. length row ≡ h) rows → All (All (λ x. order_of x ≡ n)) rows → (a : ℕ) → (a < k) ⊎ (a ≡ k)
          → AreFormsOf {h = h} n (row_at n (map (map (value n)) rows) a) (get_or (forms ++ made ∷ []) a [])
      at n h u o a (inl b) = subst (λ fs. AreFormsOf {h = h} n (row_at n (map (map (value n)) rows) a) fs)
          (sym (get_or_append_left forms (made ∷ []) [] a (let c : length forms ≡ k = f.count in omega arith))) (f.forms_at n h u o a b)
      at n h u o a (inr q) = subst (λ fs. AreFormsOf {h = h} n (row_at n (map (map (value n)) rows) a) fs)
          (sym (ap (λ j. get_or (forms ++ made ∷ []) j []) (q ∙ sym f.count) ∙ get_or-append_seam forms made [] []))
          (subst (λ zs. AreFormsOf {h = h} n (row_of n zs) made)
          (sym (ap (λ j. get_or (map (map (value n)) rows) j []) q ∙ get_or-map (map (value n)) rows k [] [] l ∙ ap (map (value n)) e))
          (m n h (ap length (sym e) ∙ All-get_or (λ r. length r ≡ h) rows k [] l u)
          (subst (All (λ x. order_of x ≡ n)) e (All-get_or (All (λ x. order_of x ≡ n)) rows k [] l o))))

  pub rows-all : (rows : List (List X)) (forms : List (List Form)) (k : ℕ) → RowsSoFar rows forms k → k ≡ length rows → (n h : ℕ)
      → All (λ row. length row ≡ h) rows → All (All (λ x. order_of x ≡ n)) rows
      → AreRowsOf {h = h} n (row_at n (map (map (value n)) rows)) forms
  rows-all rows forms k f e n h u o = record { forms = λ a l. f.forms_at n h u o a (let c : length forms ≡ k = f.count in omega arith) }
