-- Numbered texts from any number on, and texts of two lists.
--   numbered_first, numbered_next     no item, and one more
--   members_first, members_next, members_all     the same for representations on the line
use Rattle.std.proofs.Common.{◌≡◌, sym, ◌∙◌, ap, ap₂, refl, ℕ, zero, suc, ◌+◌, ◌<◌, ◌≤◌, List, [], ◌∷◌, ◌++◌, append-nil, append_assoc, length, get_or, take, arith}
use Rattle.std.proofs.lemmas.List.{take_more, length-take-le, take_all}
use Rattle.irr_number.specs.Number.{Number}
use Rattle.irr_report.specs.Printed.{numbered}
use Rattle.irr_compat_text.specs.Printed.{member_text, members_text}

numbered-append : {A : Type 0} (g : ℕ → A → List ℕ) (s : ℕ) (xs : List A) (x : A)
    → numbered g s (xs ++ x ∷ []) ≡ numbered g s xs ++ g (s + length xs) x
unfolding numbered
numbered-append g s [] x = append-nil (g s x) ∙ ap (λ n. g n x) (let e : s ≡ s + 0 = omega arith in e)
numbered-append g s (y ∷ xs) x = ap (λ u. g s y ++ u) (numbered-append g (suc s) xs x
    ∙ ap (λ n. numbered g (suc s) xs ++ g n x) (let e : suc s + length xs ≡ s + suc (length xs) = omega arith in e))
    ∙ sym (append_assoc (g s y) (numbered g (suc s) xs) (g (s + suc (length xs)) x))

pub numbered_first : {A : Type 0} (g : ℕ → A → List ℕ) (s : ℕ) (before : List ℕ) → before ≡ before ++ numbered g s []
unfolding numbered
numbered_first g s before = sym (append-nil before)

pub numbered_next : {A : Type 0} (g : ℕ → A → List ℕ) (s : ℕ) (before text : List ℕ) (xs : List A) (i n : ℕ) (x : A) → n ≡ s + i → i < length xs → x ≡ get_or xs i x
    → text ≡ before ++ numbered g s (take i xs) → text ++ g n x ≡ before ++ numbered g s (take (i + 1) xs)
numbered_next g s before text xs i n x own lt is t = ap (λ u. u ++ g n x) t ∙ append_assoc before (numbered g s (take i xs)) (g n x)
    ∙ ap (λ u. before ++ u) (ap (λ n. numbered g s (take i xs) ++ g n x) number ∙ sym (numbered-append g s (take i xs) x)
    ∙ ap (λ y. numbered g s (take i xs ++ y ∷ [])) is ∙ ap (numbered g s) (sym (take_more xs i x lt)))
  where
    number : n ≡ s + length (take i xs)
    number = let e : length (take i xs) ≡ i = length-take-le i xs (omega arith) in omega (arith, e, own)

module _ {S : Type 0} (order : S → ℕ) (value : (n : ℕ) → S → Number n) where
  members-append : (s : ℕ) (ds : List ℕ) (rows : List (List S)) (d : ℕ) (row : List S) → length ds ≡ length rows
      → members_text order value s (ds ++ d ∷ []) (rows ++ row ∷ []) ≡ members_text order value s ds rows ++ member_text order value (s + length ds) d row
  unfolding members_text
  members-append s [] [] d row e = append-nil (member_text order value s d row) ∙ ap (λ n. member_text order value n d row) (let f : s ≡ s + 0 = omega arith in f)
  members-append s [] (r ∷ rows) d row e = absurd (omega (arith, e))
  members-append s (c ∷ ds) [] d row e = absurd (omega (arith, e))
  members-append s (c ∷ ds) (r ∷ rows) d row e = ap (λ u. member_text order value s c r ++ u) (members-append (suc s) ds rows d row (omega (arith, e))
      ∙ ap (λ n. members_text order value (suc s) ds rows ++ member_text order value n d row) (let f : suc s + length ds ≡ s + suc (length ds) = omega arith in f))
      ∙ sym (append_assoc (member_text order value s c r) (members_text order value (suc s) ds rows) (member_text order value (s + suc (length ds)) d row))

  pub members_first : (s : ℕ) (before : List ℕ) → before ≡ before ++ members_text order value s [] []
  unfolding members_text
  members_first s before = sym (append-nil before)

  pub members_next : (s : ℕ) (before text : List ℕ) (ds : List ℕ) (rows : List (List S)) (i n d : ℕ) (row : List S) → n ≡ s + i → length ds ≡ length rows
      → i < length ds → d ≡ get_or ds i d → row ≡ get_or rows i row
      → text ≡ before ++ members_text order value s (take i ds) (take i rows)
      → text ++ member_text order value n d row ≡ before ++ members_text order value s (take (i + 1) ds) (take (i + 1) rows)
  members_next s before text ds rows i n d row own same lt is at t = ap (λ u. u ++ member_text order value n d row) t
      ∙ append_assoc before (members_text order value s (take i ds) (take i rows)) (member_text order value n d row)
      ∙ ap (λ u. before ++ u) (ap (λ n. members_text order value s (take i ds) (take i rows) ++ member_text order value n d row) number
      ∙ sym (members-append s (take i ds) (take i rows) d row (first ∙ sym second))
      ∙ ap₂ (λ x y. members_text order value s (take i ds ++ x ∷ []) (take i rows ++ y ∷ [])) is at
      ∙ ap₂ (members_text order value s) (sym (take_more ds i d lt)) (sym (take_more rows i row below)))
    where
      below : i < length rows
      below = omega (arith, lt, same)

      first : length (take i ds) ≡ i
      first = length-take-le i ds (omega (arith, lt))

      second : length (take i rows) ≡ i
      second = length-take-le i rows (omega (arith, lt, same))

      number : n ≡ s + length (take i ds)
      number = omega (arith, first, own)

  pub members_all : (s : ℕ) (before text : List ℕ) (ds : List ℕ) (rows : List (List S)) (i : ℕ) → length ds ≡ length rows → length ds ≤ i
      → text ≡ before ++ members_text order value s (take i ds) (take i rows) → text ≡ before ++ members_text order value s ds rows
  members_all s before text ds rows i same le t = t ∙ ap (λ u. before ++ u) (ap₂ (members_text order value s) (take_all i ds le) (take_all i rows (omega (arith, same, le))))
