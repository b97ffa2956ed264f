-- The first line of a text.
--   parted             a text has no line feed, or parts at its first one
--   content            what stands before a line feed has its content, and only one
--   first_line         a text that is not empty has a first line
--   first_unique       and only one
use Rattle.std.proofs.Common.{◌≡◌, ◌≢◌, refl, sym, ◌∙◌, ap, subst, ℕ, zero, suc, ◌<◌, ◌⊎◌, inl, inr, List, [], ◌∷◌, ◌++◌, length, arith, length-append, ◌+◌}
use Rattle.std.specs.List.{All}
use Rattle.std.proofs.lemmas.List.{append_cancel_right}
use Rattle.std.proofs.lemmas.List.Elements.{All-cons, All-head, All-tail}
use Rattle.irr_lines.specs.Lines.{IsContent, IsFirstLine}
use Rattle.irr_lines.specs.Lines.IsContent.{returned, plain}
use Rattle.irr_lines.specs.Lines.IsFirstLine.{ended, unended}

abbrev Lacks : List ℕ → Type 0
Lacks = All (λ b. b ≢ 10)

same_or_not : (m n : ℕ) → (m ≡ n) ⊎ (m ≢ n)
same_or_not zero zero = inl refl
same_or_not zero (suc n) = inr (λ e. omega arith)
same_or_not (suc m) zero = inr (λ e. omega arith)
same_or_not (suc m) (suc n) = elim (same_or_not m n) [ inl e ↦ inl (ap suc e) | inr h ↦ inr (λ e. h (omega arith)) ]

-- the first line feed, if there is one
pub data Parted (text : List ℕ) : Type 0 where
  whole : Lacks text → Parted text
  at_feed : (before rest : List ℕ) → text ≡ before ++ 10 ∷ rest → Lacks before → Parted text

pub parted : (text : List ℕ) → Parted text
parted [] = whole (λ k d lt. absurd (omega arith))
parted (x ∷ text) = step (same_or_not x 10) (parted text)
  where
    step : (x ≡ 10) ⊎ (x ≢ 10) → Parted text → Parted (x ∷ text)
    step (inl e) p = at_feed [] text (ap (λ c. c ∷ text) e) (λ k d lt. absurd (omega arith))
    step (inr h) (whole l) = whole (All-cons (λ b. b ≢ 10) x text h l)
    step (inr h) (at_feed before rest e l) = at_feed (x ∷ before) rest (ap (λ t. x ∷ t) e) (All-cons (λ b. b ≢ 10) x before h l)

-- the last byte is a carriage return, or not
returned_or_not : (xs : List ℕ) → ((front : List ℕ) × (xs ≡ front ++ 13 ∷ [])) ⊎ ((front : List ℕ) → xs ≢ front ++ 13 ∷ [])
returned_or_not [] = inr no
  where
    no : (front : List ℕ) → [] ≢ front ++ 13 ∷ []
    no [] e = cc
    no (y ∷ front) e = cc
returned_or_not (x ∷ []) = step (same_or_not x 13)
  where
    step : (x ≡ 13) ⊎ (x ≢ 13) → ((front : List ℕ) × (x ∷ [] ≡ front ++ 13 ∷ [])) ⊎ ((front : List ℕ) → x ∷ [] ≢ front ++ 13 ∷ [])
    step (inl e) = inl ([], ap (λ c. c ∷ []) e)
    step (inr h) = inr (elim [ [] ↦ λ e. h (cc) | y ∷ [] ↦ λ e. cc | y ∷ z ∷ front ↦ λ e. cc ])
returned_or_not (x ∷ y ∷ xs) = step (returned_or_not (y ∷ xs))
  where
    step : ((front : List ℕ) × (y ∷ xs ≡ front ++ 13 ∷ [])) ⊎ ((front : List ℕ) → y ∷ xs ≢ front ++ 13 ∷ [])
        → ((front : List ℕ) × (x ∷ y ∷ xs ≡ front ++ 13 ∷ [])) ⊎ ((front : List ℕ) → x ∷ y ∷ xs ≢ front ++ 13 ∷ [])
    step (inl t) = inl (x ∷ t.0, ap (λ l. x ∷ l) t.1)
    step (inr h) = inr (elim [ [] ↦ λ e. cc | z ∷ front ↦ λ e. h front (cc) ])

pub content : (before : List ℕ) → (line : List ℕ) × IsContent before line
content before = elim (returned_or_not before) [ inl t ↦ (t.0, returned t.1) | inr h ↦ (before, plain refl h) ]

pub content_unique : (before line other : List ℕ) → IsContent before line → IsContent before other → line ≡ other
content_unique before line other (returned e) (returned f) = append_cancel_right line other (13 ∷ []) (sym e ∙ f)
content_unique before line other (returned e) (plain f n) = absurd (n line e)
content_unique before line other (plain f n) (returned e) = absurd (n other e)
content_unique before line other (plain e m) (plain f n) = sym e ∙ f

-- a text parts in one way at its first line feed
parted_unique : (xs ys s t : List ℕ) → Lacks xs → Lacks ys → xs ++ 10 ∷ s ≡ ys ++ 10 ∷ t → (xs ≡ ys) × (s ≡ t)
parted_unique [] [] s t p q e = (refl, cc)
parted_unique [] (y ∷ ys) s t p q e = absurd (All-head (λ b. b ≢ 10) y ys q (cc))
parted_unique (x ∷ xs) [] s t p q e = absurd (All-head (λ b. b ≢ 10) x xs p (cc))
parted_unique (x ∷ xs) (y ∷ ys) s t p q e =
    let rest : xs ++ 10 ∷ s ≡ ys ++ 10 ∷ t = cc in
    let both : (xs ≡ ys) × (s ≡ t) = parted_unique xs ys s t (All-tail (λ b. b ≢ 10) x xs p) (All-tail (λ b. b ≢ 10) y ys q) rest in
    let front : x ≡ y = cc in
    let fronts : xs ≡ ys = both.0 in
    (cc, both.1)

parted_none : (xs s t : List ℕ) → Lacks t → t ≡ xs ++ 10 ∷ s → ⊥
parted_none [] s t p e = All-head (λ b. b ≢ 10) 10 s (subst Lacks e p) refl
parted_none (x ∷ xs) s t p e = parted_none xs s (xs ++ 10 ∷ s) (All-tail (λ b. b ≢ 10) x (xs ++ 10 ∷ s) (subst Lacks e p)) refl

pub first_unique : (text line rest other after : List ℕ) → IsFirstLine text line rest → IsFirstLine text other after → (line ≡ other) × (rest ≡ after)
first_unique text line rest other after (ended b e l c) (ended d f m i) =
    let both : (b ≡ d) × (rest ≡ after) = parted_unique b d rest after l m (sym e ∙ f) in
    (content_unique d line other (subst (λ x. IsContent x line) both.0 c) i, both.1)
first_unique text line rest other after (ended b e l c) (unended n m f r) = absurd (parted_none b rest text m e)
first_unique text line rest other after (unended n m f r) (ended b e l c) = absurd (parted_none b after text m e)
first_unique text line rest other after (unended n l e r) (unended o m f s) = (e ∙ sym f, r ∙ sym s)

-- a first line, and a shorter rest
pub record FirstLine (text : List ℕ) : Type 0 where
  pub line : List ℕ
  pub rest : List ℕ
  pub is_first : IsFirstLine text line rest
  pub shorter : length rest < length text

pub rest_shorter : (text before rest : List ℕ) → text ≡ before ++ 10 ∷ rest → length rest < length text
rest_shorter text before rest e = let l : length text ≡ length before + suc (length rest) = ap length e ∙ length-append before
    (10 ∷ rest) in omega arith

pub first_line : (text : List ℕ) → text ≢ [] → 0 < length text → FirstLine text
first_line text n p = elim (parted text) [
  | whole l ↦ record { line = text; rest = []; is_first = unended n l refl refl; shorter = p }
  | at_feed before rest e l ↦ record {
    line = (content before).0;
    rest = rest;
    is_first = ended before e l
        (content before).1;
    shorter = rest_shorter text before rest e;
  }
]
