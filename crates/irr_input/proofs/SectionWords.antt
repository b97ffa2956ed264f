-- Lines that begin with the word of a section.
--   ends_at                a word ends before a blank
--   words_apart            a text begins with one word
--   begins_of, word_of_line     the word before the first blank tells the section that a line begins
--   begins_unique          a line begins one section
--   sort_unique            a line has one sort
use Rattle.std.proofs.Common.{◌≡◌, ◌≢◌, refl, sym, ◌∙◌, ap, ap₂, subst, ℕ, zero, suc, get_or, drop, List, [], ◌∷◌, ◌++◌, ◌⊎◌, inl, inr, Option, Some, None, IfSome, codes, nat_eq, if◌then◌else◌, ◌<◌, arith}
use Rattle.std.specs.List.{All}
use Rattle.std.proofs.lemmas.List.Elements.{All-head, All-tail}
use Rattle.irr_token.specs.Kinds.{kind_of}
use Rattle.irr_token.specs.declared.kind.Kind.TheVariants.{Blank, Mark}
use Rattle.irr_token.specs.Reading.{BeginsWith, BeginsWithBlank}
use Rattle.irr_token.proofs.Blanks.{blanks_unique}
use Rattle.irr_input.specs.declared.keyword.Keyword.{Keyword}
use Rattle.irr_input.specs.declared.keyword.Keyword.TheVariants.{Subgroup, Basis, Origin, Report}
use Rattle.irr_input.specs.SectionLines.{IsSkipped, EndsWord, Begins, word_of, LineSort, IsOfSort}
use Rattle.irr_input.specs.SectionLines.LineSort.{skipped, triplet, section}
use Rattle.irr_input.specs.LineReading.{IsWordBefore}
use Rattle.irr_input.proofs.SkippedLines.{IsParted, parted, skipped-rest}

abbrev pub HasNoBlank : List ℕ → Type 0
HasNoBlank [] = Unit {0}
HasNoBlank (b ∷ bs) = (kind_of b ≢ Blank) × HasNoBlank bs

pub no_blank_of : (word : List ℕ) → All (λ b. kind_of b ≢ Blank) word → HasNoBlank word
no_blank_of [] all = tt
no_blank_of (b ∷ bs) all = (All-head (λ b. kind_of b ≢ Blank) b bs all, no_blank_of bs (All-tail (λ b. kind_of b ≢ Blank) b bs all))

pub ends_at : (cs : List ℕ) (i : ℕ) → kind_of (get_or cs i 0) ≡ Blank → EndsWord (drop i cs)
ends_at [] zero e = tt
ends_at [] (suc i) e = tt
ends_at (c ∷ cs) zero e = e
ends_at (c ∷ cs) (suc i) e = ends_at cs i e

pub words_apart : (v w b c : List ℕ) → HasNoBlank v → HasNoBlank w → EndsWord b → EndsWord c → v ++ b ≡ w ++ c → v ≡ w
words_apart [] [] b c p q f g e = refl
words_apart [] (y ∷ w) b c p q f g e = absurd (q.0 (subst EndsWord e f))
words_apart (x ∷ v) [] b c p q f g e = absurd (p.0 (subst EndsWord (sym e) g))
words_apart (x ∷ v) (y ∷ w) b c p q f g e =
    let rest : v ++ b ≡ w ++ c = cc in
    let first : x ≡ y = cc in
    ap₂ (λ (l : ℕ) (ls : List ℕ). l ∷ ls) first (words_apart v w b c p.1 q.1 f g rest)

mark_no_blank : (b : ℕ) → kind_of b ≡ Mark → kind_of b ≢ Blank
mark_no_blank b e f = let g : Mark ≡ Blank = sym e ∙ f in cc

word_no_blank : (k : Keyword) → HasNoBlank (word_of k)
word_no_blank Subgroup = (
  mark_no_blank 115 refl,
  (mark_no_blank 117 refl, (mark_no_blank 98 refl, (mark_no_blank 103 refl, (mark_no_blank 114 refl, (mark_no_blank 111 refl, (mark_no_blank 117 refl, (mark_no_blank 112 refl, tt))))))),
)
word_no_blank Basis = (mark_no_blank 98 refl, (mark_no_blank 97 refl, (mark_no_blank 115 refl, (mark_no_blank 105 refl, (mark_no_blank 115 refl, tt)))))
word_no_blank Origin = (mark_no_blank 111 refl, (mark_no_blank 114 refl, (mark_no_blank 105 refl, (mark_no_blank 103 refl, (mark_no_blank 105 refl, (mark_no_blank 110 refl, tt))))))
word_no_blank Report = (mark_no_blank 114 refl, (mark_no_blank 101 refl, (mark_no_blank 112 refl, (mark_no_blank 111 refl, (mark_no_blank 114 refl, (mark_no_blank 116 refl, tt))))))

pub no_blank_first : (k : Keyword) (behind : List ℕ) → ¬ (BeginsWithBlank (word_of k ++ behind))
no_blank_first Subgroup behind b = let e : Mark ≡ Blank = b in cc
no_blank_first Basis behind b = let e : Mark ≡ Blank = b in cc
no_blank_first Origin behind b = let e : Mark ≡ Blank = b in cc
no_blank_first Report behind b = let e : Mark ≡ Blank = b in cc

-- what stands behind the blanks of such a line
pub begins_rest : (line : List ℕ) (p : IsParted line) (k : Keyword) (b : Begins k line) → p.rest ≡ word_of k ++ b.behind
begins_rest line p k b = (blanks_unique p.blanks b.blanks p.rest (word_of k ++ b.behind) p.are_blanks b.are_blanks p.no_blank (no_blank_first k b.behind) (sym p.joins ∙ b.spelled)).1

pub begins_of : (line text word : List ℕ) (p : IsParted line) (k : Keyword) → text ≡ p.rest → IsWordBefore text word → word ≡ word_of k → Begins k line
begins_of line text word p k e w h = record {
  blanks = p.blanks;
  behind = w.behind;
  are_blanks = p.are_blanks;
  spelled = p.joins ∙ ap (λ l. p.blanks ++ l) (sym e ∙ w.spelled ∙ ap (λ v. v ++ w.behind) h);
  ends = w.ends;
}

pub word_of_line : (line text word : List ℕ) (p : IsParted line) (k : Keyword) → text ≡ p.rest → IsWordBefore text word → All (λ b. kind_of b ≢ Blank) word → Begins k line → word ≡ word_of k
word_of_line line text word p k e w all b =
    words_apart word (word_of k) w.behind b.behind (no_blank_of word all) (word_no_blank k) w.ends b.ends (sym w.spelled ∙ e ∙ begins_rest line p k b)

pub some_more : {A : Type 0} (P Q : A → Type 0) (r : Option A) → ((x : A) → P x → Q x) → IfSome r P → IfSome r Q
some_more P Q None f h = h
some_more P Q (Some x) f h = f x h

-- the word of a section tells it
keyword_at : ℕ → Keyword
keyword_at n = if nat_eq n 115 then Subgroup else (if nat_eq n 98 then Basis else (if nat_eq n 111 then Origin else Report))

first_of : List ℕ → ℕ
first_of [] = 0
first_of (b ∷ bs) = b

told : (k : Keyword) → keyword_at (first_of (word_of k)) ≡ k
unfolding keyword_at first_of
told Subgroup = refl
told Basis = refl
told Origin = refl
told Report = refl

pub begins_unique : (line : List ℕ) (j k : Keyword) → Begins j line → Begins k line → j ≡ k
begins_unique line j k b c =
    let p = parted line in
    let same : word_of j ≡ word_of k = words_apart (word_of j) (word_of k) b.behind c.behind (word_no_blank j) (word_no_blank k) b.ends c.ends (sym (begins_rest line p j b) ∙ begins_rest line p k c) in
    sym (told j) ∙ ap (λ w. keyword_at (first_of w)) same ∙ told k

not_hash : (b : ℕ) → 35 < b → (bs : List ℕ) → ((b ∷ bs) ≡ []) ⊎ (b ≡ 35) → ⊥
not_hash b lt bs (inl e) = cc
not_hash b lt bs (inr e) = omega (arith, lt, e)

skipped_first : (k : Keyword) (behind : List ℕ) → ((word_of k ++ behind) ≡ []) ⊎ BeginsWith 35 (word_of k ++ behind) → ⊥
skipped_first Subgroup behind h = not_hash 115 (omega arith) (codes "ubgroup" ++ behind) h
skipped_first Basis behind h = not_hash 98 (omega arith) (codes "asis" ++ behind) h
skipped_first Origin behind h = not_hash 111 (omega arith) (codes "rigin" ++ behind) h
skipped_first Report behind h = not_hash 114 (omega arith) (codes "eport" ++ behind) h

pub skipped_or_begins : (line : List ℕ) (k : Keyword) → IsSkipped line → Begins k line → ⊥
skipped_or_begins line k s b =
    let p = parted line in
    skipped_first k b.behind (subst (λ r. (r ≡ []) ⊎ BeginsWith 35 r) (begins_rest line p k b) ((skipped-rest line p).1 s))

pub sort_unique : (line : List ℕ) (a b : LineSort) → IsOfSort line a → IsOfSort line b → a ≡ b
sort_unique line skipped skipped f g = refl
sort_unique line skipped triplet f g = absurd (g.0 f)
sort_unique line skipped (section k) f g = absurd (skipped_or_begins line k f g)
sort_unique line triplet skipped f g = absurd (f.0 g)
sort_unique line triplet triplet f g = refl
sort_unique line triplet (section k) f g = absurd (f.1 k g)
sort_unique line (section j) skipped f g = absurd (skipped_or_begins line j g f)
sort_unique line (section j) triplet f g = absurd (g.1 j f)
sort_unique line (section j) (section k) f g = ap section (begins_unique line j k f g)
