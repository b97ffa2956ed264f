-- The line subgroup.
--   subgroup_alone         no other word follows
--   subgroup_place         where one follows, the line leaves the grammar
use Rattle.std.proofs.Common.{◌≡◌, ◌≢◌, refl, sym, ◌∙◌, ap, subst, ℕ, zero, suc, ◌+◌, ◌≤◌, ◌<◌, List, [], ◌∷◌, ◌++◌, length, length-append, take, append_assoc, append-nil, ◌⊎◌, inl, inr, codes, arith}
use Rattle.std.proofs.lemmas.List.{append_cancel_left}
use Rattle.irr_grammar.specs.ShapePlace.{BeginsIn}
use Rattle.irr_token.specs.declared.kind.Kind.TheVariants.{Blank}
use Rattle.irr_token.specs.Kinds.{AreBlanks, kind_of}
use Rattle.irr_token.specs.Reading.{BeginsWithBlank}
use Rattle.irr_token.proofs.Blanks.{blanks_unique}
use Rattle.irr_input.specs.declared.keyword.Keyword.TheVariants.{Subgroup}
use Rattle.irr_input.specs.declared.input.Reason.TheVariants.{Shape}
use Rattle.irr_input.specs.SectionLines.{Begins, IsSubgroupText, HasSubgroupFault}
use Rattle.irr_input.proofs.SkippedLines.{IsParted}
use Rattle.irr_input.proofs.SectionWords.{no_blank_first}

pub subgroup_alone : (line : List ℕ) (b : Begins Subgroup line) (q : IsParted b.behind) → q.rest ≡ [] → IsSubgroupText line
subgroup_alone line b q e = record {
  before = b.blanks;
  behind = b.behind;
  are_blanks = (b.are_blanks, subst AreBlanks (sym (q.joins ∙ ap (λ l. q.blanks ++ l) e ∙ append-nil q.blanks)) q.are_blanks);
  spelled = b.spelled;
}

blank_inside : (middle : List ℕ) (t : ℕ) (us : List ℕ) → AreBlanks (middle ++ t ∷ us) → kind_of t ≡ Blank
blank_inside [] t us a = a.0
blank_inside (x ∷ middle) t us a = blank_inside middle t us a.1

not_text : (blanks middle : List ℕ) (t : ℕ) (us : List ℕ) → AreBlanks blanks → kind_of t ≢ Blank → IsSubgroupText (blanks ++ (codes "subgroup" ++ (middle ++ t ∷ us))) → ⊥
not_text blanks middle t us are other text =
    let word : codes "subgroup" ++ text.behind ≡ codes "subgroup" ++ (middle ++ t ∷ us) =
    (blanks_unique text.before blanks (codes "subgroup" ++ text.behind) (codes "subgroup" ++ (middle ++ t ∷ us)) text.are_blanks.0 are (no_blank_first Subgroup text.behind)
    (no_blank_first Subgroup (middle ++ t ∷ us)) (sym text.spelled)).1 in
    other (blank_inside middle t us (subst AreBlanks (append_cancel_left (codes "subgroup") text.behind (middle ++ t ∷ us) word) text.are_blanks.1))

regroup : (blanks word middle tail : List ℕ) → blanks ++ (word ++ (middle ++ tail)) ≡ (blanks ++ (word ++ middle)) ++ tail
regroup blanks word middle tail = ap (λ l. blanks ++ l) (sym (append_assoc word middle tail)) ∙ sym (append_assoc blanks (word ++ middle) tail)

take_front : (front tail : List ℕ) → take (length front) (front ++ tail) ≡ front
take_front [] tail = refl
take_front (x ∷ front) tail = ap (λ l. x ∷ l) (take_front front tail)

take_more : (front : List ℕ) (t : ℕ) (ts : List ℕ) (m : ℕ) → length front < m → (us : List ℕ) × (take m (front ++ t ∷ ts) ≡ front ++ t ∷ us)
take_more [] t ts zero lt = absurd (omega (arith, lt))
take_more [] t ts (suc m) lt = (take m ts, refl)
take_more (x ∷ front) t ts zero lt = absurd (omega (arith, lt))
take_more (x ∷ front) t ts (suc m) lt = let r = take_more front t ts m (omega (arith, lt)) in (r.0, ap (λ l. x ∷ l) r.1)

below_or : (m n : ℕ) → (m ≤ n) ⊎ (n < m)
below_or zero n = inl (omega arith)
below_or (suc m) zero = inr (omega arith)
below_or (suc m) (suc n) = elim (below_or m n) [ inl le ↦ inl (omega (arith, le)) | inr lt ↦ inr (omega (arith, lt)) ]

front_text : (blanks middle : List ℕ) → AreBlanks blanks → AreBlanks middle → IsSubgroupText (blanks ++ (codes "subgroup" ++ middle))
front_text blanks middle are more = record { before = blanks; behind = middle; are_blanks = (are, more); spelled = refl }

longest : (blanks middle : List ℕ) (t : ℕ) (ts : List ℕ) (m : ℕ) → AreBlanks blanks → kind_of t ≢ Blank
    → BeginsIn IsSubgroupText (take m ((blanks ++ (codes "subgroup" ++ middle)) ++ t ∷ ts)) → m ≤ length (blanks ++ (codes "subgroup" ++ middle))
longest blanks middle t ts m are other h = elim (below_or m (length (blanks ++ (codes "subgroup" ++ middle)))) [
  | inl le ↦ le
  | inr lt ↦
      let front : List ℕ = blanks ++ (codes "subgroup" ++ middle) in
      let s = take_more front t ts m lt in
      let whole : take m (front ++ t ∷ ts) ++ h.0 ≡ blanks ++ (codes "subgroup" ++ (middle ++ t ∷ (s.0 ++ h.0))) =
      ap (λ l. l ++ h.0) s.1 ∙ append_assoc front (t ∷ s.0) h.0 ∙ sym (regroup blanks (codes "subgroup") middle (t ∷ (s.0 ++ h.0))) in
      absurd (not_text blanks middle t (s.0 ++ h.0) are other (subst IsSubgroupText whole h.1))
]

leaves : (blanks middle : List ℕ) (t : ℕ) (ts : List ℕ) → AreBlanks blanks → AreBlanks middle → kind_of t ≢ Blank
    → HasSubgroupFault ((blanks ++ (codes "subgroup" ++ middle)) ++ t ∷ ts) (Shape (length (blanks ++ (codes "subgroup" ++ middle))))
leaves blanks middle t ts are more other =
    let front : List ℕ = blanks ++ (codes "subgroup" ++ middle) in (
      λ text. not_text blanks middle t ts are other (subst IsSubgroupText (sym (regroup blanks (codes "subgroup") middle (t ∷ ts))) text),
      length front,
      record {
        within = (let l : length (front ++ t ∷ ts) ≡ length front + length (t ∷ ts) = length-append front (t ∷ ts) in omega (arith, l));
        begins = ([], subst IsSubgroupText (sym (append-nil (take (length front) (front ++ t ∷ ts)) ∙ take_front front (t ∷ ts))) (front_text blanks middle are more));
        longest = λ m le h. longest blanks middle t ts m are other h;
      },
      refl,
    )

with_tail : (line blanks middle tail : List ℕ) (place : ℕ) → AreBlanks blanks → AreBlanks middle → ¬ (BeginsWithBlank tail) → (tail ≡ [] → ⊥) → line ≡ blanks ++ (codes "subgroup" ++ (middle ++ tail))
    → place ≡ length (blanks ++ (codes "subgroup" ++ middle)) → HasSubgroupFault line (Shape place)
with_tail line blanks middle [] place are more other some e p = absurd (some refl)
with_tail line blanks middle (t ∷ ts) place are more other some e p =
    subst (λ k. HasSubgroupFault line (Shape k)) (sym p)
    (subst (λ l. HasSubgroupFault l (Shape (length (blanks ++ (codes "subgroup" ++ middle))))) (sym (e ∙ regroup blanks (codes "subgroup") middle (t ∷ ts))) (leaves blanks middle t ts are more other))

front_length : (blanks middle : List ℕ) → length (blanks ++ (codes "subgroup" ++ middle)) ≡ length blanks + 8 + length middle
front_length blanks middle =
    let a : length (blanks ++ (codes "subgroup" ++ middle)) ≡ length blanks + length (codes "subgroup" ++ middle) = length-append blanks (codes "subgroup" ++ middle) in
    let b : length (codes "subgroup" ++ middle) ≡ 8 + length middle = length-append (codes "subgroup") middle in
    omega (arith, a, b)

pub subgroup_place : (line : List ℕ) (b : Begins Subgroup line) (q : IsParted b.behind) (place : ℕ) → (q.rest ≡ [] → ⊥) → place ≡ length b.blanks + 8 + length q.blanks
    → HasSubgroupFault line (Shape place)
subgroup_place line b q place some e =
    with_tail line b.blanks q.blanks q.rest place b.are_blanks q.are_blanks q.no_blank some (b.spelled ∙ ap (λ l. b.blanks ++ (codes "subgroup" ++ l)) q.joins)
    (e ∙ sym (front_length b.blanks q.blanks))

pub word_length : (behind : List ℕ) → 8 ≤ length (codes "subgroup" ++ behind)
word_length behind = let b : length (codes "subgroup" ++ behind) ≡ 8 + length behind = length-append (codes "subgroup") behind in omega (arith, b)
