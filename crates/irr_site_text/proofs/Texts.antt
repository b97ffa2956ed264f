-- The text from its parts.
--   row_is                                         a point as a row
--   first_parts, site_parts, family_parts, displacement_parts, part_parts    the parts of lines
--   counted_parts                                  a number of items, and the items
--   end_parts                                      a line, and those of parts
use Rattle.std.proofs.Common.{◌≡◌, refl, sym, ◌∙◌, ap, ap₂, ℕ, ℤ, suc, List, [], ◌∷◌, ◌++◌, append_assoc, length, map}
use Rattle.std.proofs.lemmas.List.{length-map}
use Rattle.std.specs.Prelude.{codes}
use Rattle.std.specs.Fmt.{decimal}
use Rattle.irr_rat.specs.VectorMeaning.{vector_of}
use Rattle.irr_kvec.specs.WaveMeaning.{wave_of}
use Rattle.irr_text.specs.ReportText.{line, next_word}
use Rattle.irr_report.specs.Printed.{numbered}
use Rattle.irr_site_text.specs.SiteText.{as_row}

pub row_is : (num : List ℤ) (den : ℕ) → wave_of num den ≡ as_row (vector_of num den)
unfolding wave_of vector_of as_row
row_is num den = refl

first_regroup : (before a o n b k c x : List ℕ) → before ++ (a ++ (o ++ (n ++ (b ++ (k ++ (n ++ (c ++ (x ++ n))))))))
    ≡ before ++ ((((a ++ o) ++ n) ++ ((b ++ k) ++ n)) ++ ((c ++ x) ++ n))
first_regroup before a o n b k c x = simp append_assoc

pub first_parts : (before o k x : List ℕ)
    → before ++ (codes "order " ++ (o ++ (codes "\nwave " ++ (k ++ (codes "\npoint " ++ (x ++ codes "\n"))))))
    ≡ before ++ (line (codes "order" ++ next_word o) ++ line (codes "wave" ++ next_word k) ++ line (codes "point" ++ next_word x))
first_parts before o k x = first_regroup before (codes "order ") o (10 ∷ []) (codes "wave ") k (codes "point ") x

site_regroup : (before a k b x n : List ℕ) → before ++ (a ++ (k ++ (b ++ (x ++ n)))) ≡ before ++ (((a ++ k) ++ (b ++ x)) ++ n)
site_regroup before a k b x n = simp append_assoc

pub site_parts : (before k x : List ℕ) → before ++ (codes "site " ++ (k ++ (codes " " ++ (x ++ codes "\n"))))
    ≡ before ++ line (codes "site" ++ next_word k ++ next_word x)
site_parts before k x = site_regroup before (codes "site ") k (codes " ") x (10 ∷ [])

family_regroup : (before a k b d n : List ℕ) → before ++ (a ++ (k ++ (b ++ (d ++ n)))) ≡ before ++ ((((a ++ k) ++ b) ++ d) ++ n)
family_regroup before a k b d n = simp append_assoc

pub family_parts : (before k d : List ℕ) → before ++ (codes "rep T" ++ (k ++ (codes " dim " ++ (d ++ codes "\n"))))
    ≡ before ++ line (codes "rep" ++ next_word (84 ∷ k) ++ next_word (codes "dim") ++ next_word d)
family_parts before k d = family_regroup before (codes "rep T") k (codes " dim") (next_word d) (10 ∷ [])

displacement_regroup : (before a d n : List ℕ) → before ++ (a ++ (d ++ n)) ≡ before ++ ((a ++ d) ++ n)
displacement_regroup before a d n = simp append_assoc

pub displacement_parts : (before d : List ℕ) → before ++ (codes "displace dim " ++ (d ++ codes "\n"))
    ≡ before ++ line (codes "displace" ++ next_word (codes "dim") ++ next_word d)
displacement_parts before d = displacement_regroup before (codes "displace dim ") d (10 ∷ [])

part_regroup : (before a l b m c d n : List ℕ) → before ++ (a ++ (l ++ (b ++ (m ++ (c ++ (d ++ n))))))
    ≡ before ++ ((((a ++ l) ++ (b ++ m)) ++ (c ++ d)) ++ n)
part_regroup before a l b m c d n = simp append_assoc

pub part_parts : (before l m d : List ℕ) → before ++ (codes "part S" ++ (l ++ (codes " " ++ (m ++ (codes " " ++ (d ++ codes "\n"))))))
    ≡ before ++ line (codes "part" ++ next_word (83 ∷ l) ++ next_word m ++ next_word d)
part_parts before l m d = part_regroup before (codes "part S") l (codes " ") m (codes " ") d (10 ∷ [])

pub end_parts : (before head parts : List ℕ) → (before ++ head) ++ parts ≡ before ++ (head ++ parts)
end_parts before head parts = append_assoc before head parts

numbered-map : {A B : Type 0} (g : A → B) (f : ℕ → B → List ℕ) (k : ℕ) (xs : List A) → numbered (λ n x. f n (g x)) k xs
    ≡ numbered f k (map g xs)
unfolding numbered
numbered-map g f k [] = refl
numbered-map g f k (x ∷ xs) = ap (λ t. f k (g x) ++ t) (numbered-map g f (suc k) xs)

counted_regroup : (before word count n items : List ℕ) → (before ++ (word ++ (count ++ n))) ++ items
    ≡ before ++ (((word ++ count) ++ n) ++ items)
counted_regroup before word count n items = simp append_assoc

pub counted_parts : {A B : Type 0} (g : A → B) (f : ℕ → B → List ℕ) (before word : List ℕ) (xs : List A)
    → (before ++ (word ++ (decimal (length xs) ++ codes "\n"))) ++ numbered (λ k x. f k (g x)) 1 xs
    ≡ before ++ (((word ++ decimal (length (map g xs))) ++ 10 ∷ []) ++ numbered f 1 (map g xs))
counted_parts g f before word xs = counted_regroup before word (decimal (length xs)) (10 ∷ []) (numbered (λ k x. f k (g x)) 1 xs)
    ∙ ap (λ t. before ++ t) (ap₂ (λ n t. ((word ++ decimal n) ++ 10 ∷ []) ++ t) (sym (length-map xs g)) (numbered-map g f 1 xs))
