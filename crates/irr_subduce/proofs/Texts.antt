-- The text from its parts.
--   mapped_step                         one more item, mapped
--   head_parts, rep_parts, part_parts   the parts of lines
--   end_parts                           the line of an entry and those of its parts
use Rattle.std.proofs.Common.{◌≡◌, sym, ◌∙◌, ap, ℕ, ◌+◌, ◌<◌, List, [], ◌∷◌, ◌++◌, append_assoc, length, get_or, map, take}
use Rattle.std.specs.Prelude.{codes}
use Rattle.std.specs.List.{flat_map}
use Rattle.std.proofs.lemmas.List.{flat_map_more, map-append, take_more}
use Rattle.irr_text.specs.ReportText.{line, next_word}

pub mapped_step : {A B : Type 0} (f : B → List ℕ) (g : A → B) (before text : List ℕ) (xs : List A) (i : ℕ) (x : A)
    → i < length xs → x ≡ get_or xs i x → text ≡ before ++ flat_map f (map g (take i xs))
    → text ++ f (g x) ≡ before ++ flat_map f (map g (take (i + 1) xs))
mapped_step f g before text xs i x lt is t = ap (λ u. u ++ f (g x)) t ∙ flat_map_more f before (map g (take i xs)) (g x)
    ∙ ap (λ ys. before ++ flat_map f ys) (sym (map-append g (take i xs) (x ∷ []))
    ∙ ap (map g) (ap (λ y. take i xs ++ y ∷ []) is ∙ sym (take_more xs i x lt)))

head_regroup : (before a o n b k : List ℕ) → before ++ (a ++ (o ++ (n ++ (b ++ (k ++ n)))))
    ≡ (before ++ ((a ++ o) ++ n)) ++ ((b ++ k) ++ n)
head_regroup before a o n b k = simp append_assoc

pub head_parts : (before o k : List ℕ) → before ++ (codes "order " ++ (o ++ (codes "\nwave " ++ (k ++ codes "\n"))))
    ≡ (before ++ line (codes "order" ++ next_word o)) ++ line (codes "wave" ++ next_word k)
head_parts before o k = head_regroup before (codes "order ") o (10 ∷ []) (codes "wave ") k

rep_regroup : (before p a r n f : List ℕ) → before ++ (p ++ (a ++ (r ++ (n ++ f)))) ≡ before ++ ((((p ++ a) ++ r) ++ n) ++ f)
rep_regroup before p a r n f = simp append_assoc

pub rep_parts : (before a n : List ℕ) → before ++ (codes "rep S" ++ (a ++ (codes " dim " ++ (n ++ codes "\n"))))
    ≡ before ++ line (codes "rep" ++ next_word (83 ∷ a) ++ next_word (codes "dim") ++ next_word n)
rep_parts before a n = rep_regroup before (codes "rep S") a (codes " dim") (next_word n) (10 ∷ [])

part_regroup : (before a w b l c m e d f : List ℕ)
    → before ++ (a ++ (w ++ (b ++ (l ++ (c ++ (m ++ (e ++ (d ++ f))))))))
    ≡ before ++ (((((a ++ w) ++ (b ++ l)) ++ (c ++ m)) ++ (e ++ d)) ++ f)
part_regroup before a w b l c m e d f = simp append_assoc

pub part_parts : (before w l m d : List ℕ)
    → before ++ (codes "part " ++ (w ++ (codes " S" ++ (l ++ (codes " " ++ (m ++ (codes " " ++ (d ++ codes "\n"))))))))
    ≡ before ++ line (codes "part" ++ next_word w ++ next_word (83 ∷ l) ++ next_word m ++ next_word d)
part_parts before w l m d = part_regroup before (codes "part ") w (codes " S") l (codes " ") m (codes " ") d (10 ∷ [])

pub end_parts : (before rep parts : List ℕ) → (before ++ rep) ++ parts ≡ before ++ (rep ++ parts)
end_parts before rep parts = append_assoc before rep parts
