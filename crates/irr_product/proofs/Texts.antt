-- The text from its parts.
--   mapped_step                         one more item, mapped
--   head_parts, pair_parts, part_parts  the parts of lines
--   end_parts                           the line of a pair and those of its parts
use Rattle.std.proofs.Common.{◌≡◌, sym, ◌∙◌, ap, ℕ, ◌+◌, ◌<◌, List, [], ◌∷◌, ◌++◌, append_assoc, length, get_or, map, take}
use Rattle.std.specs.Prelude.{codes}
use Rattle.std.specs.List.{flat_map}
use Rattle.std.proofs.lemmas.List.{flat_map_more, map-append, take_more}
use Rattle.irr_text.specs.ReportText.{line, next_word}

pub mapped_step : {A B : Type 0} (f : B → List ℕ) (g : A → B) (before text : List ℕ) (xs : List A) (i : ℕ) (x : A)
    → i < length xs → x ≡ get_or xs i x → text ≡ before ++ flat_map f (map g (take i xs))
    → text ++ f (g x) ≡ before ++ flat_map f (map g (take (i + 1) xs))
mapped_step f g before text xs i x lt is t = ap (λ u. u ++ f (g x)) t ∙ flat_map_more f before (map g (take i xs)) (g x)
    ∙ ap (λ ys. before ++ flat_map f ys) (sym (map-append g (take i xs) (x ∷ []))
    ∙ ap (map g) (ap (λ y. take i xs ++ y ∷ []) is ∙ sym (take_more xs i x lt)))

head_regroup : (before a o n b k c l : List ℕ) → before ++ (a ++ (o ++ (n ++ (b ++ (k ++ (c ++ (l ++ n)))))))
    ≡ (before ++ ((a ++ o) ++ n)) ++ (((b ++ k) ++ (c ++ l)) ++ n)
head_regroup before a o n b k c l = simp append_assoc

pub head_parts : (before o k l : List ℕ)
    → before ++ (codes "order " ++ (o ++ (codes "\nwaves " ++ (k ++ (codes " " ++ (l ++ codes "\n"))))))
    ≡ (before ++ line (codes "order" ++ next_word o)) ++ line (codes "waves" ++ next_word k ++ next_word l)
head_parts before o k l = head_regroup before (codes "order ") o (10 ∷ []) (codes "waves ") k (codes " ") l

pair_regroup : (before p a q b r n f : List ℕ) → before ++ (p ++ (a ++ (q ++ (b ++ (r ++ (n ++ f))))))
    ≡ before ++ (((((p ++ a) ++ (q ++ b)) ++ r) ++ n) ++ f)
pair_regroup before p a q b r n f = simp append_assoc

pub pair_parts : (before a b n : List ℕ)
    → before ++ (codes "pair S" ++ (a ++ (codes " S" ++ (b ++ (codes " dim " ++ (n ++ codes "\n"))))))
    ≡ before ++ line (codes "pair" ++ next_word (83 ∷ a) ++ next_word (83 ∷ b) ++ next_word (codes "dim") ++ next_word n)
pair_parts before a b n = pair_regroup before (codes "pair S") a (codes " S") b (codes " dim") (next_word n) (10 ∷ [])

part_regroup : (before a w b l c m e d f : List ℕ)
    → before ++ (a ++ (w ++ (b ++ (l ++ (c ++ (m ++ (e ++ (d ++ f))))))))
    ≡ before ++ (((((a ++ w) ++ (b ++ l)) ++ (c ++ m)) ++ (e ++ d)) ++ f)
part_regroup before a w b l c m e d f = simp append_assoc

pub part_parts : (before w l m d : List ℕ)
    → before ++ (codes "part " ++ (w ++ (codes " S" ++ (l ++ (codes " " ++ (m ++ (codes " " ++ (d ++ codes "\n"))))))))
    ≡ before ++ line (codes "part" ++ next_word w ++ next_word (83 ∷ l) ++ next_word m ++ next_word d)
part_parts before w l m d = part_regroup before (codes "part ") w (codes " S") l (codes " ") m (codes " ") d (10 ∷ [])

pub end_parts : (before pair parts : List ℕ) → (before ++ pair) ++ parts ≡ before ++ (pair ++ parts)
end_parts before pair parts = append_assoc before pair parts
