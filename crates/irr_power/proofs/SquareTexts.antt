-- The texts of squares and of tensors from their parts.
--   head_parts, symmetric_parts, antisymmetric_parts, size_parts     the parts of lines
--   all_parts                    the lines of an entry
use Rattle.std.proofs.Common.{◌≡◌, ℕ, List, [], ◌∷◌, ◌++◌, append_assoc}
use Rattle.std.specs.Prelude.{codes}
use Rattle.irr_text.specs.ReportText.{line, next_word}

head_regroup : (before a o n b k : List ℕ) → before ++ (a ++ (o ++ (n ++ (b ++ (k ++ n)))))
    ≡ (before ++ ((a ++ o) ++ n)) ++ ((b ++ k) ++ n)
head_regroup before a o n b k = simp append_assoc

pub head_parts : (before o k : List ℕ)
    → before ++ (codes "order " ++ (o ++ (codes "\nwave " ++ (k ++ codes "\n"))))
    ≡ (before ++ line (codes "order" ++ next_word o)) ++ line (codes "wave" ++ next_word k)
head_parts before o k = head_regroup before (codes "order ") o (10 ∷ []) (codes "wave ") k

size_regroup : (before p a r n f : List ℕ) → before ++ (p ++ (a ++ (r ++ (n ++ f)))) ≡ before ++ ((((p ++ a) ++ r) ++ n) ++ f)
size_regroup before p a r n f = simp append_assoc

pub symmetric_parts : (before a n : List ℕ)
    → before ++ (codes "sym S" ++ (a ++ (codes " dim " ++ (n ++ codes "\n"))))
    ≡ before ++ line (codes "sym" ++ next_word (83 ∷ a) ++ next_word (codes "dim") ++ next_word n)
symmetric_parts before a n = size_regroup before (codes "sym S") a (codes " dim") (next_word n) (10 ∷ [])

pub antisymmetric_parts : (before a n : List ℕ)
    → before ++ (codes "anti S" ++ (a ++ (codes " dim " ++ (n ++ codes "\n"))))
    ≡ before ++ line (codes "anti" ++ next_word (83 ∷ a) ++ next_word (codes "dim") ++ next_word n)
antisymmetric_parts before a n = size_regroup before (codes "anti S") a (codes " dim") (next_word n) (10 ∷ [])

pub all_parts : (before sym symmetric anti antisymmetric : List ℕ)
    → (((before ++ sym) ++ symmetric) ++ anti) ++ antisymmetric ≡ before ++ (((sym ++ symmetric) ++ anti) ++ antisymmetric)
all_parts before sym symmetric anti antisymmetric = simp append_assoc

pub size_parts : (before o d : List ℕ)
    → before ++ (codes "order " ++ (o ++ (codes "\ndim " ++ (d ++ codes "\n"))))
    ≡ (before ++ line (codes "order" ++ next_word o)) ++ line (codes "dim" ++ next_word d)
size_parts before o d = head_regroup before (codes "order ") o (10 ∷ []) (codes "dim ") d
