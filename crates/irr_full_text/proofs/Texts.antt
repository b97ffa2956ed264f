-- The text from its parts.
--   pieces-times           pieces over pairs of indices are pieces of pieces
--   entries-blocks         the rows of a matrix of blocks
--   numbered-map           numbered texts of the images of items
--   head-parts, matrix-parts, representation-parts     the parts of lines
--   arm_inside, listed_item    the operation of an arm
use Rattle.std.proofs.Common.{◌≡◌, sym, ◌∙◌, ap, subst, refl, ℕ, zero, suc, ◌<◌, List, ◌∷◌, [], ◌++◌, append_assoc, length, map, get_or}
use Rattle.std.specs.Prelude.{codes}
use Rattle.std.proofs.lemmas.List.{get_or_default}
use Rattle.irr_algebra.specs.Fin.{Fin}
use Rattle.irr_algebra.specs.Fin.Fin.{first, next}
use Rattle.irr_algebra.specs.Matrix.{Matrix}
use Rattle.irr_algebra.specs.Pair.{times, plus, pair, left, right}
use Rattle.irr_number.specs.Number.{numbers}
use Rattle.irr_text.specs.ReportText.{pieces, line, next_word}
use Rattle.irr_seitz.specs.declared.op.Op.{Op}
use Rattle.irr_little.specs.declared.arms.Arm.{Arm}
use Rattle.irr_full.specs.Full.{block}
use Rattle.irr_report.specs.Printed.{numbered}
use Rattle.irr_report.proofs.LineTexts.{head_regroup}
use Rattle.irr_report.proofs.Pieces.{pieces-same}
use Rattle.irr_full_text.specs.Lines.{AreInList, number_word, row_text, entries_text}

pieces-plus : (m n : ℕ) (f : Fin (plus m n) → List ℕ) → pieces (plus m n) f ≡ pieces m (λ i. f (left n i))
    ++ pieces n (λ j. f (right m j))
unfolding pieces left right
pieces-plus zero n f = refl
pieces-plus (suc m) n f = ap (λ t. f first ++ t) (pieces-plus m n (λ i. f (next i)))
    ∙ sym (append_assoc (f first) (pieces m (λ i. f (next (left n i)))) (pieces n (λ j. f (next (right m j)))))

pub pieces-times : (m n : ℕ) (f : Fin (times m n) → List ℕ) → pieces (times m n) f
    ≡ pieces m (λ i. pieces n (λ j. f (pair n i j)))
unfolding pieces pair
pieces-times zero n f = refl
pieces-times (suc m) n f = pieces-plus n (times m n) f
    ∙ ap (λ t. pieces n (λ j. f (left (times m n) j)) ++ t) (pieces-times m n (λ j. f (right n j)))

pub entries-blocks : (M a d : ℕ) (m : Matrix (numbers M) (times a d) (times a d))
    → pieces a (λ i. pieces d (row_text M (block d m i))) ≡ entries_text M m
unfolding block
entries-blocks M a d m = sym (pieces-times a d (λ x. pieces (times a d) (λ y. number_word M (m.at x y)))
    ∙ pieces-same a (λ i. pieces d (λ r. pieces (times a d) (λ y. number_word M (m.at (pair d i r) y))))
    (λ i. pieces d (row_text M (block d m i)))
    (λ i. pieces-same d (λ r. pieces (times a d) (λ y. number_word M (m.at (pair d i r) y))) (row_text M (block d m i))
    (λ r. pieces-times a d (λ y. number_word M (m.at (pair d i r) y)))))

pub numbered-map : {A B : Type 0} (f : A → B) (g : ℕ → B → List ℕ) (k : ℕ) (xs : List A) → numbered g k (map f xs)
    ≡ numbered (λ n x. g n (f x)) k xs
unfolding numbered
numbered-map f g k [] = refl
numbered-map f g k (x ∷ xs) = ap (λ t. g k (f x) ++ t) (numbered-map f g (suc k) xs)

pub arm_inside : (ops : List Op) (arms : List Arm) → AreInList ops arms → (i : ℕ) (x : Arm) → i < length arms → x
    ≡ get_or arms i x
    → x.op < length ops
arm_inside ops arms all i x l is = subst (λ (y : Arm). y.op < length ops) (sym is) (all i x l)

pub listed_item : (ops : List Op) (n : ℕ) (g d : Op) → n < length ops → g ≡ get_or ops n g → g ≡ get_or ops n d
listed_item ops n g d l is = is ∙ get_or_default ops n g d l

pub head-parts : (w n a : List ℕ) → codes "full 1\nwave "
    ++ (w ++ (codes "\norder " ++ (n ++ (codes "\narms " ++ (a ++ codes "\n")))))
    ≡ line (codes "full 1") ++ line (codes "wave" ++ next_word w) ++ line (codes "order" ++ next_word n)
    ++ line (codes "arms" ++ next_word a)
head-parts w n a = head_regroup (codes "full 1\n") (codes "wave ") (codes "order ") (codes "arms ") (10 ∷ []) w n a

pub matrix-parts : (before k t : List ℕ) → ((before ++ (codes "mat " ++ k)) ++ t) ++ 10 ∷ [] ≡ before
    ++ line (codes "mat" ++ next_word k ++ t)
matrix-parts before k t = simp append_assoc

pub traces-parts : (before t : List ℕ) → ((before ++ codes "char") ++ t) ++ 10 ∷ [] ≡ before ++ line (codes "char" ++ t)
traces-parts before t = simp append_assoc

rep_regroup : (before r k d n l : List ℕ) → before ++ (r ++ (k ++ (d ++ (n ++ l)))) ≡ before
    ++ ((((r ++ k) ++ d) ++ n) ++ l)
rep_regroup before r k d n l = simp append_assoc

pub rep-parts : (before k n : List ℕ) → before ++ (codes "rep S" ++ (k ++ (codes " dim " ++ (n ++ codes "\n"))))
    ≡ before ++ line (codes "rep" ++ next_word (83 ∷ k) ++ next_word (codes "dim") ++ next_word n)
rep-parts before k n = rep_regroup before (codes "rep S") k (codes " dim") (next_word n) (10 ∷ [])

pub lines-parts : (before a b c : List ℕ) → ((before ++ a) ++ b) ++ c ≡ before ++ ((a ++ b) ++ c)
lines-parts before a b c = simp append_assoc
