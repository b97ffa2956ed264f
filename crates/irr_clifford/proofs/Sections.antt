-- Indices for an index l and one below f l, section by section.
use Rattle.std.proofs.Common.{◌≡◌, sym, ◌∙◌, ap, ap₂, refl, ℕ, zero, suc, ◌+◌, arith, zero-add, add-zero}
use mathlib.Core.Path.{fun_ext}
use Rattle.irr_algebra.specs.Fin.{Fin}
use Rattle.irr_algebra.specs.Fin.Fin.{first, next}
use Rattle.irr_algebra.specs.Pair.{plus, left, right, on_plus}
use Rattle.irr_theory.specs.Representations.{count_total}
use Rattle.irr_clifford.specs.Climb.{one_at, occurrences}

-- the lengths of the sections, added up
abbrev pub added : (n : ℕ) → (Fin n → ℕ) → ℕ
added zero f = zero
added (suc n) f = plus (f first) (added n (λ i. f (next i)))

-- the section and the place in it
unfoldable pub section_of : (n : ℕ) (f : Fin n → ℕ) → Fin (added n f) → (l : Fin n) × Fin (f l)
section_of zero f i = elim i [ ]
section_of (suc n) f i = on_plus {A = (l : Fin (suc n)) × Fin (f l)} (f first) (added n (λ l. f (next l))) (λ k. (first, k)) (λ j. (next (section_of n (λ l. f (next l)) j).0, (section_of n (λ l. f (next l)) j).1)) i

-- the index of the place k of the section l
unfoldable pub in_section : (n : ℕ) (f : Fin n → ℕ) (l : Fin n) → Fin (f l) → Fin (added n f)
in_section zero f l k = elim l [ ]
in_section (suc n) f first k = left (added n (λ l. f (next l))) k
in_section (suc n) f (next l) k = right (f first) (in_section n (λ l. f (next l)) l k)

on_plus-left : {A : Type 0} {m : ℕ} (n : ℕ) (f : Fin m → A) (g : Fin n → A) (i : Fin m) → on_plus m n f g (left n i) ≡ f i
unfolding on_plus left
on_plus-left n f g first = refl
on_plus-left n f g (next i) = on_plus-left n (λ x. f (next x)) g i

on_plus-right : {A : Type 0} (m : ℕ) {n : ℕ} (f : Fin m → A) (g : Fin n → A) (j : Fin n) → on_plus m n f g (right m j) ≡ g j
unfolding on_plus right
on_plus-right zero f g j = refl
on_plus-right (suc m) f g j = on_plus-right m (λ x. f (next x)) g j

-- a fact at the left and at the right indices
by_plus : (m n : ℕ) (P : Fin (plus m n) → Type 0) → ((i : Fin m) → P (left n i)) → ((j : Fin n) → P (right m j)) → (k : Fin (plus m n)) → P k
unfolding left right
by_plus zero n P p q k = q k
by_plus (suc m) n P p q first = p first
by_plus (suc m) n P p q (next k) = by_plus m n (λ x. P (next x)) (λ i. p (next i)) q k

pub section_of-in : (n : ℕ) (f : Fin n → ℕ) (l : Fin n) (k : Fin (f l)) → section_of n f (in_section n f l k) ≡ (l, k)
unfolding section_of in_section
section_of-in zero f l k = elim l [ ]
section_of-in (suc n) f first k = on_plus-left (added n (λ l. f (next l))) _ _ k
section_of-in (suc n) f (next l) k =
    on_plus-right (f first) _ _ (in_section n (λ l. f (next l)) l k) ∙ ap (λ (s : (l : Fin n) × Fin (f (next l))). (next s.0, s.1)) (section_of-in n (λ l. f (next l)) l k)

pub in_section-of : (n : ℕ) (f : Fin n → ℕ) (i : Fin (added n f)) → in_section n f (section_of n f i).0 (section_of n f i).1 ≡ i
unfolding section_of in_section
in_section-of zero f i = elim i [ ]
in_section-of (suc n) f i = by_plus (f first) (added n (λ l. f (next l))) (λ i. in_section (suc n) f (section_of (suc n) f i).0 (section_of (suc n) f i).1 ≡ i)
    (λ k. ap (λ (s : (l : Fin (suc n)) × Fin (f l)). in_section (suc n) f s.0 s.1) (on_plus-left {A = (l : Fin (suc n)) × Fin (f l)} (added n (λ l. f (next l))) (λ k. (first, k)) (λ j. (next (section_of n (λ l. f (next l)) j).0, (section_of n (λ l. f (next l)) j).1)) k))
    (λ j. ap (λ (s : (l : Fin (suc n)) × Fin (f l)). in_section (suc n) f s.0 s.1) (on_plus-right {A = (l : Fin (suc n)) × Fin (f l)} (f first) (λ k. (first, k)) (λ j. (next (section_of n (λ l. f (next l)) j).0, (section_of n (λ l. f (next l)) j).1)) j)
    ∙ ap (right (f first)) (in_section-of n (λ l. f (next l)) j)) i

count_total-plus : (m n : ℕ) (g : Fin (plus m n) → ℕ) → count_total (plus m n) g ≡ count_total m (λ i. g (left n i)) + count_total n (λ j. g (right m j))
unfolding count_total left right
count_total-plus zero n g = sym (zero-add (count_total n g))
count_total-plus (suc m) n g = let h = count_total-plus m n (λ i. g (next i)) in omega arith

count_total-same : (n : ℕ) (g : Fin n → ℕ) → ((i : Fin n) → g i ≡ 1) → count_total n g ≡ n
unfolding count_total
count_total-same zero g h = refl
count_total-same (suc n) g h = let k = count_total-same n (λ i. g (next i)) (λ i. h (next i)) in let e = h first in omega arith

count_total-none : (n : ℕ) (g : Fin n → ℕ) → ((i : Fin n) → g i ≡ 0) → count_total n g ≡ 0
unfolding count_total
count_total-none zero g h = refl
count_total-none (suc n) g h = let k = count_total-none n (λ i. g (next i)) (λ i. h (next i)) in let e = h first in omega arith

-- the section of a place at the left, and at the right
section-left : (n : ℕ) (f : Fin (suc n) → ℕ) (k : Fin (f first)) → (section_of (suc n) f (left (added n (λ l. f (next l))) k)).0 ≡ first
unfolding section_of
section-left n f k = ap (λ (s : (l : Fin (suc n)) × Fin (f l)). s.0) (on_plus-left {A = (l : Fin (suc n)) × Fin (f l)} (added n (λ l. f (next l))) (λ k. (first, k)) (λ j. (next (section_of n (λ l. f (next l)) j).0, (section_of n (λ l. f (next l)) j).1)) k)

section-right : (n : ℕ) (f : Fin (suc n) → ℕ) (j : Fin (added n (λ l. f (next l)))) → (section_of (suc n) f (right (f first) j)).0 ≡ next (section_of n (λ l. f (next l)) j).0
unfolding section_of
section-right n f j = ap (λ (s : (l : Fin (suc n)) × Fin (f l)). s.0) (on_plus-right {A = (l : Fin (suc n)) × Fin (f l)} (f first) (λ k. (first, k)) (λ j. (next (section_of n (λ l. f (next l)) j).0, (section_of n (λ l. f (next l)) j).1)) j)

-- each section is met as often as it is long
pub occurrences-section : (n : ℕ) (f : Fin n → ℕ) (l : Fin n) → occurrences (λ i. (section_of n f i).0) l ≡ f l
unfolding occurrences one_at
occurrences-section zero f l = elim l [ ]
occurrences-section (suc n) f first =
    count_total-plus (f first) (added n (λ l. f (next l))) (λ i. one_at (section_of (suc n) f i).0 first)
    ∙ ap₂ ◌+◌ (count_total-same (f first) (λ k. one_at (section_of (suc n) f (left (added n (λ l. f (next l))) k)).0 first) (λ k. ap (λ x. one_at x first) (section-left n f k)))
    (count_total-none (added n (λ l. f (next l))) (λ j. one_at (section_of (suc n) f (right (f first) j)).0 first) (λ j. ap (λ x. one_at x first) (section-right n f j)))
    ∙ add-zero (f first)
occurrences-section (suc n) f (next l) =
    count_total-plus (f first) (added n (λ l. f (next l))) (λ i. one_at (section_of (suc n) f i).0 (next l))
    ∙ ap₂ ◌+◌ (count_total-none (f first) (λ k. one_at (section_of (suc n) f (left (added n (λ l. f (next l))) k)).0 (next l)) (λ k. ap (λ x. one_at x (next l)) (section-left n f k)))
    (ap (count_total (added n (λ l. f (next l)))) (fun_ext (λ j. ap (λ x. one_at x (next l)) (section-right n f j))) ∙ occurrences-section n (λ l. f (next l)) l)
    ∙ zero-add (f (next l))
