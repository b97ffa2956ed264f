-- Texts one after another: over places, over numbers, and over lists.
--   pieces-below          pieces over places are those over numbers
--   pieces_below-rows     r rows of c pieces are r * c pieces
--   pieces_below-list     pieces of the items of a list
--   pieces-numbered       pieces of the numbered items of a list
--   flat_map_step, numbered_step, rows_step     one more item, and one more row of items
--   row_item              the item at a row and a column
use Rattle.std.proofs.Common.{◌≡◌, sym, ◌∙◌, ap, ap₂, subst, refl, ℕ, zero, suc, ◌+◌, ◌*◌, ◌<◌, List, [], ◌∷◌, ◌++◌, append-nil, append_assoc, length, length-drop, ◌-◌, get_or, take, drop, Some, zero-mul, suc-mul, arith}
use Rattle.std.specs.List.{flat_map}
use Rattle.std.specs.Prelude.{slice_get}
use Rattle.std.proofs.Math.Seq.{take-add}
use Rattle.std.proofs.lemmas.List.{flat_map_more, take_more, length-take-le, get_or-drop}
use Rattle.std.proofs.lemmas.List.Concat.{flat_map-append}
use Rattle.std.proofs.lemmas.Option.{get_or_from_slice_get, slice_get_within}
use Rattle.irr_algebra.specs.Fin.{Fin, to_nat}
use Rattle.irr_algebra.specs.Fin.Fin.{first, next}
use Rattle.irr_text.specs.NumberText.{pieces_below}
use Rattle.irr_text.specs.ReportText.{pieces}
use Rattle.irr_report.specs.Printed.{numbered}

-- the same pieces
pub pieces-same : (n : ℕ) (f g : Fin n → List ℕ) → ((i : Fin n) → f i ≡ g i) → pieces n f ≡ pieces n g
unfolding pieces
pieces-same zero f g e = refl
pieces-same (suc n) f g e = ap₂ (λ x y. x ++ y) (e first) (pieces-same n (λ i. f (next i)) (λ i. g (next i)) (λ i. e (next i)))

pieces_below-suc : (n : ℕ) (f : ℕ → List ℕ) → pieces_below (suc n) f ≡ f 0 ++ pieces_below n (λ k. f (suc k))
unfolding pieces_below
pieces_below-suc zero f = sym (append-nil (f 0))
pieces_below-suc (suc n) f = ap (λ x. x ++ f (suc n)) (pieces_below-suc n f) ∙ append_assoc (f 0) (pieces_below n (λ k. f (suc k))) (f (suc n))

pub pieces-below : (n : ℕ) (f : ℕ → List ℕ) → pieces n (λ i. f (to_nat i)) ≡ pieces_below n f
unfolding pieces pieces_below to_nat
pieces-below zero f = refl
pieces-below (suc n) f = ap (λ x. f 0 ++ x) (pieces-below n (λ k. f (suc k))) ∙ sym (pieces_below-suc n f)

plus_zero : (m : ℕ) → m + 0 ≡ m
plus_zero m = omega arith

plus_suc : (m n : ℕ) → m + suc n ≡ suc (m + n)
plus_suc m n = omega arith

moved_suc : (m n : ℕ) → m + suc n ≡ suc m + n
moved_suc m n = omega arith

plus_one : (n : ℕ) → suc n ≡ n + 1
plus_one n = omega arith

one_plus : (n : ℕ) → suc n ≡ 1 + n
one_plus n = omega arith

pieces_below-add : (m n : ℕ) (f : ℕ → List ℕ) → pieces_below (m + n) f ≡ pieces_below m f ++ pieces_below n (λ k. f (m + k))
unfolding pieces_below
pieces_below-add m zero f = ap (λ k. pieces_below k f) (plus_zero m) ∙ sym (append-nil (pieces_below m f))
pieces_below-add m (suc n) f = ap (λ k. pieces_below k f) (plus_suc m n) ∙ ap (λ x. x ++ f (m + n)) (pieces_below-add m n f)
    ∙ append_assoc (pieces_below m f) (pieces_below n (λ k. f (m + k))) (f (m + n))

rows_below : (r c : ℕ) (f : ℕ → List ℕ) → pieces_below r (λ a. pieces_below c (λ b. f (a * c + b))) ≡ pieces_below (r * c) f
unfolding pieces_below
rows_below zero c f = ap (λ n. pieces_below n f) (sym (zero-mul c))
rows_below (suc r) c f = ap (λ x. x ++ pieces_below c (λ b. f (r * c + b))) (rows_below r c f) ∙ sym (pieces_below-add (r * c) c f)
    ∙ ap (λ n. pieces_below n f) (sym (suc-mul r c))

-- r rows of c pieces
pub pieces-rows : (r c : ℕ) (f : ℕ → List ℕ) → pieces r (λ a. pieces c (λ b. f (to_nat a * c + to_nat b))) ≡ pieces_below (r * c) f
pieces-rows r c f = pieces-same r _ _ (λ a. pieces-below c (λ b. f (to_nat a * c + b)))
    ∙ pieces-below r (λ a. pieces_below c (λ b. f (a * c + b))) ∙ rows_below r c f

-- one more item
pub flat_map_step : {A : Type 0} (f : A → List ℕ) (before text : List ℕ) (xs : List A) (i : ℕ) (x : A) → i < length xs → x ≡ get_or xs i x
    → text ≡ before ++ flat_map f (take i xs) → text ++ f x ≡ before ++ flat_map f (take (i + 1) xs)
flat_map_step f before text xs i x lt is t = ap (λ u. u ++ f x) t ∙ flat_map_more f before (take i xs) x
    ∙ ap (λ y. before ++ flat_map f (take i xs ++ y ∷ [])) is ∙ ap (λ ys. before ++ flat_map f ys) (sym (take_more xs i x lt))

-- pieces of the items of a list
pub pieces_below-list : {A : Type 0} (g : A → List ℕ) (xs : List A) (f : ℕ → List ℕ)
    → ((k : ℕ) (x : A) → k < length xs → x ≡ get_or xs k x → f k ≡ g x) → pieces_below (length xs) f ≡ flat_map g xs
unfolding pieces_below
pieces_below-list g [] f e = refl
pieces_below-list g (x ∷ xs) f e = pieces_below-suc (length xs) f
    ∙ ap₂ (λ u v. u ++ v) (e 0 x (omega arith) refl) (pieces_below-list g xs (λ k. f (suc k)) (λ k y lt is. e (suc k) y (omega arith) is))

pub pieces-list : {A : Type 0} (g : A → List ℕ) (xs : List A) (n : ℕ) (f : ℕ → List ℕ) → n ≡ length xs
    → ((k : ℕ) (x : A) → k < length xs → x ≡ get_or xs k x → f k ≡ g x) → pieces n (λ i. f (to_nat i)) ≡ flat_map g xs
pieces-list g xs n f e same = pieces-below n f ∙ ap (λ m. pieces_below m f) e ∙ pieces_below-list g xs f same

-- pieces of the numbered items of a list
numbered_from : {A : Type 0} (g : ℕ → A → List ℕ) (s : ℕ) (xs : List A) (f : Fin (length xs) → List ℕ)
    → ((i : Fin (length xs)) (x : A) → to_nat i < length xs → x ≡ get_or xs (to_nat i) x → f i ≡ g (s + to_nat i) x)
    → pieces (length xs) f ≡ numbered g s xs
unfolding pieces numbered to_nat
numbered_from g s [] f e = refl
numbered_from g s (x ∷ xs) f e = ap₂ (λ u v. u ++ v) (e first x (omega arith) refl ∙ ap (λ n. g n x) (plus_zero s))
    (numbered_from g (suc s) xs (λ i. f (next i)) (λ i y lt is. e (next i) y (omega arith) is ∙ ap (λ n. g n y) (moved_suc s (to_nat i))))

pub pieces-numbered : {A : Type 0} (g : ℕ → A → List ℕ) (xs : List A) (n : ℕ) → length xs ≡ n → (f : Fin n → List ℕ)
    → ((i : Fin n) (x : A) → to_nat i < length xs → x ≡ get_or xs (to_nat i) x → f i ≡ g (suc (to_nat i)) x) → pieces n f ≡ numbered g 1 xs
pieces-numbered {A = A} g xs n e = subst (λ m. (f : Fin m → List ℕ)
    → ((i : Fin m) (x : A) → to_nat i < length xs → x ≡ get_or xs (to_nat i) x → f i ≡ g (suc (to_nat i)) x) → pieces m f ≡ numbered g 1 xs) e
    (λ f same. numbered_from g 1 xs f (λ i x lt is. same i x lt is ∙ ap (λ m. g m x) (one_plus (to_nat i))))

numbered-append : {A : Type 0} (g : ℕ → A → List ℕ) (s : ℕ) (xs : List A) (x : A)
    → numbered g s (xs ++ x ∷ []) ≡ numbered g s xs ++ g (s + length xs) x
unfolding numbered
numbered-append g s [] x = append-nil (g s x) ∙ ap (λ n. g n x) (sym (plus_zero s))
numbered-append g s (y ∷ xs) x = ap (λ u. g s y ++ u) (numbered-append g (suc s) xs x
    ∙ ap (λ n. numbered g (suc s) xs ++ g n x) (sym (moved_suc s (length xs))))
    ∙ sym (append_assoc (g s y) (numbered g (suc s) xs) (g (s + suc (length xs)) x))

pub numbered_step : {A : Type 0} (g : ℕ → A → List ℕ) (before text : List ℕ) (xs : List A) (i : ℕ) (x : A) → i < length xs → x ≡ get_or xs i x
    → text ≡ before ++ numbered g 1 (take i xs) → text ++ g (i + 1) x ≡ before ++ numbered g 1 (take (i + 1) xs)
numbered_step g before text xs i x lt is t = ap (λ u. u ++ g (i + 1) x) t ∙ append_assoc before (numbered g 1 (take i xs)) (g (i + 1) x)
    ∙ ap (λ u. before ++ u) (ap (λ n. numbered g 1 (take i xs) ++ g n x) (number) ∙ sym (numbered-append g 1 (take i xs) x)
    ∙ ap (λ y. numbered g 1 (take i xs ++ y ∷ [])) is ∙ ap (numbered g 1) (sym (take_more xs i x lt)))
  where
    number : i + 1 ≡ 1 + length (take i xs)
    number = let e : length (take i xs) ≡ i = length-take-le i xs (omega arith) in omega (arith, e)

-- one more row of c items
pub rows_step : {A : Type 0} (f : A → List ℕ) (before text : List ℕ) (xs : List A) (i c : ℕ) → text ≡ before ++ flat_map f (take (i * c) xs)
    → text ++ flat_map f (take c (drop (i * c) xs)) ≡ before ++ flat_map f (take ((i + 1) * c) xs)
rows_step f before text xs i c t = ap (λ u. u ++ flat_map f (take c (drop (i * c) xs))) t
    ∙ append_assoc before (flat_map f (take (i * c) xs)) (flat_map f (take c (drop (i * c) xs)))
    ∙ ap (λ u. before ++ u) (sym (flat_map-append f (take (i * c) xs) (take c (drop (i * c) xs))) ∙ ap (flat_map f) (sym (take-add (i * c) c xs))
    ∙ ap (λ k. flat_map f (take k xs)) (sym (suc-mul i c) ∙ ap (λ n. n * c) (plus_one i)))

-- the item at row i and column j is one of those after i rows
pub row_item : {A : Type 0} (xs : List A) (i c j : ℕ) (x : A) → slice_get xs (i * c + j) ≡ Some x
    → (j < length (drop (i * c) xs)) × (x ≡ get_or (drop (i * c) xs) j x)
row_item xs i c j x e = (
  (let lt : i * c + j < length xs = slice_get_within xs (i * c + j) x e in
      let l : length (drop (i * c) xs) ≡ length xs - i * c = length-drop (i * c) xs in omega arith),
  sym (get_or-drop (i * c) xs j x ∙ get_or_from_slice_get xs (i * c + j) x x e),
)

-- no item, and all
pub numbered_none : {A : Type 0} (g : ℕ → A → List ℕ) (before : List ℕ) → before ≡ before ++ numbered g 1 []
unfolding numbered
numbered_none g before = sym (append-nil before)
