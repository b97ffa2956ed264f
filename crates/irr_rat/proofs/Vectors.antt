-- Vectors of fractions over a common denominator.
--   component-vector_of, component-add, component-sub     components
--   vector-ext, entries_same                              vectors, and lists of three, are the same where their components are
--   vector_of-add, vector_of-sub                          sums and differences over the product of the denominators
--   fits_add, fits_sub, read_product                      products, their sums and their differences in 128 bits
--   widen, narrow_back, narrow_entries                    numbers of 64 bits in 128 bits and back
--   fits_narrowed                                         the form in lowest terms of a vector that fits
use Rattle.std.proofs.Common.{◌≡◌, sym, ◌∙◌, ap, ap₂, refl, ℕ, ◌<◌, ◌≤◌, ◌*◌, ◌^◌, List, [], ◌∷◌, get_or, ℤ, pos, ◌+ℤ◌, ◌-ℤ◌, ◌*ℤ◌, ◌≤ℤ◌, negsuc, neg_ℤ, unsigned_abs, FitsSigned, to_z, of_z, arith}
use Rattle.std.proofs.lemmas.Int.{ints, to_z-of_z}
use mathlib.Core.Path.{fun_ext}
use Rattle.std.specs.Int.{w64, w128}
use Rattle.irr_algebra.specs.Fin.{Fin, to_nat}
use Rattle.irr_algebra.specs.Fin.Fin.{first, next}
use Rattle.irr_algebra.specs.Matrix.{◌⊕◌, ◌⊖◌}
use Rattle.irr_algebra.proofs.Matrices.{matrix-ext}
use Rattle.irr_algebra.proofs.Rings.{neg-mul}
use Rattle.irr_number.specs.Integers.{integers}
use Rattle.irr_rational.specs.Rational.{rationals, ratio}
use Rattle.irr_rational.specs.Ratio.{entry, ratios}
use Rattle.irr_rational.proofs.Ratios.{ratio-add, ratio-neg}
use Rattle.irr_rational.proofs.ListedRatios.{ratios-at}
use Rattle.irr_space.specs.Operation.{Vector, component}
use Rattle.irr_rat.specs.Lowest.{AreThreeLowest}
use Rattle.irr_rat.specs.VectorMeaning.{Fits, vector_of}
use Rattle.irr_rat.proofs.LowestForms.{fits_of_lowest}

pub component-vector_of : (num : List ℤ) (den : ℕ) (i : Fin 3) → component (vector_of num den) i ≡ ratio (entry num i) den
unfolding component vector_of
component-vector_of num den i = ratios-at num den i

pub component-add : (v w : Vector) (i : Fin 3) → component (v ⊕ w) i ≡ rationals.add (component v i) (component w i)
unfolding component ◌⊕◌
component-add v w i = refl

pub component-sub : (v w : Vector) (i : Fin 3) → component (v ⊖ w) i ≡ rationals.add (component v i) (rationals.neg (component w i))
unfolding component ◌⊖◌
component-sub v w i = refl

pub vector-ext : (v w : Vector) → ((i : Fin 3) → component v i ≡ component w i) → v ≡ w
unfolding component
vector-ext v w h = matrix-ext entries
  where
    entries : (i : Fin 3) (j : Fin 1) → v.at i j ≡ w.at i j
    entries i first = h i
    entries i (next j) = elim j [ ]

-- a fact of three places
pub each_of_three : (P : Fin 3 → Type 0) → P first → P (next first) → P (next (next first)) → (i : Fin 3) → P i
each_of_three P a b c first = a
each_of_three P a b c (next first) = b
each_of_three P a b c (next (next first)) = c
each_of_three P a b c (next (next (next i))) = elim i [ ]

pub entries_same : (xs ys : List ℤ) → get_or xs 0 (pos 0) ≡ get_or ys 0 (pos 0) → get_or xs 1 (pos 0) ≡ get_or ys 1 (pos 0) → get_or xs 2 (pos 0) ≡ get_or ys 2 (pos 0)
    → entry {n = 3} xs ≡ entry {n = 3} ys
unfolding to_nat
entries_same xs ys a b c = fun_ext (each_of_three (λ i. entry xs i ≡ entry ys i) a b c)

pub vector_of-entries : (xs ys : List ℤ) (den : ℕ) → entry {n = 3} xs ≡ entry {n = 3} ys → vector_of xs den ≡ vector_of ys den
vector_of-entries xs ys den e = vector-ext (vector_of xs den) (vector_of ys den)
    (λ i. component-vector_of xs den i ∙ ap (λ (f : Fin 3 → ℤ). ratio (f i) den) e ∙ sym (component-vector_of ys den i))

-- sums over the product of the denominators
pub vector_of-add : (a c s : List ℤ) (b d : ℕ) → 0 < b → 0 < d
    → get_or s 0 (pos 0) ≡ (get_or a 0 (pos 0) *ℤ pos d) +ℤ (get_or c 0 (pos 0) *ℤ pos b)
    → get_or s 1 (pos 0) ≡ (get_or a 1 (pos 0) *ℤ pos d) +ℤ (get_or c 1 (pos 0) *ℤ pos b)
    → get_or s 2 (pos 0) ≡ (get_or a 2 (pos 0) *ℤ pos d) +ℤ (get_or c 2 (pos 0) *ℤ pos b)
    → vector_of s (b * d) ≡ vector_of a b ⊕ vector_of c d
unfolding to_nat
vector_of-add a c s b d hb hd ex ey ez = vector-ext (vector_of s (b * d)) (vector_of a b ⊕ vector_of c d)
    (λ i. component-vector_of s (b * d) i ∙ ap (λ k. ratio k (b * d)) (each_of_three (λ i. entry s i ≡ (entry a i *ℤ pos d) +ℤ (entry c i *ℤ pos b)) ex ey ez i)
    ∙ ratio-add (entry a i) (entry c i) b d hb hd ∙ sym (ap₂ rationals.add (component-vector_of a b i) (component-vector_of c d i)) ∙ sym (component-add (vector_of a b) (vector_of c d) i))

pub difference : (x y : ℤ) (b d : ℕ) → (x *ℤ pos d) -ℤ (y *ℤ pos b) ≡ (x *ℤ pos d) +ℤ (neg_ℤ y *ℤ pos b)
difference x y b d = let e : neg_ℤ y *ℤ pos b ≡ neg_ℤ (y *ℤ pos b) = neg-mul integers y (pos b) in omega (arith, ints)

-- and differences
pub vector_of-sub : (a c s : List ℤ) (b d : ℕ) → 0 < b → 0 < d
    → get_or s 0 (pos 0) ≡ (get_or a 0 (pos 0) *ℤ pos d) -ℤ (get_or c 0 (pos 0) *ℤ pos b)
    → get_or s 1 (pos 0) ≡ (get_or a 1 (pos 0) *ℤ pos d) -ℤ (get_or c 1 (pos 0) *ℤ pos b)
    → get_or s 2 (pos 0) ≡ (get_or a 2 (pos 0) *ℤ pos d) -ℤ (get_or c 2 (pos 0) *ℤ pos b)
    → vector_of s (b * d) ≡ vector_of a b ⊖ vector_of c d
unfolding to_nat
vector_of-sub a c s b d hb hd ex ey ez = vector-ext (vector_of s (b * d)) (vector_of a b ⊖ vector_of c d)
    (λ i. component-vector_of s (b * d) i
    ∙ ap (λ k. ratio k (b * d)) (each_of_three (λ i. entry s i ≡ (entry a i *ℤ pos d) -ℤ (entry c i *ℤ pos b)) ex ey ez i ∙ difference (entry a i) (entry c i) b d)
    ∙ ratio-add (entry a i) (neg_ℤ (entry c i)) b d hb hd ∙ ap (rationals.add (ratio (entry a i) b)) (ratio-neg (entry c i) d hd)
    ∙ sym (ap₂ (λ x y. rationals.add x (rationals.neg y)) (component-vector_of a b i) (component-vector_of c d i)) ∙ sym (component-sub (vector_of a b) (vector_of c d) i))

-- a form in lowest terms of a vector that fits
pub fits_narrowed : (num low : List ℤ) (den least : ℕ) → AreThreeLowest low least → ((i : Fin 3) → ratios low least i ≡ ratios num den i) → Fits (vector_of num den)
    → (least < 2 ^ 32) × FitsSigned w64 (get_or low 0 (pos 0)) × FitsSigned w64 (get_or low 1 (pos 0)) × FitsSigned w64 (get_or low 2 (pos 0))
unfolding to_nat
fits_narrowed num low den least h e f = (all.0, all.1 first, all.1 (next first), all.1 (next (next first)))
  where
    all : (least < 2 ^ 32) × ((i : Fin 3) → FitsSigned w64 (entry low i))
    all = fits_of_lowest w64 {n = 3} (entry low) f.num least f.den h f.positive
        (λ i. sym (ratios-at low least i) ∙ e i ∙ ratios-at num den i ∙ sym (component-vector_of num den i) ∙ sym (f.is i)) (2 ^ 32) f.den_fits f.num_fits

pub vector_of-same : (num low : List ℤ) (den least : ℕ) → ((i : Fin 3) → ratios low least i ≡ ratios num den i) → vector_of low least ≡ vector_of num den
vector_of-same num low den least e = vector-ext (vector_of low least) (vector_of num den)
    (λ i. component-vector_of low least i ∙ sym (ratios-at low least i) ∙ e i ∙ ratios-at num den i ∙ sym (component-vector_of num den i))

-- numbers that fit are a vector that fits
pub fits_of_numbers : (num : List ℤ) (den : ℕ) → 0 < den → den < 2 ^ 32 → FitsSigned w64 (get_or num 0 (pos 0)) → FitsSigned w64 (get_or num 1 (pos 0)) → FitsSigned w64 (get_or num 2 (pos 0))
    → Fits (vector_of num den)
unfolding to_nat
fits_of_numbers num den h l x y z = record {
  num = entry num;
  den = den;
  positive = h;
  den_fits = l;
  num_fits = each_of_three (λ i. FitsSigned w64 (entry num i)) x y z;
  is = λ i. sym (component-vector_of num den i);
}

-- numbers read back from the code's bits

abs_bounds : (a : ℤ) (m : ℕ) → unsigned_abs a ≤ m → (neg_ℤ (pos m) ≤ℤ a) × (a ≤ℤ pos m)
abs_bounds (pos n) m h = (omega (arith, ints), omega (arith, ints))
abs_bounds (negsuc n) m h = (omega (arith, ints), omega (arith, ints))

fits_between : (x : ℤ) → neg_ℤ (pos (2 ^ 96)) ≤ℤ x → x ≤ℤ pos (2 ^ 96) → FitsSigned w128 x
fits_between (pos n) l u = record { sfits = omega (arith, ints) }
fits_between (negsuc n) l u = record { sfits = omega (arith, ints) }

pub fits_add : (a b : ℤ) → unsigned_abs a ≤ 2 ^ 95 → unsigned_abs b ≤ 2 ^ 95 → FitsSigned w128 (a +ℤ b)
fits_add a b h k =
    let s = abs_bounds a (2 ^ 95) h in
    let t = abs_bounds b (2 ^ 95) k in
    let s0 = s.0 in
    let s1 = s.1 in
    let t0 = t.0 in
    let t1 = t.1 in
    fits_between (a +ℤ b) (omega (arith, ints)) (omega (arith, ints))

pub fits_sub : (a b : ℤ) → unsigned_abs a ≤ 2 ^ 95 → unsigned_abs b ≤ 2 ^ 95 → FitsSigned w128 (a -ℤ b)
fits_sub a b h k =
    let s = abs_bounds a (2 ^ 95) h in
    let t = abs_bounds b (2 ^ 95) k in
    let s0 = s.0 in
    let s1 = s.1 in
    let t0 = t.0 in
    let t1 = t.1 in
    fits_between (a -ℤ b) (omega (arith, ints)) (omega (arith, ints))

pub read_product : (p a : ℤ) (d : ℕ) → FitsSigned w128 p → FitsSigned w64 a → p ≡ to_z w64 (of_z w64 a) *ℤ pos d → to_z w128 (of_z w128 p) ≡ a *ℤ pos d
read_product p a d f g e = to_z-of_z w128 p f ∙ e ∙ ap (λ b. b *ℤ pos d) (to_z-of_z w64 a g)

pub widen : (a : ℤ) → FitsSigned w64 a → FitsSigned w128 a
widen a f = let g = f.sfits in record { sfits = omega arith }

pub narrow_back : (a : ℤ) → FitsSigned w64 a → to_z w64 (of_z w64 (to_z w128 (of_z w128 a))) ≡ a
narrow_back a f = ap (λ b. to_z w64 (of_z w64 b)) (to_z-of_z w128 a (widen a f)) ∙ to_z-of_z w64 a f

pub narrow_entries : (r : List ℤ) → FitsSigned w64 (get_or r 0 (pos 0)) × FitsSigned w64 (get_or r 1 (pos 0)) × FitsSigned w64 (get_or r 2 (pos 0))
    → entry {n = 3} r ≡ entry {n = 3} (to_z w64 (of_z w64 (to_z w128 (of_z w128 (get_or r 0 (pos 0))))) ∷ to_z w64 (of_z w64 (to_z w128 (of_z w128 (get_or r 1 (pos 0)))))
    ∷ to_z w64 (of_z w64 (to_z w128 (of_z w128 (get_or r 2 (pos 0))))) ∷ [])
narrow_entries r f = entries_same r (_ ∷ _ ∷ _ ∷ []) (sym (narrow_back (get_or r 0 (pos 0)) f.0)) (sym (narrow_back (get_or r 1 (pos 0)) f.1)) (sym (narrow_back (get_or r 2 (pos 0)) f.2))
