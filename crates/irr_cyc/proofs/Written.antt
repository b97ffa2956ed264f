-- What a program writes: values of 128 bits that fit, and lists that grow.
--   kept              a value that fits is read back
--   written-product, written-sum, fits-sum    products and sums that fit
--   pushed            a list with one more entry
use Rattle.std.proofs.Common.{◌≡◌, sym, ◌∙◌, ap, subst, ℕ, ℤ, pos, ◌+◌, ◌*◌, ◌^◌, ◌<◌, ◌≤◌, ◌+ℤ◌, ◌*ℤ◌, inl, inr, List, [], ◌∷◌, ◌++◌, length, unsigned_abs, FitsSigned, to_z, of_z, arith, length-append}
use Rattle.std.proofs.lemmas.Bool.{cases_lt}
use Rattle.std.proofs.lemmas.Int.{fits_signed_from_abs, to_z-of_z, unsigned_abs-mul}
use Rattle.std.proofs.Math.ListN.{get_or-append}
use Rattle.std.proofs.Math.Seq.{get_or-append_seam}
use mir.Syntax.{w128}
use Rattle.irr_canonical.proofs.Sizes.{unsigned_abs-add}
use Rattle.irr_cyc.specs.Form.{at}

pub kept : (z : ℤ) → unsigned_abs z < 2 ^ 127 → to_z w128 (of_z w128 z) ≡ z
kept z h = to_z-of_z w128 z (fits_signed_from_abs w128 z (omega arith))

pub written-product : (a l : ℤ) → FitsSigned w128 a → unsigned_abs a * unsigned_abs l < 2 ^ 127 → to_z w128 (of_z w128 (to_z w128 (of_z w128 a) *ℤ l)) ≡ a *ℤ l
written-product a l f h = ap (λ x. to_z w128 (of_z w128 (x *ℤ l))) (to_z-of_z w128 a f) ∙ kept (a *ℤ l) (let e : unsigned_abs (a *ℤ l) ≡ unsigned_abs a * unsigned_abs l = unsigned_abs-mul a l in omega arith)

module _ (a l b r : ℤ) (fa : FitsSigned w128 a) (fb : FitsSigned w128 b) (h : unsigned_abs a * unsigned_abs l + unsigned_abs b * unsigned_abs r < 2 ^ 110) where
  left : to_z w128 (of_z w128 (to_z w128 (of_z w128 a) *ℤ l)) ≡ a *ℤ l
  left = written-product a l fa (omega arith)

  right : to_z w128 (of_z w128 (to_z w128 (of_z w128 b) *ℤ r)) ≡ b *ℤ r
  right = written-product b r fb (omega arith)

  bound : unsigned_abs ((a *ℤ l) +ℤ (b *ℤ r)) < 2 ^ 127
  bound = let e : unsigned_abs (a *ℤ l) ≡ unsigned_abs a * unsigned_abs l = unsigned_abs-mul a l in let g : unsigned_abs (b *ℤ r) ≡ unsigned_abs b * unsigned_abs r = unsigned_abs-mul b r in
      omega (arith, unsigned_abs-add (a *ℤ l) (b *ℤ r))

  pub fits-sum : FitsSigned w128 (to_z w128 (of_z w128 (to_z w128 (of_z w128 a) *ℤ l)) +ℤ to_z w128 (of_z w128 (to_z w128 (of_z w128 b) *ℤ r)))
  fits-sum = subst (FitsSigned w128) (λ i. sym left i +ℤ sym right i) (fits_signed_from_abs w128 ((a *ℤ l) +ℤ (b *ℤ r)) (omega (arith, bound)))

  pub written-sum : to_z w128 (of_z w128 (to_z w128 (of_z w128 (to_z w128 (of_z w128 a) *ℤ l)) +ℤ to_z w128 (of_z w128 (to_z w128 (of_z w128 b) *ℤ r)))) ≡ (a *ℤ l) +ℤ (b *ℤ r)
  written-sum = ap (λ x. to_z w128 (of_z w128 x)) (λ i. left i +ℤ right i) ∙ kept ((a *ℤ l) +ℤ (b *ℤ r)) bound

module _ (xs ys : List ℤ) (v : ℤ) (i : ℕ) (h : ℕ → ℤ) (is : ys ≡ xs ++ (v ∷ [])) (len : length xs ≡ i) where
  pub pushed-len : length ys ≡ i + 1
  pushed-len = ap length is ∙ length-append xs (v ∷ []) ∙ ap (λ n. n + 1) len

  pub pushed : v ≡ h i → ((j : ℕ) → j < i → at xs j ≡ h j) → (j : ℕ) → j < i + 1 → at ys j ≡ h j
  pushed e all j lt = ap (λ zs. at zs j) is ∙ elim (cases_lt j i) [
    | inl l ↦ get_or-append xs (v ∷ []) (pos 0) j (omega (arith, len)) ∙ all j l
    | inr g ↦ (let s : j ≡ length xs = omega (arith, len) in let t : i ≡ j = omega arith in
        ap (at (xs ++ (v ∷ []))) s ∙ get_or-append_seam xs v [] (pos 0) ∙ e ∙ ap h t)
  ]

-- a coefficient with a product added
module _ (a x y : ℤ) (fa : FitsSigned w128 a) (fx : FitsSigned w128 x) (fy : FitsSigned w128 y) (h : unsigned_abs a + unsigned_abs x * unsigned_abs y ≤ 2 ^ 100) where
  factors-read : to_z w128 (of_z w128 x) *ℤ to_z w128 (of_z w128 y) ≡ x *ℤ y
  factors-read = λ i. to_z-of_z w128 x fx i *ℤ to_z-of_z w128 y fy i

  product-bound : unsigned_abs (x *ℤ y) ≤ 2 ^ 100
  product-bound = let e : unsigned_abs (x *ℤ y) ≡ unsigned_abs x * unsigned_abs y = unsigned_abs-mul x y in omega arith

  pub fits-product : FitsSigned w128 (to_z w128 (of_z w128 x) *ℤ to_z w128 (of_z w128 y))
  fits-product = subst (FitsSigned w128) (sym factors-read) (fits_signed_from_abs w128 (x *ℤ y) (omega (arith, product-bound)))

  product-read : to_z w128 (of_z w128 (to_z w128 (of_z w128 x) *ℤ to_z w128 (of_z w128 y))) ≡ x *ℤ y
  product-read = ap (λ z. to_z w128 (of_z w128 z)) factors-read ∙ kept (x *ℤ y) (omega (arith, product-bound))

  more-bound : unsigned_abs (a +ℤ (x *ℤ y)) < 2 ^ 127
  more-bound = let e : unsigned_abs (x *ℤ y) ≡ unsigned_abs x * unsigned_abs y = unsigned_abs-mul x y in omega (arith, unsigned_abs-add a (x *ℤ y))

  more-read : to_z w128 (of_z w128 a) +ℤ to_z w128 (of_z w128 (to_z w128 (of_z w128 x) *ℤ to_z w128 (of_z w128 y))) ≡ a +ℤ (x *ℤ y)
  more-read = λ i. to_z-of_z w128 a fa i +ℤ product-read i

  pub fits-more : FitsSigned w128 (to_z w128 (of_z w128 a) +ℤ to_z w128 (of_z w128 (to_z w128 (of_z w128 x) *ℤ to_z w128 (of_z w128 y))))
  fits-more = subst (FitsSigned w128) (sym more-read) (fits_signed_from_abs w128 (a +ℤ (x *ℤ y)) (omega (arith, more-bound)))

  pub written-more : to_z w128 (of_z w128 (to_z w128 (of_z w128 a) +ℤ to_z w128 (of_z w128 (to_z w128 (of_z w128 x) *ℤ to_z w128 (of_z w128 y))))) ≡ a +ℤ (x *ℤ y)
  written-more = ap (λ z. to_z w128 (of_z w128 z)) more-read ∙ kept (a +ℤ (x *ℤ y)) more-bound

-- a coefficient with another added
module _ (a y : ℤ) (fa : FitsSigned w128 a) (fy : FitsSigned w128 y) (h : unsigned_abs a + unsigned_abs y ≤ 2 ^ 100) where
  sum-read : to_z w128 (of_z w128 a) +ℤ to_z w128 (of_z w128 y) ≡ a +ℤ y
  sum-read = λ i. to_z-of_z w128 a fa i +ℤ to_z-of_z w128 y fy i

  pub fits-added : FitsSigned w128 (to_z w128 (of_z w128 a) +ℤ to_z w128 (of_z w128 y))
  fits-added = subst (FitsSigned w128) (sym sum-read) (fits_signed_from_abs w128 (a +ℤ y) (omega (arith, unsigned_abs-add a y)))

  pub written-added : to_z w128 (of_z w128 (to_z w128 (of_z w128 a) +ℤ to_z w128 (of_z w128 y))) ≡ a +ℤ y
  written-added = ap (λ z. to_z w128 (of_z w128 z)) sum-read ∙ kept (a +ℤ y) (omega (arith, unsigned_abs-add a y))
