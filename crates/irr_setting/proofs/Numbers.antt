-- Numbers of 128 bits, and rows of three.
--   small128               a number read back is as small
--   at_place               what holds at each place of a list of three
--   row_within             the numbers of a row are as small as those of the matrix
--   cross_cofactors        the vector products of rows are the cofactors
--   cofactor_within        the cofactors of small numbers are small
use Rattle.std.proofs.Common.{◌≡◌, sym, ◌∙◌, ap, ap₂, subst, refl, ℕ, ◌<◌, ◌≤◌, ◌^◌, ◌*◌, ◌+◌, List, [], ℤ, pos, negsuc, suc, zero, ◌+ℤ◌, ◌-ℤ◌, ◌*ℤ◌, neg_ℤ, unsigned_abs, get_or, FitsSigned, to_z, of_z, arith, lit<}
use Rattle.std.proofs.lemmas.Int.{ints, to_z-of_z, fits_signed_from_abs, quot-rem, quot_is, rem_below, unsigned_abs-mul}
use Rattle.std.specs.Int.RustNames.{int_div, int_rem}
use native.Mathlib.Nat as Nat
use lib.IntN.{*ℤ_comm}
use Rattle.irr_algebra.proofs.Rings.{add-mul, neg-mul}
use Rattle.std.specs.Int.{w16, w64, w128}
use Rattle.std.specs.Prelude.{Option, None, Some, IfSome}
use Rattle.irr_algebra.specs.Fin.{Fin, to_nat}
use Rattle.irr_algebra.specs.Fin.Fin.{first, next}
use Rattle.irr_algebra.specs.Sum.{sum}
use Rattle.irr_algebra.specs.Matrix.{◌·◌}
use Rattle.irr_algebra.proofs.Indices.{from_nat, to_nat-from_nat, to_nat-lt}
use Rattle.irr_number.specs.Integers.{integers}
use Rattle.irr_rational.specs.Ratio.{entry}
use Rattle.irr_space.specs.Operation.{Rotation}
use Rattle.irr_rat.proofs.Vectors.{each_of_three}
use Rattle.irr_seitz.specs.OperationMeaning.{AreWithin}
use Rattle.irr_seitz.specs.Rotation.{rotation_of, IsWithin}
use Rattle.irr_seitz.proofs.Rotations.{within_at, three_sum}
use Rattle.irr_seitz.proofs.Sizes.{abs-add, abs-sub, abs-mul, weighted_sum}
use Rattle.irr_setting.specs.Determinant.{row_dot, cross_at, column_dot, determinant_in, cofactor, after, adjugate}
use Rattle.irr_setting.proofs.Cofactors.{determinant_row}

pub small128 : (x : ℤ) (b : ℕ) → FitsSigned w128 x → unsigned_abs x ≤ b → unsigned_abs (to_z w128 (of_z w128 x)) ≤ b
small128 x b f h = subst (λ a. unsigned_abs a ≤ b) (sym (to_z-of_z w128 x f)) h

pub at_place : (P : ℤ → Type 0) (xs : List ℤ) → ((i : Fin 3) → P (entry xs i)) → (j : ℕ) → j < 3 → P (get_or xs j (pos 0))
at_place P xs h j l = subst (λ k. P (get_or xs k (pos 0))) (to_nat-from_nat 3 j l) (h (from_nat 3 j l))

module _ (x y : ℤ) (f : FitsSigned w128 x) (g : FitsSigned w128 y) (hx : unsigned_abs x ≤ 2 ^ 60) (hy : unsigned_abs y ≤ 2 ^ 60) where
  pub product_small : unsigned_abs (x *ℤ y) ≤ 2 ^ 120
  product_small = let s = abs-mul x y (2 ^ 60) (2 ^ 60) hx hy in omega arith

  pub product_read : to_z w128 (of_z w128 (to_z w128 (of_z w128 x) *ℤ to_z w128 (of_z w128 y))) ≡ x *ℤ y
  product_read = ap (λ z. to_z w128 (of_z w128 z)) (ap₂ ◌*ℤ◌ (to_z-of_z w128 x f) (to_z-of_z w128 y g))
      ∙ to_z-of_z w128 (x *ℤ y) (fits_signed_from_abs w128 (x *ℤ y) (let s = product_small in omega arith))

pub sum_small : (x y z : ℤ) → unsigned_abs x ≤ 2 ^ 120 → unsigned_abs y ≤ 2 ^ 120 → unsigned_abs z ≤ 2 ^ 120 → unsigned_abs ((x +ℤ y) +ℤ z) ≤ 2 ^ 122
sum_small x y z hx hy hz = let s = abs-add (x +ℤ y) z (2 ^ 120 + 2 ^ 120) (2 ^ 120) (abs-add x y (2 ^ 120) (2 ^ 120) hx hy) hz in omega arith

-- r is a row of a matrix
pub row_within : (b n : ℕ) (num : List (List ℤ)) → IsWithin b (rotation_of num) → b ≤ n → (i : ℕ) → i < 3 → (r : List ℤ) → ((j : Fin 3) → entry r j ≡ entry (get_or num i []) j) → AreWithin n r
row_within b n num w l i h r e j = subst (λ a. unsigned_abs a ≤ n) (sym (e j)) (let s = within_at b num w i (to_nat j) h (to_nat-lt j) in omega arith)

pub rotation_row : (num : List (List ℤ)) (i : Fin 3) (k : ℕ) → to_nat i ≡ k → (r : List ℤ) → ((j : Fin 3) → entry r j ≡ entry (get_or num k []) j) → (j : Fin 3) → entry r j ≡ (rotation_of num).at i j
unfolding rotation_of
rotation_row num i k e r h j = h j ∙ ap (λ n. entry (get_or num n []) j) (sym e)

pub cross_cofactors : (m : Rotation) (i : Fin 3) (x y r : List ℤ) → ((j : Fin 3) → entry x j ≡ m.at (after i) j) → ((j : Fin 3) → entry y j ≡ m.at (after (after i)) j)
    → get_or r 0 (pos 0) ≡ cross_at x y 1 2 → get_or r 1 (pos 0) ≡ cross_at x y 2 0 → get_or r 2 (pos 0) ≡ cross_at x y 0 1 → (j : Fin 3) → entry r j ≡ cofactor m i j
unfolding to_nat
cross_cofactors m i x y r ex ey a b c = each_of_three (λ j. entry r j ≡ cofactor m i j)
    (a ∙ ap₂ ◌-ℤ◌ (ap₂ ◌*ℤ◌ (ex (next first)) (ey (next (next first)))) (ap₂ ◌*ℤ◌ (ex (next (next first))) (ey (next first))))
    (b ∙ ap₂ ◌-ℤ◌ (ap₂ ◌*ℤ◌ (ex (next (next first))) (ey first)) (ap₂ ◌*ℤ◌ (ex first) (ey (next (next first)))))
    (c ∙ ap₂ ◌-ℤ◌ (ap₂ ◌*ℤ◌ (ex first) (ey (next first))) (ap₂ ◌*ℤ◌ (ex (next first)) (ey first)))

pub cofactor_small : (m : Rotation) → IsWithin (10 ^ 4) m → (i j : Fin 3) → unsigned_abs (cofactor m i j) ≤ 10 ^ 4 * 10 ^ 4 + 10 ^ 4 * 10 ^ 4
cofactor_small m w i j = abs-sub (m.at (after i) (after j) *ℤ m.at (after (after i)) (after (after j))) (m.at (after i) (after (after j)) *ℤ m.at (after (after i)) (after j)) (10 ^ 4 * 10 ^ 4) (10 ^ 4 * 10 ^ 4)
    (abs-mul (m.at (after i) (after j)) (m.at (after (after i)) (after (after j))) (10 ^ 4) (10 ^ 4) (w (after i) (after j)) (w (after (after i)) (after (after j))))
    (abs-mul (m.at (after i) (after (after j))) (m.at (after (after i)) (after j)) (10 ^ 4) (10 ^ 4) (w (after i) (after (after j))) (w (after (after i)) (after j)))

pub determinant_small : (m : Rotation) → IsWithin (10 ^ 4) m → unsigned_abs (determinant_in integers m) ≤ 2 ^ 60
determinant_small m w = subst (λ a. unsigned_abs a ≤ 2 ^ 60) (sym (determinant_row m))
    (let s = weighted_sum (m.at first first) (m.at first (next first)) (m.at first (next (next first))) (cofactor m first first) (cofactor m first (next first)) (cofactor m first (next (next first)))
    (10 ^ 4) (10 ^ 4 * 10 ^ 4 + 10 ^ 4 * 10 ^ 4) (w first first) (w first (next first)) (w first (next (next first)))
    (cofactor_small m w first first) (cofactor_small m w first (next first)) (cofactor_small m w first (next (next first))) in omega arith)

pub cofactor_within : (m : Rotation) → IsWithin (10 ^ 4) m → (i j : Fin 3) → unsigned_abs (cofactor m i j) ≤ 2 ^ 60
cofactor_within m w i j = let s = cofactor_small m w i j in omega arith

-- the determinant, where x is the first row and c its cofactors
pub determinant_of_row : (m : Rotation) (x c : List ℤ) → ((j : Fin 3) → entry x j ≡ m.at first j) → ((j : Fin 3) → entry c j ≡ cofactor m first j) → row_dot x c ≡ determinant_in integers m
unfolding to_nat
determinant_of_row m x c ex ec = ap₂ ◌+ℤ◌ (ap₂ ◌+ℤ◌ (ap₂ ◌*ℤ◌ (ex first) (ec first)) (ap₂ ◌*ℤ◌ (ex (next first)) (ec (next first)))) (ap₂ ◌*ℤ◌ (ex (next (next first))) (ec (next (next first))))
    ∙ sym (determinant_row m)

-- a quotient without rest
pub quotient_only : (a d f : ℤ) → ¬ (d ≡ pos 0) → d *ℤ f ≡ a → int_div a d ≡ f
quotient_only a d f n e = sym (eq_of_sub f q (zero_of_small (f -ℤ q) d (subst (λ r. unsigned_abs r < unsigned_abs d) (sym part) (rem_below a d (positive_abs d n)))))
  where
    q : ℤ
    q = int_div a d

    eq_of_sub : (x y : ℤ) → x -ℤ y ≡ pos 0 → x ≡ y
    eq_of_sub x y h = omega (arith, ints)

    positive_abs : (x : ℤ) → ¬ (x ≡ pos 0) → 0 < unsigned_abs x
    positive_abs (pos zero) h = absurd (h refl)
    positive_abs (pos (suc k)) h = omega arith
    positive_abs (negsuc k) h = omega arith

    given : (x y z r : ℤ) → x +ℤ r ≡ z → y ≡ z → y -ℤ x ≡ r
    given x y z r g h = omega (arith, ints)

    part : (f -ℤ q) *ℤ d ≡ int_rem a d
    part = add-mul integers f (neg_ℤ q) d ∙ ap (λ w. (f *ℤ d) +ℤ w) (neg-mul integers q d) ∙ given (q *ℤ d) (f *ℤ d) a (int_rem a d) (quot-rem a d) (*ℤ_comm f d ∙ e)

    zero_of_small : (x y : ℤ) → unsigned_abs (x *ℤ y) < unsigned_abs y → x ≡ pos 0
    zero_of_small (pos zero) y h = refl
    zero_of_small (pos (suc k)) y h = let g : unsigned_abs (pos (suc k) *ℤ y) ≡ suc k * unsigned_abs y = unsigned_abs-mul (pos (suc k)) y in let l : 1 * unsigned_abs y ≤ suc k * unsigned_abs y = Nat.mul-le-mul_right (unsigned_abs y) (omega arith) in absurd (let z : unsigned_abs y < unsigned_abs y = omega arith in omega arith)
    zero_of_small (negsuc k) y h = let g : unsigned_abs (negsuc k *ℤ y) ≡ suc k * unsigned_abs y = unsigned_abs-mul (negsuc k) y in let l : 1 * unsigned_abs y ≤ suc k * unsigned_abs y = Nat.mul-le-mul_right (unsigned_abs y) (omega arith) in absurd (let z : unsigned_abs y < unsigned_abs y = omega arith in omega arith)

-- as the code finds it
pub quotient_read : (a d f : ℤ) → FitsSigned w128 a → FitsSigned w128 d → ¬ (d ≡ pos 0) → unsigned_abs f ≤ 9 → d *ℤ f ≡ a
    → to_z w128 (of_z w128 (int_div (to_z w128 (of_z w128 a)) (to_z w128 (of_z w128 d)))) ≡ f
quotient_read a d f fa fd n s e = quot_is w128 a d fa fd (subst (FitsSigned w128) (sym (quotient_only a d f n e)) (fits_signed_from_abs w128 f (omega arith))) ∙ quotient_only a d f n e

-- an equation of numbers, as the code reads them
pub read_equation : (d q r t : ℤ) → FitsSigned w128 d → FitsSigned w128 r → r ≡ t → d *ℤ q ≡ t → to_z w128 (of_z w128 d) *ℤ q ≡ to_z w128 (of_z w128 r)
read_equation d q r t f g e h = ap (λ x. x *ℤ q) (to_z-of_z w128 d f) ∙ h ∙ sym (to_z-of_z w128 r g ∙ e)

pub equation_read : (d q r t : ℤ) → FitsSigned w128 d → FitsSigned w128 r → r ≡ t → to_z w128 (of_z w128 d) *ℤ q ≡ to_z w128 (of_z w128 r) → d *ℤ q ≡ t
equation_read d q r t f g e h = ap (λ x. x *ℤ q) (sym (to_z-of_z w128 d f)) ∙ h ∙ to_z-of_z w128 r g ∙ e

-- an entry of a product
mul-three : (a b : Rotation) (i j : Fin 3) → (a · b).at i j ≡ ((a.at i first *ℤ b.at first j) +ℤ (a.at i (next first) *ℤ b.at (next first) j)) +ℤ (a.at i (next (next first)) *ℤ b.at (next (next first)) j)
unfolding ◌·◌ sum
mul-three a b i j = sym (three_sum (a.at i first *ℤ b.at first j) (a.at i (next first) *ℤ b.at (next first) j) (a.at i (next (next first)) *ℤ b.at (next (next first)) j))

module _ (num rot : List (List ℤ)) (i : Fin 3) (x t : List ℤ) (cof : List (List ℤ)) (ex : (j : Fin 3) → entry x j ≡ (rotation_of num).at i j) (et : (j : Fin 3) → entry t j ≡ column_dot x rot (to_nat j))
    (ec : (i j : Fin 3) → (rotation_of cof).at i j ≡ cofactor (rotation_of num) i j) where
  turned_entry : (k : Fin 3) → entry t k ≡ (rotation_of num · rotation_of rot).at i k
  unfolding rotation_of to_nat
  turned_entry k = et k ∙ ap₂ ◌+ℤ◌ (ap₂ ◌+ℤ◌ (ap (λ z. z *ℤ (rotation_of rot).at first k) (ex first)) (ap (λ z. z *ℤ (rotation_of rot).at (next first) k) (ex (next first)))) (ap (λ z. z *ℤ (rotation_of rot).at (next (next first)) k) (ex (next (next first))))
      ∙ sym (mul-three (rotation_of num) (rotation_of rot) i k)

  cofactor_entry : (j k : Fin 3) → entry (get_or cof (to_nat j) []) k ≡ (adjugate (rotation_of num)).at k j
  unfolding rotation_of adjugate
  cofactor_entry j k = ec j k

  -- a row times the rotation, times a row of cofactors
  pub turned_row : (j : Fin 3) → row_dot t (get_or cof (to_nat j) []) ≡ ((rotation_of num · rotation_of rot) · adjugate (rotation_of num)).at i j
  unfolding to_nat
  turned_row j = ap₂ ◌+ℤ◌ (ap₂ ◌+ℤ◌ (ap₂ ◌*ℤ◌ (turned_entry first) (cofactor_entry j first)) (ap₂ ◌*ℤ◌ (turned_entry (next first)) (cofactor_entry j (next first)))) (ap₂ ◌*ℤ◌ (turned_entry (next (next first))) (cofactor_entry j (next (next first))))
      ∙ sym (mul-three (rotation_of num · rotation_of rot) (adjugate (rotation_of num)) i j)

pub narrow_quotient : (d f r t : ℤ) → FitsSigned w128 d → FitsSigned w128 r → r ≡ t → (to_z w128 (of_z w128 d) *ℤ f ≡ to_z w128 (of_z w128 r)) × (unsigned_abs f ≤ 9)
    → (d *ℤ to_z w16 (of_z w16 f) ≡ t) × (unsigned_abs (to_z w16 (of_z w16 f)) ≤ 9)
narrow_quotient d f r t fd fr e h =
    let s : unsigned_abs f ≤ 9 = h.1 in
    let n : to_z w16 (of_z w16 f) ≡ f = to_z-of_z w16 f (fits_signed_from_abs w16 f (omega (arith, s))) in
    (ap (λ x. d *ℤ x) n ∙ equation_read d f r t fd fr e h.0, subst (λ a. unsigned_abs a ≤ 9) (sym n) s)

pub row_dot_same : (x u y v : List ℤ) → ((j : Fin 3) → entry x j ≡ entry u j) → ((j : Fin 3) → entry y j ≡ entry v j) → row_dot x y ≡ row_dot u v
unfolding to_nat
row_dot_same x u y v ex ey = ap₂ ◌+ℤ◌ (ap₂ ◌+ℤ◌ (ap₂ ◌*ℤ◌ (ex first) (ey first)) (ap₂ ◌*ℤ◌ (ex (next first)) (ey (next first)))) (ap₂ ◌*ℤ◌ (ex (next (next first))) (ey (next (next first))))

pub row_dot_small : (x y : List ℤ) (m n : ℕ) → AreWithin m x → AreWithin n y → unsigned_abs (row_dot x y) ≤ (m * n + m * n) + m * n
unfolding to_nat
row_dot_small x y m n hx hy = weighted_sum (get_or x 0 (pos 0)) (get_or x 1 (pos 0)) (get_or x 2 (pos 0)) (get_or y 0 (pos 0)) (get_or y 1 (pos 0)) (get_or y 2 (pos 0)) m n
    (hx first) (hx (next first)) (hx (next (next first))) (hy first) (hy (next first)) (hy (next (next first)))

pub same_within : (b n : ℕ) (x u : List ℤ) → b ≤ n → AreWithin b u → ((j : Fin 3) → entry x j ≡ entry u j) → AreWithin n x
same_within b n x u l h e j = subst (λ a. unsigned_abs a ≤ n) (sym (e j)) (let s = h j in omega arith)

-- rows in a matrix
pub matrix_row : (b : ℕ) (num : List (List ℤ)) → IsWithin b (rotation_of num) → (i : ℕ) → i < 3 → AreWithin b (get_or num i [])
matrix_row b num w i h j = within_at b num w i (to_nat j) h (to_nat-lt j)

-- a fact of an option, from three
pub if_some3 : {X : Type 0} {P Q S T : X → Type 0} (r : Option X) → ((x : X) → P x → Q x → S x → T x) → IfSome r P → IfSome r Q → IfSome r S → IfSome r T
if_some3 None f p q s = tt
if_some3 (Some x) f p q s = f x p q s

pub entry_place : (x u : List ℤ) → ((j : Fin 3) → entry x j ≡ entry u j) → (i : ℕ) → i < 3 → get_or x i (pos 0) ≡ get_or u i (pos 0)
entry_place x u e i l = subst (λ k. get_or x k (pos 0) ≡ get_or u k (pos 0)) (to_nat-from_nat 3 i l) (e (from_nat 3 i l))

pub if_some : {X : Type 0} {P T : X → Type 0} (r : Option X) → ((x : X) → P x → T x) → IfSome r P → IfSome r T
if_some None f p = tt
if_some (Some x) f p = f x p
