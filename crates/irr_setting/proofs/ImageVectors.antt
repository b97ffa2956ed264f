-- The vectors of images and the rows of wave vectors, from their numerators.
--   basis_vector           P v over the product of the denominators
--   fixed_vector           p - F p over the denominator of p
--   image_numerators       their sum over the product of all three
--   basis_row              kP over the product of the denominators
use Rattle.std.proofs.Common.{◌≡◌, sym, refl, ◌∙◌, ap, ap₂, subst, ℕ, ◌<◌, ◌≤◌, ◌^◌, ◌*◌, List, [], ◌∷◌, ℤ, pos, ◌+ℤ◌, ◌-ℤ◌, ◌*ℤ◌, neg_ℤ, get_or, mul-pos, arith}
use Rattle.irr_algebra.specs.Fin.{Fin, to_nat}
use Rattle.irr_algebra.specs.Fin.Fin.{first, next}
use Rattle.irr_algebra.specs.Sum.{sum}
use Rattle.irr_algebra.specs.Matrix.{Matrix, ◌·◌, ◌⊕◌, ◌⊖◌}
use Rattle.irr_rational.specs.Integer.{integer, whole_matrix}
use Rattle.irr_rational.specs.Rational.{Rational, rationals, ratio}
use Rattle.irr_rational.specs.Ratio.{entry, ratios}
use Rattle.irr_rational.proofs.Ratios.{ratio-mul, ratio-neg}
use Rattle.irr_space.specs.Operation.{Operation, Vector, Rotation, WaveVector, component, wave_component}
use Rattle.irr_lattice.proofs.Vectors.{wave-ext}
use Rattle.irr_rat.specs.VectorMeaning.{vector_of}
use Rattle.irr_rat.proofs.Vectors.{component-vector_of, component-sub, vector-ext, each_of_three, vector_of-add}
use Rattle.irr_seitz.specs.Rotation.{rotation_of}
use Rattle.irr_seitz.proofs.Vectors.{IsTurned, turned_vector}
use Rattle.irr_kvec.specs.WaveMeaning.{wave_of}
use Rattle.irr_kvec.proofs.Products.{ratio-add_same, wave_component-wave_of}
use Rattle.irr_setting.specs.Determinant.{row_dot, column_dot}
use Rattle.irr_setting.specs.Setting.{basis_of}

-- three products over the product of the denominators
three_products : (a b c x y z : ℤ) (n d : ℕ) → 0 < n → 0 < d
    → rationals.add (rationals.mul (ratio a n) (ratio x d)) (rationals.add (rationals.mul (ratio b n) (ratio y d)) (rationals.add (rationals.mul (ratio c n) (ratio z d)) rationals.zero))
    ≡ ratio (((a *ℤ x) +ℤ (b *ℤ y)) +ℤ (c *ℤ z)) (n * d)
three_products a b c x y z n d hn hd =
    ap₂ rationals.add (sym (ratio-mul a x n d hn hd)) (ap₂ rationals.add (sym (ratio-mul b y n d hn hd)) (rationals.add-zero (rationals.mul (ratio c n) (ratio z d)) ∙ sym (ratio-mul c z n d hn hd)))
    ∙ sym (rationals.add_assoc (ratio (a *ℤ x) (n * d)) (ratio (b *ℤ y) (n * d)) (ratio (c *ℤ z) (n * d)))
    ∙ ap (λ u. rationals.add u (ratio (c *ℤ z) (n * d))) (ratio-add_same (a *ℤ x) (b *ℤ y) (n * d)) ∙ ratio-add_same ((a *ℤ x) +ℤ (b *ℤ y)) (c *ℤ z) (n * d)

component-basis : (num : List (List ℤ)) (den : ℕ) (v : List ℤ) (d : ℕ) (i : Fin 3) → component (basis_of num den · vector_of v d) i
    ≡ rationals.add (rationals.mul (ratio (get_or (get_or num (to_nat i) []) 0 (pos 0)) den) (ratio (get_or v 0 (pos 0)) d))
    (rationals.add (rationals.mul (ratio (get_or (get_or num (to_nat i) []) 1 (pos 0)) den) (ratio (get_or v 1 (pos 0)) d))
    (rationals.add (rationals.mul (ratio (get_or (get_or num (to_nat i) []) 2 (pos 0)) den) (ratio (get_or v 2 (pos 0)) d)) rationals.zero))
unfolding component ◌·◌ sum basis_of rotation_of vector_of ratios to_nat
component-basis num den v d i = refl

-- three numbers
abbrev pub three : (ℕ → ℤ) → List ℤ
three f = f 0 ∷ f 1 ∷ f 2 ∷ []

three-entry : (f : ℕ → ℤ) (i : Fin 3) → entry (three f) i ≡ f (to_nat i)
unfolding to_nat
three-entry f = each_of_three (λ i. entry (three f) i ≡ f (to_nat i)) refl refl refl

pub basis_vector : (num : List (List ℤ)) (den : ℕ) (v : List ℤ) (d : ℕ) → 0 < den → 0 < d → vector_of (three (λ i. row_dot (get_or num i []) v)) (den * d) ≡ basis_of num den · vector_of v d
basis_vector num den v d hn hd = vector-ext (vector_of (three (λ i. row_dot (get_or num i []) v)) (den * d)) (basis_of num den · vector_of v d)
    (λ i. component-vector_of (three (λ i. row_dot (get_or num i []) v)) (den * d) i ∙ ap (λ k. ratio k (den * d)) (three-entry (λ i. row_dot (get_or num i []) v) i)
    ∙ sym (three_products (get_or (get_or num (to_nat i) []) 0 (pos 0)) (get_or (get_or num (to_nat i) []) 1 (pos 0)) (get_or (get_or num (to_nat i) []) 2 (pos 0)) (get_or v 0 (pos 0)) (get_or v 1 (pos 0)) (get_or v 2 (pos 0)) den d hn hd)
    ∙ sym (component-basis num den v d i))

pub fixed_vector : (rot : List (List ℤ)) (p : List ℤ) (d : ℕ) → 0 < d → vector_of (three (λ i. get_or p i (pos 0) -ℤ row_dot (get_or rot i []) p)) d ≡ vector_of p d ⊖ (whole_matrix rationals (rotation_of rot) · vector_of p d)
fixed_vector rot p d h = vector-ext (vector_of (three (λ i. get_or p i (pos 0) -ℤ row_dot (get_or rot i []) p)) d) (vector_of p d ⊖ (whole_matrix rationals (rotation_of rot) · vector_of p d))
    (λ i. component-vector_of (three (λ i. get_or p i (pos 0) -ℤ row_dot (get_or rot i []) p)) d i ∙ ap (λ k. ratio k d) (three-entry (λ i. get_or p i (pos 0) -ℤ row_dot (get_or rot i []) p) i)
    ∙ sym (ratio-add_same (entry p i) (neg_ℤ (row_dot (get_or rot (to_nat i) []) p)) d) ∙ ap (rationals.add (ratio (entry p i) d)) (ratio-neg (row_dot (get_or rot (to_nat i) []) p) d h)
    ∙ ap₂ (λ x y. rationals.add x (rationals.neg y)) (sym (component-vector_of p d i))
    (ap (λ k. ratio k d) (sym (three-entry (λ i. row_dot (get_or rot i []) p) i)) ∙ sym (component-vector_of (three (λ i. row_dot (get_or rot i []) p)) d i)
    ∙ ap (λ (v : Vector). component v i) (turned_vector rot p (three (λ i. row_dot (get_or rot i []) p)) d h (record { x = refl; y = refl; z = refl })))
    ∙ sym (component-sub (vector_of p d) (whole_matrix rationals (rotation_of rot) · vector_of p d) i))

-- the numerators of the image's vector, over the product of the three denominators
pub image_numerators : (num : List (List ℤ)) (den : ℕ) (v : List ℤ) (d : ℕ) (rot : List (List ℤ)) (p : List ℤ) (e : ℕ) (s : List ℤ) → 0 < den → 0 < d → 0 < e
    → get_or s 0 (pos 0) ≡ (row_dot (get_or num 0 []) v *ℤ pos e) +ℤ ((get_or p 0 (pos 0) -ℤ row_dot (get_or rot 0 []) p) *ℤ pos (den * d))
    → get_or s 1 (pos 0) ≡ (row_dot (get_or num 1 []) v *ℤ pos e) +ℤ ((get_or p 1 (pos 0) -ℤ row_dot (get_or rot 1 []) p) *ℤ pos (den * d))
    → get_or s 2 (pos 0) ≡ (row_dot (get_or num 2 []) v *ℤ pos e) +ℤ ((get_or p 2 (pos 0) -ℤ row_dot (get_or rot 2 []) p) *ℤ pos (den * d))
    → vector_of s ((den * d) * e) ≡ (basis_of num den · vector_of v d) ⊕ (vector_of p e ⊖ (whole_matrix rationals (rotation_of rot) · vector_of p e))
image_numerators num den v d rot p e s hn hd he x y z =
    vector_of-add (three (λ i. row_dot (get_or num i []) v)) (three (λ i. get_or p i (pos 0) -ℤ row_dot (get_or rot i []) p)) s (den * d) e (mul-pos hn hd) he x y z
    ∙ ap₂ ◌⊕◌ (basis_vector num den v d hn hd) (fixed_vector rot p e he)

component-row : (k : List ℤ) (d : ℕ) (num : List (List ℤ)) (den : ℕ) (j : Fin 3) → wave_component (wave_of k d · basis_of num den) j
    ≡ rationals.add (rationals.mul (ratio (get_or k 0 (pos 0)) d) (ratio (get_or (get_or num 0 []) (to_nat j) (pos 0)) den))
    (rationals.add (rationals.mul (ratio (get_or k 1 (pos 0)) d) (ratio (get_or (get_or num 1 []) (to_nat j) (pos 0)) den))
    (rationals.add (rationals.mul (ratio (get_or k 2 (pos 0)) d) (ratio (get_or (get_or num 2 []) (to_nat j) (pos 0)) den)) rationals.zero))
unfolding wave_component ◌·◌ sum basis_of rotation_of wave_of ratios to_nat
component-row k d num den j = refl

pub basis_row : (k : List ℤ) (d : ℕ) (num : List (List ℤ)) (den : ℕ) (s : List ℤ) → 0 < d → 0 < den → ((j : Fin 3) → entry s j ≡ column_dot k num (to_nat j)) → wave_of s (d * den) ≡ wave_of k d · basis_of num den
basis_row k d num den s hd hn is = wave-ext (wave_of s (d * den)) (wave_of k d · basis_of num den)
    (λ j. wave_component-wave_of s (d * den) j ∙ ap (λ x. ratio x (d * den)) (is j)
    ∙ sym (three_products (get_or k 0 (pos 0)) (get_or k 1 (pos 0)) (get_or k 2 (pos 0)) (get_or (get_or num 0 []) (to_nat j) (pos 0)) (get_or (get_or num 1 []) (to_nat j) (pos 0)) (get_or (get_or num 2 []) (to_nat j) (pos 0)) d den hd hn)
    ∙ sym (component-row k d num den j))
