-- Each number has one made input.
--   reduced_product       two operations have a product in the unit cell
--   one_reduced           and only one
--   lines_exist, one_list      the lines of a made input
--   one_text                   its text
use Rattle.std.proofs.Common.{◌≡◌, sym, ◌∙◌, ap, ap₂, subst, subst₂, refl, ℕ, zero, suc, List, [], ◌∷◌, ◌++◌, ◌%◌, ◌^◌}
use Rattle.irr_algebra.specs.Fin.{Fin}
use Rattle.irr_algebra.specs.Ring.{Ring}
use Rattle.irr_algebra.specs.Matrix.{◌⊖◌}
use Rattle.irr_algebra.proofs.Rings.{ring_laws}
use Rattle.irr_rational.specs.Integer.{integer}
use Rattle.irr_rational.specs.Rational.{rationals}
use Rattle.irr_rational.specs.Order.{◌≤ℚ◌, ◌<ℚ◌}
use Rattle.irr_rational.proofs.Floors.{floor_of, fraction-nonneg, fraction-lt}
use Rattle.irr_space.specs.Operation.{Operation, Vector, WaveVector, ◌⊙◌, component}
use Rattle.irr_space.specs.CanonicalOperation.{IsInCell}
use Rattle.irr_rat.proofs.Vectors.{component-sub}
use Rattle.irr_seitz.proofs.Vectors.{operation-ext}
use Rattle.irr_close.specs.Whole.{IsWholeVector}
use Rattle.irr_close.proofs.Closure.{whole_flipped}
use Rattle.irr_close.proofs.Lattice.{near_one, same_in_cell}
use Rattle.irr_gen.specs.Symmetry.{IsReducedProduct}
use Rattle.irr_gen.specs.Groups.{group_of, generators}
use Rattle.irr_gen.specs.MadeInput.{AreMadeLinesTo, AreMadeLines, IsDrawnProduct, IsMadeInput, lines_text, next_number, drawn_line}

-- each component less its floor
in_cell : Vector → Vector
in_cell v = record { at = λ i j. rationals.add (component v i) (rationals.neg (integer rationals (floor_of (component v i)).0)) }

in_cell-component : (v : Vector) (i : Fin 3) → component (in_cell v) i
    ≡ rationals.add (component v i) (rationals.neg (integer rationals (floor_of (component v i)).0))
unfolding in_cell component
in_cell-component v i = refl

in_cell-is : (v : Vector) → IsInCell (in_cell v)
in_cell-is v i = let f = floor_of (component v i) in subst (λ u. (rationals.zero ≤ℚ u) × (u <ℚ rationals.one)) (sym (in_cell-component v i))
    (fraction-nonneg (component v i) f.0 f.1, fraction-lt (component v i) f.0 f.1)

in_cell-whole : (v : Vector) → IsWholeVector (v ⊖ in_cell v)
in_cell-whole v i = record {
  number = (floor_of (component v i)).0;
  is = component-sub v (in_cell v) i ∙ ap (λ u. rationals.add (component v i) (rationals.neg u)) (in_cell-component v i)
      ∙ left rationals (component v i) (integer rationals (floor_of (component v i)).0);
}
  where
    left : (R : Ring) (u v : R.Carrier) → R.add u (R.neg (R.add u (R.neg v))) ≡ v
    left R u v = simp (ring_laws, R)

pub reduced_product : (g h : Operation) → (f : Operation) × IsReducedProduct g h f
reduced_product g h = (
  record { rotation = (g ⊙ h).rotation; vector = in_cell (g ⊙ h).vector },
  record {
    rotation = refl;
    in_cell = in_cell-is (g ⊙ h).vector;
    whole = in_cell-whole (g ⊙ h).vector;
  },
)

pub one_reduced : (g h e f : Operation) → IsReducedProduct g h e → IsReducedProduct g h f → e ≡ f
one_reduced g h e f p q = operation-ext e f (p.rotation ∙ sym q.rotation) (same_in_cell e.vector f.vector p.in_cell q.in_cell
    (near_one e.vector f.vector (g ⊙ h).vector (whole_flipped (g ⊙ h).vector e.vector p.whole) (whole_flipped (g ⊙ h).vector f.vector q.whole)))

drawn_product : (s : ℕ) (lines : List Operation) → (f : Operation) × IsDrawnProduct s lines f
drawn_product s lines = reduced_product (drawn_line s lines) (drawn_line (next_number s) lines)

one_drawn : (s : ℕ) (lines : List Operation) (e f : Operation) → IsDrawnProduct s lines e → IsDrawnProduct s lines f → e ≡ f
one_drawn s lines = one_reduced (drawn_line s lines) (drawn_line (next_number s) lines)

pub lines_exist : (gs : List Operation) (s k : ℕ) → (lines : List Operation) × AreMadeLines gs s k lines
unfolding AreMadeLinesTo
lines_exist gs s zero = (gs, (s, (refl, refl)))
lines_exist gs s (suc k) = more (lines_exist gs s k)
  where
    more : (earlier : List Operation) × AreMadeLines gs s k earlier → (lines : List Operation) × AreMadeLines gs s (suc k) lines
    more h = let p = drawn_product h.1.0 h.0 in
        (h.0 ++ p.0 ∷ [], (next_number (next_number h.1.0), (h.0, h.1.0, p.0, h.1.1, p.1, refl, refl)))

one_list_to : (gs : List Operation) (s k : ℕ) (xs ys : List Operation) (t u : ℕ) → AreMadeLinesTo gs s k xs t → AreMadeLinesTo gs s k ys u → (xs ≡ ys) × (t ≡ u)
unfolding AreMadeLinesTo
one_list_to gs s zero xs ys t u h k = (h.0 ∙ sym k.0, h.1 ∙ sym k.1)
one_list_to gs s (suc n) xs ys t u (a, r, e, ha, pe, ea, na) (b, q, f, hb, pf, eb, nb) =
    let same = one_list_to gs s n a b r q ha hb in
    let product : e ≡ f = one_drawn q b e f (subst₂ (λ m lines. IsDrawnProduct m lines e) same.1 same.0 pe) pf in
    (ea ∙ ap₂ (λ lines g. lines ++ g ∷ []) same.0 product ∙ sym eb, na ∙ ap (λ m. next_number (next_number m)) same.1 ∙ sym nb)

pub one_list : (gs : List Operation) (s k : ℕ) (xs ys : List Operation) → AreMadeLines gs s k xs → AreMadeLines gs s k ys → xs ≡ ys
one_list gs s k xs ys h q = (one_list_to gs s k xs ys h.0 q.0 h.1 q.1).0

pub one_text : (n : ℕ) (s t : List ℕ) (k l : WaveVector) → IsMadeInput n s k → IsMadeInput n t l → s ≡ t
one_text n s t k l h q = h.is_text
    ∙ ap lines_text (one_list (generators (group_of (n % 4))) (n % 2 ^ 31) 2000 h.lines q.lines h.are_lines q.are_lines) ∙ sym q.is_text
