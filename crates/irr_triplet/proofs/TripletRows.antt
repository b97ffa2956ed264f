-- The rows of an operation, and their texts.
--   row_text              the text of a component by its row
--   row_form              the row of an operation that can be read, within the limits
--   triplet_text-parts    the text of a triplet by those of its components
--   rows_of               the rows of an operation whose rotation is a list's
use Rattle.std.proofs.Common.{◌≡◌, refl, sym, ◌∙◌, ap, ap₂, ℕ, ◌≤◌, ℤ, [], ◌∷◌, ◌++◌, append_assoc}
use Rattle.std.specs.Int.RustNames.{unsigned_abs}
use native.Mathlib.Nat as Nat
use Rattle.irr_algebra.specs.Fin.{Fin, to_nat}
use Rattle.irr_algebra.specs.Fin.Fin.{first, next}
use Rattle.irr_rational.specs.Rational.{ratio}
use Rattle.irr_rational.specs.Ratio.{IsLowest}
use Rattle.irr_canonical.specs.Coefficient.{denominator}
use Rattle.irr_space.specs.Operation.{Operation, component}
use Rattle.irr_text.specs.NumberText.{numerator}
use Rattle.irr_text.specs.TripletText.{component_text, triplet_text}
use Rattle.irr_text.proofs.RationalForm.{numerator-lowest, denominator-lowest, numerator_is_lowest}
use Rattle.irr_rat.proofs.CommonDenominators.{denominator_divides}
use Rattle.irr_seitz.specs.Rotation.{rotation_of}
use Rattle.irr_triplet.specs.Readable.{IsReadable}
use Rattle.irr_triplet.specs.Rows.{IsRow}
use Rattle.irr_triplet.specs.Terms.{terms_text}

-- the text of a component by its row
row_text : (g : Operation) (i : Fin 3) (x y z a : ℤ) (b : ℕ) → IsRow g i x y z a b → IsLowest a b → component_text g i ≡ terms_text x y z a b
unfolding component_text terms_text
row_text g i x y z a b row low =
    ap₂ (λ s t. terms_text s t (g.rotation.at i (next (next first))) (numerator (component g.vector i)) (denominator 1 (component g.vector i))) row.at_x
    row.at_y
    ∙ ap (λ s. terms_text x y s (numerator (component g.vector i)) (denominator 1 (component g.vector i))) row.at_z
    ∙ ap₂ (terms_text x y z) (ap numerator row.shift ∙ numerator-lowest a b low) (ap (denominator 1) row.shift ∙ denominator-lowest a b low)

-- the row of an operation that can be read
pub record RowForm (g : Operation) (i : Fin 3) : Type 0 where
  pub x : ℤ
  pub y : ℤ
  pub z : ℤ
  pub num : ℤ
  pub den : ℕ
  pub is : IsRow g i x y z num den
  pub lowest : IsLowest num den
  pub x_within : unsigned_abs x ≤ 9
  pub y_within : unsigned_abs y ≤ 9
  pub z_within : unsigned_abs z ≤ 9
  pub num_within : unsigned_abs num ≤ 100000
  pub den_within : den ≤ 100000
  pub text : component_text g i ≡ terms_text x y z num den

pub row_form : (g : Operation) → IsReadable g → (i : Fin 3) → RowForm g i
row_form g h i = record {
  x = g.rotation.at i first;
  y = g.rotation.at i (next first);
  z = g.rotation.at i (next (next first));
  num = a;
  den = b;
  is = row;
  lowest = low.0;
  x_within = h.coefficients i first;
  y_within = h.coefficients i (next first);
  z_within = h.coefficients i (next (next first));
  num_within = h.numerators i;
  den_within = Nat.le_trans (Nat.le_of_dvd h.lowest.positive (denominator_divides a (h.num i) b h.den low.0 h.lowest.positive (sym (h.are i)
      ∙ sym low.1))) h.denominator;
  text = row_text g i (g.rotation.at i first) (g.rotation.at i (next first)) (g.rotation.at i (next (next first))) a b row low.0;
}
  where
    a : ℤ
    a = numerator (component g.vector i)

    b : ℕ
    b = denominator 1 (component g.vector i)

    low : IsLowest (numerator (component g.vector i)) (denominator 1 (component g.vector i)) × (ratio (numerator (component g.vector i)) (denominator 1
        (component g.vector i)) ≡ component g.vector i)
    low = numerator_is_lowest (component g.vector i)

    row : IsRow g i (g.rotation.at i first) (g.rotation.at i (next first)) (g.rotation.at i (next (next first))) (numerator (component g.vector i))
        (denominator 1 (component g.vector i))
    row = record { at_x = refl; at_y = refl; at_z = refl; shift = sym low.1 }

-- the parts of a triplet's text

pub triplet_text-parts : (g : Operation) → triplet_text g ≡ component_text g first ++ 44 ∷ (component_text g (next first) ++ 44 ∷ component_text g (next
    (next first)))
unfolding triplet_text
triplet_text-parts g = append_assoc (component_text g first) (44 ∷ component_text g (next first)) (44 ∷ component_text g (next (next first)))

-- the rows of an operation whose rotation is a list's
pub rows_of : (g : Operation) (x₀ y₀ z₀ x₁ y₁ z₁ x₂ y₂ z₂ a₀ a₁ a₂ : ℤ) (b₀ b₁ b₂ : ℕ)
    → g.rotation ≡ rotation_of ((x₀ ∷ y₀ ∷ z₀ ∷ []) ∷ (x₁ ∷ y₁ ∷ z₁ ∷ []) ∷ (x₂ ∷ y₂ ∷ z₂ ∷ []) ∷ [])
    → component g.vector first ≡ ratio a₀ b₀ → component g.vector (next first) ≡ ratio a₁ b₁ → component g.vector (next (next first)) ≡ ratio a₂ b₂
    → IsRow g first x₀ y₀ z₀ a₀ b₀ × IsRow g (next first) x₁ y₁ z₁ a₁ b₁ × IsRow g (next (next first)) x₂ y₂ z₂ a₂ b₂
unfolding rotation_of to_nat
rows_of g x₀ y₀ z₀ x₁ y₁ z₁ x₂ y₂ z₂ a₀ a₁ a₂ b₀ b₁ b₂ e p q r = (
  record { at_x = ap (λ m. m.at first first) e; at_y = ap (λ m. m.at first (next first)) e; at_z = ap (λ m. m.at first (next (next first))) e; shift = p },
  record {
    at_x = ap (λ m. m.at (next first) first) e;
    at_y = ap (λ m. m.at (next first) (next first)) e;
    at_z = ap (λ m. m.at (next first) (next (next
        first))) e;
    shift = q;
  },
  record {
    at_x = ap (λ m. m.at (next (next first)) first) e;
    at_y = ap (λ m. m.at (next (next first)) (next first)) e;
    at_z = ap (λ m. m.at (next (next
        first)) (next (next first))) e;
    shift = r;
  },
)
