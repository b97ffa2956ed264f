-- The numbers of operations that are read.
--   small_numbers         numbers over their common denominator are small where those of the single fractions are
--   readable_generator    an operation that can be read is a generator
use Rattle.std.proofs.Common.{◌≡◌, sym, ◌∙◌, ap, ℕ, ◌≤◌, ◌<◌, ◌*◌, ◌^◌, ℤ, pos, ◌*ℤ◌, unsigned_abs, arith}
use Rattle.std.specs.List.{All}
use Rattle.std.specs.Prelude.{List}
use Rattle.std.proofs.lemmas.Int.{unsigned_abs-mul}
use native.Mathlib.Nat as Nat
use Rattle.irr_algebra.specs.Fin.{Fin}
use Rattle.irr_rational.specs.Rational.{Rational, ratio}
use Rattle.irr_rational.specs.Ratio.{AreLowest, IsLowest, entry}
use Rattle.irr_rational.proofs.Ratios.{cross_of_ratio}
use Rattle.irr_canonical.specs.Coefficient.{denominator}
use Rattle.irr_space.specs.Operation.{component}
use Rattle.irr_text.specs.NumberText.{numerator}
use Rattle.irr_text.proofs.RationalForm.{numerator_is_lowest}
use Rattle.irr_rat.specs.Lowest.{AreThreeLowest}
use Rattle.irr_rat.proofs.LowestForms.{lowest_divides}
use Rattle.irr_rat.proofs.Vectors.{component-vector_of}
use Rattle.irr_seitz.specs.OperationMeaning.{operation}
use Rattle.irr_seitz.specs.Rotation.{determinant}
use Rattle.irr_seitz.specs.declared.op.Op.{Op}
use Rattle.irr_triplet.specs.Readable.{IsReadable}
use Rattle.irr_close.specs.Closing.{IsGenerator}

-- a number over a denominator, and the same over another
under : (a q n d : ℕ) → 0 < q → a * q ≡ n * d → n ≤ 100000 → d ≤ 100000 → a ≤ 10 ^ 10
under a q n d h e hn hd =
    let p : a * 1 ≤ a * q = Nat.mul-le-mul_left a h in
    let r : n * d ≤ 100000 * 100000 = Nat.mul-le-mul hn hd in
    omega arith

module _ (num : List ℤ) (den : ℕ) (f : Fin 3 → Rational) (low : AreThreeLowest num den) (same : (i : Fin 3) → f i ≡ ratio (entry num i) den)
    (small : (i : Fin 3) → unsigned_abs (numerator (f i)) ≤ 100000) (c : Fin 3 → ℤ) (d : ℕ) (other : AreLowest c d)
    (are : (i : Fin 3) → f i ≡ ratio (c i) d) (within : d ≤ 100000) where
  pub small_denominator : den ≤ 100000
  small_denominator = at_factor (lowest_divides (entry num) c den d low other.positive (λ i. sym (same i) ∙ are i))
    where
      at_factor : (k : ℕ) × (0 < k) × (d ≡ k * den) × ((i : Fin 3) → c i ≡ pos k *ℤ entry num i) → den ≤ 100000
      at_factor t = let g : 1 * den ≤ t.0 * den = Nat.mul-le-mul_right den t.1 in let p : d ≡ t.0 * den = t.2 in omega arith

  pub small_numbers : (i : Fin 3) → unsigned_abs (entry num i) ≤ 10 ^ 10
  small_numbers i = under (unsigned_abs (entry num i)) (denominator 1 (f i)) (unsigned_abs (numerator (f i))) den form.0.positive cross
      (small i) small_denominator
    where
      form : IsLowest (numerator (f i)) (denominator 1 (f i)) × (ratio (numerator (f i)) (denominator 1 (f i)) ≡ f i)
      form = numerator_is_lowest (f i)

      cross : unsigned_abs (entry num i) * denominator 1 (f i) ≡ unsigned_abs (numerator (f i)) * den
      cross = sym (unsigned_abs-mul (entry num i) (pos (denominator 1 (f i))))
          ∙ ap unsigned_abs (cross_of_ratio (entry num i) (numerator (f i)) den (denominator 1 (f i)) low.positive form.0.positive
          (sym (same i) ∙ sym form.1))
          ∙ unsigned_abs-mul (numerator (f i)) (pos den)

pub readable_generator : (g : Op) → IsReadable (operation g) → IsGenerator g
readable_generator g h = record {
  within = h.coefficients;
  numerators = λ i. let s : unsigned_abs (entry g.num i) ≤ 10 ^ 10 = small_numbers g.num g.den (component (operation g).vector) g.lowest
      (component-vector_of g.num g.den) h.numerators h.num h.den h.lowest h.are h.denominator i in omega arith;
}

pub readable_generators : (gens : List Op) → All (λ g. IsReadable (operation g)) gens → All IsGenerator gens
readable_generators gens h k d l = readable_generator _ (h k d l)

pub readable_unimodular : (gens : List Op) → All (λ g. IsReadable (operation g)) gens → All
    (λ s. unsigned_abs (determinant (operation s).rotation) ≡ 1) gens
readable_unimodular gens h k d l = (h k d l).unimodular
