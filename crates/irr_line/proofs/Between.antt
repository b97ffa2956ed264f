-- The wave vectors on a line or a plane, and the line group as the operations that keep them all.
--   line_keeps_all        an operation of the line group is in the little group of each
--   line_of_all           an operation in the little group of each is in the line group
use Rattle.std.proofs.Common.{◌≡◌, sym, ◌∙◌, ap, ap₂, subst, refl, ℕ, ℤ, suc, pos, inl, inr, ◌+ℤ◌, arith}
use Rattle.std.proofs.lemmas.Int.{ints}
use Rattle.irr_algebra.specs.Fin.{Fin}
use Rattle.irr_algebra.specs.Fin.Fin.{first}
use Rattle.irr_algebra.specs.Ring.{Ring, whole}
use Rattle.irr_algebra.specs.Sum.{delta}
use Rattle.irr_algebra.specs.Matrix.{Matrix, ◌·◌, ◌⊕◌, ◌⊖◌, scale, unit, column, combination, total}
use Rattle.irr_algebra.proofs.Fields.{mul-ne-zero, whole-ne-zero}
use Rattle.irr_algebra.proofs.Matrices.{matrix-ext, scale-mul, sub_self, add-null}
use Rattle.irr_algebra.proofs.Rings.{ring_laws, eq_of_sub-zero}
use Rattle.irr_algebra.proofs.Sums.{sum-add}
use Rattle.irr_algebra.proofs.Totals.{combination-delta, combination-mul, total-ext, total-mul}
use Rattle.irr_rational.specs.Rational.{Rational, rationals, rational_field, IsWhole}
use Rattle.irr_rational.proofs.Integers.{integer-add, integer-one, integer_inj}
use Rattle.irr_rational.proofs.WholeNumbers.{whole-add, whole-neg}
use Rattle.irr_lattice.proofs.Vectors.{dot-unit, wave-ext, wave_component-sub}
use Rattle.irr_space.specs.Operation.{Operation, WaveVector, translation, turned, wave_component}
use Rattle.irr_space.specs.Reciprocal.{IsReciprocal}
use Rattle.irr_space.specs.Star.{IsInLittleGroup}
use Rattle.irr_cocycle.proofs.Operations.{wide}
use Rattle.irr_line.specs.LineGroup.{IsInLineGroup}

add-mul : {R : Ring} {l m n : ℕ} (a b : Matrix R l m) (c : Matrix R m n) → (a ⊕ b) · c ≡ a · c ⊕ b · c
unfolding ◌·◌ ◌⊕◌
add-mul {R} a b c = matrix-ext (λ i j. simp (ring_laws, R, sum-add R))

turned-add : (k l : WaveVector) (g : Operation) → turned (k ⊕ l) g ≡ turned k g ⊕ turned l g
unfolding turned
turned-add k l g = add-mul k l (wide g)

turned-scale : (y : Rational) (k : WaveVector) (g : Operation) → turned (scale rationals y k) g ≡ scale rationals y (turned k g)
unfolding turned
turned-scale y k g = scale-mul rationals y k (wide g)

turned-total : (n : ℕ) (f : Fin n → WaveVector) (g : Operation) → turned (total n f) g ≡ total n (λ i. turned (f i) g)
unfolding turned
turned-total n f g = total-mul n f (wide g)

-- what two sums share does not count
same_part : (a b c : WaveVector) → (a ⊕ c) ⊖ (b ⊕ c) ≡ a ⊖ b
unfolding ◌⊕◌ ◌⊖◌
same_part a b c = matrix-ext (λ i j. drop (a.at i j) (b.at i j) (c.at i j))
  where
    drop : (x y z : Rational) → rationals.add (rationals.add x z) (rationals.neg (rationals.add y z)) ≡ rationals.add x (rationals.neg y)
    drop x y z = simp (ring_laws, rationals)

moved_parts : (y : Rational) (a b c d : WaveVector) → (a ⊕ scale rationals y b) ⊖ (c ⊕ scale rationals y d) ≡ (a ⊖ c) ⊕ scale rationals y (b ⊖ d)
unfolding ◌⊕◌ ◌⊖◌ scale
moved_parts y a b c d = matrix-ext (λ i j. parts y (a.at i j) (b.at i j) (c.at i j) (d.at i j))
  where
    parts : (y a b c d : Rational) → rationals.add (rationals.add a (rationals.mul y b)) (rationals.neg (rationals.add c (rationals.mul y d)))
        ≡ rationals.add (rationals.add a (rationals.neg c)) (rationals.mul y (rationals.add b (rationals.neg d)))
    parts y a b c d = simp (ring_laws, rationals)

component-moved : (y : Rational) (a b : WaveVector) (j : Fin 3) → wave_component (a ⊕ scale rationals y b) j ≡ rationals.add (wave_component a j) (rationals.mul y (wave_component b j))
unfolding wave_component ◌⊕◌ scale
component-moved y a b j = refl

-- a number all of whose multiples are whole is 0
none_of_all : (r : Rational) → ((y : Rational) → IsWhole (rationals.mul y r)) → r ≡ rationals.zero
unfolding whole
none_of_all r all = elim (rational_field.decide r rationals.zero) [
  | inl e ↦ e
  | inr apart ↦ absurd (odd (all (half apart)).number (halves apart))
]
  where
    twice : Rational
    twice = rationals.mul (whole rationals 2) r

    half : (r ≡ rationals.zero → ⊥) → Rational
    half apart = rational_field.inverse twice

    odd : (a : ℤ) → a +ℤ a ≡ pos 1 → ⊥
    odd a e = omega (arith, ints, e)

    two : (y r : Rational) → rationals.add (rationals.mul y r) (rationals.mul y r) ≡ rationals.mul (rationals.mul (rationals.add rationals.one (rationals.add rationals.one rationals.zero)) r) y
    two y r = simp (ring_laws, rationals)

    halves : (apart : r ≡ rationals.zero → ⊥) → (all (half apart)).number +ℤ (all (half apart)).number ≡ pos 1
    halves apart = let w = all (half apart) in integer_inj rational_field (w.number +ℤ w.number) (pos 1)
        (integer-add rationals w.number w.number ∙ ap₂ rationals.add (sym w.is) (sym w.is) ∙ two (half apart) r
        ∙ rational_field.mul-inverse twice (mul-ne-zero rational_field (whole rationals 2) r (whole-ne-zero rational_field 2 (omega arith)) apart) ∙ sym (integer-one rationals))

module _ (G : Operation → Type 0) {n : ℕ} (point : Fin (suc n) → WaveVector) (g : Operation) where
  abbrev step : Fin (suc n) → WaveVector
  step i = point i ⊖ point first

  -- k0 and numbers times the steps
  abbrev between : (Fin (suc n) → Rational) → WaveVector
  between x = point first ⊕ combination rationals (suc n) x step

  pub line_keeps_all : IsInLineGroup G point g → (x : Fin (suc n) → Rational) → IsInLittleGroup G (between x) g
  line_keeps_all p x = record {
    member = p.in_little.member;
    keeps = subst (IsReciprocal G) (sym (ap (λ w. w ⊖ between x) (turned-add (point first) (combination rationals (suc n) x step) g
        ∙ ap (λ w. turned (point first) g ⊕ w) kept) ∙ same_part (turned (point first) g) (point first) (combination rationals (suc n) x step))) p.in_little.keeps;
  }
    where
      kept : turned (combination rationals (suc n) x step) g ≡ combination rationals (suc n) x step
      kept = turned-total (suc n) (λ i. scale rationals (x i) (step i)) g
          ∙ total-ext (suc n) (λ i. turned-scale (x i) (step i) g ∙ ap (scale rationals (x i)) (p.keeps_step i))

  module _ (unit_translations : (j : Fin 3) → G (translation (column (unit rationals 3) j))) (all : (x : Fin (suc n) → Rational) → IsInLittleGroup G (between x) g) where
    at_first : IsInLittleGroup G (point first) g
    at_first = subst (λ k. IsInLittleGroup G k g) (ap (λ w. point first ⊕ w) (combination-delta (suc n) first step ∙ sub_self (point first)) ∙ add-null (point first)) (all (delta rationals first))

    at_multiple : (i : Fin (suc n)) (y : Rational) → IsInLittleGroup G (point first ⊕ scale rationals y (step i)) g
    at_multiple i y = subst (λ k. IsInLittleGroup G (point first ⊕ k) g) (combination-mul rationals (suc n) y (delta rationals i) step ∙ ap (scale rationals y) (combination-delta (suc n) i step))
        (all (λ k. rationals.mul y (delta rationals i k)))

    whole_component : (K : WaveVector) → IsReciprocal G K → (j : Fin 3) → IsWhole (wave_component K j)
    whole_component K r j = subst IsWhole (dot-unit K j) (r.is_whole (column (unit rationals 3) j) (unit_translations j))

    rest : (a b : Rational) → IsWhole (rationals.add a b) → IsWhole a → IsWhole b
    rest a b s w = subst IsWhole (left a b) (whole-add (rationals.add a b) (rationals.neg a) s (whole-neg a w))
      where
        left : (a b : Rational) → rationals.add (rationals.add a b) (rationals.neg a) ≡ b
        left a b = simp (ring_laws, rationals)

    multiples_whole : (i : Fin (suc n)) (j : Fin 3) (y : Rational) → IsWhole (rationals.mul y (wave_component (turned (step i) g ⊖ step i) j))
    multiples_whole i j y = rest (wave_component (turned (point first) g ⊖ point first) j) (rationals.mul y (wave_component (turned (step i) g ⊖ step i) j))
        (subst IsWhole (ap (λ w. wave_component (w ⊖ (point first ⊕ scale rationals y (step i))) j)
        (turned-add (point first) (scale rationals y (step i)) g ∙ ap (λ w. turned (point first) g ⊕ w) (turned-scale y (step i) g))
        ∙ ap (λ w. wave_component w j) (moved_parts y (turned (point first) g) (turned (step i) g) (point first) (step i))
        ∙ component-moved y (turned (point first) g ⊖ point first) (turned (step i) g ⊖ step i) j)
        (whole_component (turned (point first ⊕ scale rationals y (step i)) g ⊖ (point first ⊕ scale rationals y (step i))) (at_multiple i y).keeps j))
        (whole_component (turned (point first) g ⊖ point first) at_first.keeps j)

    pub line_of_all : IsInLineGroup G point g
    line_of_all = record {
      in_little = at_first;
      keeps_step = λ i. wave-ext (turned (step i) g) (step i) (λ j. eq_of_sub-zero rationals (wave_component (turned (step i) g) j) (wave_component (step i) j)
          (sym (wave_component-sub (turned (step i) g) (step i) j) ∙ none_of_all (wave_component (turned (step i) g ⊖ step i) j) (multiples_whole i j)));
    }
