-- Whole multiples of wave vectors, and rows of whole numbers.
--   multiple_at         n times a component as a fraction
--   step_of_rows        the differences of two such rows are a step
--   order_multiple      a multiple of the order at a wave vector makes it whole
--   kept_row            a rotation keeps a row where its product is that row
--   kept_multiple       and keeps a wave vector where it keeps a multiple
--   turns_of_step       n times the product of the step and a vector
use Rattle.std.proofs.Common.{◌≡◌, sym, ◌∙◌, ap, ap₂, subst, refl, inl, inr, ℕ, ℤ, ◌*◌, ◌<◌, ◌↔◌, pos, ◌+ℤ◌, ◌-ℤ◌, ◌*ℤ◌, neg_ℤ, List, [], get_or, arith}
use Rattle.std.proofs.lemmas.Int.{ints}
use native.Mathlib.Nat as Nat
use Rattle.irr_algebra.specs.Fin.{Fin}
use Rattle.irr_algebra.specs.Ring.{whole}
use Rattle.irr_algebra.specs.Matrix.{◌·◌, ◌⊖◌, scale}
use Rattle.irr_algebra.proofs.Fields.{whole-ne-zero, mul_cancel}
use Rattle.irr_algebra.proofs.Rings.{mul-neg}
use Rattle.irr_algebra.proofs.Whole.{whole-mul}
use Rattle.irr_algebra.proofs.Matrices.{scale-mul}
use Rattle.irr_rational.specs.Integer.{integer, whole_matrix}
use Rattle.irr_rational.specs.Rational.{Rational, rationals, rational_field, ratio, IsWhole}
use Rattle.irr_rational.specs.Ratio.{entry}
use Rattle.irr_rational.proofs.Integers.{integer-add, integer-neg, integer-pos, integer_inj}
use Rattle.irr_rational.proofs.Ratios.{integer-ratio}
use Rattle.irr_rational.proofs.WholeNumbers.{multiple_of_ratio, whole-mul as product_whole, whole-integer}
use Rattle.irr_lattice.proofs.Vectors.{wave-ext, wave_component-sub, wave_component-scale}
use Rattle.irr_space.specs.Operation.{Operation, Vector, WaveVector, dot, turned, wave_component}
use Rattle.irr_space.specs.Reciprocal.{times}
use Rattle.irr_rat.specs.VectorMeaning.{vector_of}
use Rattle.irr_seitz.specs.OperationMeaning.{operation}
use Rattle.irr_seitz.specs.Rotation.{rotation_of}
use Rattle.irr_seitz.specs.declared.op.Op.{Op}
use Rattle.irr_cocycle.specs.SubgroupTable.{IsOrderAt}
use Rattle.irr_cocycle.proofs.Operations.{dot-times}
use Rattle.irr_close.specs.StandsFor.{stands_for}
use Rattle.irr_close.specs.declared.group.Group.{Group}
use Rattle.irr_close.proofs.SpaceGroups.{space_group}
use Rattle.irr_kvec.proofs.Lattices.{reciprocal_whole}
use Rattle.irr_kvec.specs.WaveMeaning.{wave_of}
use Rattle.irr_kvec.proofs.Products.{wave_component-wave_of, dot-listed}
use Rattle.irr_kvec.proofs.Actions.{row_at, row_times}
use Rattle.irr_little.specs.Steps.{IsStep, IsWholeMultiple}
use Rattle.irr_little.proofs.Spaces.{same_reciprocal}

pub multiple_at : (n : ℕ) (num : List ℤ) (den : ℕ) → 0 < den → (i : Fin 3) → wave_component (times n (wave_of num den)) i ≡ ratio (pos n *ℤ entry num i) den
multiple_at n num den h i = wave_component-scale (whole rationals n) (wave_of num den) i
    ∙ ap (rationals.mul (whole rationals n)) (wave_component-wave_of num den i) ∙ sym (multiple_of_ratio n (entry num i) den h)

integer-sub : (a b : ℤ) → integer rationals (a -ℤ b) ≡ rationals.add (integer rationals a) (rationals.neg (integer rationals b))
integer-sub a b = ap (integer rationals) (by_sum a b) ∙ integer-add rationals a (neg_ℤ b) ∙ ap (rationals.add (integer rationals a)) (integer-neg rationals b)
  where
    by_sum : (x y : ℤ) → x -ℤ y ≡ x +ℤ neg_ℤ y
    by_sum x y = omega (arith, ints)

times-sub : (n : ℕ) (k l : WaveVector) (i : Fin 3) → wave_component (times n (l ⊖ k)) i
    ≡ rationals.add (wave_component (times n l) i) (rationals.neg (wave_component (times n k) i))
times-sub n k l i = wave_component-scale (whole rationals n) (l ⊖ k) i ∙ ap (rationals.mul (whole rationals n)) (wave_component-sub l k i)
    ∙ apart (whole rationals n) (wave_component l i) (wave_component k i)
    ∙ ap₂ (λ x y. rationals.add x (rationals.neg y)) (sym (wave_component-scale (whole rationals n) l i)) (sym (wave_component-scale (whole rationals n) k i))
  where
    apart : (a x y : Rational) → rationals.mul a (rationals.add x (rationals.neg y)) ≡ rationals.add (rationals.mul a x) (rationals.neg (rationals.mul a y))
    apart a x y = rationals.mul-add a x (rationals.neg y) ∙ ap (rationals.add (rationals.mul a x)) (mul-neg rationals a y)

pub step_of_rows : (n : ℕ) (k l a b c : List ℤ) (p q : ℕ) → 0 < p → 0 < q
    → ((i : Fin 3) → integer rationals (entry a i) ≡ ratio (pos n *ℤ entry k i) p) → ((i : Fin 3) → integer rationals (entry b i) ≡ ratio (pos n *ℤ entry l i) q)
    → ((i : Fin 3) → entry c i ≡ entry b i -ℤ entry a i) → IsStep n (wave_of k p) (wave_of l q) c
step_of_rows n k l a b c p q hp hq at_k at_l differs = wave-ext (wave_of c 1) (times n (wave_of l q ⊖ wave_of k p)) (λ i.
    wave_component-wave_of c 1 i ∙ sym (integer-ratio (entry c i)) ∙ ap (integer rationals) (differs i) ∙ integer-sub (entry b i) (entry a i)
    ∙ ap₂ (λ x y. rationals.add x (rationals.neg y)) (at_l i ∙ sym (multiple_at n l q hq i)) (at_k i ∙ sym (multiple_at n k p hp i))
    ∙ sym (times-sub n (wave_of k p) (wave_of l q) i))

pub order_multiple : (group : Group) (k : WaveVector) (n : ℕ) → IsOrderAt (stands_for group) k n → IsWholeMultiple n k
order_multiple group k n o i = subst IsWhole (sym (ap (λ m. wave_component (times m k) i) o.is_product
    ∙ wave_component-scale (whole rationals (o.exponent * o.multiple)) k i ∙ grouped))
    (product_whole (whole rationals o.exponent) (wave_component (times o.multiple k) i)
    (subst IsWhole (integer-pos rationals o.exponent) (whole-integer (pos o.exponent)))
    (reciprocal_whole group.centrings.items (space_group group).centrings.zero (times o.multiple k) ((same_reciprocal group (times o.multiple k)).0 o.reciprocal) i))
  where
    grouped : rationals.mul (whole rationals (o.exponent * o.multiple)) (wave_component k i) ≡ rationals.mul (whole rationals o.exponent) (wave_component (times o.multiple k) i)
    grouped = ap (λ x. rationals.mul x (wave_component k i)) (whole-mul rationals o.exponent o.multiple)
        ∙ rationals.mul_assoc (whole rationals o.exponent) (whole rationals o.multiple) (wave_component k i)
        ∙ ap (rationals.mul (whole rationals o.exponent)) (sym (wave_component-scale (whole rationals o.multiple) k i))

pub kept_row : (num c : List ℤ) (g : Op) → ((i : Fin 3) → entry c i ≡ row_at num g.rot i)
    → ((i : Fin 3) → entry c i ≡ entry num i) ↔ (turned (wave_of num 1) (operation g) ≡ wave_of num 1)
unfolding turned
kept_row num c g is_row = (
  λ same. sym (row_times num c g.rot is_row 1) ∙ wave-ext (wave_of c 1) (wave_of num 1) (λ i. wave_component-wave_of c 1 i
      ∙ ap (λ x. ratio x 1) (same i) ∙ sym (wave_component-wave_of num 1 i)),
  λ kept i. integer_inj rational_field (entry c i) (entry num i) (integer-ratio (entry c i) ∙ sym (wave_component-wave_of c 1 i)
      ∙ ap (λ (k : WaveVector). wave_component k i) (row_times num c g.rot is_row 1 ∙ kept) ∙ wave_component-wave_of num 1 i ∙ sym (integer-ratio (entry num i))),
)

turned-times : (n : ℕ) (k : WaveVector) (g : Operation) → turned (times n k) g ≡ times n (turned k g)
unfolding turned
turned-times n k g = scale-mul rationals (whole rationals n) k (whole_matrix rationals g.rotation)

times_inj : (n : ℕ) → 0 < n → (k l : WaveVector) → times n k ≡ times n l → k ≡ l
times_inj n h k l e = wave-ext k l (λ i. mul_cancel rational_field (whole rationals n) (wave_component k i) (wave_component l i) (whole-ne-zero rational_field n h)
    (sym (wave_component-scale (whole rationals n) k i) ∙ ap (λ (w : WaveVector). wave_component w i) e ∙ wave_component-scale (whole rationals n) l i))

pub kept_multiple : (n : ℕ) → 0 < n → (k : WaveVector) (g : Operation) (row : List ℤ) → wave_of row 1 ≡ times n k
    → (turned (wave_of row 1) g ≡ wave_of row 1) ↔ (turned k g ≡ k)
kept_multiple n h k g row e = (
  λ kept. times_inj n h (turned k g) k (sym (turned-times n k g) ∙ subst (λ w. turned w g ≡ w) e kept),
  λ kept. subst (λ w. turned w g ≡ w) (sym e) (turned-times n k g ∙ ap (times n) kept),
)

pub turns_of_step : (n : ℕ) (w : WaveVector) (a c : List ℤ) (d : ℕ) (p : ℤ) → 0 < d → wave_of a 1 ≡ times n w
    → p ≡ ((get_or a 0 (pos 0) *ℤ get_or c 0 (pos 0)) +ℤ (get_or a 1 (pos 0) *ℤ get_or c 1 (pos 0))) +ℤ (get_or a 2 (pos 0) *ℤ get_or c 2 (pos 0))
    → ratio p d ≡ rationals.mul (integer rationals (pos n)) (dot w (vector_of c d))
turns_of_step n w a c d p h e f = ap₂ ratio f (sym (Nat.one-mul d)) ∙ sym (dot-listed a c 1 d (omega arith) h) ∙ ap (λ k. dot k (vector_of c d)) e
    ∙ dot-times n w (vector_of c d) ∙ ap (λ x. rationals.mul x (dot w (vector_of c d))) (sym (integer-pos rationals n))
