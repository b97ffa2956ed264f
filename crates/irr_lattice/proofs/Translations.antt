-- The group of no generators is the group of the translations by whole vectors.
use Rattle.std.proofs.Common.{◌≡◌, sym, ◌∙◌, ap, ap₂, subst, refl, ℕ, ℤ, pos, negsuc, zero, suc, ◌<◌, List, [], arith}
use Rattle.irr_algebra.specs.Fin.{Fin}
use Rattle.irr_algebra.specs.Fin.Fin.{first, next}
use Rattle.irr_algebra.specs.Sum.{delta}
use Rattle.irr_algebra.specs.Matrix.{Matrix, ◌·◌, ◌⊕◌, unit, null, column, scale}
use Rattle.irr_algebra.specs.Ring.{Ring, whole}
use Rattle.irr_algebra.proofs.Rings.{ring_laws, zero-add}
use Rattle.irr_algebra.proofs.Matrices.{unit-mul}
use Rattle.irr_number.specs.Integers.{integers}
use Rattle.irr_rational.specs.Integer.{integer, whole_matrix}
use Rattle.irr_rational.specs.Rational.{Rational, rationals, IsWhole}
use Rattle.irr_rational.proofs.Integers.{integer-pos, integer-negsuc, whole_matrix-unit}
use Rattle.irr_rational.proofs.WholeNumbers.{whole-add, whole-neg}
use Rattle.irr_space.specs.Operation.{Operation, Vector, Rotation, ◌⊙◌, identity, translation, component}
use Rattle.irr_space.specs.SpaceGroup.{Generated}
use Rattle.irr_space.specs.SpaceGroup.Generated.{one, generator, unit_translation, product, inverse}
use Rattle.irr_lattice.proofs.Vectors.{whole_zero, whole-delta, IsWholeVector, vector-ext, component-add, component-null, component-unit, component-scale}

pub operation-ext : (g h : Operation) → g.rotation ≡ h.rotation → g.vector ≡ h.vector → g ≡ h
operation-ext g h p q = λ i. record { rotation = p i; vector = q i }

-- a whole unit rotation leaves each vector
pub unit_rotation-mul : (R : Rotation) (v : Vector) → R ≡ unit integers 3 → whole_matrix rationals R · v ≡ v
unit_rotation-mul R v e = ap (λ S. whole_matrix rationals S · v) e ∙ ap (λ (m : Matrix rationals 3 3). m · v) (whole_matrix-unit rationals 3) ∙ unit-mul v

-- translations multiply as their vectors add
pub translation-translation : (a b : Vector) → translation a ⊙ translation b ≡ translation (a ⊕ b)
unfolding translation ◌⊙◌
translation-translation a b = operation-ext (translation a ⊙ translation b) (translation (a ⊕ b)) (unit-mul (unit integers 3)) (ap (λ v. a ⊕ v) (unit_rotation-mul (unit integers 3) b refl))

pub translation-null : translation null ≡ identity
unfolding translation identity
translation-null = refl

-- an operation with the unit rotation is a translation
pub translation_of_unit : (g : Operation) → g.rotation ≡ unit integers 3 → g ≡ translation g.vector
unfolding translation
translation_of_unit g e = operation-ext g (translation g.vector) e refl

record IsWholeTranslation (g : Operation) : Type 0 where
  pub is_unit : g.rotation ≡ unit integers 3
  pub is_whole : IsWholeVector g.vector

vector-product : (g h : Operation) → g.rotation ≡ unit integers 3 → (i : Fin 3) → component (g ⊙ h).vector i ≡ rationals.add (component g.vector i) (component h.vector i)
unfolding ◌⊙◌
vector-product g h e i = component-add g.vector (whole_matrix rationals g.rotation · h.vector) i ∙ ap (λ v. rationals.add (component g.vector i) (component v i)) (unit_rotation-mul g.rotation h.vector e)

rotation-product : (g h : Operation) → g.rotation ≡ unit integers 3 → (g ⊙ h).rotation ≡ h.rotation
unfolding ◌⊙◌
rotation-product g h e = ap (λ R. R · h.rotation) e ∙ unit-mul h.rotation

negative : (R : Ring) (x y : R.Carrier) → R.add x y ≡ R.zero → y ≡ R.neg x
negative R x y e = sym (zero-add R y) ∙ ap (λ z. R.add z y) (sym (R.add-neg x) ∙ R.add_comm x (R.neg x)) ∙ R.add_assoc (R.neg x) x y ∙ ap (R.add (R.neg x)) e ∙ R.add-zero (R.neg x)

identity-component : (i : Fin 3) → component identity.vector i ≡ rationals.zero
unfolding identity
identity-component i = component-null i

identity-rotation : identity.rotation ≡ unit integers 3
unfolding identity
identity-rotation = refl

-- the operations of the group of no generators are translations by whole vectors
whole_translation : {g : Operation} → Generated [] g → IsWholeTranslation g
unfolding translation
whole_translation one = record { is_unit = identity-rotation; is_whole = λ i. subst IsWhole (sym (identity-component i)) whole_zero }
whole_translation (generator m) = absurd (let l : m.0 < 0 = m.1 in omega arith)
whole_translation (unit_translation j) = record { is_unit = refl; is_whole = λ i. subst IsWhole (sym (component-unit j i)) (whole-delta i j) }
whole_translation (product {g} {h} a b) = let p = whole_translation a in let q = whole_translation b in record {
  is_unit = rotation-product g h p.is_unit ∙ q.is_unit;
  is_whole = λ i. subst IsWhole (sym (vector-product g h p.is_unit i)) (whole-add (component g.vector i) (component h.vector i) (p.is_whole i) (q.is_whole i));
}
whole_translation (inverse {g} {h} e a) = let p = whole_translation a in record {
  is_unit = sym (rotation-product g h p.is_unit) ∙ ap (λ (f : Operation). f.rotation) e.right ∙ identity-rotation;
  is_whole = λ i. subst IsWhole (sym (negative rationals (component g.vector i) (component h.vector i)
      (sym (vector-product g h p.is_unit i) ∙ ap (λ (f : Operation). component f.vector i) e.right ∙ identity-component i))) (whole-neg (component g.vector i) (p.is_whole i));
}

pub generated_unit : {g : Operation} → Generated [] g → g.rotation ≡ unit integers 3
generated_unit a = (whole_translation a).is_unit

pub generated_whole : {g : Operation} → Generated [] g → IsWholeVector g.vector
generated_whole a = (whole_translation a).is_whole

-- each group has the translations by whole vectors
module _ (gens : List Operation) where
  add_translations : (a b : Vector) → Generated gens (translation a) → Generated gens (translation b) → Generated gens (translation (a ⊕ b))
  add_translations a b p q = subst (Generated gens) (translation-translation a b) (product p q)

  null_translation : Generated gens (translation null)
  null_translation = subst (Generated gens) (sym translation-null) one

  negative_translation : (a b : Vector) → a ⊕ b ≡ null → b ⊕ a ≡ null → Generated gens (translation a) → Generated gens (translation b)
  negative_translation a b e f p = inverse (record {
    right = translation-translation a b ∙ ap translation e ∙ translation-null;
    left = translation-translation b a ∙ ap translation f ∙ translation-null;
  }) p

  -- n times the i-th unit vector
  natural_translation : (i : Fin 3) (n : ℕ) → Generated gens (translation (scale rationals (whole rationals n) (column (unit rationals 3) i)))
  unfolding whole
  natural_translation i zero = subst (λ v. Generated gens (translation v)) (sym (vector-ext (scale rationals rationals.zero (column (unit rationals 3) i)) null
      (λ j. component-scale rationals.zero (column (unit rationals 3) i) j ∙ zero-times (component (column (unit rationals 3) i) j) ∙ sym (component-null j)))) null_translation
    where
      zero-times : (x : Rational) → rationals.mul rationals.zero x ≡ rationals.zero
      zero-times x = simp (ring_laws, rationals)
  natural_translation i (suc n) = subst (λ v. Generated gens (translation v)) (vector-ext (column (unit rationals 3) i ⊕ scale rationals (whole rationals n) (column (unit rationals 3) i)) (scale rationals (rationals.add rationals.one (whole rationals n)) (column (unit rationals 3) i))
      (λ j. component-add (column (unit rationals 3) i) (scale rationals (whole rationals n) (column (unit rationals 3) i)) j
      ∙ ap (rationals.add (component (column (unit rationals 3) i) j)) (component-scale (whole rationals n) (column (unit rationals 3) i) j)
      ∙ one_more (whole rationals n) (component (column (unit rationals 3) i) j)
      ∙ sym (component-scale (rationals.add rationals.one (whole rationals n)) (column (unit rationals 3) i) j)))
      (add_translations (column (unit rationals 3) i) (scale rationals (whole rationals n) (column (unit rationals 3) i)) (unit_translation i) (natural_translation i n))
    where
      one_more : (c x : Rational) → rationals.add x (rationals.mul c x) ≡ rationals.mul (rationals.add rationals.one c) x
      one_more c x = simp (ring_laws, rationals)

  -- k times the i-th unit vector
  integer_translation : (i : Fin 3) (k : ℤ) → Generated gens (translation (scale rationals (integer rationals k) (column (unit rationals 3) i)))
  integer_translation i (pos n) = subst (λ c. Generated gens (translation (scale rationals c (column (unit rationals 3) i)))) (sym (integer-pos rationals n)) (natural_translation i n)
  integer_translation i (negsuc n) = subst (λ c. Generated gens (translation (scale rationals c (column (unit rationals 3) i)))) (sym (integer-negsuc rationals n))
      (negative_translation (scale rationals (whole rationals (suc n)) (column (unit rationals 3) i)) (scale rationals (rationals.neg (whole rationals (suc n))) (column (unit rationals 3) i))
      (cancel (whole rationals (suc n))) (cancel_back (whole rationals (suc n))) (natural_translation i (suc n)))
    where
      cancel : (c : Rational) → scale rationals c (column (unit rationals 3) i) ⊕ scale rationals (rationals.neg c) (column (unit rationals 3) i) ≡ null
      cancel c = vector-ext (scale rationals c (column (unit rationals 3) i) ⊕ scale rationals (rationals.neg c) (column (unit rationals 3) i)) null (λ j.
          component-add (scale rationals c (column (unit rationals 3) i)) (scale rationals (rationals.neg c) (column (unit rationals 3) i)) j
          ∙ ap₂ rationals.add (component-scale c (column (unit rationals 3) i) j) (component-scale (rationals.neg c) (column (unit rationals 3) i) j)
          ∙ gone c (component (column (unit rationals 3) i) j) ∙ sym (component-null j))
        where
          gone : (c x : Rational) → rationals.add (rationals.mul c x) (rationals.mul (rationals.neg c) x) ≡ rationals.zero
          gone c x = simp (ring_laws, rationals)

      cancel_back : (c : Rational) → scale rationals (rationals.neg c) (column (unit rationals 3) i) ⊕ scale rationals c (column (unit rationals 3) i) ≡ null
      cancel_back c = vector-ext (scale rationals (rationals.neg c) (column (unit rationals 3) i) ⊕ scale rationals c (column (unit rationals 3) i)) null (λ j.
          component-add (scale rationals (rationals.neg c) (column (unit rationals 3) i)) (scale rationals c (column (unit rationals 3) i)) j
          ∙ ap₂ rationals.add (component-scale (rationals.neg c) (column (unit rationals 3) i) j) (component-scale c (column (unit rationals 3) i) j)
          ∙ gone c (component (column (unit rationals 3) i) j) ∙ sym (component-null j))
        where
          gone : (c x : Rational) → rationals.add (rationals.mul (rationals.neg c) x) (rationals.mul c x) ≡ rationals.zero
          gone c x = simp (ring_laws, rationals)

  -- a vector with whole components
  pub whole_vector_translation : (v : Vector) → IsWholeVector v → Generated gens (translation v)
  unfolding delta
  whole_vector_translation v h = subst (λ w. Generated gens (translation w)) (vector-ext (part first ⊕ (part (next first) ⊕ part (next (next first)))) v all)
      (add_translations (part first) (part (next first) ⊕ part (next (next first))) (integer_translation first (h first).number)
      (add_translations (part (next first)) (part (next (next first))) (integer_translation (next first) (h (next first)).number) (integer_translation (next (next first)) (h (next (next first))).number)))
    where
      part : Fin 3 → Vector
      part i = scale rationals (integer rationals (h i).number) (column (unit rationals 3) i)

      part-at : (i j : Fin 3) → component (part i) j ≡ rationals.mul (component v i) (delta rationals j i)
      part-at i j = component-scale (integer rationals (h i).number) (column (unit rationals 3) i) j ∙ ap₂ rationals.mul (sym (h i).is) (component-unit i j)

      parts-at : (j : Fin 3) → component (part first ⊕ (part (next first) ⊕ part (next (next first)))) j
          ≡ rationals.add (rationals.mul (component v first) (delta rationals j first)) (rationals.add (rationals.mul (component v (next first)) (delta rationals j (next first))) (rationals.mul (component v (next (next first))) (delta rationals j (next (next first)))))
      parts-at j = component-add (part first) (part (next first) ⊕ part (next (next first))) j
          ∙ ap₂ rationals.add (part-at first j) (component-add (part (next first)) (part (next (next first))) j ∙ ap₂ rationals.add (part-at (next first) j) (part-at (next (next first)) j))

      pick_first : (x y z : Rational) → rationals.add (rationals.mul x rationals.one) (rationals.add (rationals.mul y rationals.zero) (rationals.mul z rationals.zero)) ≡ x
      pick_first x y z = simp (ring_laws, rationals)

      pick_second : (x y z : Rational) → rationals.add (rationals.mul x rationals.zero) (rationals.add (rationals.mul y rationals.one) (rationals.mul z rationals.zero)) ≡ y
      pick_second x y z = simp (ring_laws, rationals)

      pick_third : (x y z : Rational) → rationals.add (rationals.mul x rationals.zero) (rationals.add (rationals.mul y rationals.zero) (rationals.mul z rationals.one)) ≡ z
      pick_third x y z = simp (ring_laws, rationals)

      all : (j : Fin 3) → component (part first ⊕ (part (next first) ⊕ part (next (next first)))) j ≡ component v j
      all first = parts-at first ∙ pick_first (component v first) (component v (next first)) (component v (next (next first)))
      all (next first) = parts-at (next first) ∙ pick_second (component v first) (component v (next first)) (component v (next (next first)))
      all (next (next first)) = parts-at (next (next first)) ∙ pick_third (component v first) (component v (next first)) (component v (next (next first)))
      all (next (next (next i))) = elim i [ ]
