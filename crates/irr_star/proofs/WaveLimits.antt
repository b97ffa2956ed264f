-- The wave vectors of the arms of a star are within limits where the star's is.
--   arms_limited           for all arms
use Rattle.std.proofs.Common.{◌≡◌, sym, ◌∙◌, ap, subst, refl, ℕ, ℤ, pos, negsuc, ◌*◌, ◌<◌, ◌≤◌, ◌^◌, inl, inr, ◌≤ℤ◌}
use Rattle.std.proofs.Common.{◌<ℤ◌, ◌*ℤ◌, List, length, get_or, unsigned_abs, lit<, arith}
use Rattle.std.proofs.lemmas.Int.{ints}
use Rattle.std.specs.List.{All}
use native.Mathlib.Nat as Nat
use Rattle.irr_algebra.specs.Ring.{whole}
use Rattle.irr_algebra.specs.Fin.{Fin, to_nat}
use Rattle.irr_algebra.specs.Sum.{delta}
use Rattle.irr_algebra.specs.Matrix.{◌·◌, ◌⊖◌, column, scale}
use Rattle.irr_algebra.proofs.Indices.{from_nat, same_or_not, to_nat-from_nat}
use Rattle.irr_algebra.proofs.Matrices.{scale-mul}
use Rattle.irr_algebra.proofs.Rings.{mul-zero, one-mul, ring_laws}
use Rattle.irr_algebra.proofs.Sums.{delta-eq, delta-ne}
use Rattle.irr_algebra.proofs.Whole.{whole-one}
use Rattle.irr_rational.specs.Integer.{whole_matrix}
use Rattle.irr_rational.specs.Rational.{Rational, rationals, ratio, IsWhole}
use Rattle.irr_rational.specs.Ratio.{entry}
use Rattle.irr_rational.specs.Order.{◌≤ℚ◌, ◌<ℚ◌, IsNonNegative, IsAtMost}
use Rattle.irr_rational.proofs.Integers.{integer-one, integer-pos}
use Rattle.irr_rational.proofs.Orders.{le_of_nonneg, le_refl, le_or_lt, lt_of_ratio, nonneg_of_le, nonneg_of_ratio}
use Rattle.irr_rational.proofs.Orders.{not_le_of_lt}
use Rattle.irr_rational.proofs.Ratios.{integer-ratio}
use Rattle.irr_rational.proofs.WholeNumbers.{dvd_of_multiples, whole-add, whole-integer, whole-mul, whole_multiple}
use Rattle.irr_canonical.proofs.Sums.{positive-ne-zero}
use Rattle.irr_space.specs.Operation.{IsInverse, Operation, Rotation, WaveVector, component, dot, turned}
use Rattle.irr_space.specs.Operation.{wave_component}
use Rattle.irr_space.specs.Reciprocal.{AreEquivalent, IsReciprocal, IsReduced}
use Rattle.irr_space.specs.Star.{Carries, IsArms}
use Rattle.irr_lattice.proofs.Vectors.{IsWholeWave, whole_zero, wave-ext, wave_component-scale, wave_component-sub}
use Rattle.irr_lattice.proofs.Vectors.{whole-dot}
use Rattle.irr_cocycle.proofs.Reciprocals.{equivalent_sym}
use Rattle.irr_kvec.specs.Centrings.{IsWithinLimits}
use Rattle.irr_kvec.specs.WaveMeaning.{wave_vector}
use Rattle.irr_kvec.specs.declared.wave.Wave.{Wave}
use Rattle.irr_kvec.proofs.Lattices.{reciprocal_multiple, reciprocal_whole}
use Rattle.irr_kvec.proofs.Products.{wave_component-wave_of}
use Rattle.irr_seitz.specs.declared.op.Op.{Op}
use Rattle.irr_close.specs.Canonical.{numbered}
use Rattle.irr_close.specs.SpaceGroup.{IsSpaceGroup}
use Rattle.irr_close.specs.StandsFor.{stands_for}
use Rattle.irr_close.specs.declared.group.Group.{Group}
use Rattle.irr_close.proofs.Bareness.{first_of}
use Rattle.irr_close.proofs.SpaceGroups.{space_group}
use Rattle.irr_little.specs.Arms.{AreArms}
use Rattle.irr_little.specs.declared.arms.Arm.{Arm}
use Rattle.irr_little.proofs.Spaces.{form_of, numbering_of, same_reciprocal}
use Rattle.irr_full.proofs.StarLaws.{turned_undone}

-- D times k is whole
abbrev IsOverWave : ℕ → WaveVector → Type 0
IsOverWave D k = (i : Fin 3) → IsWhole (rationals.mul (whole rationals D) (wave_component k i))

whole_count : (n : ℕ) → IsWhole (whole rationals n)
whole_count n = subst IsWhole (integer-pos rationals n) (whole-integer (pos n))

component-product : (k : WaveVector) (R : Rotation) (i : Fin 3) → wave_component
    (k · whole_matrix rationals R) i ≡ dot k (column (whole_matrix rationals R) i)
unfolding wave_component dot ◌·◌ column
component-product k R i = refl

whole_column : (R : Rotation) (i j : Fin 3) → IsWhole (component (column (whole_matrix rationals R) i) j)
unfolding component column whole_matrix
whole_column R i j = whole-integer (R.at j i)

over_turned : (D : ℕ) (k : WaveVector) (R : Rotation) → IsOverWave D k → IsOverWave D (k · whole_matrix rationals R)
over_turned D k R h i =
    let c = whole rationals D in
    let W = whole_matrix rationals R in
    subst IsWhole (wave_component-scale c (k · W) i)
    (subst (λ (m : WaveVector). IsWhole (wave_component m i)) (scale-mul rationals c k W)
    (subst IsWhole (sym (component-product (scale rationals c k) R i))
    (whole-dot (scale rationals c k) (column W i) (λ j. subst IsWhole (sym (wave_component-scale c k j)) (h j))
    (whole_column R i))))

over_turned_by : (D : ℕ) (k : WaveVector) (g : Operation) → IsOverWave D k → IsOverWave D (turned k g)
unfolding turned
over_turned_by D k g h = over_turned D k g.rotation h

over_near : (D : ℕ) (w image : WaveVector) → IsOverWave D image → IsWholeWave (w ⊖ image) → IsOverWave D w
over_near D w image h near i = subst IsWhole (together (whole rationals D) (wave_component w i)
    (wave_component image i))
    (whole-add (rationals.mul (whole rationals D) (wave_component image i))
    (rationals.mul (whole rationals D) (rationals.add (wave_component w i) (rationals.neg (wave_component image i))))
    (h i)
    (whole-mul (whole rationals D) (rationals.add (wave_component w i) (rationals.neg (wave_component image i)))
    (whole_count D)
    (subst IsWhole (wave_component-sub w image i) (near i))))
  where
    together : (c x y : Rational) → rationals.add (rationals.mul c y)
        (rationals.mul c (rationals.add x (rationals.neg y))) ≡ rationals.mul c x
    together c x y = simp (ring_laws, rationals)

-- the components of a reduced wave vector are below n, where n times each whole wave vector is in the lattice
module _ (G : Operation → Type 0) (n : ℕ) (positive : 0 < n) (multiple : (K : WaveVector) → IsWholeWave K
    → IsReciprocal G (scale rationals (whole rationals n) K))
    (w : WaveVector) (r : IsReduced G w w) (i : Fin 3) where
  along : WaveVector
  along = record { at = λ a j. delta rationals i j }

  along-component : (j : Fin 3) → wave_component along j ≡ delta rationals i j
  unfolding wave_component along
  along-component j = refl

  whole_delta : (j : Fin 3) → IsWhole (delta rationals i j)
  whole_delta j = elim (same_or_not i j) [
    | inl e ↦ subst IsWhole (integer-one rationals ∙ sym (delta-eq rationals i j e)) (whole-integer (pos 1))
    | inr f ↦ subst IsWhole (sym (delta-ne rationals i j f)) whole_zero
  ]

  c : Rational
  c = whole rationals n

  shorter : WaveVector
  shorter = w ⊖ scale rationals (whole rationals n) along

  shorter-component : (j : Fin 3) → wave_component shorter j ≡ rationals.add (wave_component w j)
      (rationals.neg (rationals.mul (whole rationals n) (delta rationals i j)))
  unfolding shorter
  shorter-component j = wave_component-sub w (scale rationals (whole rationals n) along) j
      ∙ ap (λ x. rationals.add (wave_component w j) (rationals.neg x))
      (wave_component-scale (whole rationals n) along j ∙ ap (rationals.mul (whole rationals n)) (along-component j))

  back : (x y : Rational) → rationals.add x (rationals.neg (rationals.add x (rationals.neg y))) ≡ y
  back x y = simp (ring_laws, rationals)

  near : AreEquivalent G shorter w
  unfolding shorter
  near = equivalent_sym G w shorter (subst (IsReciprocal G)
      (sym (wave-ext (w ⊖ shorter) (scale rationals (whole rationals n) along) (λ j. wave_component-sub w shorter j
      ∙ ap (λ x. rationals.add (wave_component w j) (rationals.neg x))
      (wave_component-sub w (scale rationals (whole rationals n) along) j)
      ∙ back (wave_component w j) (wave_component (scale rationals (whole rationals n) along) j))))
      (multiple along (λ j. subst IsWhole (sym (along-component j)) (whole_delta j))))

  nonneg_count : IsNonNegative (whole rationals n)
  nonneg_count = record {
    times = 1;
    positive = omega arith;
    number = n;
    multiple = one_count (whole rationals n)
        (whole-one rationals);
  }
    where
      one_count : (x : Rational) → whole rationals 1 ≡ rationals.one → rationals.mul (whole rationals 1) x ≡ x
      one_count x e = ap (λ y. rationals.mul y x) e ∙ one-mul rationals x

  nonneg_none : IsNonNegative rationals.zero
  nonneg_none = nonneg_of_le rationals.zero (le_refl rationals.zero)

  nonneg_step : (j : Fin 3) → IsNonNegative (rationals.mul (whole rationals n) (delta rationals i j))
  nonneg_step j = elim (same_or_not i j) [
    | inl e ↦ subst IsNonNegative (sym (ap (rationals.mul (whole rationals n)) (delta-eq rationals i j e)
        ∙ rationals.mul-one (whole rationals n))) nonneg_count
    | inr f ↦ subst IsNonNegative (sym (ap (rationals.mul (whole rationals n)) (delta-ne rationals i j f)
        ∙ mul-zero rationals (whole rationals n))) nonneg_none
  ]

  not_longer : (j : Fin 3) → wave_component shorter j ≤ℚ wave_component w j
  not_longer j = subst IsNonNegative (sym (ap (λ x. rationals.add (wave_component w j) (rationals.neg x))
      (shorter-component j)
      ∙ back (wave_component w j) (rationals.mul (whole rationals n) (delta rationals i j)))) (nonneg_step j)

  module _ (above : whole rationals n ≤ℚ wave_component w i) where
    no_negative : (j : Fin 3) → rationals.zero ≤ℚ wave_component shorter j
    no_negative j = le_of_nonneg (wave_component shorter j) (subst IsNonNegative (sym (shorter-component j))
        (elim (same_or_not i j) [
          | inl e ↦ subst (λ l. IsNonNegative (rationals.add (wave_component w l)
              (rationals.neg (rationals.mul (whole rationals n) (delta rationals i l))))) e
              (subst (λ x. IsNonNegative (rationals.add (wave_component w i) (rationals.neg x)))
              (sym (ap (rationals.mul (whole rationals n)) (delta-eq rationals i i refl) ∙ rationals.mul-one
              (whole rationals n))) above)
          | inr f ↦ subst IsNonNegative (sym (ap (λ x. rationals.add (wave_component w j)
              (rationals.neg (rationals.mul (whole rationals n) x))) (delta-ne rationals i j f)
              ∙ unchanged (whole rationals n) (wave_component w j))) (nonneg_of_le (wave_component w j) (r.no_negative j))
        ]))
      where
        unchanged : (a x : Rational) → rationals.add x (rationals.neg (rationals.mul a rationals.zero)) ≡ x
        unchanged a x = simp (ring_laws, rationals)

    contradiction : ⊥
    contradiction = at (r.least shorter near no_negative)
      where
        cancelled : (x y : Rational) → x ≡ rationals.add x (rationals.neg y) → y ≡ rationals.zero
        cancelled x y e = sym (back x y) ∙ ap (λ z. rationals.add x (rationals.neg z)) (sym e) ∙ rationals.add-neg x

        at : IsAtMost (wave_component w) (wave_component shorter) → ⊥
        at (inl same) = positive-ne-zero 1 (lit< tt) n positive
            (sym (ap (rationals.mul (whole rationals n)) (delta-eq rationals i i refl) ∙ rationals.mul-one
            (whole rationals n))
            ∙ cancelled (wave_component w i) (rationals.mul (whole rationals n) (delta rationals i i))
            (same i ∙ shorter-component i))
        at (inr b) = not_le_of_lt (wave_component w b.place) (wave_component shorter b.place) b.less
            (not_longer b.place)

  pub reduced_below : wave_component w i <ℚ whole rationals n
  reduced_below = elim (le_or_lt (whole rationals n) (wave_component w i)) [
    | inl l ↦ absurd (contradiction l)
    | inr l ↦ l
  ]

-- numerators of a component that is not negative and below n
numerator_small : (x : ℤ) (den n : ℕ) → 0 < den → n ≤ 32 → den ≤ 10 ^ 7 → rationals.zero ≤ℚ ratio x den
    → ratio x den <ℚ whole rationals n
    → unsigned_abs x ≤ 10 ^ 14
numerator_small x den n positive few small low high = small_of x
    (nonneg_of_ratio x den positive (nonneg_of_le (ratio x den) low))
    (lt_of_ratio x (pos n) den 1 positive (omega arith)
    (subst (λ y. ratio x den <ℚ y) (sym (integer-pos rationals n) ∙ integer-ratio (pos n)) high))
  where
    bound : n * den ≤ 32 * 10 ^ 7
    bound = Nat.mul-le-mul few small

    small_of : (x : ℤ) → pos 0 ≤ℤ x → (x *ℤ pos 1) <ℤ (pos n *ℤ pos den) → unsigned_abs x ≤ 10 ^ 14
    small_of (pos m) l u = let b = bound in let e : pos n *ℤ pos den ≡ pos (n * den) = refl in omega (arith, ints)
    small_of (negsuc m) l u = absurd (omega (arith, ints))

module _ (group : Group) (k : Wave) (arms : List Arm) (limits : IsWithinLimits k)
    (is : AreArms group (wave_vector k) arms) (n : ℕ) (a : Arm)
    (below : n < length arms) where
  i : Fin (length arms)
  i = from_nat (length arms) n below

  o : Op
  o = first_of group.ops.items (form_of group).nonempty

  arms_of : IsArms (stands_for group) (wave_vector k) (numbered group.ops.items o)
      (λ j. wave_vector (get_or arms (to_nat j) a).wave) is.number
  arms_of = is.star o a

  reduced : IsReduced (stands_for group) (wave_vector (get_or arms n a).wave) (wave_vector (get_or arms n a).wave)
  unfolding i
  reduced = subst (λ m. IsReduced (stands_for group) (wave_vector (get_or arms m a).wave)
      (wave_vector (get_or arms m a).wave))
      (to_nat-from_nat (length arms) n below) (arms_of.reduced i)

  carries : Carries (stands_for group) (numbered group.ops.items o (is.number i)) (wave_vector k)
      (wave_vector (get_or arms n a).wave)
  unfolding i
  carries = subst (λ m. Carries (stands_for group) (numbered group.ops.items o (is.number i)) (wave_vector k)
      (wave_vector (get_or arms m a).wave))
      (to_nat-from_nat (length arms) n below) (arms_of.carries i)

  space : IsSpaceGroup group
  space = space_group group

  inverse : (f : Operation) × stands_for group f × IsInverse (numbered group.ops.items o (is.number i)) f
  inverse = space.is_group.has_inverse (numbered group.ops.items o (is.number i))
      ((numbering_of group o).canonical (is.number i)).member

  image_over : IsOverWave k.den carries.image
  image_over = subst (IsOverWave k.den)
      (ap (λ v. turned v inverse.0) (sym carries.turned_back) ∙ turned_undone carries.image
      (numbered group.ops.items o (is.number i)) inverse.0 inverse.2)
      (over_turned_by k.den (wave_vector k) inverse.0 (λ j. subst
      (λ x. IsWhole (rationals.mul (whole rationals k.den) x))
      (sym (wave_component-wave_of k.num k.den j)) (whole_multiple (entry k.num j) k.den k.den k.lowest.positive
      (Nat.dvd_refl k.den))))

  wave_over : IsOverWave k.den (wave_vector (get_or arms n a).wave)
  wave_over = over_near k.den (wave_vector (get_or arms n a).wave) carries.image image_over
      (reciprocal_whole group.centrings.items space.centrings.zero (wave_vector (get_or arms n a).wave ⊖ carries.image)
      ((same_reciprocal group (wave_vector (get_or arms n a).wave ⊖ carries.image)).0 carries.equivalent))

  small : (get_or arms n a).wave.den ≤ 10 ^ 7
  small = Nat.le_trans (Nat.le_of_dvd k.lowest.positive
      (dvd_of_multiples {m = 3} (entry (get_or arms n a).wave.num) (get_or arms n a).wave.den k.den
      (get_or arms n a).wave.lowest
      (λ j. subst (λ x. IsWhole (rationals.mul (whole rationals k.den) x))
      (wave_component-wave_of (get_or arms n a).wave.num (get_or arms n a).wave.den j) (wave_over j))))
      limits.denominator

  multiple : (K : WaveVector) → IsWholeWave K → IsReciprocal (stands_for group)
      (scale rationals (whole rationals (length group.centrings.items)) K)
  multiple K h = (same_reciprocal group (scale rationals (whole rationals (length group.centrings.items)) K)).1
      (reciprocal_multiple group.centrings.items space.centrings.zero
      (length group.centrings.items) space.centrings.multiple K h)

  arm_limited : IsWithinLimits (get_or arms n a).wave
  arm_limited = record {
    numerators = λ j. numerator_small (entry (get_or arms n a).wave.num j) (get_or arms n a).wave.den
        (length group.centrings.items)
        (get_or arms n a).wave.lowest.positive space.centrings.few small
        (subst (λ x. rationals.zero ≤ℚ x) (wave_component-wave_of (get_or arms n a).wave.num
        (get_or arms n a).wave.den j) (reduced.no_negative j))
        (subst (λ x. x <ℚ whole rationals (length group.centrings.items))
        (wave_component-wave_of (get_or arms n a).wave.num (get_or arms n a).wave.den j)
        (reduced_below (stands_for group) (length group.centrings.items) (form_of group).has_centring multiple
        (wave_vector (get_or arms n a).wave)
        reduced j));
    denominator = small;
  }

pub arms_limited : (group : Group) (k : Wave) (arms : List Arm) → IsWithinLimits k → AreArms group (wave_vector k) arms
    → All (λ a. IsWithinLimits a.wave) arms
arms_limited group k arms limits is n a below = arm_limited group k arms limits is n a below
