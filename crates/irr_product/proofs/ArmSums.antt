-- The wave vectors of arms are summands.
--   arms_are_summands     the denominators of arms divide each multiple of the order of the star's wave vector, and the
--                         numerators are small
use Rattle.std.proofs.Common.{◌≡◌, sym, ◌∙◌, ap, subst, refl, ℕ, ◌*◌, ◌<◌, ◌≤◌, ◌^◌, ℤ, pos, negsuc, ◌≤ℤ◌, ◌<ℤ◌, ◌*ℤ◌, List, length, get_or, unsigned_abs, arith}
use Rattle.std.proofs.lemmas.Int.{ints}
use Rattle.std.specs.Int.{◌∣◌}
use Rattle.std.specs.List.{All}
use native.Mathlib.Nat as Nat
use Rattle.irr_algebra.specs.Fin.{Fin}
use Rattle.irr_algebra.specs.Ring.{whole}
use Rattle.irr_algebra.specs.Matrix.{scale}
use Rattle.irr_algebra.proofs.Indices.{from_nat, to_nat-from_nat}
use Rattle.irr_rational.specs.Rational.{rationals, ratio, IsWhole}
use Rattle.irr_rational.specs.Ratio.{entry}
use Rattle.irr_rational.specs.Order.{◌≤ℚ◌, ◌<ℚ◌}
use Rattle.irr_rational.proofs.Integers.{integer-pos}
use Rattle.irr_rational.proofs.Orders.{lt_of_ratio, nonneg_of_le, nonneg_of_ratio}
use Rattle.irr_rational.proofs.Ratios.{integer-ratio}
use Rattle.irr_rational.proofs.WholeNumbers.{dvd_of_multiples}
use Rattle.irr_space.specs.Operation.{WaveVector}
use Rattle.irr_space.specs.Reciprocal.{IsReciprocal, IsReduced, IsOrder, times}
use Rattle.irr_lattice.proofs.Vectors.{IsWholeWave, wave_component-scale}
use Rattle.irr_seitz.specs.PhaseMeaning.{sign_of}
use Rattle.irr_kvec.specs.WaveMeaning.{wave_vector}
use Rattle.irr_kvec.specs.declared.wave.Wave.{Wave}
use Rattle.irr_kvec.proofs.Lattices.{reciprocal_multiple, reciprocal_whole}
use Rattle.irr_kvec.proofs.Products.{wave_component-wave_of}
use Rattle.irr_cyc.specs.declared.orders.TheConstants.{ORDER_LIMIT}
use Rattle.irr_close.specs.SpaceGroup.{IsSpaceGroup}
use Rattle.irr_close.specs.StandsFor.{stands_for}
use Rattle.irr_close.specs.declared.group.Group.{Group}
use Rattle.irr_close.proofs.SpaceGroups.{space_group}
use Rattle.irr_little.specs.declared.arms.Arm.{Arm}
use Rattle.irr_little.proofs.Spaces.{form_of, has_canonical, same_reciprocal}
use Rattle.irr_full.specs.Star.{Star}
use Rattle.irr_star.specs.Stars.{AreArmsOf}
use Rattle.irr_star.proofs.WaveLimits.{reduced_below}
use Rattle.irr_product.specs.Sums.{IsSummand}
use Rattle.irr_product.proofs.Periods.{multiple_of_divisor}
use Rattle.irr_product.proofs.KroneckerPlaces.{arm_reciprocal}

-- numerators of a component that is not negative and below m
numerator_small : (x : ℤ) (den m n : ℕ) → 0 < den → den ≤ n → n ≤ 12000 → m ≤ 32 → rationals.zero ≤ℚ ratio x den
    → ratio x den <ℚ whole rationals m → unsigned_abs x ≤ 10 ^ 6
numerator_small x den m n positive below within few low high = small_of x
    (nonneg_of_ratio x den positive (nonneg_of_le (ratio x den) low))
    (lt_of_ratio x (pos m) den 1 positive (omega arith)
    (subst (λ y. ratio x den <ℚ y) (sym (integer-pos rationals m) ∙ integer-ratio (pos m)) high))
  where
    bound : m * den ≤ 32 * 12000
    bound = Nat.mul-le-mul few (Nat.le_trans below within)

    small_of : (x : ℤ) → pos 0 ≤ℤ x → (x *ℤ pos 1) <ℤ (pos m *ℤ pos den) → unsigned_abs x ≤ 10 ^ 6
    small_of (pos a) l u = let b = bound in let e : pos m *ℤ pos den ≡ pos (m * den) = refl in omega (arith, ints)
    small_of (negsuc a) l u = absurd (omega (arith, ints))

-- a reduced wave vector that n takes into the reciprocal lattice
module _ (group : Group) (w : Wave) (n : ℕ) (positive : 0 < n) (within : n ≤ ORDER_LIMIT)
    (reduced : IsReduced (stands_for group) (wave_vector w) (wave_vector w))
    (reciprocal : IsReciprocal (stands_for group) (times n (wave_vector w))) where
  space : IsSpaceGroup group
  space = space_group group

  divides : w.den ∣ n
  divides = dvd_of_multiples {m = 3} (entry w.num) w.den n w.lowest (λ i. subst IsWhole
      (wave_component-scale (whole rationals n) (wave_vector w) i
      ∙ ap (rationals.mul (whole rationals n)) (wave_component-wave_of w.num w.den i))
      (reciprocal_whole group.centrings.items space.centrings.zero (times n (wave_vector w))
      ((same_reciprocal group (times n (wave_vector w))).0 reciprocal) i))

  multiple : (K : WaveVector) → IsWholeWave K → IsReciprocal (stands_for group)
      (scale rationals (whole rationals (length group.centrings.items)) K)
  multiple K h = (same_reciprocal group (scale rationals (whole rationals (length group.centrings.items)) K)).1
      (reciprocal_multiple group.centrings.items space.centrings.zero (length group.centrings.items)
      space.centrings.multiple K h)

  summand : IsSummand n w
  summand = record {
    divides = divides;
    small = λ i. numerator_small (entry w.num i) w.den (length group.centrings.items) n w.lowest.positive
        (Nat.le_of_dvd positive divides) within space.centrings.few
        (subst (λ x. rationals.zero ≤ℚ x) (wave_component-wave_of w.num w.den i) (reduced.no_negative i))
        (subst (λ x. x <ℚ whole rationals (length group.centrings.items)) (wave_component-wave_of w.num w.den i)
        (reduced_below (stands_for group) (length group.centrings.items) (form_of group).has_centring multiple
        (wave_vector w) reduced i));
  }

-- n is a multiple of the order m of the wave vector
module _ (group : Group) (arms : List Arm) {k : WaveVector} (S : Star (sign_of group.phase) (stands_for group) k)
    (is : AreArmsOf group arms S) (n : ℕ) (positive : 0 < n) (within : n ≤ ORDER_LIMIT)
    (m : ℕ) (o : IsOrder (stands_for group) k m) (v : m ∣ n) where
  taken : (i : Fin S.arms) → IsReciprocal (stands_for group) (times n (S.arm i))
  taken i = multiple_of_divisor (stands_for group) o.period n (S.arm i)
      (Nat.dvd_trans o.period (subst (λ x. o.period ∣ x) (sym o.is_product) (Nat.dvd-mul_left o.period o.exponent)) v)
      (arm_reciprocal (stands_for group) (space_group group).is_group (has_canonical group) S o.period
      o.is_period.reciprocal i)

  summand_at : (i : Fin S.arms) (w : Wave) → wave_vector w ≡ S.arm i → IsSummand n w
  summand_at i w e = summand group w n positive within
      (subst (λ (x : WaveVector). IsReduced (stands_for group) x x) (sym e) (S.are_arms.reduced i))
      (subst (λ (x : WaveVector). IsReciprocal (stands_for group) (times n x)) (sym e) (taken i))

  pub arms_are_summands : All (λ a. IsSummand n a.wave) arms
  arms_are_summands p a below =
      let inside : p < S.arms = subst (λ l. p < l) is.count below in
      let i = from_nat S.arms p inside in
      summand_at i (get_or arms p a).wave
      (subst (λ j. wave_vector (get_or arms j a).wave ≡ S.arm i) (to_nat-from_nat S.arms p inside) (is.wave i a))
