-- The numbers of the wave vectors of arms, at a wave vector whose order is within the limit.
--   arm_reciprocal     what takes a wave vector into T* takes its arms there
--   numerators_small, denominators_small     at most 10^9 over at most 100,000
use Rattle.std.proofs.Common.{◌≡◌, sym, ◌∙◌, ap, subst, refl, ℕ, ◌*◌, ◌<◌, ◌≤◌, ◌^◌, ℤ, pos, negsuc, ◌≤ℤ◌, ◌<ℤ◌, ◌*ℤ◌, List, length, get_or, unsigned_abs, arith}
use Rattle.std.proofs.lemmas.Int.{ints}
use Rattle.std.specs.Int.{◌∣◌}
use Rattle.std.specs.List.{All}
use native.Mathlib.Nat as Nat
use Rattle.irr_algebra.specs.Fin.{Fin}
use Rattle.irr_algebra.specs.Ring.{whole}
use Rattle.irr_algebra.specs.Matrix.{scale}
use Rattle.irr_algebra.proofs.Indices.{from_nat, to_nat-from_nat}
use Rattle.irr_rational.specs.Rational.{rationals, ratio, IsWhole}
use Rattle.irr_rational.specs.Ratio.{entry}
use Rattle.irr_rational.specs.Order.{◌≤ℚ◌, ◌<ℚ◌}
use Rattle.irr_rational.proofs.Integers.{integer-pos}
use Rattle.irr_rational.proofs.Orders.{lt_of_ratio, nonneg_of_le, nonneg_of_ratio}
use Rattle.irr_rational.proofs.Ratios.{integer-ratio}
use Rattle.irr_rational.proofs.WholeNumbers.{dvd_of_multiples}
use Rattle.irr_space.specs.Operation.{WaveVector, turned}
use Rattle.irr_space.specs.Reciprocal.{AreEquivalent, IsReciprocal, IsReduced, IsOrder, times}
use Rattle.irr_lattice.proofs.Vectors.{IsWholeWave, wave_component-scale}
use Rattle.irr_seitz.specs.OperationMeaning.{AreWithin}
use Rattle.irr_seitz.specs.PhaseMeaning.{sign_of}
use Rattle.irr_kvec.specs.WaveMeaning.{wave_vector}
use Rattle.irr_kvec.specs.declared.wave.Wave.{Wave}
use Rattle.irr_kvec.proofs.Lattices.{reciprocal_multiple, reciprocal_whole}
use Rattle.irr_kvec.proofs.Products.{wave_component-wave_of}
use Rattle.irr_cyc.specs.declared.orders.TheConstants.{ORDER_LIMIT}
use Rattle.irr_close.specs.SpaceGroup.{IsSpaceGroup}
use Rattle.irr_close.specs.StandsFor.{stands_for}
use Rattle.irr_close.specs.declared.group.Group.{Group}
use Rattle.irr_close.proofs.SpaceGroups.{space_group}
use Rattle.irr_little.specs.declared.arms.Arm.{Arm}
use Rattle.irr_little.proofs.Spaces.{form_of, has_canonical, same_reciprocal}
use Rattle.irr_full.specs.Star.{Star}
use Rattle.irr_full.proofs.StarLaws.{back, back_member, image-back}
use Rattle.irr_star.specs.Stars.{AreArmsOf}
use Rattle.irr_star.proofs.WaveLimits.{reduced_below}
use Rattle.irr_subduce.proofs.Periods.{equivalent_of, multiple_of_divisor, order_positive, turned_of}

-- numerators of a component that is not negative and below m
numerator_small : (x : ℤ) (den m n : ℕ) → 0 < den → den ≤ n → n ≤ 12000 → m ≤ 32 → rationals.zero ≤ℚ ratio x den
    → ratio x den <ℚ whole rationals m → unsigned_abs x ≤ 10 ^ 9
numerator_small x den m n positive below within few low high = small_of x
    (nonneg_of_ratio x den positive (nonneg_of_le (ratio x den) low))
    (lt_of_ratio x (pos m) den 1 positive (omega arith)
    (subst (λ y. ratio x den <ℚ y) (sym (integer-pos rationals m) ∙ integer-ratio (pos m)) high))
  where
    bound : m * den ≤ 32 * 12000
    bound = Nat.mul-le-mul few (Nat.le_trans below within)

    small_of : (x : ℤ) → pos 0 ≤ℤ x → (x *ℤ pos 1) <ℤ (pos m *ℤ pos den) → unsigned_abs x ≤ 10 ^ 9
    small_of (pos a) l u = let b = bound in let e : pos m *ℤ pos den ≡ pos (m * den) = refl in omega (arith, ints)
    small_of (negsuc a) l u = absurd (omega (arith, ints))

-- a reduced wave vector that n takes into the reciprocal lattice
module _ (group : Group) (w : Wave) (n : ℕ) (positive : 0 < n) (within : n ≤ ORDER_LIMIT)
    (reduced : IsReduced (stands_for group) (wave_vector w) (wave_vector w))
    (reciprocal : IsReciprocal (stands_for group) (times n (wave_vector w))) where
  space : IsSpaceGroup group
  space = space_group group

  divides : w.den ∣ n
  divides = dvd_of_multiples {m = 3} (entry w.num) w.den n w.lowest (λ i. subst IsWhole
      (wave_component-scale (whole rationals n) (wave_vector w) i
      ∙ ap (rationals.mul (whole rationals n)) (wave_component-wave_of w.num w.den i))
      (reciprocal_whole group.centrings.items space.centrings.zero (times n (wave_vector w))
      ((same_reciprocal group (times n (wave_vector w))).0 reciprocal) i))

  multiple : (K : WaveVector) → IsWholeWave K → IsReciprocal (stands_for group)
      (scale rationals (whole rationals (length group.centrings.items)) K)
  multiple K h = (same_reciprocal group (scale rationals (whole rationals (length group.centrings.items)) K)).1
      (reciprocal_multiple group.centrings.items space.centrings.zero (length group.centrings.items)
      space.centrings.multiple K h)

  denominator : w.den ≤ 100000
  denominator = let l = Nat.le_of_dvd positive divides in let u : n ≤ 12000 = within in omega (arith, l, u)

  numerators : AreWithin (10 ^ 9) w.num
  numerators i = numerator_small (entry w.num i) w.den (length group.centrings.items) n w.lowest.positive
      (Nat.le_of_dvd positive divides) within space.centrings.few
      (subst (λ x. rationals.zero ≤ℚ x) (wave_component-wave_of w.num w.den i) (reduced.no_negative i))
      (subst (λ x. x <ℚ whole rationals (length group.centrings.items)) (wave_component-wave_of w.num w.den i)
      (reduced_below (stands_for group) (length group.centrings.items) (form_of group).has_centring multiple
      (wave_vector w) reduced i))

-- what n takes into the reciprocal lattice, it takes so at each arm
pub arm_reciprocal : (group : Group) {k : WaveVector} (S : Star (sign_of group.phase) (stands_for group) k) (n : ℕ)
    → IsReciprocal (stands_for group) (times n k) → (i : Fin S.arms) → IsReciprocal (stands_for group) (times n (S.arm i))
arm_reciprocal group {k} S n r i = equivalent_of (stands_for group) n
    (turned k (back (stands_for group) (space_group group).is_group (has_canonical group) S i)) (S.arm i)
    (subst (λ w. AreEquivalent (stands_for group) (S.arm i) w)
    (image-back (stands_for group) (space_group group).is_group (has_canonical group) S i) (S.are_arms.carries i).equivalent)
    (turned_of (stands_for group) (space_group group).is_group n k
    (back (stands_for group) (space_group group).is_group (has_canonical group) S i)
    (back_member (stands_for group) (space_group group).is_group (has_canonical group) S i) r)

module _ (group : Group) (arms : List Arm) {k : WaveVector} (S : Star (sign_of group.phase) (stands_for group) k)
    (is : AreArmsOf group arms S) (n : ℕ) (within : n ≤ ORDER_LIMIT) (o : IsOrder (stands_for group) k n) where
  positive : 0 < n
  positive = order_positive (stands_for group) k n o

  taken : (i : Fin S.arms) → IsReciprocal (stands_for group) (times n (S.arm i))
  taken i = multiple_of_divisor (stands_for group) o.period n (S.arm i)
      (subst (λ x. o.period ∣ x) (sym o.is_product) (Nat.dvd-mul_left o.period o.exponent))
      (arm_reciprocal group S o.period o.is_period.reciprocal i)

  module _ (p : ℕ) (a : Arm) (below : p < length arms) where
    inside : p < S.arms
    inside = subst (λ l. p < l) is.count below

    number : Fin S.arms
    number = from_nat S.arms p inside

    same : wave_vector (get_or arms p a).wave ≡ S.arm number
    unfolding number
    same = subst (λ j. wave_vector (get_or arms j a).wave ≡ S.arm (from_nat S.arms p inside)) (to_nat-from_nat S.arms p inside)
        (is.wave (from_nat S.arms p inside) a)

    is_reduced : IsReduced (stands_for group) (wave_vector (get_or arms p a).wave) (wave_vector (get_or arms p a).wave)
    is_reduced = subst (λ (x : WaveVector). IsReduced (stands_for group) x x) (sym same) (S.are_arms.reduced number)

    is_taken : IsReciprocal (stands_for group) (times n (wave_vector (get_or arms p a).wave))
    is_taken = subst (λ (x : WaveVector). IsReciprocal (stands_for group) (times n x)) (sym same) (taken number)

  pub numerators_small : All (λ a. AreWithin (10 ^ 9) a.wave.num) arms
  numerators_small p a below = numerators group (get_or arms p a).wave n positive within (is_reduced p a below) (is_taken p a below)

  pub denominators_small : All (λ a. a.wave.den ≤ 100000) arms
  denominators_small p a below = denominator group (get_or arms p a).wave n positive within (is_reduced p a below) (is_taken p a below)
