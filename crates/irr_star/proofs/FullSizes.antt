-- The entries of a full representation are as large as those of the small one.
--   full_within
use Rattle.std.proofs.Common.{◌≡◌, sym, ◌∙◌, ap, subst, refl, ℕ, zero, suc, ◌*◌, ◌/◌, ◌%◌, ◌<◌, ◌⊎◌, inl, inr, arith}
use Rattle.std.specs.Int.{◌∣◌}
use native.Mathlib.Nat as Nat
use Rattle.irr_algebra.specs.Ring.{Ring}
use Rattle.irr_algebra.specs.Fin.{Fin, to_nat}
use Rattle.irr_algebra.specs.Matrix.{Matrix, null}
use Rattle.irr_algebra.specs.Pair.{pair, times}
use Rattle.irr_algebra.proofs.Indices.{from_nat, same_or_not, to_nat-lt}
use Rattle.irr_algebra.proofs.Matrices.{scale-at}
use Rattle.irr_algebra.proofs.Pairs.{times-mul}
use Rattle.irr_number.specs.Number.{numbers, root_power}
use Rattle.irr_canonical.specs.RootSum.{IsRootSum}
use Rattle.irr_canonical.proofs.RootSums.{IsRootSum-more, IsRootSum-mul, IsRootSum-root, IsRootSum-zero}
use Rattle.irr_theory.specs.FactorSystem.{Representation}
use Rattle.irr_space.specs.Operation.{Operation, WaveVector, ◌⊙◌}
use Rattle.irr_space.specs.Reciprocal.{Sign}
use Rattle.irr_space.specs.Star.{IsInLittleGroup}
use Rattle.irr_space.specs.PhaseTable.{phases_over}
use Rattle.irr_cocycle.specs.SpaceGroupLaws.{IsGroup, HasCanonical}
use Rattle.irr_mat.specs.Size.{IsWithin}
use Rattle.irr_mat.proofs.Blocks.{pair-index, quotient-lt, remainder-lt}
use Rattle.irr_full.specs.Star.{Star, carrier}
use Rattle.irr_full.specs.Full.{IsFullOf, IsLittleMatrix, block}
use Rattle.irr_full.proofs.FullMatrices.{moved}
use Rattle.irr_full.proofs.StarLaws.{same_arm}

-- what holds of all pairs
all_pairs : (a d : ℕ) (P : Fin (times a d) → Type 0) → ((i : Fin a) (r : Fin d) → P (pair d i r)) →
    (k : Fin (times a d)) → P k
all_pairs a zero P h k = absurd (let l = subst (λ n. to_nat k < n) (times-mul a 0 ∙ Nat.mul-zero a)
    (to_nat-lt k) in omega (arith, l))
all_pairs a (suc d) P h k =
    let positive : 0 < suc d = omega arith in
    let q : to_nat k / suc d < a = quotient-lt a (suc d) (to_nat k) positive (to_nat-lt k) in
    let r : to_nat k % suc d < suc d = remainder-lt (suc d) (to_nat k) positive in
    subst P (pair-index a (suc d) positive (to_nat k) k refl q r)
    (h (from_nat a (to_nat k / suc d) q) (from_nat (suc d) (to_nat k % suc d) r))

block-at : {R : Ring} {a : ℕ} (d : ℕ) (m : Matrix R (times a d) (times a d)) (i j : Fin a) (x y : Fin d)
    → (block d m i j).at x y ≡ m.at (pair d i x) (pair d j y)
unfolding block
block-at d m i j x y = refl

null-entry : (R : Ring) (d : ℕ) (x y : Fin d) → (null {R = R} {m = d} {n = d}).at x y ≡ R.zero
unfolding null
null-entry R d x y = refl

module _ (G : Operation → Type 0) (group : IsGroup G) (chosen : HasCanonical G) {s : Sign} {k : WaveVector}
    (S : Star s G k) (M : ℕ) (positive : 0 < M)
    (v : S.table.order ∣ M) {d : ℕ} (D : Representation (phases_over S.table M v) d)
    (A : Operation → Matrix (numbers M) (times S.arms d) (times S.arms d))
    (full : IsFullOf S M v D A) (z e : ℕ) (within : (p : Fin S.places) → IsWithin M z e (D.at p)) (g : Operation)
    (in_g : G g) where
  over : 0 < e
  over = (within S.table.start).positive

  block_within : (i j : Fin S.arms) (x y : Fin d) → IsRootSum M z e ((block d (A g) i j).at x y)
  block_within i j x y = at (moved G group chosen S M positive v D A full g in_g j)
    where
      at : (i : Fin S.arms) × (n : Operation) × (m : Matrix (numbers M) d d) × IsInLittleGroup G k n ×
          (g ⊙ carrier S j ≡ carrier S i ⊙ n)
          × IsLittleMatrix s k M S.operation D.at n m → IsRootSum M z e ((block d (A g) i j).at x y)
      at (l, n, m, in_n, f, is) = here (same_or_not l i)
        where
          turned : IsRootSum M z e (m.at x y)
          turned = subst (IsRootSum M z e) (sym (ap (λ (b : Matrix (numbers M) d d). b.at x y) is.is_matrix
              ∙ scale-at (numbers M) (root_power M is.exponent) (D.at is.place) x y))
              (subst (λ c. IsRootSum M c e ((numbers M).mul (root_power M is.exponent) ((D.at is.place).at x y)))
              (Nat.one-mul z)
              (subst (λ c. IsRootSum M (1 * z) c ((numbers M).mul (root_power M is.exponent) ((D.at is.place).at x y)))
              (Nat.one-mul e)
              (IsRootSum-mul M (IsRootSum-root M is.exponent) ((within is.place).entry x y))))

          here : (l ≡ i) ⊎ (l ≡ i → ⊥) → IsRootSum M z e ((block d (A g) i j).at x y)
          here (inl same) = subst (λ b. IsRootSum M z e ((block d (A g) b j).at x y)) same
              (subst (λ (b : Matrix (numbers M) d d). IsRootSum M z e (b.at x y))
              (sym (full.carried g in_g l j n in_n f m is)) turned)
          here (inr other) = subst (λ (b : Matrix (numbers M) d d). IsRootSum M z e (b.at x y))
              (sym (full.apart g in_g i j (λ p in_p w. other (same_arm G group chosen S l i n p in_n in_p
              (sym f ∙ w)))))
              (subst (IsRootSum M z e) (sym (null-entry (numbers M) d x y))
              (IsRootSum-more M z (omega arith) (IsRootSum-zero M e over)))

  pub full_within : IsWithin M z e (A g)
  full_within = record {
    positive = over;
    entry = all_pairs S.arms d (λ u. (w : Fin (times S.arms d)) → IsRootSum M z e ((A g).at u w)) (λ i x.
        all_pairs S.arms d (λ w. IsRootSum M z e ((A g).at (pair d i x) w)) (λ j y.
        subst (IsRootSum M z e) (block-at d (A g) i j x y) (block_within i j x y)));
  }
