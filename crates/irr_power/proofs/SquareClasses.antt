-- The squares of a full representation at their diagonal places, which are pairs of places in order.
--   upper_phase, strict_phase     the place of a pair has the phases of the sum of both arms
--   there_and_back                the block in row and column i at g g is that of going to j and back, where g takes i to j
--   returned                      the trace of going to j and back
--   symmetric_classes, skew_classes     the sums over the classes of (i,j) and (j,i)
use Rattle.std.proofs.Common.{◌≡◌, sym, ◌∙◌, ap, ap₂, subst, ℕ, ◌<◌, ◌⊎◌, inl, inr}
use Rattle.std.specs.Int.{◌∣◌}
use Rattle.irr_algebra.specs.Ring.{Ring}
use Rattle.irr_algebra.specs.Fin.{Fin}
use Rattle.irr_algebra.specs.Matrix.{Matrix, ◌·◌, ◌⊕◌, null, trace}
use Rattle.irr_algebra.specs.Pair.{times, pair}
use Rattle.irr_algebra.proofs.Indices.{same_or_not}
use Rattle.irr_algebra.proofs.Matrices.{mul_assoc, mul-null}
use Rattle.irr_algebra.proofs.Pairs.{kron-at, on_pairs-pair}
use Rattle.irr_algebra.proofs.Sums.{sum-zero}
use Rattle.irr_number.specs.Number.{Number, numbers}
use Rattle.irr_theory.specs.FactorSystem.{Representation}
use Rattle.irr_space.specs.Operation.{Operation, WaveVector, ◌⊙◌, translation}
use Rattle.irr_space.specs.Reciprocal.{Sign, AreEquivalent, IsReciprocal}
use Rattle.irr_space.specs.PhaseTable.{phases_over}
use Rattle.irr_cocycle.specs.SpaceGroupLaws.{IsGroup, HasCanonical}
use Rattle.irr_full.specs.Star.{Star, carrier}
use Rattle.irr_full.specs.Full.{IsFullOf, block}
use Rattle.irr_full.specs.Product.{kronecker}
use Rattle.irr_full.specs.Part.{HasPhase}
use Rattle.irr_full.proofs.ArmBlocks.{into, out, block-out-into}
use Rattle.irr_full.proofs.Diagonals.{full-diagonal, unpair}
use Rattle.irr_full.proofs.FullMatrices.{full_representation, moves_into, moved}
use Rattle.irr_full.proofs.LittleMatrices.{little_matrix}
use Rattle.irr_full.proofs.StarLaws.{same_arm}
use Rattle.irr_full.proofs.Waves.{arm_has_phase, kronecker_has_phase}
use Rattle.irr_forms.specs.Square.{upper, strict, upper_first, upper_second, strict_first, strict_second}
use Rattle.irr_forms.proofs.SquareLaws.{symmetric-diagonal_entry, skew-diagonal_entry}
use Rattle.irr_reality.specs.Squares.{symmetric_squares, skew_squares}
use Rattle.irr_product.proofs.KroneckerPlaces.{arm_order, phase_of_same}
use Rattle.irr_power.proofs.PairTraces.{upper-value, strict-value, symmetric_both, skew_both}
use Rattle.irr_power.specs.Places.{arm_of, upper_class, strict_class, symmetric_sum, skew_sum, IsTaken, IsReturn}

trace-null : (R : Ring) (d : ℕ) → trace (null {R = R} {m = d} {n = d}) ≡ R.zero
unfolding trace null
trace-null R d = sum-zero R d

module _ (G : Operation → Type 0) (group : IsGroup G) (chosen : HasCanonical G) {s : Sign} {k : WaveVector} (U : Star s G k)
    (M : ℕ) (positive : 0 < M) (u : U.table.order ∣ M) {d : ℕ} (D : Representation (phases_over U.table M u) d)
    (F : Operation → Matrix (numbers M) (times U.arms d) (times U.arms d)) (full : IsFullOf U M u D F) where
  arm_phase_at : (x : Fin (times U.arms d)) → HasPhase s G (U.arm (arm_of U.arms d x)) M F x
  arm_phase_at x = let q = unpair U.arms d x in
      subst (λ y. HasPhase s G (U.arm (arm_of U.arms d y)) M F y) q.2
      (subst (λ i. HasPhase s G (U.arm i) M F (pair d q.0 q.1)) (sym (on_pairs-pair d (λ i r. i) q.0 q.1))
      (arm_has_phase G group chosen U M positive u D F full q.0 q.1))

  module _ (decide : (w : WaveVector) → IsReciprocal G w ⊎ (IsReciprocal G w → ⊥)) where
    -- the phases of a product of two diagonal entries
    product_phase : (x y : Fin (times U.arms d)) (w : WaveVector) → AreEquivalent G w (U.arm (arm_of U.arms d x) ⊕ U.arm (arm_of U.arms d y))
        → HasPhase s G w M (kronecker F F) (pair (times U.arms d) x y)
    product_phase x y w near =
        let i = arm_of U.arms d x in
        let j = arm_of U.arms d y in
        let a = arm_order G group chosen U decide M u i in
        let b = arm_order G group chosen U decide M u j in
        phase_of_same s G (U.arm i ⊕ U.arm j) w M (kronecker F F) (pair (times U.arms d) x y) near
        (kronecker_has_phase G s M positive (U.arm i) (U.arm j) a.0 b.0 a.1 a.2 b.1 b.2 F F x y (arm_phase_at x) (arm_phase_at y))

    module _ (wave : Fin (times U.arms U.arms) → WaveVector)
        (near : (i j : Fin U.arms) → AreEquivalent G (wave (pair U.arms i j)) (U.arm i ⊕ U.arm j)) where
      pub upper_phase : (p : Fin (upper (times U.arms d))) → HasPhase s G (wave (upper_class U.arms d p)) M (symmetric_squares F) p
      upper_phase p t x m is =
          let n = times U.arms d in
          let f = F (translation t) in
          let i = upper_first n p in
          let j = upper_second n p in
          symmetric-diagonal_entry (numbers M) n f
          (record { off_diagonal = (full-diagonal G group chosen U M positive u D F full).diagonal t m }) p
          ∙ upper-value n (λ x y. (numbers M).mul (f.at x x) (f.at y y)) p ∙ sym (kron-at f f i j i j)
          ∙ product_phase i j (wave (upper_class U.arms d p))
          (subst (λ c. AreEquivalent G (wave c) (U.arm (arm_of U.arms d i) ⊕ U.arm (arm_of U.arms d j)))
          (sym (upper-value n (λ x y. pair U.arms (arm_of U.arms d x) (arm_of U.arms d y)) p)) (near (arm_of U.arms d i) (arm_of U.arms d j))) t x m is

      pub strict_phase : (p : Fin (strict (times U.arms d))) → HasPhase s G (wave (strict_class U.arms d p)) M (skew_squares F) p
      strict_phase p t x m is =
          let n = times U.arms d in
          let f = F (translation t) in
          let i = strict_first n p in
          let j = strict_second n p in
          skew-diagonal_entry (numbers M) n f
          (record { off_diagonal = (full-diagonal G group chosen U M positive u D F full).diagonal t m }) p
          ∙ strict-value n (λ x y. (numbers M).mul (f.at x x) (f.at y y)) p ∙ sym (kron-at f f i j i j)
          ∙ product_phase i j (wave (strict_class U.arms d p))
          (subst (λ c. AreEquivalent G (wave c) (U.arm (arm_of U.arms d i) ⊕ U.arm (arm_of U.arms d j)))
          (sym (strict-value n (λ x y. pair U.arms (arm_of U.arms d x) (arm_of U.arms d y)) p)) (near (arm_of U.arms d i) (arm_of U.arms d j))) t x m is

  pub there_and_back : (g : Operation) → G g → (i j : Fin U.arms) → IsTaken U g i j
      → block d (F (g ⊙ g)) i i ≡ block d (F g) i j · block d (F g) j i
  there_and_back g in_g i j taken =
      let n = taken.0 in
      let m = little_matrix G group chosen U M positive u D.at n taken.1 in
      ap (λ (a : Matrix (numbers M) (times U.arms d) (times U.arms d)). block d a i i)
      ((full_representation G group chosen U M positive u D F full).at-product g g in_g in_g)
      ∙ block-out-into (numbers M) d (F g · F g) i i
      ∙ ap (λ (a : Matrix (numbers M) d (times U.arms d)). a · into (numbers M) d i) (sym (mul_assoc (out (numbers M) d i) (F g) (F g)))
      ∙ mul_assoc (out (numbers M) d i · F g) (F g) (into (numbers M) d i)
      ∙ ap (λ (a : Matrix (numbers M) (times U.arms d) d). out (numbers M) d i · F g · a)
      (moves_into G group chosen U M positive u D F full g in_g j i n taken.1 taken.2 m.0 m.1)
      ∙ sym (mul_assoc (out (numbers M) d i · F g) (into (numbers M) d j) m.0)
      ∙ ap₂ (λ (a : Matrix (numbers M) d d) (b : Matrix (numbers M) d d). a · b) (sym (block-out-into (numbers M) d (F g) i j))
      (sym (full.carried g in_g j i n taken.1 taken.2 m.0 m.1))

  pub taken_or_not : (g : Operation) → G g → (i j : Fin U.arms) → IsTaken U g i j ⊎ (IsTaken U g i j → ⊥)
  taken_or_not g in_g i j =
      let t = moved G group chosen U M positive u D F full g in_g i in elim (same_or_not j t.0) [
        | inl same ↦ inl (t.1, t.3, t.4 ∙ ap (λ l. carrier U l ⊙ t.1) (sym same))
        | inr other ↦ inr (λ q. other (same_arm G group chosen U j t.0 q.0 t.1 q.1 t.3 (sym q.2 ∙ t.4)))
      ]

  -- what goes to another arm and back
  pub returned : (g : Operation) → G g → (i j : Fin U.arms) (x : Number M) → IsReturn U M d F g i j x
      → trace (block d (F g) i j · block d (F g) j i) ≡ x
  returned g in_g i j x is = elim (taken_or_not g in_g i j) [
    | inl taken ↦ ap trace (sym (there_and_back g in_g i j taken)) ∙ sym (is.taken taken)
    | inr none ↦ ap (λ (a : Matrix (numbers M) d d). trace (block d (F g) i j · a)) (full.apart g in_g j i (λ n in_n e. none (n, in_n, e)))
        ∙ ap trace (mul-null (block d (F g) i j)) ∙ trace-null (numbers M) d ∙ sym (is.apart none)
  ]

  -- the sums over the classes of two arms
  pub symmetric_classes : (g : Operation) → G g → (i j : Fin U.arms) (x : Number M) → IsReturn U M d F g i j x
      → (numbers M).add (symmetric_sum (numbers M) U.arms d (F g) (pair U.arms i j)) (symmetric_sum (numbers M) U.arms d (F g) (pair U.arms j i))
      ≡ (numbers M).add ((numbers M).mul (trace (block d (F g) i i)) (trace (block d (F g) j j))) x
  symmetric_classes g in_g i j x is = symmetric_both (numbers M) U.arms d (F g) i j
      ∙ ap ((numbers M).add ((numbers M).mul (trace (block d (F g) i i)) (trace (block d (F g) j j)))) (returned g in_g i j x is)

  pub skew_classes : (g : Operation) → G g → (i j : Fin U.arms) (x : Number M) → IsReturn U M d F g i j x
      → (numbers M).add (skew_sum (numbers M) U.arms d (F g) (pair U.arms i j)) (skew_sum (numbers M) U.arms d (F g) (pair U.arms j i))
      ≡ (numbers M).add ((numbers M).mul (trace (block d (F g) i i)) (trace (block d (F g) j j))) ((numbers M).neg x)
  skew_classes g in_g i j x is = skew_both (numbers M) U.arms d (F g) i j
      ∙ ap (λ y. (numbers M).add ((numbers M).mul (trace (block d (F g) i i)) (trace (block d (F g) j j))) ((numbers M).neg y)) (returned g in_g i j x is)
