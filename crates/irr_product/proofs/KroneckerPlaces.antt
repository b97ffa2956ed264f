-- The direct product of two full representations at its diagonal places, which are pairs of pairs of an arm and a row.
--   product_is_representation, product_has_diagonal     it is a representation, diagonal at translations
--   arm_reciprocal, arm_order     arms have the order of the wave vector
--   pair_order                    the order of the sum of two arms divides each multiple of both orders
--   phase_of_same                 equivalent wave vectors have the same phases
--   place_phase                   the place of two pairs has the phases of the sum of both arms
--   block_trace                   the trace of a block on the diagonal
use Rattle.std.proofs.Common.{◌≡◌, sym, ◌∙◌, ap, subst, refl, ℕ, ◌<◌, ◌*◌, ◌⊎◌}
use Rattle.std.specs.Int.{◌∣◌}
use native.Mathlib.Nat as Nat
use Rattle.irr_algebra.specs.Ring.{Ring}
use Rattle.irr_algebra.specs.Fin.{Fin}
use Rattle.irr_algebra.specs.Sum.{sum}
use Rattle.irr_algebra.specs.Matrix.{Matrix, ◌⊕◌, trace}
use Rattle.irr_algebra.specs.Pair.{times, pair}
use Rattle.irr_number.specs.Number.{numbers}
use Rattle.irr_number.proofs.Primes.{cofactor}
use Rattle.irr_theory.specs.FactorSystem.{Representation}
use Rattle.irr_space.specs.Operation.{Operation, WaveVector, turned}
use Rattle.irr_space.specs.SpaceGroup.{IsExponent}
use Rattle.irr_space.specs.Reciprocal.{Sign, AreEquivalent, IsReciprocal, IsOrder, times as multiple}
use Rattle.irr_space.specs.PhaseTable.{phases_over}
use Rattle.irr_cocycle.specs.SpaceGroupLaws.{IsGroup, HasCanonical}
use Rattle.irr_cocycle.proofs.Reciprocals.{equivalent_sym}
use Rattle.irr_full.specs.GroupRepresentation.{IsRepresentation, HasDiagonal}
use Rattle.irr_full.specs.Star.{Star}
use Rattle.irr_full.specs.Full.{IsFullOf, block}
use Rattle.irr_full.specs.Product.{kronecker}
use Rattle.irr_full.specs.Part.{HasPhase}
use Rattle.irr_full.proofs.Diagonals.{full-diagonal, kronecker_representation, kronecker-diagonal}
use Rattle.irr_full.proofs.FullMatrices.{full_representation}
use Rattle.irr_full.proofs.PhaseLaws.{phase_equivalent}
use Rattle.irr_full.proofs.StarLaws.{back, back_member, image-back}
use Rattle.irr_full.proofs.Waves.{arm_has_phase, kronecker_has_phase}
use Rattle.irr_product.proofs.Periods.{multiple_of_divisor, sum_of, equivalent_of, turned_of, order_within, exponent_unique}

pub block_trace : (R : Ring) (a d : ℕ) (m : Matrix R (times a d) (times a d)) (i : Fin a)
    → trace (block d m i i) ≡ sum R d (λ r. m.at (pair d i r) (pair d i r))
unfolding trace block
block_trace R a d m i = refl

pub phase_of_same : (s : Sign) (G : Operation → Type 0) (k w : WaveVector) (M : ℕ) {e : ℕ}
    (A : Operation → Matrix (numbers M) e e) (x : Fin e)
    → AreEquivalent G w k → HasPhase s G k M A x → HasPhase s G w M A x
phase_of_same s G k w M A x e h t y m p = h t y m (phase_equivalent s M G w k t y (equivalent_sym G w k e) m p)

module _ (G : Operation → Type 0) (group : IsGroup G) (chosen : HasCanonical G) {s : Sign} {k : WaveVector}
    (S : Star s G k) where
  pub arm_reciprocal : (n : ℕ) → IsReciprocal G (multiple n k) → (i : Fin S.arms)
      → IsReciprocal G (multiple n (S.arm i))
  arm_reciprocal n r i = equivalent_of G n (turned k (back G group chosen S i)) (S.arm i)
      (subst (λ w. AreEquivalent G (S.arm i) w) (image-back G group chosen S i) (S.are_arms.carries i).equivalent)
      (turned_of G group n k (back G group chosen S i) (back_member G group chosen S i) r)

  pub arm_order : ((w : WaveVector) → IsReciprocal G w ⊎ (IsReciprocal G w → ⊥)) → (M : ℕ) → S.table.order ∣ M
      → (i : Fin S.arms)
      → (m : ℕ) × IsOrder G (S.arm i) m × (m ∣ M)
  arm_order decide M v i = let o = S.is_table.is_order in order_within G decide
      (S.arm i) o.exponent o.period M o.is_exponent o.is_period.positive
      (arm_reciprocal o.period o.is_period.reciprocal i) (subst (λ x. x ∣ M) o.is_product v)

-- a period divides what is left of a multiple of the order
period_in : (G : Operation → Type 0) (k : WaveVector) (n e c M : ℕ) (o : IsOrder G k n) → IsExponent G e → n ∣ M → M
    ≡ e * c → o.period ∣ c
period_in G k n e c M o exponent v is = Nat.dvd_of_mul-dvd-mul_left o.period exponent.positive
    (subst (λ x. e * o.period ∣ x) is
    (subst (λ x. x ∣ M) (o.is_product
    ∙ ap (λ x. x * o.period) (exponent_unique G o.exponent e o.is_exponent exponent)) v))

module _ (G : Operation → Type 0) (group : IsGroup G) (chosen : HasCanonical G)
    (decide : (w : WaveVector) → IsReciprocal G w ⊎ (IsReciprocal G w → ⊥))
    {s : Sign} {k l : WaveVector} (U : Star s G k) (V : Star s G l) (M : ℕ) (positive : 0 < M) (u : U.table.order ∣ M)
    (v : V.table.order ∣ M) where
  pub pair_order : (i : Fin U.arms) (j : Fin V.arms) (w : WaveVector) → AreEquivalent G w (U.arm i ⊕ V.arm j)
      → (m : ℕ) × IsOrder G w m × (m ∣ M)
  pair_order i j w near = with_orders U.is_table.is_order V.is_table.is_order
    where
      with_orders : IsOrder G k U.table.order → IsOrder G l V.table.order → (m : ℕ) × IsOrder G w m × (m ∣ M)
      with_orders a b = from_rest (cofactor a.exponent M (Nat.dvd_trans a.exponent
          (subst (λ x. a.exponent ∣ x) (sym a.is_product) (Nat.dvd-mul_right a.exponent a.period)) u))
        where
          from_rest : (c : ℕ) × (M ≡ a.exponent * c) → (m : ℕ) × IsOrder G w m × (m ∣ M)
          from_rest (c, is) = order_within G decide w a.exponent c M a.is_exponent
              (Nat.pos_of_dvd_of_pos (subst (λ x. c ∣ x) (sym is) (Nat.dvd-mul_left c a.exponent)) positive)
              (equivalent_of G c (U.arm i ⊕ V.arm j) w near (sum_of G c (U.arm i) (V.arm j)
              (multiple_of_divisor G a.period c (U.arm i)
              (period_in G k U.table.order a.exponent c M a a.is_exponent u is)
              (arm_reciprocal G group chosen U a.period a.is_period.reciprocal i))
              (multiple_of_divisor G b.period c (V.arm j)
              (period_in G l V.table.order a.exponent c M b a.is_exponent v is)
              (arm_reciprocal G group chosen V b.period b.is_period.reciprocal j))))
              (subst (λ x. x ∣ M) is (Nat.dvd_refl M))

module _ (G : Operation → Type 0) (group : IsGroup G) (chosen : HasCanonical G)
    {s : Sign} {k l : WaveVector} (U : Star s G k) (V : Star s G l) (M : ℕ) (positive : 0 < M) (u : U.table.order ∣ M)
    (v : V.table.order ∣ M)
    {c d : ℕ} (D : Representation (phases_over U.table M u) c) (E : Representation (phases_over V.table M v) d)
    (F : Operation → Matrix (numbers M) (times U.arms c) (times U.arms c)) (full_F : IsFullOf U M u D F)
    (H : Operation → Matrix (numbers M) (times V.arms d) (times V.arms d)) (full_H : IsFullOf V M v E H) where
  pub product_is_representation : IsRepresentation G (kronecker F H)
  product_is_representation = kronecker_representation G F H
      (full_representation G group chosen U M positive u D F full_F)
      (full_representation G group chosen V M positive v E H full_H)

  pub product_has_diagonal : HasDiagonal G (kronecker F H)
  product_has_diagonal = kronecker-diagonal G F H (full-diagonal G group chosen U M positive u D F full_F)
      (full-diagonal G group chosen V M positive v E H full_H)

  pub place_phase : ((w : WaveVector) → IsReciprocal G w ⊎ (IsReciprocal G w → ⊥))
      → (i : Fin U.arms) (r : Fin c) (j : Fin V.arms) (t : Fin d)
      → HasPhase s G (U.arm i ⊕ V.arm j) M (kronecker F H) (pair (times V.arms d) (pair c i r) (pair d j t))
  place_phase decide i r j t =
      let a = arm_order G group chosen U decide M u i in
      let b = arm_order G group chosen V decide M v j in
      kronecker_has_phase G s M positive (U.arm i) (V.arm j) a.0 b.0 a.1 a.2 b.1 b.2 F H (pair c i r) (pair d j t)
      (arm_has_phase G group chosen U M positive u D F full_F i r)
      (arm_has_phase G group chosen V M positive v E H full_H j t)
