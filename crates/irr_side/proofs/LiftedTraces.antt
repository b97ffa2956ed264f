-- Traces of the blocks of arms, as numbers of a multiple of their order.
--   member_at            an operation of a list of members
--   own_number           the number, and what it is a sum of, over its own order
--   liftable             it can be lifted
--   raised_trace         the trace of the block of the full representation over the multiple
--   lifted_trace         the lifted number is that
use Rattle.std.proofs.Common.{◌≡◌, sym, ◌∙◌, ap, subst, refl, ℕ, ◌*◌, ◌<◌, ◌≤◌, ◌^◌, List, length, get_or, arith}
use Rattle.std.specs.Int.{◌∣◌}
use native.Mathlib.Nat as Nat
use Rattle.irr_algebra.specs.Fin.{Fin, to_nat}
use Rattle.irr_algebra.specs.Matrix.{Matrix, trace}
use Rattle.irr_algebra.specs.Pair.{times}
use Rattle.irr_algebra.specs.Homomorphism.{map_matrix}
use Rattle.irr_algebra.proofs.Homomorphisms.{map-trace}
use Rattle.irr_number.specs.Number.{Number, numbers}
use Rattle.irr_number.specs.Lift.{lift, lift_of}
use Rattle.irr_number.proofs.Lifts.{lift_of-lift}
use Rattle.irr_canonical.specs.Coefficient.{size}
use Rattle.irr_canonical.specs.RootSum.{IsRootSum}
use Rattle.irr_canonical.proofs.RootSums.{IsRootSum-lift}
use Rattle.irr_canonical.proofs.RootSizes.{size_of_IsRootSum}
use Rattle.irr_theory.specs.FactorSystem.{Representation}
use Rattle.irr_space.specs.Operation.{Operation, WaveVector}
use Rattle.irr_space.specs.PhaseTable.{phases_at, phases_over}
use Rattle.irr_space.specs.CompleteList.{over}
use Rattle.irr_seitz.specs.OperationMeaning.{operation}
use Rattle.irr_seitz.specs.PhaseMeaning.{sign_of}
use Rattle.irr_seitz.specs.declared.op.Op.{Op}
use Rattle.irr_cyc.specs.declared.scalars.Scalar.{Ghosts}
use Rattle.irr_close.specs.StandsFor.{stands_for}
use Rattle.irr_close.specs.declared.group.Group.{Group}
use Rattle.irr_close.proofs.SpaceGroups.{space_group}
use Rattle.irr_little.proofs.Spaces.{has_canonical}
use Rattle.irr_full.specs.GroupRepresentation.{raised}
use Rattle.irr_full.specs.Star.{Star}
use Rattle.irr_full.specs.Full.{IsFullOf, block}
use Rattle.irr_full.proofs.FullExistence.{full_matrices, full_matrices-is_full}
use Rattle.irr_full.proofs.FullMatrices.{full_unique}
use Rattle.irr_full.proofs.FullRaised.{raised-full}
use Rattle.irr_star.specs.Sizes.{HasSmallVector}
use Rattle.irr_star.specs.Induced.{IsFullRepresentation, IsInduced}
use Rattle.irr_star.specs.declared.full.Full.{Full}
use Rattle.irr_side.specs.ArmTraces.{AreMembers, IsArmTrace}

pub member_at : (group : Group) (ops : List Op) → AreMembers group ops → (k : ℕ) (x : Op) → k < length ops → x ≡ get_or ops k x
    → stands_for group (operation x) × HasSmallVector x
member_at group ops all k x l is = subst (λ (y : Op). stands_for group (operation y) × HasSmallVector y) (sym is) (all k x l)

block-raised : (N M : ℕ) (p : 0 < N) (w : N ∣ M) {a : ℕ} (d : ℕ) (A : Matrix (numbers N) (times a d) (times a d)) (i : Fin a)
    → trace (map_matrix (lift N M p w) (block d A i i)) ≡ trace (block d (map_matrix (lift N M p w) A) i i)
unfolding block map_matrix
block-raised N M p w d A i = refl

-- a sum of at most 48 powers of z
pub small_size : (n s : ℕ) (x : Number n) → 0 < n → n ≤ 12000 → s ≤ 48 → IsRootSum n s 1 x → size n x ≤ 2 ^ 100
small_size n s x positive limited few sum =
    let l : size n x ≤ s * n = size_of_IsRootSum n positive s 1 x sum in
    let u : s * n ≤ 48 * 12000 = Nat.mul-le-mul few limited in
    omega (arith, l, u)

module _ {X : Type 0} {V : Ghosts X} (full : Full X V) where
  pub liftable : (f : IsFullRepresentation full) (x : X) → V.order_of x ≡ full.order.n → IsRootSum f.number f.size 1 (V.value f.number x)
      → 0 < V.order_of x → V.order_of x ≤ 12000 → size (V.order_of x) (V.value (V.order_of x) x) ≤ 2 ^ 100
  liftable f x o sum positive limited =
      let e : V.order_of x ≡ f.number = o ∙ f.induced.order in
      small_size (V.order_of x) f.size (V.value (V.order_of x) x) positive limited f.induced.family.few
      (subst (λ n. IsRootSum n f.size 1 (V.value n x)) (sym e) sum)

module _ (group : Group) {k : WaveVector} (U : Star (sign_of group.phase) (stands_for group) k) (M : ℕ) (above : 0 < M)
    (v : U.table.order ∣ U.table.order) (u : U.table.order ∣ M) {d : ℕ} (D : Representation (phases_at U.table) d)
    (g : Operation) (in_g : stands_for group g) where
  abbrev pub own : Operation → Matrix (numbers U.table.order) (times U.arms d) (times U.arms d)
  own = full_matrices (stands_for group) (space_group group).is_group (has_canonical group) U U.table.order U.table.order_positive v
      (over U.table U.table.order v D)

  pub own_is_full : IsFullOf U U.table.order v (over U.table U.table.order v D) own
  own_is_full = full_matrices-is_full (stands_for group) (space_group group).is_group (has_canonical group) U U.table.order
      U.table.order_positive v (over U.table U.table.order v D)

  pub raised_trace : (F : Operation → Matrix (numbers M) (times U.arms d) (times U.arms d)) → IsFullOf U M u (over U.table M u D) F
      → (i : Fin U.arms)
      → (lift U.table.order M U.table.order_positive u).map (trace (block d (own g) i i)) ≡ trace (block d (F g) i i)
  raised_trace F is i = map-trace (lift U.table.order M U.table.order_positive u) (block d (own g) i i)
      ∙ block-raised U.table.order M U.table.order_positive u d (own g) i
      ∙ ap (λ (m : Matrix (numbers M) (times U.arms d) (times U.arms d)). trace (block d m i i))
      (full_unique (stands_for group) (space_group group).is_group (has_canonical group) U M above u (over U.table M u D)
      (raised U.table.order M U.table.order_positive u own) F
      (raised-full (stands_for group) (space_group group).is_group (has_canonical group) U U.table.order M U.table.order_positive above v u u D
      own own_is_full) is g in_g)

module _ {X : Type 0} {V : Ghosts X} (full : Full X V) (arm : ℕ) (g : Operation) (M : ℕ) (above : 0 < M) (x y : X)
    (order : V.order_of x ≡ full.order.n)
    (trace_is : (group : Group) (k : WaveVector) (U : Star (sign_of group.phase) (stands_for group) k) (N : ℕ) (v : U.table.order ∣ N)
    (d : ℕ) (D : Representation (phases_over U.table N v) d) → IsInduced group U N v D full
    → (A : Operation → Matrix (numbers N) (times U.arms d) (times U.arms d)) → IsFullOf U N v D A → (i : Fin U.arms) → to_nat i ≡ arm
    → V.value N x ≡ trace (block d (A g) i i))
    (few : (group : Group) (k : WaveVector) (U : Star (sign_of group.phase) (stands_for group) k) (N : ℕ) (v : U.table.order ∣ N)
    (d : ℕ) (D : Representation (phases_over U.table N v) d) → IsInduced group U N v D full → IsRootSum N d 1 (V.value N x))
    (order_there : V.order_of y ≡ M) (value_there : V.value M y ≡ lift_of (V.order_of x) M (V.value (V.order_of x) x)) where
  pub lifted_trace : IsArmTrace {V = V} full arm g M y
  lifted_trace = record {
    order = order_there;
    trace_at = λ group k U v u d D induced in_g F is i e.
        let N = U.table.order in
        let p = U.table.order_positive in
        let A = own group U M above v u D g in_g in
        let at : V.value N x ≡ trace (block d (A g) i i) = trace_is group k U N v d (over U.table N v D) induced A
        (own_is_full group U M above v u D g in_g) i e in
        let raised_is = raised_trace group U M above v u D g in_g F is i in (
          value_there ∙ ap (λ n. lift_of n M (V.value n x)) (order ∙ induced.order)
              ∙ lift_of-lift N M p u (V.value N x) ∙ ap (lift N M p u).map at ∙ raised_is,
          subst (IsRootSum M d 1) (ap (lift N M p u).map at ∙ raised_is)
              (IsRootSum-lift N M p u (few group k U N v d (over U.table N v D) induced)),
        );
  }
