-- A wave vector has one order, operations have one numbering, and a numbering has one table.
--   order_unique                          a wave vector has one order
--   numbering_length, numbering_unique    two numberings of the same operations are the same
--   along_numbering                       so what holds of one holds of the other
--   IsListTable s k n ops l x             l and x are products and exponents of operations ops: g_i g_j = (1|t) g_l, z^x = exp(2 pi i s k.t)
--   product_unique, exponent_unique       operations in the order of the numbering have one l, and one x
use Rattle.std.proofs.Common.{◌≡◌, sym, ◌∙◌, ap, ap₂, subst, refl, inl, inr, ℕ, ◌<◌, ◌≤◌, ◌*◌, arith}
use Rattle.std.proofs.lemmas.Bool.{cases_lt}
use mathlib.Core.Path.{fun_ext}
use Rattle.irr_algebra.specs.Fin.{Fin, to_nat}
use Rattle.irr_algebra.proofs.Indices.{to_nat_inj}
use Rattle.irr_algebra.specs.Matrix.{◌⊕◌, ◌⊖◌}
use Rattle.irr_space.specs.Operation.{Operation, WaveVector, Vector, ◌⊙◌, translation}
use Rattle.irr_space.specs.SpaceGroup.{IsExponent}
use Rattle.irr_space.specs.Reciprocal.{IsOrder, IsPeriod, IsPhase, Sign}
use Rattle.irr_space.specs.CanonicalOperation.{IsNumbering, IsNumberedBefore}
use Rattle.irr_cocycle.proofs.Operations.{rotation-translation-op, vector-translation-op, add-sub}
use Rattle.irr_cocycle.proofs.Phases.{phase_unique}
use Rattle.irr_close.proofs.Numbering.{numbered_irrefl, numbered_chain}
use Rattle.irr_check.proofs.Enumerations.{Agree, same_length, agree}

module _ (G : Operation → Type 0) where
  group_exponent_unique : (d e : ℕ) → IsExponent G d → IsExponent G e → d ≡ e
  group_exponent_unique d e p q = let a : d ≤ e = p.least e q.positive q.power in let b : e ≤ d = q.least d p.positive p.power in omega arith

  period_unique : (k : WaveVector) (d e : ℕ) → IsPeriod G k d → IsPeriod G k e → d ≡ e
  period_unique k d e p q = let a : d ≤ e = p.least e q.positive q.reciprocal in let b : e ≤ d = q.least d p.positive p.reciprocal in omega arith

  pub order_unique : (k : WaveVector) (m n : ℕ) → IsOrder G k m → IsOrder G k n → m ≡ n
  order_unique k m n p q = p.is_product ∙ ap₂ (λ x y. x * y) (group_exponent_unique p.exponent q.exponent p.is_exponent q.is_exponent)
      (period_unique k p.period q.period p.is_period q.is_period) ∙ sym q.is_product

-- the order of the numbering
abbrev IsOperationBefore : Operation → Operation → Type 0
IsOperationBefore g h = IsNumberedBefore g.rotation h.rotation

irreflexive : (g : Operation) → IsOperationBefore g g → ⊥
irreflexive g = numbered_irrefl g.rotation

chain : (f g h : Operation) → IsOperationBefore f g → IsOperationBefore g h → IsOperationBefore f h
chain f g h = numbered_chain f.rotation g.rotation h.rotation

-- lists that agree have the same properties
along_list : {X : Type 0} (P : (n : ℕ) → (Fin n → X) → Type 0) {m : ℕ} (f : Fin m → X) (n : ℕ) → m ≡ n → (g : Fin n → X) → Agree f g → P m f → P n g
along_list {X} P {m} f n e = subst (λ c. (g : Fin c → X) → Agree f g → P m f → P c g) e
    (λ g same p. subst (P m) (fun_ext (λ i. same i i refl)) p)

module _ (G P : Operation → Type 0) {n m : ℕ} (f : Fin n → Operation) (g : Fin m → Operation) (p : IsNumbering G P f) (q : IsNumbering G P g) where
  pub numbering_length : n ≡ m
  numbering_length = same_length IsOperationBefore irreflexive chain f g p.ordered q.ordered (λ i. q.all (f i) (p.canonical i) (p.member i))
      (λ j. p.all (g j) (q.canonical j) (q.member j))

  pub numbering_unique : Agree f g
  numbering_unique = agree IsOperationBefore irreflexive chain f g p.ordered q.ordered (λ i. q.all (f i) (p.canonical i) (p.member i))
      (λ j. p.all (g j) (q.canonical j) (q.member j))

  pub along_numbering : (Q : (c : ℕ) → (Fin c → Operation) → Type 0) → Q n f → Q m g
  along_numbering Q = along_list Q f m numbering_length g numbering_unique

pub record IsListTable (s : Sign) (k : WaveVector) (order : ℕ) {h : ℕ} (ops : Fin h → Operation) (product : Fin h → Fin h → Fin h)
    (exponent : Fin h → Fin h → ℕ) : Type 0 where
  pub quotient : Fin h → Fin h → Vector
  pub products : (i j : Fin h) → ops i ⊙ ops j ≡ translation (quotient i j) ⊙ ops (product i j)
  pub phases : (i j : Fin h) → IsPhase s order k (quotient i j) (exponent i j)

module _ (s : Sign) (k : WaveVector) (order : ℕ) {h : ℕ} (ops : Fin h → Operation)
    (ordered : (i j : Fin h) → to_nat i < to_nat j → IsNumberedBefore (ops i).rotation (ops j).rotation)
    (l m : Fin h → Fin h → Fin h) (x y : Fin h → Fin h → ℕ) (t : IsListTable s k order ops l x) (u : IsListTable s k order ops m y) where
  same_place : (i j : Fin h) → (ops i).rotation ≡ (ops j).rotation → i ≡ j
  same_place i j e = to_nat_inj i j (elim (cases_lt (to_nat i) (to_nat j)) [
    | inl first ↦ absurd (numbered_irrefl (ops i).rotation (subst (λ R. IsNumberedBefore (ops i).rotation R) (sym e) (ordered i j first)))
    | inr past ↦ elim (cases_lt (to_nat j) (to_nat i)) [
      | inl second ↦ absurd (numbered_irrefl (ops i).rotation (subst (λ R. IsNumberedBefore R (ops i).rotation) (sym e) (ordered j i second)))
      | inr here ↦ omega (arith, past, here)
    ]
  ])

  same_product : (i j : Fin h) → l i j ≡ m i j
  same_product i j = same_place (l i j) (m i j) (sym (rotation-translation-op (t.quotient i j) (ops (l i j)))
      ∙ ap (λ (g : Operation). g.rotation) (sym (t.products i j) ∙ u.products i j) ∙ rotation-translation-op (u.quotient i j) (ops (m i j)))

  same_quotient : (i j : Fin h) → u.quotient i j ≡ t.quotient i j
  same_quotient i j = sym (add-sub (u.quotient i j) (ops (m i j)).vector) ∙ ap (λ v. v ⊖ (ops (m i j)).vector) sums
      ∙ ap (λ p. (t.quotient i j ⊕ (ops (l i j)).vector) ⊖ (ops p).vector) (sym (same_product i j))
      ∙ add-sub (t.quotient i j) (ops (l i j)).vector
    where
      sums : u.quotient i j ⊕ (ops (m i j)).vector ≡ t.quotient i j ⊕ (ops (l i j)).vector
      sums = sym (vector-translation-op (u.quotient i j) (ops (m i j))) ∙ ap (λ (g : Operation). g.vector) (sym (u.products i j) ∙ t.products i j)
          ∙ vector-translation-op (t.quotient i j) (ops (l i j))

  pub product_unique : l ≡ m
  product_unique = fun_ext (λ i. fun_ext (λ j. same_product i j))

  pub exponent_unique : x ≡ y
  exponent_unique = fun_ext (λ i. fun_ext (λ j. phase_unique s order k (t.quotient i j) (x i j) (y i j) (t.phases i j)
      (subst (λ v. IsPhase s order k v (y i j)) (same_quotient i j) (u.phases i j))))
