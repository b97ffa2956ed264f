-- A sum of roots of the eigenvalues tells a root of the scalar, and there is one that does.
use Rattle.std.proofs.Common.{◌≡◌, sym, ◌∙◌, ap, ℕ, zero, suc, ◌<◌, ◌*◌, ◌⊎◌, inl, inr, arith}
use Rattle.irr_algebra.specs.Field.{Field}
use Rattle.irr_algebra.specs.Fin.{Fin}
use Rattle.irr_algebra.specs.Matrix.{Matrix, scale, trace}
use Rattle.irr_algebra.proofs.Rings.{zero-mul}
use Rattle.irr_algebra.proofs.Fields.{inverse-mul}
use Rattle.irr_algebra.proofs.Matrices.{scale-scale, scale-one, zero-scale, trace-scale}
use Rattle.irr_theory.specs.FactorSystem.{FactorSystem, Representation}
use Rattle.irr_theory.specs.Extension.{matrix_power}
use Rattle.irr_eigen.specs.Power.{power, Root, IsPrimitiveRoot}
use Rattle.irr_eigen.specs.Eigenspace.{Occurs, IsMatrixRoot, IsSumOfRoots}
use Rattle.irr_eigen.specs.Step.{Cycle, Subtable, IsOutside, IsStep, top_matrix, cycle_numbers}
use Rattle.irr_eigen.proofs.Powers.{mul-power, one-power, power-ne-zero, matrix_power-scale}
use Rattle.irr_eigen.proofs.Primitive.{power-zero_pos}
use Rattle.irr_eigen.proofs.Nilpotent.{nilpotent-trace}
use Rattle.irr_eigen.proofs.Shares.{root-law}
use Rattle.irr_eigen.proofs.TraceSums.{trace-sum_of_roots}
use Rattle.irr_eigen.proofs.Orders.{order-multiple}
use Rattle.irr_eigen.proofs.Steps.{step-matrix_root, step-different, step-primitive}

pub two_or_three-pos : (p : ℕ) → (p ≡ 2) ⊎ (p ≡ 3) → 0 < p
two_or_three-pos p (inl e) = omega arith
two_or_three-pos p (inr e) = omega arith

module _ (F : Field) where
  open F use {ring as R}

  -- a power of a number other than 0 and that of its inverse cancel
  power-inverse : (x : R.Carrier) → (x ≡ R.zero → ⊥) → (p : ℕ) → R.mul (power R x p) (power R (F.inverse x) p) ≡ R.one
  power-inverse x h p = sym (mul-power R x (F.inverse x) p) ∙ ap (λ y. power R y p) (F.mul-inverse x h) ∙ one-power R p

  -- a sum whose p-th power is that of the trace over c gives a root of c
  pub root_of_sum : (p : ℕ) (c t s : R.Carrier) → 0 < p → (t ≡ R.zero → ⊥) → R.mul (power R s p) c ≡ power R t p → Root R p c
  root_of_sum p c t s pos t-ne e = record {
    root = R.mul t (F.inverse s);
    root-power = mul-power R t (F.inverse s) p ∙ ap (λ x. R.mul x (power R (F.inverse s) p)) (sym e ∙ R.mul_comm (power R s p) c)
        ∙ R.mul_assoc c (power R s p) (power R (F.inverse s) p) ∙ ap (R.mul c) (power-inverse s s-ne p) ∙ R.mul-one c;
  }
    where
      s-ne : s ≡ R.zero → ⊥
      s-ne z = power-ne-zero F t t-ne p (sym e ∙ ap (λ x. R.mul x c) (ap (λ x. power R x p) z ∙ power-zero_pos R p pos) ∙ zero-mul R c)

  -- and a multiple of u with v as its p-th power and the sum as its trace
  pub multiple-power : {d : ℕ} (p : ℕ) (c s : R.Carrier) (v u : Matrix R d d) → (trace u ≡ R.zero → ⊥) → matrix_power u p ≡ scale R c v
      → R.mul (power R s p) c ≡ power R (trace u) p → matrix_power (scale R (R.mul s (F.inverse (trace u))) u) p ≡ v
  multiple-power p c s v u t-ne power-u e =
      let i : R.Carrier = F.inverse (trace u) in
      let one : R.mul (power R (R.mul s i) p) c ≡ R.one =
      ap (λ x. R.mul x c) (mul-power R s i p ∙ R.mul_comm (power R s p) (power R i p)) ∙ R.mul_assoc (power R i p) (power R s p) c
      ∙ ap (R.mul (power R i p)) e ∙ R.mul_comm (power R i p) (power R (trace u) p) ∙ power-inverse (trace u) t-ne p in
      matrix_power-scale R (R.mul s i) u p ∙ ap (scale R (power R (R.mul s i) p)) power-u ∙ scale-scale R (power R (R.mul s i) p) c v
      ∙ ap (λ x. scale R x v) one ∙ scale-one v

  pub multiple-trace : {d : ℕ} (s : R.Carrier) (u : Matrix R d d) → (trace u ≡ R.zero → ⊥) → trace (scale R (R.mul s (F.inverse (trace u))) u) ≡ s
  multiple-trace s u t-ne =
      trace-scale R (R.mul s (F.inverse (trace u))) u ∙ R.mul_assoc s (F.inverse (trace u)) (trace u) ∙ ap (R.mul s) (inverse-mul F (trace u) t-ne) ∙ R.mul-one s

  -- where r is a p-th root of c, the trace is r times a sum of roots
  pub trace-root : {d k : ℕ} {v u : Matrix R d d} (p : ℕ) (z c r : R.Carrier) (w : Fin k → R.Carrier) (times : Fin k → ℕ) → 0 < p → IsPrimitiveRoot R p z
      → (r ≡ R.zero → ⊥) → power R r p ≡ c → IsMatrixRoot p c v u w → ((a b : Fin k) → power R (w a) p ≡ power R (w b) p → a ≡ b)
      → ((a : Fin k) → Occurs v (power R (w a) p) (times a)) → (s : R.Carrier) × IsSumOfRoots R p z w times s × (trace u ≡ R.mul r s)
  trace-root zero z c r w times pos primitive r-ne r-power h different occurs = absurd (omega arith)
  trace-root (suc p) z c r w times pos primitive r-ne r-power h different occurs = trace-sum_of_roots F p z c r w primitive r-ne r-power h different times occurs

  -- a sum of roots that meets the trace
  pub kept_sum : {d k : ℕ} {v u : Matrix R d d} (p : ℕ) (z c : R.Carrier) (w : Fin k → R.Carrier) (times : Fin k → ℕ) → (p ≡ 2) ⊎ (p ≡ 3) → IsPrimitiveRoot R p z
      → IsMatrixRoot p c v u w → ((a b : Fin k) → power R (w a) p ≡ power R (w b) p → a ≡ b)
      → ((a : Fin k) → Occurs v (power R (w a) p) (times a)) → (trace u ≡ R.zero → ⊥)
      → (s : R.Carrier) × IsSumOfRoots R p z w times s × (R.mul (power R s p) c ≡ power R (trace u) p)
  kept_sum {d} {k} {v} {u} p z c w times two_or_three primitive h different occurs t-ne =
      let pos : 0 < p = two_or_three-pos p two_or_three in
      let c-ne : c ≡ R.zero → ⊥ = λ z. t-ne (nilpotent-trace F p d u (h.power-multiple ∙ ap (λ x. scale R x v) z ∙ zero-scale v)) in
      let r : Root R p c = root-law F p c w two_or_three h t-ne in
      let r-ne : r.root ≡ R.zero → ⊥ = λ e. c-ne (sym r.root-power ∙ ap (λ x. power R x p) e ∙ power-zero_pos R p pos) in
      let x : (s : R.Carrier) × IsSumOfRoots R p z w times s × (trace u ≡ R.mul r.root s) = trace-root p z c r.root w times pos primitive r-ne r.root-power h different occurs in
      (x.0, x.1, R.mul_comm (power R x.0 p) c ∙ ap (λ y. R.mul y (power R x.0 p)) (sym r.root-power) ∙ sym (mul-power R r.root x.0 p) ∙ ap (λ y. power R y p) (sym x.2))

  -- the same for a step on a twisted table

  pub step-root : {S T : FactorSystem R} (part : Subtable S T) {d : ℕ} (D : Representation S d) (g : Fin T.places) (p : ℕ) (c : R.Carrier) (u : Matrix R d d) → (p ≡ 2) ⊎ (p ≡ 3)
      → IsOutside part g p → IsStep part D g p c u → Cycle T g → (trace u ≡ R.zero → ⊥) → Root R p c
  step-root part D g p c u two_or_three outside h cycle t-ne =
      let pos : 0 < p = two_or_three-pos p two_or_three in
      let m = order-multiple part g p outside h.top h.place-top pos cycle.order cycle.positive cycle.returns in
      root-law F p c (cycle_numbers cycle (suc m.0)) two_or_three (step-matrix_root F part D g p c u h cycle m.0 m.1 pos) t-ne

  pub step-kept_sum : {S T : FactorSystem R} (part : Subtable S T) {d : ℕ} (D : Representation S d) (g : Fin T.places) (p : ℕ) (c : R.Carrier) (u : Matrix R d d) → (p ≡ 2) ⊎ (p ≡ 3)
      → (h : IsStep part D g p c u) (cycle : Cycle T g) (m : ℕ) → cycle.order ≡ suc m * p → (trace u ≡ R.zero → ⊥)
      → (times : Fin (suc m) → ℕ) → ((i : Fin (suc m)) → Occurs (top_matrix T D g p h.top) (power R (cycle_numbers cycle (suc m) i) p) (times i))
      → (s : R.Carrier) × IsSumOfRoots R p (power R cycle.root (suc m)) (cycle_numbers cycle (suc m)) times s × (R.mul (power R s p) c ≡ power R (trace u) p)
  step-kept_sum part D g p c u two_or_three h cycle m e t-ne times occurs =
      let pos : 0 < p = two_or_three-pos p two_or_three in
      kept_sum p (power R cycle.root (suc m)) c (cycle_numbers cycle (suc m)) times two_or_three (step-primitive F part D g p c u h cycle m e pos)
      (step-matrix_root F part D g p c u h cycle m e pos) (step-different F part D g p c u h cycle m e pos) occurs t-ne
