-- Schur's lemma for families on a twisted table.
use Rattle.std.proofs.Common.{◌≡◌, sym, ◌∙◌, ap, ℕ, ◌<◌, ◌≤◌, ◌⊎◌, inl, inr, arith}
use Rattle.irr_algebra.specs.Ring.{whole}
use Rattle.irr_algebra.specs.Field.{Field}
use Rattle.irr_algebra.specs.Fin.{Fin}
use Rattle.irr_algebra.specs.Matrix.{Matrix, ◌·◌, scale, unit, null, trace, total, single}
use Rattle.irr_algebra.specs.Action.{IsIrreducible, IsIntertwiner, Equivalent, IsSimple}
use Rattle.irr_algebra.proofs.Fields.{inverse-mul, whole-ne-zero, inverse-ne-zero, mul-ne-zero}
use Rattle.irr_algebra.proofs.Matrices.{mul_assoc, unit-mul, mul-null, mul-scale, scale-scale, scale-one, trace_comm, trace-scale, trace-unit, entry_of_null}
use Rattle.irr_algebra.proofs.Totals.{mul-total, total-ext, trace-mul-single}
use Rattle.irr_algebra.proofs.Rank.{left_inverse-le}
use Rattle.irr_algebra.proofs.Spans.{left_inverse}
use Rattle.irr_algebra.proofs.Actions.{mul-intertwines, scale-intertwines, invariant_matrix}
use Rattle.irr_algebra.proofs.Irreducible.{irreducible-idempotent, simple-scalar}
use Rattle.irr_theory.specs.FactorSystem.{FactorSystem, Representation}
use Rattle.irr_theory.specs.Traces.{back}
use Rattle.irr_theory.proofs.Averages.{average, average-intertwines, trace-average, mul-average}

module _ (F : Field) where
  open F use {ring as R}

  -- the average over a simple family is the trace over the size, times 1
  pub simple-average : {T : FactorSystem R} {d : ℕ} (A : Representation T d) → 0 < d → IsSimple A.at → (y : Matrix R d d)
      → average F A A y ≡ scale R (R.mul (trace y) (F.inverse (whole R d))) (unit R d)
  simple-average {T} {d} A l h y =
      let c = simple-scalar F A.at h (average F A A y) (average-intertwines F A A y) in
      let t : trace y ≡ R.mul c.0 (whole R d) = sym (trace-average F A y) ∙ ap trace c.1 ∙ trace-scale R c.0 (unit R d) ∙ ap (R.mul c.0) (trace-unit R d) in
      c.1 ∙ ap (λ s. scale R s (unit R d)) (sym (R.mul-one c.0) ∙ ap (R.mul c.0) (sym (F.mul-inverse (whole R d) (whole-ne-zero F d l)))
      ∙ sym (R.mul_assoc c.0 (whole R d) (F.inverse (whole R d)))
      ∙ ap (λ s. R.mul s (F.inverse (whole R d))) (sym t))

  -- an intertwiner into a simple family that is not 0 has an intertwiner as right inverse
  pub simple-right_inverse : {T : FactorSystem R} {a b : ℕ} (A : Representation T a) (B : Representation T b) → 0 < b → IsSimple B.at
      → (x : Matrix R b a) → IsIntertwiner A.at B.at x → (i : Fin b) (j : Fin a) → (x.at i j ≡ R.zero → ⊥)
      → (z : Matrix R a b) × IsIntertwiner B.at A.at z × (x · z ≡ unit R b)
  simple-right_inverse {T} {a} {b} A B l h x f i j n = (
    scale R (F.inverse c) y,
    scale-intertwines B.at A.at (F.inverse c) y (average-intertwines F B A (single j i)),
    mul-scale R (F.inverse c) x y ∙ ap (scale R (F.inverse c)) xy ∙ scale-scale R (F.inverse c) c (unit R b)
        ∙ ap (λ s. scale R s (unit R b)) (inverse-mul F c (mul-ne-zero F (x.at i j) (F.inverse (whole R b)) n (inverse-ne-zero F (whole R b) (whole-ne-zero F b l)))) ∙ scale-one (unit R b),
  )
    where
      y : Matrix R a b
      y = average F B A (single j i)

      c : R.Carrier
      c = R.mul (x.at i j) (F.inverse (whole R b))

      xy : x · y ≡ scale R c (unit R b)
      xy = mul-average F A B B x (single j i) f ∙ simple-average B l h (x · single j i)
          ∙ ap (λ s. scale R (R.mul s (F.inverse (whole R b))) (unit R b)) (trace-mul-single x i j)

  -- the average of a product lies in the span of its first factor, where that is invariant
  average-inside : {T : FactorSystem R} {d r : ℕ} (A : Representation T d) (p : Matrix R d r) (q : Matrix R r d) (k : Fin T.places → Matrix R r r)
      → ((i : Fin T.places) → p · k i ≡ A.at i · p)
      → p · scale R (F.inverse (whole R T.places)) (total T.places (λ i. k i · q · back A i)) ≡ average F A A (p · q)
  unfolding average
  average-inside {T} {d} {r} A p q k e = simp (mul-scale, mul-total) (ap (scale R (F.inverse (whole R T.places))) (total-ext T.places (λ i.
      sym (mul_assoc p (k i · q) (back A i)) ∙ ap (λ (m : Matrix R d d). m · back A i)
      (sym (mul_assoc p (k i) q) ∙ ap (λ (m : Matrix R d r). m · q) (e i) ∙ mul_assoc (A.at i) p q))))

  -- a simple family has no invariant span
  pub simple-irreducible : {T : FactorSystem R} {d : ℕ} (A : Representation T d) → IsSimple A.at → IsIrreducible A.at
  simple-irreducible {T} {d} A h = record {
    no_invariant = λ r p positive below independent invariant.
        let l = left_inverse F p independent in
        let k : Fin T.places → Matrix R r r = λ i. (invariant_matrix A.at p invariant i).0 in
        let ke : (i : Fin T.places) → p · k i ≡ A.at i · p = λ i. (invariant_matrix A.at p invariant i).1 in
        let s : R.Carrier = R.mul (whole R r) (F.inverse (whole R d)) in
        let sn : s ≡ R.zero → ⊥ = mul-ne-zero F (whole R r) (F.inverse (whole R d)) (whole-ne-zero F r positive) (inverse-ne-zero F (whole R d) (whole-ne-zero F d (omega arith))) in
        let w : Matrix R r d = scale R (F.inverse (whole R T.places)) (total T.places (λ i. k i · l.0 · back A i)) in
        let e : p · w ≡ scale R s (unit R d) =
        average-inside A p l.0 k ke ∙ simple-average A (omega arith) h (p · l.0)
        ∙ ap (λ t. scale R (R.mul t (F.inverse (whole R d))) (unit R d)) (trace_comm p l.0 ∙ ap trace l.1 ∙ trace-unit R r) in
        let le : d ≤ r = left_inverse-le F (scale R (F.inverse s) w) p (mul-scale R (F.inverse s) p w ∙ ap (scale R (F.inverse s)) e ∙ scale-scale R (F.inverse s) s (unit R d)
        ∙ ap (λ t. scale R t (unit R d)) (inverse-mul F s sn) ∙ scale-one (unit R d)) in
        omega arith;
  }

  -- an irreducible family with an intertwiner into a simple one that is not 0 is equivalent to it
  pub irreducible-equivalent : {T : FactorSystem R} {a b : ℕ} (A : Representation T a) (B : Representation T b) → IsIrreducible A.at → 0 < b → IsSimple B.at
      → (x : Matrix R b a) → IsIntertwiner A.at B.at x → (i : Fin b) (j : Fin a) → (x.at i j ≡ R.zero → ⊥) → Equivalent A.at B.at
  irreducible-equivalent {T} {a} {b} A B irreducible l h x f i j n = go (simple-right_inverse A B l h x f i j n)
    where
      go : (z : Matrix R a b) × IsIntertwiner B.at A.at z × (x · z ≡ unit R b) → Equivalent A.at B.at
      go (z, g, xz) = cases (irreducible-idempotent F A.at irreducible (z · x) (mul-intertwines A.at B.at A.at x z f g)
          (mul_assoc z x (z · x) ∙ ap (λ (m : Matrix R b a). z · m) (sym (mul_assoc x z x) ∙ ap (λ (m : Matrix R b b). m · x) xz ∙ unit-mul x)))
        where
          cases : (z · x ≡ null) ⊎ (z · x ≡ unit R a) → Equivalent A.at B.at
          cases (inl k) = absurd (n (entry_of_null i j
              (sym (unit-mul x) ∙ ap (λ (m : Matrix R b b). m · x) (sym xz) ∙ mul_assoc x z x ∙ ap (λ (m : Matrix R a a). x · m) k ∙ mul-null x)))
          cases (inr k) = record { forward = x; backward = z; is_intertwiner = f; forward-backward = xz; backward-forward = k }

  -- an intertwiner of simple families that is not 0 makes them equivalent
  pub simple-equivalent : {T : FactorSystem R} {a b : ℕ} (A : Representation T a) (B : Representation T b) → IsSimple A.at → 0 < b → IsSimple B.at
      → (x : Matrix R b a) → IsIntertwiner A.at B.at x → (i : Fin b) (j : Fin a) → (x.at i j ≡ R.zero → ⊥) → Equivalent A.at B.at
  simple-equivalent A B g = irreducible-equivalent A B (simple-irreducible A g)
