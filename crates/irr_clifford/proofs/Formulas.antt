-- Extensions and induced families have the matrices that are written out.
use Rattle.std.proofs.Common.{◌≡◌, sym, ◌∙◌, ap, ap₂, ℕ}
use mathlib.Core.Path.{fun_ext}
use Rattle.irr_algebra.specs.Ring.{Ring}
use Rattle.irr_algebra.specs.Fin.{Fin, to_nat}
use Rattle.irr_algebra.specs.Pair.{times, pair, on_pairs}
use Rattle.irr_algebra.specs.Sum.{delta}
use Rattle.irr_algebra.specs.Matrix.{Matrix, ◌·◌, scale, trace, total, unit}
use Rattle.irr_algebra.proofs.Rings.{one-mul}
use Rattle.irr_algebra.proofs.Sums.{sum-ext, delta-sum, sum-delta, delta_comm}
use Rattle.irr_algebra.proofs.Matrices.{mul_assoc, mul-at, scale-at, mul-scale, trace_comm, trace-scale, scale-mul, unit-mul}
use Rattle.irr_algebra.proofs.Totals.{total-at, trace-total}
use Rattle.irr_algebra.proofs.Pairs.{on_pairs-pair, pairs-ext}
use Rattle.irr_theory.specs.Extension.{matrix_power}
use Rattle.irr_theory.specs.FactorSystem.{FactorSystem, Representation}
use Rattle.irr_theory.specs.Lifted.{lifted, lifted_product}
use Rattle.irr_clifford.specs.Subgroup.{Subgroup}
use Rattle.irr_clifford.specs.Cyclic.{CyclicQuotient, power_phase, IsExtension}
use Rattle.irr_clifford.specs.Formulas.{coset, split_phase, block_phase, extension_matrix, induced_matrix, induced_trace}
use Rattle.irr_clifford.proofs.Split.{bare, steps, part_of-number, lifted_power-place}
use Rattle.irr_clifford.proofs.Representations.{steps-phase, family_of_lifted}
use Rattle.irr_clifford.proofs.FromTraces.{extension-at}
use Rattle.irr_clifford.proofs.Blocks.{block_in, block_of, block_in-at, block_of-at, block_of-in}
use Rattle.irr_clifford.proofs.InducedFamily.{strip, strip-unfolded, wide, turned, induced_family}

module _ {R : Ring} {T : FactorSystem R} {H : Subgroup T} (Q : CyclicQuotient H) {d : ℕ} (D : Representation H.table d) where
  pub extension-matrix : (u : Matrix R d d) (E : Representation T d) → IsExtension Q D u E → (x : Fin T.places) → E.at x ≡ extension_matrix Q D u x
  unfolding extension_matrix lifted
  extension-matrix u E h x =
      extension-at Q D u E h x ∙ ap (λ c. matrix_power u (to_nat (Q.exponent x)) · scale R c (D.at (Q.part x))) (part_of-number Q (bare T x) ∙ one-mul R (split_phase Q x))
      ∙ mul-scale R (split_phase Q x) (matrix_power u (to_nat (Q.exponent x))) (D.at (Q.part x))

  -- the block at x and b
  block : Fin T.places → Fin Q.index → Matrix R d d
  block x b = scale R (block_phase Q x b) (D.at (Q.part (T.product x (coset Q b))))

  turned-place : (x : Fin T.places) (b : Fin Q.index) → (turned Q D (bare T x) b).place ≡ T.product x (coset Q b)
  unfolding turned lifted_product
  turned-place x b = ap (T.product x) (lifted_power-place T Q.generator (to_nat b))

  turned-number : (x : Fin T.places) (b : Fin Q.index) → (turned Q D (bare T x) b).number ≡ R.mul (power_phase T Q.generator (to_nat b)) (T.phase x (coset Q b))
  unfolding turned lifted_product
  turned-number x b = ap₂ R.mul (one-mul R (steps Q (to_nat b)).number ∙ steps-phase Q (to_nat b)) (ap (T.phase x) (lifted_power-place T Q.generator (to_nat b)))

  strip-block : (x : Fin T.places) (b : Fin Q.index) → strip Q D (bare T x) b ≡ block_in R Q.index d (Q.exponent (T.product x (coset Q b))) · block x b
  unfolding block block_phase lifted
  strip-block x b =
      strip-unfolded Q D (bare T x) b
      ∙ ap (λ (m : Matrix R d d). block_in R Q.index d (Q.exponent (turned Q D (bare T x) b).place) · m)
      (ap (λ c. scale R c (D.at (Q.part (turned Q D (bare T x) b).place))) (part_of-number Q (turned Q D (bare T x) b) ∙ ap (λ c. R.mul c (split_phase Q (turned Q D (bare T x) b).place)) (turned-number x b)))
      ∙ ap (λ (y : Fin T.places). block_in R Q.index d (Q.exponent y)
      · scale R (R.mul (R.mul (power_phase T Q.generator (to_nat b)) (T.phase x (coset Q b))) (split_phase Q y)) (D.at (Q.part y))) (turned-place x b)

  induced-total : (x : Fin T.places) → (induced_family Q D).at x ≡ total Q.index (λ b. block_in R Q.index d (Q.exponent (T.product x (coset Q b))) · block x b · block_of R Q.index d b)
  unfolding induced_family family_of_lifted wide
  induced-total x = ap (total Q.index) (fun_ext (λ b. ap (λ (m : Matrix R (times Q.index d) d). m · block_of R Q.index d b) (strip-block x b)))

  -- entry by entry
  entry : (e b : Fin Q.index) (m : Matrix R d d) (a c : Fin Q.index) (i j : Fin d)
      → (block_in R Q.index d e · m · block_of R Q.index d b).at (pair d a i) (pair d c j) ≡ R.mul (R.mul (delta R a e) (m.at i j)) (delta R b c)
  entry e b m a c i j =
      mul-at (block_in R Q.index d e · m) (block_of R Q.index d b) (pair d a i) (pair d c j)
      ∙ sum-ext R d (λ k. R.mul ((block_in R Q.index d e · m).at (pair d a i) k) ((block_of R Q.index d b).at k (pair d c j))) (λ k. R.mul (R.mul (R.mul (delta R a e) (m.at i k)) (delta R b c)) (delta R k j)) (λ k.
      ap₂ R.mul (
      mul-at (block_in R Q.index d e) m (pair d a i) k
      ∙ sum-ext R d (λ s. R.mul ((block_in R Q.index d e).at (pair d a i) s) (m.at s k)) (λ s. R.mul (delta R i s) (R.mul (delta R a e) (m.at s k))) (λ s.
      ap (λ x. R.mul x (m.at s k)) (block_in-at R Q.index d e a i s ∙ ap (λ x. R.mul x (delta R i s)) (delta_comm R e a)) ∙ turned_product (delta R a e) (delta R i s) (m.at s k))
      ∙ sum-delta R d i (λ s. R.mul (delta R a e) (m.at s k)))
      (block_of-at R Q.index d b c k j) ∙ sym (R.mul_assoc (R.mul (delta R a e) (m.at i k)) (delta R b c) (delta R k j)))
      ∙ delta-sum R d j (λ k. R.mul (R.mul (delta R a e) (m.at i k)) (delta R b c))
    where
      turned_product : (x y z : R.Carrier) → R.mul (R.mul x y) z ≡ R.mul y (R.mul x z)
      turned_product x y z = ap (λ a. R.mul a z) (R.mul_comm x y) ∙ R.mul_assoc y x z

  pub induced-matrix : (x : Fin T.places) → (induced_family Q D).at x ≡ induced_matrix Q D x
  unfolding induced_matrix block
  induced-matrix x = induced-total x ∙ pairs-ext (total Q.index (λ b. block_in R Q.index d (Q.exponent (T.product x (coset Q b))) · block x b · block_of R Q.index d b)) (induced_matrix Q D x) (λ a i c j.
      total-at Q.index (λ b. block_in R Q.index d (Q.exponent (T.product x (coset Q b))) · block x b · block_of R Q.index d b) (pair d a i) (pair d c j)
      ∙ sum-ext R Q.index (λ b. (block_in R Q.index d (Q.exponent (T.product x (coset Q b))) · block x b · block_of R Q.index d b).at (pair d a i) (pair d c j))
      (λ b. R.mul (value a i j b) (delta R b c)) (λ b. entry (Q.exponent (T.product x (coset Q b))) b (block x b) a c i j ∙ ap (λ z. R.mul (R.mul (delta R a (Q.exponent (T.product x (coset Q b)))) z) (delta R b c)) (scale-at R (block_phase Q x b) (D.at (Q.part (T.product x (coset Q b)))) i j))
      ∙ delta-sum R Q.index c (value a i j)
      ∙ sym (on_pairs-pair d (λ a i. on_pairs Q.index d (λ b j. value a i j b) (pair d c j)) a i ∙ on_pairs-pair d (λ b j. value a i j b) c j))
    where
      value : Fin Q.index → Fin d → Fin d → Fin Q.index → R.Carrier
      value a i j b = R.mul (delta R a (Q.exponent (T.product x (coset Q b)))) (R.mul (block_phase Q x b) ((D.at (Q.part (T.product x (coset Q b)))).at i j))

  -- the traces of the induced family
  pub induced-trace : (x : Fin T.places) → trace ((induced_family Q D).at x) ≡ induced_trace Q D x
  unfolding block induced_trace
  induced-trace x =
      ap trace (induced-total x) ∙ trace-total Q.index (λ b. block_in R Q.index d (Q.exponent (T.product x (coset Q b))) · block x b · block_of R Q.index d b)
      ∙ sum-ext R Q.index (λ b. trace (block_in R Q.index d (Q.exponent (T.product x (coset Q b))) · block x b · block_of R Q.index d b))
      (λ b. R.mul (delta R b (Q.exponent (T.product x (coset Q b)))) (R.mul (block_phase Q x b) (trace (D.at (Q.part (T.product x (coset Q b))))))) (λ b.
      trace_comm (block_in R Q.index d (Q.exponent (T.product x (coset Q b))) · block x b) (block_of R Q.index d b)
      ∙ ap trace (sym (mul_assoc (block_of R Q.index d b) (block_in R Q.index d (Q.exponent (T.product x (coset Q b)))) (block x b))
      ∙ ap (λ (m : Matrix R d d). m · block x b) (block_of-in R Q.index d b (Q.exponent (T.product x (coset Q b))))
      ∙ scale-mul R (delta R b (Q.exponent (T.product x (coset Q b)))) (unit R d) (block x b) ∙ ap (scale R (delta R b (Q.exponent (T.product x (coset Q b))))) (unit-mul (block x b)))
      ∙ trace-scale R (delta R b (Q.exponent (T.product x (coset Q b)))) (block x b)
      ∙ ap (R.mul (delta R b (Q.exponent (T.product x (coset Q b))))) (trace-scale R (block_phase Q x b) (D.at (Q.part (T.product x (coset Q b))))))
