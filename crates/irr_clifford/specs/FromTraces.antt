-- Extensions by their traces.
use Rattle.std.specs.Prelude.{ℕ, ◌≡◌}
use Rattle.irr_algebra.specs.Ring.{Ring, whole}
use Rattle.irr_algebra.specs.Field.{Field}
use Rattle.irr_algebra.specs.Fin.{Fin}
use Rattle.irr_algebra.specs.Matrix.{Matrix, combination, scale, trace}
use Rattle.irr_theory.specs.Traces.{back}
use Rattle.irr_theory.specs.FactorSystem.{FactorSystem, Representation}
use Rattle.irr_clifford.specs.Subgroup.{Subgroup}
use Rattle.irr_clifford.specs.Cyclic.{CyclicQuotient}

-- the matrix at the place x from the traces t at x n for each member n: d / h times the sum of the phase of x n times
-- t(x n) times the inverse of D(n), with d the size and h the number of members
unfoldable pub matrix_from_traces : (F : Field) {T : FactorSystem F.ring} (H : Subgroup T) {d : ℕ} → Representation H.table d → (Fin T.places → F.Carrier) → Fin T.places → Matrix F.ring d d
matrix_from_traces F {T} H {d} D t x =
    scale F.ring (F.mul (whole F.ring d) (F.inverse (whole F.ring H.table.places)))
    (combination F.ring H.table.places (λ n. F.mul (T.phase x (H.member n)) (t (T.product x (H.member n)))) (back D))

-- t(n) is the trace at g n of one family that is D at the members
pub record AreExtensionTraces {R : Ring} {T : FactorSystem R} {H : Subgroup T} (Q : CyclicQuotient H) {d : ℕ} (D : Representation H.table d) (t : Fin H.table.places → R.Carrier) : Type 0 where
  pub family : Representation T d
  pub at-member : (n : Fin H.table.places) → family.at (H.member n) ≡ D.at n
  pub trace-coset : (n : Fin H.table.places) → trace (family.at (T.product Q.generator (H.member n))) ≡ t n

-- the matrix at the generator from these traces
unfoldable pub generator_from_traces : (F : Field) {T : FactorSystem F.ring} {H : Subgroup T} (Q : CyclicQuotient H) {d : ℕ} → Representation H.table d → (Fin H.table.places → F.Carrier) → Matrix F.ring d d
generator_from_traces F {T} {H} Q {d} D t =
    scale F.ring (F.mul (whole F.ring d) (F.inverse (whole F.ring H.table.places)))
    (combination F.ring H.table.places (λ n. F.mul (T.phase Q.generator (H.member n)) (t n)) (back D))
