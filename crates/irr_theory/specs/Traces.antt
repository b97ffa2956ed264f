-- Inverses of the matrices of a family, and sums of traces over the places.
use Rattle.std.specs.Prelude.{ℕ}
use Rattle.irr_algebra.specs.Ring.{Ring}
use Rattle.irr_algebra.specs.Fin.{Fin}
use Rattle.irr_algebra.specs.Sum.{sum}
use Rattle.irr_algebra.specs.Matrix.{Matrix, scale, trace}
use Rattle.irr_theory.specs.FactorSystem.{FactorSystem, Representation}

-- the inverse of the matrix at a place
unfoldable pub back : {R : Ring} {T : FactorSystem R} {d : ℕ} → Representation T d → Fin T.places → Matrix R d d
back {R} {T} A i = scale R (T.phase-invertible i (T.opposite i)).inverse (A.at (T.opposite i))

-- the sum of tr B(i) tr A(i)⁻¹ over the places: the scalar product of the characters times their number
unfoldable pub trace_sum : {R : Ring} {T : FactorSystem R} {a b : ℕ} → Representation T a → Representation T b → R.Carrier
trace_sum {R} {T} A B = sum R T.places (λ i. R.mul (trace (B.at i)) (trace (back A i)))
