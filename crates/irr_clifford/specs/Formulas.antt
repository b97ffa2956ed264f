-- The matrices of extensions and of induced families, written out.
use Rattle.std.specs.Prelude.{ℕ, zero, suc}
use Rattle.irr_algebra.specs.Ring.{Ring}
use Rattle.irr_algebra.specs.Fin.{Fin, to_nat}
use Rattle.irr_algebra.specs.Pair.{times, on_pairs}
use Rattle.irr_algebra.specs.Sum.{sum, delta}
use Rattle.irr_algebra.specs.Matrix.{Matrix, ◌·◌, scale, trace}
use Rattle.irr_theory.specs.Extension.{matrix_power}
use Rattle.irr_theory.specs.FactorSystem.{FactorSystem, Representation}
use Rattle.irr_clifford.specs.Subgroup.{Subgroup}
use Rattle.irr_clifford.specs.Cyclic.{CyclicQuotient, place_power, power_phase}

-- the inverse of the phase of the e-th power
unfoldable pub power_phase_back : {R : Ring} (T : FactorSystem R) → Fin T.places → ℕ → R.Carrier
power_phase_back {R} T g zero = R.one
power_phase_back {R} T g (suc e) = R.mul (power_phase_back T g e) (T.phase-invertible g (place_power T g e)).inverse

-- the place of the power b of the generator
abbrev pub coset : {R : Ring} {T : FactorSystem R} {H : Subgroup T} (Q : CyclicQuotient H) → Fin Q.index → Fin T.places
coset {T = T} Q b = place_power T Q.generator (to_nat b)

-- the phase that takes the power of the generator times the member of x to x
unfoldable pub split_phase : {R : Ring} {T : FactorSystem R} {H : Subgroup T} (Q : CyclicQuotient H) → Fin T.places → R.Carrier
split_phase {R} {T} {H} Q x =
    R.mul (power_phase_back T Q.generator (to_nat (Q.exponent x))) (T.phase-invertible (coset Q (Q.exponent x)) (H.member (Q.part x))).inverse

-- the matrix at x of the extension by u
unfoldable pub extension_matrix : {R : Ring} {T : FactorSystem R} {H : Subgroup T} (Q : CyclicQuotient H) {d : ℕ} → Representation H.table d → Matrix R d d → Fin T.places → Matrix R d d
extension_matrix {R} Q D u x = scale R (split_phase Q x) (matrix_power u (to_nat (Q.exponent x)) · D.at (Q.part x))

-- the phase of x times the power b of the generator, where that is a power times a member
unfoldable pub block_phase : {R : Ring} {T : FactorSystem R} {H : Subgroup T} (Q : CyclicQuotient H) → Fin T.places → Fin Q.index → R.Carrier
block_phase {R} {T} Q x b = R.mul (R.mul (power_phase T Q.generator (to_nat b)) (T.phase x (coset Q b))) (split_phase Q (T.product x (coset Q b)))

-- the matrix at x of the induced family: the block b goes to the block of the exponent of x g^b, by the matrix at its member
unfoldable pub induced_matrix : {R : Ring} {T : FactorSystem R} {H : Subgroup T} (Q : CyclicQuotient H) {d : ℕ} → Representation H.table d → Fin T.places → Matrix R (times Q.index d) (times Q.index d)
induced_matrix {R} {T} Q {d} D x = record {
  at = λ s t. on_pairs Q.index d (λ a i. on_pairs Q.index d (λ b j.
      R.mul (delta R a (Q.exponent (T.product x (coset Q b)))) (R.mul (block_phase Q x b) ((D.at (Q.part (T.product x (coset Q b)))).at i j))) t) s;
}

-- its trace at x: the blocks that go to themselves
unfoldable pub induced_trace : {R : Ring} {T : FactorSystem R} {H : Subgroup T} (Q : CyclicQuotient H) {d : ℕ} → Representation H.table d → Fin T.places → R.Carrier
induced_trace {R} {T} Q D x = sum R Q.index (λ b.
    R.mul (delta R b (Q.exponent (T.product x (coset Q b)))) (R.mul (block_phase Q x b) (trace (D.at (Q.part (T.product x (coset Q b)))))))
