-- Traces of operations on tensors, as whole numbers.
--   trace_of          the trace of the rotation
--   skew_of           the sum of its principal minors is the trace on antisymmetric tensors of rank 2
--   symmetric_of      what that lacks to the square of the trace is the trace on symmetric ones
--   second_of, third_of, fourth_of     powers of the trace are the traces on tensors of rank 2, 3 and 4
--   term_is           a whole number as a sum of one term
use Rattle.std.proofs.Common.{◌≡◌, sym, ◌∙◌, ap, ap₂, refl, ℕ, suc, ℤ, [], ◌∷◌, ◌+ℤ◌, ◌-ℤ◌, ◌*ℤ◌, neg_ℤ, arith}
use Rattle.std.proofs.lemmas.Int.{ints}
use Rattle.irr_algebra.specs.Ring.{Ring, whole}
use Rattle.irr_algebra.specs.Fin.{Fin}
use Rattle.irr_algebra.specs.Fin.Fin.{first, next}
use Rattle.irr_algebra.specs.Matrix.{trace}
use Rattle.irr_algebra.specs.Pair.{on_plus}
use Rattle.irr_algebra.specs.Sum.{sum}
use Rattle.irr_algebra.proofs.Pairs.{trace-kron}
use Rattle.irr_algebra.proofs.Rings.{one-mul, ring_laws}
use Rattle.irr_algebra.proofs.Sums.{sum-ext}
use Rattle.irr_algebra.proofs.Whole.{whole-one}
use Rattle.irr_number.specs.Number.{Number, numbers, root_power}
use Rattle.irr_number.proofs.RootPowers.{root_power-zero}
use Rattle.irr_rational.specs.Integer.{integer, whole_matrix}
use Rattle.irr_rational.proofs.Integers.{integer-add, integer-mul, integer-neg}
use Rattle.irr_cyc.specs.Terms.{terms_sum}
use Rattle.irr_space.specs.Operation.{Operation, Rotation}
use Rattle.irr_forms.specs.Square.{on_strict, skew_square, strict, symmetric_square}
use Rattle.irr_forms.proofs.SquareLaws.{trace-sum}
use Rattle.irr_reality.specs.Tensors.{tensors, vector_representation}
use Rattle.irr_power.specs.FormTraces.{minor, principal_minors, rotation_trace}
use Rattle.irr_power.proofs.PairTraces.{skew-diagonal_at}

pub term_is : (n : ℕ) (z : ℤ) (x : Number n) → (numbers n).mul (whole (numbers n) 1) x ≡ terms_sum n ((0, z) ∷ [])
    → x ≡ integer (numbers n) z
unfolding terms_sum
term_is n z x e =
    sym (ap (λ y. (numbers n).mul y x) (whole-one (numbers n)) ∙ one-mul (numbers n) x) ∙ e
    ∙ (numbers n).add-zero ((numbers n).mul (integer (numbers n) z) (root_power n 0))
    ∙ ap ((numbers n).mul (integer (numbers n) z)) (root_power-zero n) ∙ (numbers n).mul-one (integer (numbers n) z)

module _ (R : Ring) where
  open R use {Carrier, zero as 𝟘, add as ◌⊹◌, mul as ◌⊛◌, neg}

  infixl 65 ◌⊹◌
  infixl 70 ◌⊛◌
  integer-sub : (a b : ℤ) → integer R (a -ℤ b) ≡ integer R a ⊹ neg (integer R b)
  integer-sub a b = ap (integer R) (let e : a -ℤ b ≡ a +ℤ neg_ℤ b = omega (arith, ints) in e) ∙ integer-add R a (neg_ℤ b)
      ∙ ap (R.add (integer R a)) (integer-neg R b)

  pub trace_of : (Q : Rotation) → integer R (rotation_trace Q) ≡ trace (whole_matrix R Q)
  unfolding trace sum whole_matrix
  trace_of Q =
      let x = Q.at first first in
      let y = Q.at (next first) (next first) in
      let z = Q.at (next (next first)) (next (next first)) in
      integer-add R (x +ℤ y) z ∙ ap (λ c. c ⊹ integer R z) (integer-add R x y) ∙ grouped (integer R x) (integer R y) (integer R z)
    where
      grouped : (x y z : Carrier) → x ⊹ y ⊹ z ≡ x ⊹ (y ⊹ (z ⊹ 𝟘))
      grouped x y z = simp (ring_laws, R)

  -- a minor
  abbrev difference : (Q : Rotation) → Fin 3 → Fin 3 → Carrier
  difference Q i j = integer R (Q.at i i) ⊛ integer R (Q.at j j) ⊹ neg (integer R (Q.at i j) ⊛ integer R (Q.at j i))

  minor_is : (Q : Rotation) (i j : Fin 3) → integer R (minor Q i j) ≡ difference Q i j
  minor_is Q i j = integer-sub (Q.at i i *ℤ Q.at j j) (Q.at i j *ℤ Q.at j i)
      ∙ ap₂ (λ x y. x ⊹ neg y) (integer-mul R (Q.at i i) (Q.at j j)) (integer-mul R (Q.at i j) (Q.at j i))

  strict_three : (g : Fin 3 → Fin 3 → Carrier) → sum R (strict 3) (on_strict 3 g)
      ≡ g first (next first) ⊹ (g first (next (next first)) ⊹ (g (next first) (next (next first)) ⊹ 𝟘))
  unfolding sum on_strict on_plus
  strict_three g = refl

  pub skew_of : (Q : Rotation) → integer R (principal_minors Q) ≡ trace (skew_square (whole_matrix R Q))
  unfolding trace whole_matrix
  skew_of Q =
      integer-add R (minor Q first (next first) +ℤ minor Q first (next (next first))) (minor Q (next first) (next (next first)))
      ∙ ap₂ R.add (integer-add R (minor Q first (next first)) (minor Q first (next (next first)))
      ∙ ap₂ R.add (minor_is Q first (next first)) (minor_is Q first (next (next first)))) (minor_is Q (next first) (next (next first)))
      ∙ grouped (difference Q first (next first)) (difference Q first (next (next first))) (difference Q (next first) (next (next first)))
      ∙ sym (strict_three (difference Q)) ∙ sym (by_pairs Q)
    where
      grouped : (x y z : Carrier) → x ⊹ y ⊹ z ≡ x ⊹ (y ⊹ (z ⊹ 𝟘))
      grouped x y z = simp (ring_laws, R)

      by_pairs : (Q : Rotation) → trace (skew_square (whole_matrix R Q)) ≡ sum R (strict 3) (on_strict 3 (difference Q))
      by_pairs Q = sum-ext R (strict 3) (λ p. (skew_square (whole_matrix R Q)).at p p) (on_strict 3 (difference Q))
          (λ p. skew-diagonal_at R 3 (whole_matrix R Q) p)

  pub symmetric_of : (Q : Rotation) → integer R ((rotation_trace Q *ℤ rotation_trace Q) -ℤ principal_minors Q)
      ≡ trace (symmetric_square (whole_matrix R Q))
  symmetric_of Q = integer-sub (rotation_trace Q *ℤ rotation_trace Q) (principal_minors Q)
      ∙ ap₂ (λ x y. x ⊹ neg y) (integer-mul R (rotation_trace Q) (rotation_trace Q) ∙ ap₂ R.mul (trace_of Q) (trace_of Q)
      ∙ sym (trace-sum R 3 (whole_matrix R Q))) (skew_of Q)
      ∙ kept (trace (symmetric_square (whole_matrix R Q))) (trace (skew_square (whole_matrix R Q)))
    where
      kept : (x y : Carrier) → x ⊹ y ⊹ neg y ≡ x
      kept x y = simp (ring_laws, R)

  -- one more factor
  more_of : (n : ℕ) (g : Operation) (z : ℤ) → integer R z ≡ trace (tensors R n g)
      → integer R (z *ℤ rotation_trace g.rotation) ≡ trace (tensors R (suc n) g)
  more_of n g z e = integer-mul R z (rotation_trace g.rotation) ∙ ap₂ R.mul e (trace_of g.rotation)
      ∙ sym (trace-kron (tensors R n g) (vector_representation R g))

  pub second_of : (g : Operation) (t : ℤ) → t ≡ rotation_trace g.rotation → integer R (t *ℤ t) ≡ trace (tensors R 1 g)
  second_of g t e = ap (λ x. integer R (x *ℤ x)) e ∙ more_of 0 g (rotation_trace g.rotation) (trace_of g.rotation)

  pub third_of : (g : Operation) (t : ℤ) → t ≡ rotation_trace g.rotation → integer R ((t *ℤ t) *ℤ t) ≡ trace (tensors R 2 g)
  third_of g t e = ap (λ x. integer R ((t *ℤ t) *ℤ x)) e ∙ more_of 1 g (t *ℤ t) (second_of g t e)

  pub fourth_of : (g : Operation) (t : ℤ) → t ≡ rotation_trace g.rotation
      → integer R (((t *ℤ t) *ℤ t) *ℤ t) ≡ trace (tensors R 3 g)
  fourth_of g t e = ap (λ x. integer R (((t *ℤ t) *ℤ t) *ℤ x)) e ∙ more_of 2 g ((t *ℤ t) *ℤ t) (third_of g t e)
