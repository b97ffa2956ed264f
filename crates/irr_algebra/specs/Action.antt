-- Representations of square matrices of one size, with any index type: the matrices of a representation.
use Rattle.std.specs.Prelude.{ℕ, ◌≡◌, ◌<◌}
use Rattle.irr_algebra.specs.Ring.{Ring}
use Rattle.irr_algebra.specs.Fin.{Fin}
use Rattle.irr_algebra.specs.Matrix.{Matrix, ◌·◌, column, combination, null, unit}
use Rattle.irr_algebra.specs.Span.{IsIndependent, InSpan}

-- each matrix takes each vector of the list p into the span of p
pub record IsInvariant {R : Ring} {I : Type 0} {d r : ℕ} (s : I → Matrix R d d) (p : Matrix R d r) : Type 0 where
  pub stays : (i : I) (j : Fin r) → InSpan p (s i · column p j)

-- no independent list of some but fewer than d vectors is invariant
pub record IsIrreducible {R : Ring} {I : Type 0} {d : ℕ} (s : I → Matrix R d d) : Type 0 where
  pub no_invariant : (r : ℕ) (p : Matrix R d r) → 0 < r → r < d → IsIndependent p → IsInvariant s p → ⊥

-- x commutes with the matrices, from s to t
pub record IsIntertwiner {R : Ring} {I : Type 0} {a b : ℕ} (s : I → Matrix R a a) (t : I → Matrix R b b) (x : Matrix R b a) : Type 0 where
  pub intertwines : (i : I) → t i · x ≡ x · s i

-- some intertwiner has a two-sided inverse
pub record Equivalent {R : Ring} {I : Type 0} {a b : ℕ} (s : I → Matrix R a a) (t : I → Matrix R b b) : Type 0 where
  pub forward : Matrix R b a
  pub backward : Matrix R a b
  pub is_intertwiner : IsIntertwiner s t forward
  pub forward-backward : forward · backward ≡ unit R b
  pub backward-forward : backward · forward ≡ unit R a

-- the space of intertwiners has dimension n: n independent ones span all of them
pub record HasDimension {R : Ring} {I : Type 0} {a b : ℕ} (s : I → Matrix R a a) (t : I → Matrix R b b) (n : ℕ) : Type 0 where
  pub members : Fin n → Matrix R b a
  pub are_intertwiners : (k : Fin n) → IsIntertwiner s t (members k)
  pub independent : (c : Fin n → R.Carrier) → combination R n c members ≡ null → (k : Fin n) → c k ≡ R.zero
  pub spanning : (x : Matrix R b a) → IsIntertwiner s t x → (c : Fin n → R.Carrier) × (x ≡ combination R n c members)

-- only the multiples of one matrix intertwine s with itself
abbrev pub IsSimple : {R : Ring} {I : Type 0} {d : ℕ} → (I → Matrix R d d) → Type 0
IsSimple s = HasDimension s s 1
