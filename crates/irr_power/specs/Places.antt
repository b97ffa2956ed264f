-- The diagonal places of the squares of a full representation, by the arms of their pairs.
--   arm_of a d x                  the arm of a place, which is a pair of an arm and a row
--   upper_class, strict_class     the pair of the arms of both places of a pair
--   symmetric_sum, skew_sum       the sum of the diagonal entries of a square over one class
--   IsTaken U g i j               g takes the arm i to the arm j
--   IsReturn U M d F g i j x          x is the trace of the block of the arm i at g g where g takes i to j, and 0 elsewhere
use Rattle.std.specs.Prelude.{ℕ, ◌≡◌}
use Rattle.irr_algebra.specs.Ring.{Ring}
use Rattle.irr_algebra.specs.Fin.{Fin}
use Rattle.irr_algebra.specs.Sum.{sum, delta}
use Rattle.irr_algebra.specs.Matrix.{Matrix, trace}
use Rattle.irr_algebra.specs.Pair.{times, pair, on_pairs}
use Rattle.irr_number.specs.Number.{Number, numbers}
use Rattle.irr_space.specs.Operation.{Operation, WaveVector, ◌⊙◌}
use Rattle.irr_space.specs.Reciprocal.{Sign}
use Rattle.irr_space.specs.Star.{IsInLittleGroup}
use Rattle.irr_full.specs.Star.{Star, carrier}
use Rattle.irr_full.specs.Full.{block}
use Rattle.irr_forms.specs.Square.{upper, strict, on_upper, on_strict, symmetric_square, skew_square}

abbrev pub arm_of : (a d : ℕ) → Fin (times a d) → Fin a
arm_of a d = on_pairs a d (λ i r. i)

abbrev pub upper_class : (a d : ℕ) → Fin (upper (times a d)) → Fin (times a a)
upper_class a d = on_upper (times a d) (λ x. pair a (arm_of a d x) (arm_of a d x)) (λ x y. pair a (arm_of a d x) (arm_of a d y))

abbrev pub strict_class : (a d : ℕ) → Fin (strict (times a d)) → Fin (times a a)
strict_class a d = on_strict (times a d) (λ x y. pair a (arm_of a d x) (arm_of a d y))

abbrev pub symmetric_sum : (R : Ring) (a d : ℕ) → Matrix R (times a d) (times a d) → Fin (times a a) → R.Carrier
symmetric_sum R a d m c = sum R (upper (times a d)) (λ p. R.mul (delta R c (upper_class a d p)) ((symmetric_square m).at p p))

abbrev pub skew_sum : (R : Ring) (a d : ℕ) → Matrix R (times a d) (times a d) → Fin (times a a) → R.Carrier
skew_sum R a d m c = sum R (strict (times a d)) (λ p. R.mul (delta R c (strict_class a d p)) ((skew_square m).at p p))

abbrev pub IsTaken : {s : Sign} {G : Operation → Type 0} {k : WaveVector} (U : Star s G k) → Operation → Fin U.arms → Fin U.arms → Type 0
IsTaken {G = G} {k = k} U g i j = (n : Operation) × IsInLittleGroup G k n × (g ⊙ carrier U i ≡ carrier U j ⊙ n)

pub record IsReturn {s : Sign} {G : Operation → Type 0} {k : WaveVector} (U : Star s G k) (M d : ℕ)
    (F : Operation → Matrix (numbers M) (times U.arms d) (times U.arms d)) (g : Operation) (i j : Fin U.arms) (x : Number M) : Type 0 where
  pub taken : IsTaken U g i j → x ≡ trace (block d (F (g ⊙ g)) i i)
  pub apart : (IsTaken U g i j → ⊥) → x ≡ (numbers M).zero
