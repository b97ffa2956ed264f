-- Sums over the members that are products of traces of an extension.
--   opposite_of: the place n^-1 with the number that makes it the inverse of n
--   sandwich: x n y n^-1
--   value_at: the number of a lifted place times the character there
--   two_sum: the values at x n y n^-1, added up over the members n
--   three_sum: the values at x j (y i y i^-1) j^-1, added up over the members i and j
use Rattle.irr_algebra.specs.Ring.{Ring}
use Rattle.irr_algebra.specs.Fin.{Fin}
use Rattle.irr_algebra.specs.Sum.{sum}
use Rattle.irr_theory.specs.FactorSystem.{FactorSystem}
use Rattle.irr_theory.specs.Lifted.{Lifted, lifted_product}
use Rattle.irr_eigen.specs.Step.{at_place}
use Rattle.irr_clifford.specs.Subgroup.{Subgroup}

-- the inverse of the lifted place n, whose number is 1
unfoldable pub opposite_of : {R : Ring} (T : FactorSystem R) → Fin T.places → Lifted T
opposite_of T n = record { number = (T.phase-invertible n (T.opposite n)).inverse; place = T.opposite n }

-- x n y n^-1
unfoldable pub sandwich : {R : Ring} (T : FactorSystem R) → Lifted T → Fin T.places → Lifted T → Lifted T
sandwich T x n y = lifted_product (lifted_product (lifted_product x (at_place T n)) y) (opposite_of T n)

-- the number times the character of the subgroup at the member that stands at the place
unfoldable pub value_at : {R : Ring} {T : FactorSystem R} (H : Subgroup T) → (Fin H.table.places → R.Carrier) → (Fin T.places → Fin H.table.places)
    → Lifted T → R.Carrier
value_at {R} H character position z = R.mul z.number (character (position z.place))

-- for two places outside a subgroup of index 2
unfoldable pub two_sum : {R : Ring} {T : FactorSystem R} (H : Subgroup T) → (Fin H.table.places → R.Carrier) → (Fin T.places → Fin H.table.places)
    → Fin T.places → Fin T.places → R.Carrier
two_sum {R} {T} H character position x y = sum R H.table.places (λ n. value_at H character position (sandwich T (at_place T x) (H.member n) (at_place T y)))

-- for two places in one coset of a subgroup of index 3, the second taken twice
unfoldable pub three_sum : {R : Ring} {T : FactorSystem R} (H : Subgroup T) → (Fin H.table.places → R.Carrier) → (Fin T.places → Fin H.table.places)
    → Fin T.places → Fin T.places → R.Carrier
three_sum {R} {T} H character position x y = sum R H.table.places (λ i. sum R H.table.places (λ j.
    value_at H character position (sandwich T (at_place T x) (H.member j) (sandwich T (at_place T y) (H.member i) (at_place T y)))))
