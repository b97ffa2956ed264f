-- The laws of floors.
use Rattle.irr_rational.proofs.Floors.{floor_of, floor_unique, floor_of_ratio, bounds_of_floor, floor-quotient, fraction-nonneg, fraction-lt, floor-add}
use Rattle.irr_rational.proofs.floor_of_rational.Goals as goal

pub returns-clause-exists : goal.returns-clause-exists
returns-clause-exists c = floor_of

pub returns-clause-unique : goal.returns-clause-unique
returns-clause-unique c = floor_unique

pub returns-clause-ratio : goal.returns-clause-ratio
returns-clause-ratio c = λ a b k h. (bounds_of_floor a b k h, λ t. floor_of_ratio a b k h t.0 t.1)

pub returns-clause-quotient : goal.returns-clause-quotient
returns-clause-quotient c = floor-quotient

pub returns-clause-at_least : goal.returns-clause-at_least
returns-clause-at_least c = fraction-nonneg

pub returns-clause-below : goal.returns-clause-below
returns-clause-below c = fraction-lt

pub returns-clause-sum : goal.returns-clause-sum
returns-clause-sum c = floor-add
