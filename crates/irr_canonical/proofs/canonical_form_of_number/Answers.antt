-- The laws of the canonical form.
use Rattle.std.proofs.Common.{ap}
use Rattle.irr_canonical.specs.Coefficient.{canonical}
use Rattle.irr_canonical.proofs.Forms.{IsCanonical-canonical, canonical_injective, canonical_of_number, number-canonical}
use Rattle.irr_canonical.proofs.canonical_form_of_number.Goals as goal

pub returns-clause-is_canonical : goal.returns-clause-is_canonical
returns-clause-is_canonical c = λ N h x. IsCanonical-canonical N h x

pub returns-clause-stands_for : goal.returns-clause-stands_for
returns-clause-stands_for c = λ N h x. number-canonical N h x

pub returns-clause-unique : goal.returns-clause-unique
returns-clause-unique c = λ N h a x k e. canonical_of_number N h a x k e

pub returns-clause-equality : goal.returns-clause-equality
returns-clause-equality c = λ N h x y. (λ e. ap (canonical N) e, canonical_injective N h x y)
