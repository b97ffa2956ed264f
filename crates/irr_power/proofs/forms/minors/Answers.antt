-- A sum of minors.
use Rattle.std.proofs.Common.{◌∙◌, ap₂, refl, ◌+ℤ◌, w64}
use Rattle.std.proofs.lemmas.Int.{to_z-of_z}
use Rattle.irr_algebra.specs.Fin.{to_nat}
use Rattle.irr_algebra.specs.Fin.Fin.{first, next}
use Rattle.irr_power.proofs.forms.minors.Goals as goal

pub returns-clause-value : goal.returns-clause-value
unfolding to_nat
returns-clause-value c = to_z-of_z w64 c.sum_of_minors.result (record { sfits = c.sum_of_minors.type_inv })
    ∙ c.sum_of_minors.ensures.value
    ∙ ap₂ ◌+ℤ◌ (ap₂ ◌+ℤ◌
    (to_z-of_z w64 c.minor.result (record { sfits = c.minor.type_inv }) ∙ c.minor.ensures.value first (next first) refl refl)
    (to_z-of_z w64 c.minor-2.result (record { sfits = c.minor-2.type_inv })
    ∙ c.minor-2.ensures.value first (next (next first)) refl refl))
    (to_z-of_z w64 c.minor-3.result (record { sfits = c.minor-3.type_inv })
    ∙ c.minor-3.ensures.value (next first) (next (next first)) refl refl)
