-- A sum of entries.
use Rattle.std.proofs.Common.{◌∙◌, ap₂, refl, ◌+ℤ◌, w64}
use Rattle.std.proofs.lemmas.Int.{to_z-of_z}
use Rattle.irr_algebra.specs.Fin.{to_nat}
use Rattle.irr_algebra.specs.Fin.Fin.{first, next}
use Rattle.irr_power.proofs.forms.vector_trace.Goals as goal

pub returns-clause-value : goal.returns-clause-value
unfolding to_nat
returns-clause-value c = to_z-of_z w64 c.sum_of_entries.result (record { sfits = c.sum_of_entries.type_inv })
    ∙ c.sum_of_entries.ensures.value
    ∙ ap₂ ◌+ℤ◌ (ap₂ ◌+ℤ◌
    (to_z-of_z w64 c.entry.result (record { sfits = c.entry.type_inv }) ∙ c.entry.ensures.value first first refl refl)
    (to_z-of_z w64 c.entry-2.result (record { sfits = c.entry-2.type_inv }) ∙ c.entry-2.ensures.value (next first) (next first) refl refl))
    (to_z-of_z w64 c.entry-3.result (record { sfits = c.entry-3.type_inv })
    ∙ c.entry-3.ensures.value (next (next first)) (next (next first)) refl refl)
