-- A difference of products of entries.
use Rattle.std.proofs.Common.{◌∙◌, ap₂, ◌-ℤ◌, ◌*ℤ◌, w64}
use Rattle.std.proofs.lemmas.Int.{to_z-of_z}
use Rattle.irr_power.proofs.forms.minor.Goals as goal

pub returns-clause-value : goal.returns-clause-value
returns-clause-value c a b e f = to_z-of_z w64 c.difference.result (record { sfits = c.difference.type_inv })
    ∙ c.difference.ensures.value
    ∙ ap₂ ◌-ℤ◌
    (to_z-of_z w64 c.product-diagonal.result (record { sfits = c.product-diagonal.type_inv }) ∙ c.product-diagonal.ensures.value
    ∙ ap₂ ◌*ℤ◌ (to_z-of_z w64 c.entry.result (record { sfits = c.entry.type_inv }) ∙ c.entry.ensures.value a a e e)
    (to_z-of_z w64 c.entry-2.result (record { sfits = c.entry-2.type_inv }) ∙ c.entry-2.ensures.value b b f f))
    (to_z-of_z w64 c.product-other.result (record { sfits = c.product-other.type_inv }) ∙ c.product-other.ensures.value
    ∙ ap₂ ◌*ℤ◌ (to_z-of_z w64 c.entry-3.result (record { sfits = c.entry-3.type_inv }) ∙ c.entry-3.ensures.value a b e f)
    (to_z-of_z w64 c.entry-4.result (record { sfits = c.entry-4.type_inv }) ∙ c.entry-4.ensures.value b a f e))
