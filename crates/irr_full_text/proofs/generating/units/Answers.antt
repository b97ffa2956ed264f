-- The three of them.
use Rattle.std.proofs.Common.{◌∙◌, ap, List, [], ◌∷◌, ◌++◌, map}
use Rattle.irr_seitz.specs.OperationMeaning.{operation}
use Rattle.irr_seitz.specs.declared.op.Op.{Op}
use Rattle.irr_full_text.proofs.Translations.{units_are}
use Rattle.irr_full_text.proofs.generating.units.Goals as goal

pub returns-clause-are : goal.returns-clause-are
returns-clause-are c =
    let u = c.unit_translation.result in
    let v = c.unit_translation-2.result in
    let w = c.unit_translation-3.result in
    ap (map operation) (c.in_ok-push-3.ensures.items ∙ ap (λ (xs : List Op). xs ++ w ∷ []) (c.in_ok-push-2.ensures.items
    ∙ ap (λ (xs : List Op). xs ++ v ∷ []) (c.in_ok-push.ensures.items ∙ ap (λ (xs : List Op). xs ++ u ∷ [])
    c.new-units.ensures.items)))
    ∙ units_are u v w c.unit_translation.ensures.is c.unit_translation-2.ensures.is c.unit_translation-3.ensures.is
