-- An operation with the unit rotation, over 1.
use Rattle.irr_full_text.proofs.Translations.{translation_is, lowest_over_one}
use Rattle.irr_full_text.proofs.generating.unit_translation.Goals as goal

pub invariant_of-result : goal.invariant_of-result
invariant_of-result c = record { lowest = lowest_over_one c.args.num }

pub returns-clause-is : goal.returns-clause-is
returns-clause-is c = translation_is c.args.num 1
