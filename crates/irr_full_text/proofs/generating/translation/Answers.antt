-- An operation with the unit rotation.
use Rattle.irr_full_text.proofs.Translations.{translation_is}
use Rattle.irr_full_text.proofs.generating.translation.Goals as goal

pub returns-clause-is : goal.returns-clause-is
returns-clause-is c = translation_is c.args.by.now.num c.args.by.now.den
