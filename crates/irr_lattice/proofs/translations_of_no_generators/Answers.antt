-- The translations of the group of no generators.
use Rattle.std.proofs.Common.{[]}
use Rattle.irr_space.specs.Operation.{translation}
use Rattle.irr_lattice.proofs.Translations.{generated_whole, whole_vector_translation}
use Rattle.irr_lattice.proofs.translations_of_no_generators.Goals as goal

pub returns : goal.returns
unfolding translation
returns c = λ t. (λ h. generated_whole h, λ h. whole_vector_translation [] t h)
