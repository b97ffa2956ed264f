use Rattle.irr_close.proofs.Identity.{no_shift-lowest}
use Rattle.irr_site.proofs.products.bare.Goals as goal

pub invariant_of-result : goal.invariant_of-result
invariant_of-result c = record { lowest = no_shift-lowest }
