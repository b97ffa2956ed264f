-- By the greatest sizes.
use Rattle.irr_real.proofs.FamilyTraces.{short_traces}
use Rattle.irr_real.proofs.laws.short_entries_have_traces.Goals as goal

pub returns : goal.returns
returns c = λ M d s e a limited few short small w. short_traces M d s e a limited few short small w
