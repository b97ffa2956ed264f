use Rattle.std.proofs.Common.{◌≡◌, Some, rules}
use Rattle.irr_input.proofs.lines.begins_section.Goals as goal

pub returns-clause-none : goal.returns-clause-none
returns-clause-none c = λ k b. let e : c.keyword_of.result ≡ Some k = c.keyword_of.ensures.only k b in search rules
