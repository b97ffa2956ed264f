use Rattle.std.proofs.Common.{sym, ◌∙◌}
use Rattle.irr_mult.specs.StarSearch.{key}
use Rattle.irr_mult.proofs.SeenKeys.{found_key}
use Rattle.irr_mult.proofs.stars.is_seen.Goals as goal

pub returns : goal.returns
returns c t = found_key c.args.seen.now.keys (key c.args.wave.now) (sym c.contains.ensures ∙ t)
