use Rattle.irr_site_text.proofs.Texts.{row_is}
use Rattle.irr_site_text.proofs.row_of.Goals as goal

pub returns : goal.returns
returns c = row_is c.args.x.now.num c.args.x.now.den
