-- The text at a reduced wave vector.
use Rattle.std.proofs.Common.{◌≡◌, subst}
use Rattle.irr_rat.specs.VectorMeaning.{vector}
use Rattle.irr_seitz.specs.PhaseMeaning.{sign_of}
use Rattle.irr_kvec.specs.WaveMeaning.{wave_vector}
use Rattle.irr_site.specs.Content.{sites_content}
use Rattle.irr_site_text.specs.SiteText.{site_text}
use Rattle.irr_top.proofs.SiteTexts.{site_text_at}
use Rattle.irr_top.proofs.site.sites_text.Goals as goal

pub returns : goal.returns
returns c = site_text_at c.args.group.now (vector c.args.x.now) (wave_vector c.args.wave.now) c.requires.sites.0
    c.order_of-order.result c.args.sites.now c.requires.reduced c.requires.sites.2 c.order_of-order.ensures c.in_ok-text.text.items
    (subst (λ p. c.in_ok-text.text.items ≡ site_text 1 (sign_of p) (wave_vector c.args.wave.now) (vector c.args.x.now)
    (sites_content c.order_of-order.result c.args.sites.now)) c.phase.ensures c.in_ok-text.ensures)
