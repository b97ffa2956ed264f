-- The inverses stand in their list.
use Rattle.std.proofs.Common.{◌<◌, ◌∙◌, sym, subst}
use Rattle.std.proofs.lemmas.List.{get_or_read_under}
use Rattle.irr_rep.specs.Twisted.{place_count}
use Rattle.irr_rep.proofs.Readings.{inverse_at}
use Rattle.irr_rep.proofs.table.Twisted.inverse.Goals as goal

pub returns-clause-within : goal.returns-clause-within
returns-clause-within c =
    let t = c.args.self.now in
    subst (λ k. k < place_count t)
    (sym (get_or_read_under t.inverses.items c.args.i (place_count t) c.index.result.now 0 c.index.ensures c.requires
    (sym t.full_inverses ∙ t.inverses.ok.0)))
    (t.opposites.inverse_below c.args.i c.requires)

pub returns-clause-inverse : goal.returns-clause-inverse
returns-clause-inverse c = λ p e.
    let t = c.args.self.now in
    get_or_read_under t.inverses.items c.args.i (place_count t) c.index.result.now 0 c.index.ensures c.requires
    (sym t.full_inverses ∙ t.inverses.ok.0)
    ∙ inverse_at t c.args.i p e
