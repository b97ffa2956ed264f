use Rattle.std.proofs.Common.{◌≡◌, sym, subst, ℕ, ◌<◌, Contains, rules}
use Rattle.irr_site.specs.Products.{IsRotationProduct}
use Rattle.irr_site.proofs.SiteSearch.{below_or_last}
use Rattle.irr_site.proofs.orbits.is_first.Goals as goal

pub loop-i-preserved : goal.loop-i-preserved
loop-i-preserved c i b l inside p = below_or_last (λ m. IsRotationProduct c.args.group.now m b c.args.j → ⊥) i c.loop-i.i l
    (λ m q. c.loop-i.invariant i b m inside q) (λ q. c.is_reached.ensures.apart c.if-is_reached.false b inside q) p

pub returns-clause-first : goal.returns-clause-first
returns-clause-first c t i b l inside p =
    let done : c.loop-i.i ≡ c.args.j = search rules in
    c.loop-i.invariant i b (subst (λ n. i < n) (sym done) l) inside p
