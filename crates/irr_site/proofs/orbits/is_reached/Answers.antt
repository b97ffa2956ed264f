use Rattle.std.proofs.Common.{◌≡◌, sym, ◌∙◌, subst, ℕ, ◌<◌, List, get_or, slice_index, arith}
use Rattle.std.proofs.lemmas.List.{get_or_default}
use Rattle.irr_site.specs.Products.{IsRotationProduct}
use Rattle.irr_site.proofs.Cosets.{same_number}
use Rattle.irr_site.proofs.SiteSearch.{below_or_last}
use Rattle.irr_site.proofs.orbits.is_reached.Goals as goal

pub loop-place-preserved : goal.loop-place-preserved
loop-place-preserved c n l = below_or_last
    (λ m. IsRotationProduct c.args.group.now c.args.i (slice_index c.args.places.now m) c.args.j → ⊥) n
    c.loop-place.place-index l (c.loop-place.invariant n)
    (λ p. c.if-read-j.false (same_number c.args.group.now c.args.i (slice_index c.args.places.now c.loop-place.place-index)
    c.read.result c.args.j c.read.ensures p))

pub returns-clause-apart : goal.returns-clause-apart
returns-clause-apart c e b inside p =
    let l = inside.1 in
    let end = c.loop-place-test.false in
    c.loop-place.invariant inside.0 (omega (arith, l, end))
    (subst (λ m. IsRotationProduct c.args.group.now c.args.i m c.args.j)
    (sym (get_or_default c.args.places.now inside.0 0 b inside.1 ∙ inside.2)) p)
