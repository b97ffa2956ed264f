-- Place by place.
use Rattle.std.proofs.Common.{◌≡◌, sym, ◌∙◌, subst, ℕ, ◌<◌, length, slice_index, arith}
use Rattle.irr_site.specs.Rests.{IsConjugate}
use Rattle.irr_site.proofs.Cosets.{same_number}
use Rattle.irr_site.proofs.SiteSearch.{below_or_last}
use Rattle.irr_site.proofs.rests.rest_place.Goals as goal

pub loop-n-preserved : goal.loop-n-preserved
loop-n-preserved c n l =
    let group = c.args.group.now in
    let xs = c.args.places.now in
    below_or_last (λ m. IsConjugate group c.args.op c.args.carrier (slice_index xs m) → ⊥) n c.loop-n.n l (c.loop-n.invariant n)
    (λ p. c.if-read-moved.false
    (same_number group c.args.carrier (slice_index xs c.loop-n.n) c.read.result p.0 c.read.ensures p.2
    ∙ same_number group c.args.op c.args.carrier p.0 c.read-moved.result p.1 c.read-moved.ensures))

pub returns-clause-none : goal.returns-clause-none
returns-clause-none c e n l p =
    let end = c.loop-n-test.false in
    c.loop-n.invariant n (omega (arith, l, end)) p
