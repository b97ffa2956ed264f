-- The first wrong product in a row.
use Rattle.std.proofs.Common.{◌≡◌, ◌<◌, rules}
use Rattle.irr_algebra.specs.Fin.{to_nat}
use Rattle.irr_algebra.proofs.Indices.{to_nat-lt}
use Rattle.std.proofs.Common.{subst, sym}
use Rattle.irr_rep.specs.Defects.{MultipliesBy}
use Rattle.irr_rep.specs.Twisted.{place_count, phase_table}
use Rattle.irr_rep.proofs.WrongPairs.{not-true, right_row, wrong_at}
use Rattle.irr_rep.proofs.defects.first_wrong.Goals as goal

pub returns-then-not-branch : goal.returns-then-not-branch
returns-then-not-branch g c p a e =
    let f = c.args.f.now in
    let l : c.loop-j.j < place_count c.args.t.now = search rules in
    wrong_at (MultipliesBy (phase_table c.args.t.now) p.n p.divides f.dim f.mats.items c.args.number a) c.loop-j.j l
    (λ j is m. not-true c.in_ok-multiplies.field-0 c.if-not-branch.true ((c.in_ok-multiplies.ensures p a j e is).1 m))
    (λ q b. c.loop-j.invariant p a q e b)

pub returns : goal.returns
returns g c p a e =
    let f = c.args.f.now in
    let done : c.loop-j.j ≡ place_count c.args.t.now = search rules in
    right_row (MultipliesBy (phase_table c.args.t.now) p.n p.divides f.dim f.mats.items c.args.number a)
    (λ j. c.loop-j.invariant p a j e (subst (λ k. to_nat j < k) (sym done) (to_nat-lt j)))
