-- The products so far are right.
use Rattle.std.proofs.Common.{◌≡◌, ◌<◌}
use Rattle.irr_algebra.specs.Fin.{Fin, to_nat}
use Rattle.irr_rep.specs.Defects.{IsCheckable, MultipliesBy}
use Rattle.irr_rep.specs.Twisted.{place_count, phase_table}
use Rattle.irr_rep.proofs.defects.first_wrong.Given as goal

abbrev pub invariant-loop-j : goal.invariant-loop-j
invariant-loop-j g l = (p : IsCheckable (phase_table l.t) l.f.dim l.f.mats.items) (a q : Fin (place_count l.t)) → to_nat a ≡ l.i → to_nat q < l.j
    → MultipliesBy (phase_table l.t) p.n p.divides l.f.dim l.f.mats.items l.number a q
