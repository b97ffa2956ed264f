-- The products in the rows so far are right.
use Rattle.std.proofs.Common.{◌<◌}
use Rattle.irr_algebra.specs.Fin.{Fin, to_nat}
use Rattle.irr_rep.specs.Defects.{IsCheckable, Multiplies}
use Rattle.irr_rep.specs.Twisted.{place_count, phase_table}
use Rattle.irr_rep.proofs.defects.first_defect.Given as goal

abbrev pub invariant-loop-i : goal.invariant-loop-i
invariant-loop-i g l = (p : IsCheckable (phase_table l.t) l.f.dim l.f.mats.items) (a q : Fin (place_count l.t)) → to_nat a < l.i
    → Multiplies (phase_table l.t) p.n p.divides l.f.dim l.f.mats.items a q
