-- The rows so far are right.
use Rattle.std.proofs.Common.{◌≡◌, ◌<◌, ℕ, get_or}
use Rattle.irr_algebra.specs.Fin.{Fin, to_nat}
use Rattle.irr_rep.specs.Defects.{IsCheckable, MultipliesBy}
use Rattle.irr_rep.specs.Twisted.{place_count, phase_table}
use Rattle.irr_rep.proofs.defects.rows_multiply.Given as goal

abbrev pub invariant-loop-i : goal.invariant-loop-i
invariant-loop-i g l = (p : IsCheckable (phase_table l.t) l.f.dim l.f.mats.items) (a b : Fin (place_count l.t)) (k : ℕ)
    → k < l.i-index → to_nat a ≡ get_or l.places k 0 → MultipliesBy (phase_table l.t) p.n p.divides l.f.dim l.f.mats.items l.number a b
