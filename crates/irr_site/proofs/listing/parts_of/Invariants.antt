-- The parts of the members so far.
use Rattle.std.proofs.Common.{ℕ}
use Rattle.irr_algebra.specs.Fin.{Fin}
use Rattle.irr_algebra.specs.Action.{HasDimension}
use Rattle.irr_space.specs.CompleteList.{over}
use Rattle.irr_rep.specs.Twisted.{phase_table}
use Rattle.irr_site.specs.Families.{HasRows, IsFamilyRow}
use Rattle.irr_site.proofs.Parts.{SoFar}
use Rattle.irr_site.proofs.listing.parts_of.Given as goal

abbrev pub invariant-loop-i : goal.invariant-loop-i
invariant-loop-i g l = (M : ℕ) (has : HasRows g.S.Scalar.order_of g.S.Scalar.value M (phase_table l.t) l.small)
    (r : IsFamilyRow g.S.Scalar.order_of g.S.Scalar.value (phase_table l.t) M has.divides l.traces)
    (mult : Fin has.list.count → ℕ)
    (dimension : (m : Fin has.list.count) → HasDimension (over (phase_table l.t) M has.divides (has.list.member m)).at
    r.family.at (mult m))
    → SoFar g.S.Scalar.order_of g.S.Scalar.value has r mult dimension l.i l.parts.items
