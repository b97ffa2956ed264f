-- The parts of the members so far.
use Rattle.std.proofs.Common.{ℕ}
use Rattle.irr_algebra.specs.Fin.{Fin}
use Rattle.irr_algebra.specs.Action.{HasDimension}
use Rattle.irr_space.specs.CompleteList.{over}
use Rattle.irr_rep.specs.Twisted.{phase_table}
use Rattle.irr_mult.specs.StarParts.{HasCharacters, IsPartRow}
use Rattle.irr_mult.proofs.StarListings.{SoFar}
use Rattle.irr_mult.proofs.listing.push_parts.Given as goal

abbrev pub invariant-loop-i : goal.invariant-loop-i
invariant-loop-i g l = (M : ℕ) (h : HasCharacters g.S.Scalar.order_of g.S.Scalar.value M l.star)
    (r : IsPartRow h l.traces) (mult : Fin h.list.count → ℕ)
    (dimension : (m : Fin h.list.count) → HasDimension (over (phase_table l.star.table) M h.divides
    (h.list.member m)).at r.part.at (mult m))
    → SoFar g.S.Scalar.order_of g.S.Scalar.value h r mult dimension l.fn.parts.items l.i l.parts.items
