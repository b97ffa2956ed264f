-- The representations of a report, from the families of the program.
--   IsMember n h f        h square matrices with numbers of order n, of bounded size
--   HasTraces n h r       the characters of r are the traces of its matrices, at h places
use Rattle.std.specs.Prelude.{ℕ}
use Rattle.irr_algebra.specs.Matrix.{trace}
use Rattle.irr_cyc.specs.declared.scalars.Scalar.{Ghosts}
use Rattle.irr_rep.specs.declared.family.Family.{Family}
use Rattle.irr_rep.specs.Family.{HasShape, matrix_at}
use Rattle.irr_char.specs.Characters.{IsRowOf}
use Rattle.irr_climb.specs.Sizes.{IsSized}
use Rattle.irr_report.specs.declared.report.RepText.{RepText}

pub record IsMember {S : Type 0} {G : Ghosts S} (n h : ℕ) (f : Family S G) : Type 0 where
  pub shape : HasShape n h f.dim f.mats.items
  pub sized : IsSized n h f

pub record HasTraces {S : Type 0} {G : Ghosts S} (n h : ℕ) (r : RepText S G) : Type 0 where
  pub shape : HasShape n h r.family.dim r.family.mats.items
  pub row : IsRowOf {h = h} G.order_of G.value n (λ i. trace (matrix_at n r.family.dim r.family.mats.items i))
      r.chars.items
