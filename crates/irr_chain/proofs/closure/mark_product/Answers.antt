-- Both places are marked.
use Rattle.std.proofs.Common.{◌≡◌, sym, ◌∙◌, subst, true, false}
use Rattle.irr_rep.specs.Twisted.{phase_table}
use Rattle.irr_chain.specs.Marks.{Grows}
use Rattle.irr_chain.proofs.Markings.{grows-at}
use Rattle.irr_chain.proofs.closure.mark_product.Goals as goal
use Rattle.irr_chain.proofs.closure.mark_product.Goals.{then-marks-i, else-marks-i}

pub returns-then-marks-j-clause-grows : goal.returns-then-marks-j-clause-grows
returns-then-marks-j-clause-grows c = elim c.if-marks-i.branch [
  | then-marks-i w ↦ subst (Grows (phase_table c.args.t.now) c.args.marks.now) (sym c.mark.ensures.marked)
      (grows-at (phase_table c.args.t.now) c.args.marks.now c.args.i c.args.j c.table.result c.requires.row c.requires.column c.requires.count
      w.if-marks-i.true (sym w.value-is ∙ c.if-marks-j.true) c.table.ensures.product)
  | else-marks-i w ↦ absurd (let e : true ≡ false = sym c.if-marks-j.true ∙ w.value-is ∙ w.if-marks-i.false in cc)
]
