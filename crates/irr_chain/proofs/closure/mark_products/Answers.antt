-- One pair more.
use Rattle.std.proofs.Common.{◌+◌, sym, subst, arith}
use Rattle.irr_rep.specs.Twisted.{phase_table}
use Rattle.irr_chain.proofs.Passes.{Pass, pass-new, pass-old, pass-row, pass-start}
use Rattle.irr_chain.proofs.closure.mark_products.Goals as goal
use Rattle.irr_chain.proofs.closure.mark_products.Goals.{then-mark_product, else-mark_product}

pub loop-i-init : goal.loop-i-init
loop-i-init c = pass-start (phase_table c.args.t.now) c.args.marks.now

pub loop-i-preserved : goal.loop-i-preserved
loop-i-preserved c =
    pass-row (phase_table c.args.t.now) c.args.marks.now c.loop-j.marks c.loop-j.grown c.loop-i.i c.loop-j.j (omega arith) c.loop-j.invariant

pub loop-j-init : goal.loop-j-init
loop-j-init c = c.loop-i.invariant

pub loop-j-preserved : goal.loop-j-preserved
loop-j-preserved c =
    let T = phase_table c.args.t.now in
    elim c.if-mark_product.branch [
      | then-mark_product w ↦ subst (λ b. Pass T c.args.marks.now c.mark_product.new.marks b c.loop-i.i (c.loop-j.j + 1)) (sym w.grown-is)
          (pass-new T c.args.marks.now c.loop-j.marks c.mark_product.new.marks c.loop-j.grown c.loop-i.i c.loop-j.j c.loop-j.invariant
          c.mark_product.ensures.grows (c.mark_product.ensures.fewer w.if-mark_product.true))
      | else-mark_product w ↦ subst (λ b. Pass T c.args.marks.now c.mark_product.new.marks b c.loop-i.i (c.loop-j.j + 1)) (sym w.grown-is)
          (pass-old T c.args.marks.now c.loop-j.marks c.mark_product.new.marks c.loop-j.grown c.loop-i.i c.loop-j.j c.loop-j.invariant
          (c.mark_product.ensures.same w.if-mark_product.false) c.mark_product.ensures.product)
    ]
