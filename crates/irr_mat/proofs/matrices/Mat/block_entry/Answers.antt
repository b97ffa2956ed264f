-- An entry of a block, or 0.
use Rattle.std.proofs.Common.{◌≡◌, ◌∙◌, sym, subst, IfSome}
use Rattle.std.proofs.lemmas.Result.{IfOk-weaker}
use Rattle.irr_mat.specs.Entries.{first_order, IsEntry, matrix_of}
use Rattle.irr_mat.proofs.Blocks.{block-some, block-none}
use Rattle.irr_mat.proofs.matrices.Mat.block_entry.Goals as goal

pub returns-in-Some-clause-entry : goal.returns-in-Some-clause-entry
returns-in-Some-clause-entry g c = λ r k s.
    let value = g.S.Scalar.value in
    let order = g.S.Scalar.order_of in
    let n = c.args.order.now.n in
    let m = c.in-Some.m in
    let y = c.at.result.now in
    let shape = subst (λ o. IfSome o (λ p. (p.rows ≡ r) × (p.cols ≡ k))) c.in-Some.is s in
    let same : order y ≡ n = c.at.ensures.order ∙ subst (λ o. IfSome o (λ p. first_order order p.entries.items ≡ n)) c.in-Some.is c.requires.order in
    IfOk-weaker c.copy.result _ _ (λ x e.
    block-some (λ p. matrix_of value n r k p.entries.items) c.args.part.now m c.args.i c.args.j (value n x) c.in-Some.is
    (subst (IsEntry (matrix_of value n r k m.entries.items) c.args.i c.args.j) (sym (subst (λ v. value v x ≡ value v y) same e))
    (subst (λ v. IsEntry (matrix_of value n r v m.entries.items) c.args.i c.args.j (value n y)) shape.1
    (subst (λ v. IsEntry (matrix_of value n v m.cols m.entries.items) c.args.i c.args.j (value n y)) shape.0 (c.at.ensures.entry n))))) c.copy.ensures.value

pub returns-in-None-clause-entry : goal.returns-in-None-clause-entry
returns-in-None-clause-entry g c = λ r k s.
    let value = g.S.Scalar.value in
    let n = c.args.order.now.n in
    IfOk-weaker c.zero.result _ _ (λ x e.
    block-none (λ p. matrix_of value n r k p.entries.items) c.args.part.now c.args.i c.args.j (value n x) c.in-None.is e) c.zero.ensures.value
