-- The first block has the shape of all blocks.
use Rattle.std.proofs.Common.{◌≡◌, sym, ◌∙◌, ap, subst, ◌≤◌, map, get_or, None, IfSome}
use Rattle.std.proofs.lemmas.List.{length-map}
use Rattle.irr_mat.proofs.Blocks.{parts_next, parts_all, read, row-at}
use Rattle.irr_mat.proofs.matrices.Mat.shape_of_blocks.Goals as goal

pub returns-in-Some-clause-shape : goal.returns-in-Some-clause-shape
returns-in-Some-clause-shape g c = λ r k h.
    let parts = c.args.parts.now in
    let a = c.loop-row.row-index in
    let row = c.row-item.result in
    c.in-Some.ensures.shape r k (λ b.
    subst (λ o. IfSome o (λ m. (m.rows ≡ r) × (m.cols ≡ k)))
    (row-at (λ v. v.items) parts a row (read parts a row c.loop-row-test.true c.row-item.is) b ∙ ap (λ s. get_or s b None) (sym c.as_slice.ensures.value)) (h a b))

pub loop-row-preserved : goal.loop-row-preserved
loop-row-preserved g c =
    let parts = c.args.parts.now in
    let a = c.loop-row.row-index in
    let row = c.row-item.result in
    parts_next (map (λ v. v.items) parts) a c.loop-row.invariant (λ b.
    row-at (λ v. v.items) parts a row (read parts a row c.loop-row-test.true c.row-item.is) b
    ∙ ap (λ s. get_or s b None) (sym c.as_slice.ensures.value) ∙ c.in_default.ensures.none b)

pub unreachable-requires : goal.unreachable-requires
unreachable-requires g c =
    let parts = c.args.parts.now in
    c.requires.some (parts_all (map (λ v. v.items) parts) c.loop-row.row-index c.loop-row.invariant
    (subst (λ l. l ≤ c.loop-row.row-index) (sym (length-map parts (λ v. v.items))) c.loop-row-test.false))
