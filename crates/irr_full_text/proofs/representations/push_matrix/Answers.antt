-- The rows of the matrix.
use Rattle.std.proofs.Common.{◌≡◌, ◌∙◌, ◌++◌, sym, ap, subst, List, ℕ, [], ◌∷◌}
use Rattle.std.specs.Fmt.{decimal}
use Rattle.irr_text.specs.ReportText.{pieces}
use Rattle.irr_seitz.specs.OperationMeaning.{operation}
use Rattle.irr_rep.specs.declared.family.Family.{Family}
use Rattle.irr_star.specs.declared.lists.Block.{Block}
use Rattle.irr_full_text.specs.Lines.{row_text, entries_text}
use Rattle.irr_full_text.specs.Reading.{BlockRows}
use Rattle.irr_full_text.proofs.Texts.{entries-blocks, matrix-parts}
use Rattle.irr_full_text.proofs.Rows.{blocks_of}
use Rattle.irr_full_text.proofs.Readings.{represented}
use Rattle.irr_full_text.proofs.representations.push_matrix.Goals as goal

pub blocks-requires-clause-induced : goal.blocks-requires-clause-induced
blocks-requires-clause-induced g c = represented c.args.full.now c.requires.reading

pub blocks-requires-clause-member : goal.blocks-requires-clause-member
blocks-requires-clause-member g c = c.requires.operation.0

pub blocks-requires-clause-small : goal.blocks-requires-clause-small
blocks-requires-clause-small g c = c.requires.operation.1

pub push_blocks-requires : goal.push_blocks-requires
push_blocks-requires g c =
    let full = c.args.full.now in
    let e = c.requires.reading in
    let bs = c.in_ok-blocks.blocks.items in
    let are = c.in_ok-blocks.ensures.blocks e.group e.wave e.star e.number e.divides e.size e.small e.induced in
    subst (λ (f : Family _ _). BlockRows c.args.order.now.n f c.deref.result.now) (sym c.family.ensures)
    (subst (BlockRows c.args.order.now.n full.family) (sym c.deref.ensures.value)
    (blocks_of full e c.args.op.now c.requires.operation bs are c.args.order.now.n c.requires.order))

pub returns : goal.returns
returns g c = λ e.
    let full = c.args.full.now in
    let old = c.args.text.now.items in
    let begun = c.extend_from_slice.new.self.items in
    let bs = c.in_ok-blocks.blocks.items in
    let entries = entries_text e.number (e.matrix (operation c.args.op.now)) in
    let are = c.in_ok-blocks.ensures.blocks e.group e.wave e.star e.number e.divides e.size e.small e.induced in
    let told = subst (λ (xs : List Block). (r : BlockRows c.args.order.now.n full.family xs)
    → c.push_blocks.new.text.items ≡ begun
    ++ pieces r.arms (λ i. pieces r.size (row_text r.number (r.block i)))) c.deref.ensures.value
    (subst (λ (f : Family _ _). (r : BlockRows c.args.order.now.n f c.deref.result.now) → c.push_blocks.new.text.items
    ≡ begun
    ++ pieces r.arms (λ i. pieces r.size (row_text r.number (r.block i)))) c.family.ensures
    c.in_ok-push_blocks.ensures) in
    c.in_ok-push.ensures.items ∙ ap (λ (t : List ℕ). t ++ 10 ∷ [])
    (told (blocks_of full e c.args.op.now c.requires.operation bs are c.args.order.now.n c.requires.order)
    ∙ ap (λ (w : List ℕ). begun ++ w) (entries-blocks e.number e.star.arms e.size (e.matrix (operation c.args.op.now)))
    ∙ ap (λ (t : List ℕ). t ++ entries) (c.in_ok-extend_from_slice.ensures.items
    ∙ ap (λ (t : List ℕ). old ++ t) (c.as_bytes.ensures.value ∙ c.in_ok-format.ensures.ok)))
    ∙ matrix-parts old (decimal c.args.number) entries
