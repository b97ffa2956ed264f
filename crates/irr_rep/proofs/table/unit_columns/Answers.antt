-- The columns of the unit.
use Rattle.std.proofs.Common.{◌≡◌, ◌+◌, ◌<◌, ℕ, sym, ◌∙◌, ap, subst, [], ◌∷◌, length, length-append, slice_index, arith}
use Rattle.irr_rep.specs.Table.{entry}
use Rattle.irr_rep.proofs.UnitColumns.{columns-push, row-contains, row-entry, row-length}
use Rattle.irr_rep.proofs.table.unit_columns.Goals as goal

pub position-requires-clause-inside : goal.position-requires-clause-inside
position-requires-clause-inside c =
    row-contains c.args.size c.loop-i.i c.args.products.now c.loop-i-test.true c.requires.full (c.requires.inverses c.loop-i.i c.loop-i-test.true)

pub loop-i-preserved : goal.loop-i-preserved
loop-i-preserved c =
    let size = c.args.size in
    let x = c.position.result in
    let below : x < size = subst (λ k. x < k)
    (row-length size c.loop-i.i c.args.products.now c.loop-i-test.true c.requires.full) c.position.ensures.within in
    let longer : length c.push.new.self.items ≡ length c.loop-i.columns.items + 1 = ap length c.in_ok-push.ensures.items
    ∙ length-append c.loop-i.columns.items (x ∷ []) in
    record {
      count = omega (arith, longer, c.loop-i.invariant.count);
      columns = subst (λ xs. (k : ℕ) → k < c.loop-i.i + 1 → (slice_index xs k < size) × (entry size c.args.products.now k (slice_index xs k) ≡ 0))
          (sym c.in_ok-push.ensures.items)
          (columns-push size (entry size c.args.products.now) c.loop-i.columns.items c.loop-i.i x c.loop-i.invariant.count
          c.loop-i.invariant.columns below
          (sym (row-entry size c.loop-i.i x c.args.products.now below) ∙ c.position.ensures.value));
    }
