-- A power in the row of the column, and 0 elsewhere.
use Rattle.std.proofs.Common.{◌≡◌, sym, ◌∙◌, ap, refl, length, slice_index}
use Rattle.std.proofs.lemmas.List.{get_or_read_under}
use Rattle.irr_number.specs.Number.{root_power}
use Rattle.irr_mono.proofs.Entries.{entry-is, entry-none, entry-power}
use Rattle.irr_mono.proofs.monomial.Mono.entry.Goals as goal

pub returns-then-index-i-clause-entry : goal.returns-then-index-i-clause-entry
returns-then-index-i-clause-entry g c =
    let n = c.args.order.now.n in
    let p = c.args.self.now.place.items in
    let e = c.args.self.now.exp.items in
    let at : slice_index p c.args.j ≡ c.args.i = sym (get_or_read_under p c.args.j (length p) c.index.result.now 0 c.index.ensures c.requires.column refl) ∙ c.if-index-i.true in
    let read : c.index-then-index-i.result.now ≡ slice_index e c.args.j = get_or_read_under e c.args.j (length p) c.index-then-index-i.result.now 0 c.index-then-index-i.ensures c.requires.column (sym c.requires.rules.same) in
    let v : g.S.Scalar.value n c.in_ok-power.power ≡ root_power n (slice_index e c.args.j) = c.in_ok-power.ensures.value ∙ ap (root_power n) read in
    entry-is n (length p) p e c.args.i c.args.j (g.S.Scalar.value n c.in_ok-power.power) (v ∙ sym (entry-power n p e c.args.i c.args.j at))

pub returns-clause-entry : goal.returns-clause-entry
returns-clause-entry g c =
    let n = c.args.order.now.n in
    let p = c.args.self.now.place.items in
    let e = c.args.self.now.exp.items in
    let read : c.index.result.now ≡ slice_index p c.args.j = get_or_read_under p c.args.j (length p) c.index.result.now 0 c.index.ensures c.requires.column refl in
    let at : slice_index p c.args.j ≡ c.args.i → ⊥ = λ same. c.if-index-i.false (read ∙ same) in
    entry-is n (length p) p e c.args.i c.args.j (g.S.Scalar.value n c.in_ok-none.none) (c.in_ok-none.ensures.value ∙ sym (entry-none n p e c.args.i c.args.j at))
