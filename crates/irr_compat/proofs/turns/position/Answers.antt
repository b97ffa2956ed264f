-- Place by place.
use Rattle.std.proofs.Common.{◌≡◌, sym, ◌∙◌, subst, inl, inr, slice_index, arith}
use Rattle.std.proofs.lemmas.Bool.{cases_lt}
use Rattle.std.proofs.lemmas.List.{get_or_default}
use Rattle.irr_rep.specs.Twisted.{operation_places}
use Rattle.irr_compat.proofs.turns.position.Goals as goal

pub loop-place-preserved : goal.loop-place-preserved
loop-place-preserved c = λ j l e. elim (cases_lt j c.loop-place.place) [
  | inl b ↦ c.loop-place.invariant j b e
  | inr a ↦ (let s : j ≡ c.loop-place.place = omega (arith, l, a) in
      c.if-place-number.false (c.place.ensures ∙ subst (λ n. slice_index (operation_places c.args.table.now) n ≡ c.args.number) s e))
]

pub unreachable-requires : goal.unreachable-requires
unreachable-requires c =
    let size = c.args.table.now.places.ok.0 in
    let r = c.requires in
    c.loop-place.invariant r.0 (let l = r.1 in omega (arith, l, size, c.loop-place-test.false, c.len-place-end.ensures.count))
    (sym (get_or_default (operation_places c.args.table.now) r.0 c.args.number 0 r.1) ∙ r.2)
