-- The powers, one after the other.
use Rattle.std.proofs.Common.{◌≡◌, sym, ◌∙◌, ap, subst, ℕ, ◌<◌, ◌≤◌, ◌+◌, ◌*◌, ◌^◌, ◌∷◌, [], ◌++◌, length, Fits, w32, arith, rules}
use native.Mathlib.Nat as Nat
use Rattle.std.proofs.Math.ListN.{length-append}
use Rattle.irr_algebra.specs.Fin.{to_nat}
use Rattle.irr_algebra.proofs.Indices.{from_nat, to_nat-from_nat}
use Rattle.irr_rep.specs.Twisted.{phase_table, place_count}
use Rattle.irr_root.proofs.Walks.{Walked, table-order-le, walk_place, walked-done, walked-exponent, walked-first, walked-length, walked-lt, walked-step}
use Rattle.irr_root.proofs.powers.powers_of.Goals as goal

fits_small : (a : ℕ) → a < 2 ^ 32 → Fits w32 a
fits_small a l = search rules

pub loop-place-init : goal.loop-place-init
loop-place-init c = λ p e.
    let T = phase_table c.args.t.now in
    subst (λ xs. Walked T p xs c.push-2.new.self.items c.args.i 0) (sym (c.in_ok-push.ensures.items ∙ ap (λ xs. xs ++ 0 ∷ []) c.new-places.ensures.items))
    (subst (λ ys. Walked T p (0 ∷ []) ys c.args.i 0) (sym (c.in_ok-push-2.ensures.items ∙ ap (λ xs. xs ++ 0 ∷ []) c.new-exponents.ensures.items))
    (subst (λ k. Walked T p (0 ∷ []) (0 ∷ []) k 0) e (walked-first T p)))

pub phase-exponent-requires-clause-column : goal.phase-exponent-requires-clause-column
phase-exponent-requires-clause-column c =
    let p = from_nat (place_count c.args.t.now) c.args.i c.requires in
    walked-lt (phase_table c.args.t.now) p (c.loop-place.invariant p (to_nat-from_nat (place_count c.args.t.now) c.args.i c.requires))

pub overflow_add-exponent : goal.overflow_add-exponent
overflow_add-exponent c =
    let T = phase_table c.args.t.now in
    let p = from_nat (place_count c.args.t.now) c.args.i c.requires in
    let w = c.loop-place.invariant p (to_nat-from_nat (place_count c.args.t.now) c.args.i c.requires) in
    let so_far : c.loop-place.exponent ≤ T.order * T.order = walked-exponent T p w in
    let few : T.order * T.order ≤ 12000 * 12000 = Nat.mul-le-mul (table-order-le c.args.t.now) (table-order-le c.args.t.now) in
    fits_small (c.loop-place.exponent + c.phase-exponent.result) (omega (arith, so_far, few, c.phase-exponent.ensures.limited))

pub table-place-requires-clause-column : goal.table-place-requires-clause-column
table-place-requires-clause-column c =
    let p = from_nat (place_count c.args.t.now) c.args.i c.requires in
    walked-lt (phase_table c.args.t.now) p (c.loop-place.invariant p (to_nat-from_nat (place_count c.args.t.now) c.args.i c.requires))

pub loop-place-smaller : goal.loop-place-smaller
loop-place-smaller c =
    let T = phase_table c.args.t.now in
    let p = from_nat (place_count c.args.t.now) c.args.i c.requires in
    let w = c.loop-place.invariant p (to_nat-from_nat (place_count c.args.t.now) c.args.i c.requires) in
    let within : length (c.loop-place.places.items ++ c.loop-place.place ∷ []) ≤ T.order = walked-length T p (walked-step T p w c.loop-place-test.true) in
    let longer : length (c.loop-place.places.items ++ c.loop-place.place ∷ []) ≡ length c.loop-place.places.items + 1 = length-append c.loop-place.places.items (c.loop-place.place ∷ []) in
    let same : length c.push-in-loop-place.new.self.items ≡ length (c.loop-place.places.items ++ c.loop-place.place ∷ []) = ap length c.in_ok-push-3.ensures.items in
    omega (arith, within, longer, same)

pub loop-place-preserved : goal.loop-place-preserved
loop-place-preserved c = λ p e.
    let T = phase_table c.args.t.now in
    let w = c.loop-place.invariant p e in
    let q = walk_place T p (length c.loop-place.places.items) in
    subst (λ xs. Walked T p xs c.push-in-loop-place-2.new.self.items c.table-place.result (c.loop-place.exponent + c.phase-exponent.result)) (sym c.in_ok-push-3.ensures.items)
    (subst (λ ys. Walked T p (c.loop-place.places.items ++ c.loop-place.place ∷ []) ys c.table-place.result (c.loop-place.exponent + c.phase-exponent.result))
    (sym c.in_ok-push-4.ensures.items)
    (subst (λ k. Walked T p (c.loop-place.places.items ++ c.loop-place.place ∷ []) (c.loop-place.exponents.items ++ c.loop-place.exponent ∷ []) k
    (c.loop-place.exponent + c.phase-exponent.result)) (sym (c.table-place.ensures.product p q e (sym w.next_place)))
    (subst (λ k. Walked T p (c.loop-place.places.items ++ c.loop-place.place ∷ []) (c.loop-place.exponents.items ++ c.loop-place.exponent ∷ []) (to_nat (T.product p q))
    (c.loop-place.exponent + k)) (sym (c.phase-exponent.ensures.exponent p q e (sym w.next_place)))
    (walked-step T p w c.loop-place-test.true))))

pub returns : goal.returns
returns c = λ p e. walked-done (phase_table c.args.t.now) p (c.loop-place.invariant p e) c.loop-place-test.false
