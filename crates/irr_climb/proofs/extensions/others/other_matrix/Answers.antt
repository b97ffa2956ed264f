-- A matrix times a root of one.
use Rattle.std.proofs.Common.{◌≡◌, ◌<◌, ◌≤◌, ◌*◌, ◌/◌, ◌%◌, ◌⊎◌, inl, inr, sym, ◌∙◌, ap}
use Rattle.std.proofs.Common.{ap₂, subst, slice_index, ℕ, IfOk, Fits, arith, rules}
use mir.Syntax.{w32}
use native.Mathlib.Nat as Nat
use Rattle.irr_algebra.proofs.Indices.{from_nat, to_nat-from_nat, to_nat-lt}
use Rattle.irr_algebra.specs.Matrix.{scale}
use Rattle.irr_number.specs.Number.{numbers, root_power}
use Rattle.irr_number.proofs.RootPowers.{root_power-mod}
use Rattle.irr_rep.specs.Defects.{IsMatrix}
use Rattle.irr_rep.specs.Twisted.{place_count}
use Rattle.irr_root.proofs.TurnedTraces.{read_at}
use Rattle.irr_climb.specs.Steps.{large}
use Rattle.irr_climb.proofs.ExtensionFits.{root_fits}
use Rattle.irr_climb.proofs.ExtensionReads.{read_item}
use Rattle.irr_climb.proofs.extensions.others.other_matrix.Goals as goal

fits_small : (k : ℕ) → k ≤ 48000 → Fits w32 k
fits_small k l = search rules

-- a number below 2 or 3
at_most_two : (p k : ℕ) → (p ≡ 2) ⊎ (p ≡ 3) → k < p → k ≤ 2
at_most_two p k (inl e) l = omega (arith, e, l)
at_most_two p k (inr e) l = omega (arith, e, l)

part_small : (p n : ℕ) → (p ≡ 2) ⊎ (p ≡ 3) → n ≤ 12000 → n / p ≤ 12000
part_small p n (inl e) l = subst (λ q. n / q ≤ 12000) (sym e) (omega (arith, l))
part_small p n (inr e) l = subst (λ q. n / q ≤ 12000) (sym e) (omega (arith, l))

pub overflow_mul-exponent : goal.overflow_mul-exponent
overflow_mul-exponent g c =
    let step = c.args.step.now in
    let is = c.requires.first.0 in
    let o = place_count step.outer in
    let p = from_nat o c.args.x c.requires.place in
    let read = read_at step.exponents.items c.args.x c.index.result.now c.index.ensures (subst (λ k. c.args.x < k)
    (sym is.exponents_count) c.requires.place) in
    let number = read ∙ ap (slice_index step.exponents.items) (sym (to_nat-from_nat o c.args.x c.requires.place)) ∙ is.exponents p in
    let a = at_most_two is.quotient.index c.args.a is.two_or_three (subst (λ k. c.args.a < k) is.index c.requires.number) in
    let e = at_most_two is.quotient.index c.index.result.now is.two_or_three (subst (λ k. k < is.quotient.index) (sym number) (to_nat-lt
    (is.quotient.exponent p))) in
    let l : c.args.a * c.index.result.now ≤ 2 * 2 = Nat.mul-le-mul a e in
    fits_small (c.args.a * c.index.result.now) (omega (arith, l))

pub overflow_mul-exponent-2 : goal.overflow_mul-exponent-2
overflow_mul-exponent-2 g c =
    let step = c.args.step.now in
    let is = c.requires.first.0 in
    let o = place_count step.outer in
    let p = from_nat o c.args.x c.requires.place in
    let read = read_at step.exponents.items c.args.x c.index.result.now c.index.ensures (subst (λ k. c.args.x < k)
    (sym is.exponents_count) c.requires.place) in
    let number = read ∙ ap (slice_index step.exponents.items) (sym (to_nat-from_nat o c.args.x c.requires.place)) ∙ is.exponents p in
    let a = at_most_two is.quotient.index c.args.a is.two_or_three (subst (λ k. c.args.a < k) is.index c.requires.number) in
    let e = at_most_two is.quotient.index c.index.result.now is.two_or_three (subst (λ k. k < is.quotient.index) (sym number) (to_nat-lt
    (is.quotient.exponent p))) in
    let b = part_small step.index c.n.result (subst (λ k. (k ≡ 2) ⊎ (k ≡ 3)) (sym is.index) is.two_or_three) (subst (λ k. k ≤ 12000)
    (sym c.n.ensures.value) c.args.order.now.limited) in
    let l : c.args.a * c.index.result.now * (c.n.result / step.index) ≤ 2 * 2 * 12000 = Nat.mul-le-mul (Nat.mul-le-mul a e) b in
    fits_small (c.args.a * c.index.result.now * (c.n.result / step.index)) (omega (arith, l))

pub multiple-requires-clause-multiple : goal.multiple-requires-clause-multiple
multiple-requires-clause-multiple g c =
    let r = c.requires.first in
    let o = place_count c.args.step.now.outer in
    let p = from_nat o c.args.x c.requires.place in (
      r.1,
      r.2.at p,
      read_item (large r.0) r.2 c.args.first.now r.3 c.args.x c.index-2.result.now c.requires.place c.index-2.ensures p
          (to_nat-from_nat o c.args.x c.requires.place),
      λ u root. root_fits r.0 r.2 c.args.first.now r.3 r.4 c.args.step.now.outer.places_within c.args.order.now.limited u root p,
    )

pub returns : goal.returns
returns g c is d E r p q =
    let M = c.args.order.now.n in
    let step = c.args.step.now in
    let e = c.index.result.now in
    let read = read_at step.exponents.items c.args.x e c.index.ensures (subst (λ k. c.args.x < k) (sym is.exponents_count) c.requires.place) in
    let number = read ∙ ap (slice_index step.exponents.items) (sym q) ∙ is.exponents p in
    let exponent = c.args.a * e * (c.n.result / step.index) in
    let is_root = ap (λ k. root_power M (exponent % k)) c.n-2.ensures.value ∙ root_power-mod M exponent
    ∙ ap (root_power M) (ap₂ (λ u v. c.args.a * u * v) number (ap₂ (λ u v. u / v) c.n.ensures.value is.index)) in
    subst (λ u. IfOk c.multiple.result (IsMatrix M d (scale (numbers M) u (E.at p)))) is_root
    (c.multiple.ensures d (E.at p) (read_item (large is) E c.args.first.now r c.args.x c.index-2.result.now c.requires.place c.index-2.ensures p q))
