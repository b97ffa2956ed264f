-- Each product is added at its place; one of a coefficient 0 would add nothing.
use Rattle.std.proofs.Common.{◌≡◌, sym, ◌∙◌, ap, rules, ℤ, pos, ◌+◌, ◌*◌, ◌%◌, ◌<◌, ◌≤◌, ◌^◌, ◌+ℤ◌, ◌*ℤ◌, length, slice_set, unsigned_abs, FitsSigned, to_z, of_z, arith}
use Rattle.std.proofs.lemmas.Int.{to_z-of_z}
use native.Mathlib.Nat as Nat
use mir.Syntax.{w128}
use Rattle.irr_cyc.specs.Form.{at}
use Rattle.irr_cyc.proofs.Placed.{nothing-placed, placed-all, placed-nothing, placed-write, placed_sum, running-bound}
use Rattle.irr_cyc.proofs.Written.{fits-more, fits-product, written-more}
use Rattle.irr_cyc.proofs.polynomials.add_turned.Goals as goal
use Rattle.irr_cyc.proofs.polynomials.add_turned.Goals.{then-ys-j-ne0, else-ys-j-ne0}

pub loop-j-init : goal.loop-j-init
loop-j-init c = λ k lk. nothing-placed (at c.args.ys.now) (λ i. (c.args.shift + i) % length c.args.sums.now) (at c.args.sums.now k) (to_z w128 (of_z w128 c.args.x)) k

pub overflow_mul-sums : goal.overflow_mul-sums
overflow_mul-sums c =
    let fx : FitsSigned w128 c.args.x = search rules in
    let fy : FitsSigned w128 (at c.args.ys.now c.loop-j.j) = search rules in
    let ex : to_z w128 (of_z w128 c.args.x) ≡ c.args.x = to_z-of_z w128 c.args.x fx in
    let positive : 0 < length c.args.sums.now = omega (arith, c.loop-j-test.true) in
    let below : (c.args.shift + c.loop-j.j) % length c.args.sums.now < length c.args.sums.now = Nat.mod-lt (c.args.shift + c.loop-j.j) positive in
    let inside : c.turned-place.result < length c.args.sums.now = omega (arith, c.turned-place.ensures) in
    let bound : unsigned_abs (at c.loop-j.sums c.turned-place.result) + unsigned_abs c.args.x * unsigned_abs (at c.args.ys.now c.loop-j.j) ≤ 2 ^ 100 =
    running-bound (at c.args.ys.now) (λ i. (c.args.shift + i) % length c.args.sums.now) (at c.loop-j.sums c.turned-place.result) (at c.args.sums.now c.turned-place.result) c.args.x c.loop-j.j (length c.args.sums.now) c.turned-place.result (2 ^ 100) c.loop-j-test.true
    (c.loop-j.invariant c.turned-place.result inside ∙ ap (λ z. at c.args.sums.now c.turned-place.result +ℤ (z *ℤ placed_sum (at c.args.ys.now) (λ i. (c.args.shift + i) % length c.args.sums.now) c.loop-j.j c.turned-place.result)) ex)
    (c.requires.small c.turned-place.result inside) in
    let any : FitsSigned w128 (at c.loop-j.sums c.turned-place.result) = search rules in
    fits-product (at c.loop-j.sums c.turned-place.result) c.args.x (at c.args.ys.now c.loop-j.j) any fx fy bound

pub overflow_add-sums : goal.overflow_add-sums
overflow_add-sums c =
    let fx : FitsSigned w128 c.args.x = search rules in
    let fy : FitsSigned w128 (at c.args.ys.now c.loop-j.j) = search rules in
    let ex : to_z w128 (of_z w128 c.args.x) ≡ c.args.x = to_z-of_z w128 c.args.x fx in
    let positive : 0 < length c.args.sums.now = omega (arith, c.loop-j-test.true) in
    let below : (c.args.shift + c.loop-j.j) % length c.args.sums.now < length c.args.sums.now = Nat.mod-lt (c.args.shift + c.loop-j.j) positive in
    let inside : c.turned-place.result < length c.args.sums.now = omega (arith, c.turned-place.ensures) in
    let bound : unsigned_abs (at c.loop-j.sums c.turned-place.result) + unsigned_abs c.args.x * unsigned_abs (at c.args.ys.now c.loop-j.j) ≤ 2 ^ 100 =
    running-bound (at c.args.ys.now) (λ i. (c.args.shift + i) % length c.args.sums.now) (at c.loop-j.sums c.turned-place.result) (at c.args.sums.now c.turned-place.result) c.args.x c.loop-j.j (length c.args.sums.now) c.turned-place.result (2 ^ 100) c.loop-j-test.true
    (c.loop-j.invariant c.turned-place.result inside ∙ ap (λ z. at c.args.sums.now c.turned-place.result +ℤ (z *ℤ placed_sum (at c.args.ys.now) (λ i. (c.args.shift + i) % length c.args.sums.now) c.loop-j.j c.turned-place.result)) ex)
    (c.requires.small c.turned-place.result inside) in
    let any : FitsSigned w128 (at c.loop-j.sums c.turned-place.result) = search rules in
    fits-more (at c.loop-j.sums c.turned-place.result) c.args.x (at c.args.ys.now c.loop-j.j) any fx fy bound

pub loop-j-preserved : goal.loop-j-preserved
loop-j-preserved c = λ k lk. elim c.if-ys-j-ne0.branch [
  | then-ys-j-ne0 w ↦ ap (λ xs. at xs k) w.sums-is ∙ (
      let fx : FitsSigned w128 c.args.x = search rules in
      let fy : FitsSigned w128 (at c.args.ys.now c.loop-j.j) = search rules in
      let ex : to_z w128 (of_z w128 c.args.x) ≡ c.args.x = to_z-of_z w128 c.args.x fx in
      let positive : 0 < length c.args.sums.now = omega (arith, c.loop-j-test.true) in
      let below : (c.args.shift + c.loop-j.j) % length c.args.sums.now < length c.args.sums.now = Nat.mod-lt (c.args.shift + c.loop-j.j) positive in
      let inside : w.turned-place.result < length c.args.sums.now = omega (arith, w.turned-place.ensures) in
      let bound : unsigned_abs (at c.loop-j.sums w.turned-place.result) + unsigned_abs c.args.x * unsigned_abs (at c.args.ys.now c.loop-j.j) ≤ 2 ^ 100 =
      running-bound (at c.args.ys.now) (λ i. (c.args.shift + i) % length c.args.sums.now) (at c.loop-j.sums w.turned-place.result) (at c.args.sums.now w.turned-place.result) c.args.x c.loop-j.j (length c.args.sums.now) w.turned-place.result (2 ^ 100) c.loop-j-test.true
      (c.loop-j.invariant w.turned-place.result inside ∙ ap (λ z. at c.args.sums.now w.turned-place.result +ℤ (z *ℤ placed_sum (at c.args.ys.now) (λ i. (c.args.shift + i) % length c.args.sums.now) c.loop-j.j w.turned-place.result)) ex)
      (c.requires.small w.turned-place.result inside) in
      let any : FitsSigned w128 (at c.loop-j.sums w.turned-place.result) = search rules in
      let is = written-more (at c.loop-j.sums w.turned-place.result) c.args.x (at c.args.ys.now c.loop-j.j) any fx fy bound ∙ (λ t. at c.loop-j.sums (w.turned-place.ensures t) +ℤ (sym ex t *ℤ at c.args.ys.now c.loop-j.j)) in
      let v : ℤ = to_z w128 (of_z w128 (to_z w128 (of_z w128 (at c.loop-j.sums w.turned-place.result)) +ℤ to_z w128 (of_z w128 (to_z w128 (of_z w128 c.args.x) *ℤ to_z w128 (of_z w128 (at c.args.ys.now c.loop-j.j)))))) in
      ap (λ q. at (slice_set c.loop-j.sums q v) k) w.turned-place.ensures
      ∙ placed-write (at c.args.ys.now) (λ i. (c.args.shift + i) % length c.args.sums.now) c.args.sums.now c.loop-j.sums (to_z w128 (of_z w128 c.args.x)) v c.loop-j.j c.loop-j.auto.sums (omega (arith, c.loop-j.auto.sums, below)) c.loop-j.invariant is k lk)
  | else-ys-j-ne0 w ↦
      let fy : FitsSigned w128 (at c.args.ys.now c.loop-j.j) = search rules in
      let nothing : at c.args.ys.now c.loop-j.j ≡ pos 0 = sym (to_z-of_z w128 (at c.args.ys.now c.loop-j.j) fy) ∙ ap (to_z w128) w.if-ys-j-ne0.false in
      ap (λ xs. at xs k) w.sums-is ∙ c.loop-j.invariant k lk
      ∙ ap (λ z. at c.args.sums.now k +ℤ (to_z w128 (of_z w128 c.args.x) *ℤ z))
      (sym (placed-nothing (at c.args.ys.now) (λ i. (c.args.shift + i) % length c.args.sums.now) c.loop-j.j k nothing))
]

pub returns : goal.returns
returns c = λ k lk.
    let fx : FitsSigned w128 c.args.x = search rules in
    let ex : to_z w128 (of_z w128 c.args.x) ≡ c.args.x = to_z-of_z w128 c.args.x fx in
    let all : c.loop-j.j ≡ length c.args.sums.now = omega (arith, c.loop-j-test.false, c.loop-j.auto.j-end) in
    c.loop-j.invariant k lk ∙ (λ t. at c.args.sums.now k +ℤ (ex t *ℤ placed_sum (at c.args.ys.now) (λ i. (c.args.shift + i) % length c.args.sums.now) (all t) k))
    ∙ ap (λ z. at c.args.sums.now k +ℤ (c.args.x *ℤ z)) (placed-all (at c.args.ys.now) (λ i. (c.args.shift + i) % length c.args.sums.now) (length c.args.sums.now) k)
