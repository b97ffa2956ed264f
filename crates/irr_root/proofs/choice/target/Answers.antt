-- The sum of the character, times the power.
use Rattle.std.proofs.Common.{◌≡◌, refl, sym, ◌∙◌, ap, subst, ℕ, zero, suc, ◌<◌, ◌≤◌, ◌*◌, ◌-◌, ◌^◌, All, arith, rules}
use native.Mathlib.Nat as Nat
use Rattle.irr_algebra.specs.Ring.{whole}
use Rattle.irr_algebra.proofs.Rings.{one-mul}
use Rattle.irr_algebra.proofs.Whole.{whole-one}
use Rattle.irr_algebra.specs.Matrix.{trace}
use Rattle.irr_number.specs.Number.{Number, numbers}
use Rattle.irr_char.specs.Characters.{IsSmallRow}
use Rattle.irr_root.specs.CyclicStep.{coset_place, step_subgroup}
use Rattle.irr_root.proofs.ChoiceLaws.{members-below, positions-below, row-small, target-of}
use Rattle.irr_root.proofs.Smalls.{denominators_of_small, products_of_small, small-more, small-product}
use Rattle.irr_root.proofs.choice.target.Goals as goal

pub product_sum-requires-clause-row : goal.product_sum-requires-clause-row
product_sum-requires-clause-row g c = (
  c.args.order.now.n,
  c.requires.choice.step.divides,
  subst (λ l. IsSmallRow g.S.Scalar.order_of g.S.Scalar.value c.args.order.now.n l c.args.character.now) (sym c.requires.choice.step.count)
      (row-small c.requires.choice),
)

pub product_sum-requires-clause-members : goal.product_sum-requires-clause-members
product_sum-requires-clause-members g c = members-below c.requires.choice

pub product_sum-requires-clause-positions : goal.product_sum-requires-clause-positions
product_sum-requires-clause-positions g c = subst (λ l. All (λ q. q < l) c.args.positions.now) (sym c.requires.choice.step.count)
    (positions-below c.requires.choice)

one_power : (q : ℕ) → 1 ^ q ≡ 1
one_power zero = Nat.pow-zero 1
one_power (suc q) = Nat.pow-suc 1 q ∙ ap (λ k. k * 1) (one_power q)

pub returns-then-rows-eq1-clause-small : goal.returns-then-rows-eq1-clause-small
returns-then-rows-eq1-clause-small g c =
    let row = subst (λ l. IsSmallRow g.S.Scalar.order_of g.S.Scalar.value c.args.order.now.n l c.args.character.now)
    (sym c.requires.choice.step.count) (row-small c.requires.choice) in
    let bound : 110592 ≤ 1073741824 = omega arith in
    small-more g.S.Scalar.order_of g.S.Scalar.value c.args.order.now.n 110592 1073741824 c.in_ok-sum.sum bound
    (c.in_ok-sum.ensures.small c.args.order.now.n row)

pub returns-then-rows-eq1-clause-target : goal.returns-then-rows-eq1-clause-target
returns-then-rows-eq1-clause-target g c d n m en em =
    let N = c.args.order.now.n in
    let x = g.S.Scalar.value N c.in_ok-sum.sum in
    let one : c.args.rows ≡ 1 = search rules in
    target-of d n m (whole (numbers N) 1) x x 1
    (c.in_ok-sum.ensures.sum N d.step.divides (step_subgroup d.step) (sym d.step.count) d.step.member d.position d.placed (λ i. trace
    (d.family.at i)) d.traces.is_row
    (coset_place d.step n) (coset_place d.step m) en em)
    (sym (ap (λ k. k ^ (c.args.p - 1)) one ∙ one_power (c.args.p - 1))) refl
    (sym (ap (λ (u : Number N). (numbers N).mul u x) (whole-one (numbers N)) ∙ one-mul (numbers N) x))

pub mul-requires-clause-orders : goal.mul-requires-clause-orders
mul-requires-clause-orders g c =
    let row = subst (λ l. IsSmallRow g.S.Scalar.order_of g.S.Scalar.value c.args.order.now.n l c.args.character.now)
    (sym c.requires.choice.step.count) (row-small c.requires.choice) in
    (c.in_ok-sum.ensures.small c.args.order.now.n row).has_order ∙ sym c.in_ok-factor.ensures.small.has_order

pub mul-requires-clause-denominators : goal.mul-requires-clause-denominators
mul-requires-clause-denominators g c =
    let row = subst (λ l. IsSmallRow g.S.Scalar.order_of g.S.Scalar.value c.args.order.now.n l c.args.character.now)
    (sym c.requires.choice.step.count) (row-small c.requires.choice) in
    denominators_of_small g.S.Scalar.order_of g.S.Scalar.value
    (λ (x : g.row.S.Denot). g.met.S.Scalar.admitted_positive (g.S.Scalar.order_of x) (g.met.S.Scalar.order_admitted x))
    (λ (x : g.row.S.Denot). g.met.S.Scalar.admitted_limited (g.S.Scalar.order_of x) (g.met.S.Scalar.order_admitted x))
    c.args.order.now.n 2304 110592 c.in_ok-factor.factor c.in_ok-sum.sum c.in_ok-factor.ensures.small
    (c.in_ok-sum.ensures.small c.args.order.now.n row)

pub mul-requires-clause-sizes : goal.mul-requires-clause-sizes
mul-requires-clause-sizes g c =
    let row = subst (λ l. IsSmallRow g.S.Scalar.order_of g.S.Scalar.value c.args.order.now.n l c.args.character.now)
    (sym c.requires.choice.step.count) (row-small c.requires.choice) in
    products_of_small g.S.Scalar.order_of g.S.Scalar.value
    (λ (x : g.row.S.Denot). g.met.S.Scalar.admitted_positive (g.S.Scalar.order_of x) (g.met.S.Scalar.order_admitted x))
    (λ (x : g.row.S.Denot). g.met.S.Scalar.admitted_limited (g.S.Scalar.order_of x) (g.met.S.Scalar.order_admitted x))
    c.args.order.now.n 2304 110592 c.in_ok-factor.factor c.in_ok-sum.sum c.in_ok-factor.ensures.small
    (c.in_ok-sum.ensures.small c.args.order.now.n row)
    (omega arith) (omega arith)

pub returns-clause-small : goal.returns-clause-small
returns-clause-small g c =
    let row = subst (λ l. IsSmallRow g.S.Scalar.order_of g.S.Scalar.value c.args.order.now.n l c.args.character.now)
    (sym c.requires.choice.step.count) (row-small c.requires.choice) in
    let bound : 2304 * 110592 ≤ 1073741824 = omega arith in
    small-product g.S.Scalar.order_of g.S.Scalar.value c.args.order.now.n 2304 110592 1073741824 c.in_ok-factor.factor c.in_ok-sum.sum
    c.in_ok-product.product
    c.in_ok-factor.ensures.small (c.in_ok-sum.ensures.small c.args.order.now.n row) bound c.in_ok-product.ensures.order c.in_ok-product.ensures.value

pub returns-clause-target : goal.returns-clause-target
returns-clause-target g c d n m en em =
    let N = c.args.order.now.n in
    let value = g.S.Scalar.value in
    target-of d n m (value N c.in_ok-factor.factor) (value N c.in_ok-sum.sum) (value N c.in_ok-product.product) c.lower_number.result
    (c.in_ok-sum.ensures.sum N d.step.divides (step_subgroup d.step) (sym d.step.count) d.step.member d.position d.placed (λ i. trace
    (d.family.at i)) d.traces.is_row
    (coset_place d.step n) (coset_place d.step m) en em)
    c.lower_number.ensures.power c.in_ok-factor.ensures.value
    (subst (λ u. value u c.in_ok-product.product ≡ (numbers u).mul (value u c.in_ok-factor.factor)
    (value u c.in_ok-sum.sum)) c.in_ok-factor.ensures.small.has_order c.in_ok-product.ensures.value)
