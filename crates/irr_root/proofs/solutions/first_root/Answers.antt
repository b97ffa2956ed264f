-- A root is found, and one is there.
use Rattle.std.proofs.Common.{◌≡◌, refl, sym, ◌∙◌, ap, subst, suc, ◌<◌, get_or, arith}
use native.Mathlib.Decide.{dec_le}
use Rattle.std.proofs.lemmas.List.{get_or_default}
use Rattle.std.proofs.lemmas.List.Elements.{All-get_or}
use Rattle.irr_number.specs.Number.{numbers}
use Rattle.irr_canonical.specs.RootSum.{IsRootSum}
use Rattle.irr_clifford.specs.Roots.{number_power}
use Rattle.irr_root.specs.RootSums.{IsSmall}
use Rattle.irr_root.proofs.LowerPowers.{power-small}
use Rattle.irr_root.proofs.RootLists.{item_of}
use Rattle.irr_root.proofs.Smalls.{is-true, not-true}
use Rattle.irr_root.proofs.solutions.first_root.Goals as goal

pub lower_power-requires-clause-small : goal.lower_power-requires-clause-small
lower_power-requires-clause-small g c =
    let value = g.S.Scalar.value in
    let small = IsSmall g.S.Scalar.order_of g.S.Scalar.value c.requires.small.0 48 in
    let r = c.r-item.result in
    let item : IsSmall g.S.Scalar.order_of g.S.Scalar.value c.requires.small.0 48 c.r-item.result =
    subst small (sym c.r-item.is) (All-get_or small c.args.candidates.now c.loop-r.r-index r c.loop-r-test.true c.requires.small.2) in
    record { has_order = refl; few = subst (λ u. IsRootSum u 48 1 (value u r)) (sym item.has_order) item.few }

pub is_solution-requires : goal.is_solution-requires
is_solution-requires g c =
    let value = g.S.Scalar.value in
    let n = c.requires.small.0 in
    let small = IsSmall g.S.Scalar.order_of g.S.Scalar.value c.requires.small.0 48 in
    let r = c.r-item.result in
    let x = c.in_ok-power.power in
    let item : IsSmall g.S.Scalar.order_of g.S.Scalar.value c.requires.small.0 48 c.r-item.result =
    subst small (sym c.r-item.is) (All-get_or small c.args.candidates.now c.loop-r.r-index r c.loop-r-test.true c.requires.small.2) in (
      n,
      c.requires.small.1,
      item,
      record {
        has_order = c.in_ok-power.ensures.order ∙ item.has_order;
        few = subst (IsRootSum n 2304 1) (sym (subst (λ u. value u x ≡ number_power (numbers u) (value u r) c.args.q) item.has_order c.in_ok-power.ensures.value))
            (power-small n c.args.q (value n r) c.requires.one_or_two item.few);
      },
      c.requires.small.3,
    )

pub returns-then-branch-clause-small : goal.returns-then-branch-clause-small
returns-then-branch-clause-small g c = λ n o.
    let order = g.S.Scalar.order_of in
    let value = g.S.Scalar.value in
    let small = IsSmall order value c.requires.small.0 48 in
    let r = c.r-item.result in
    let x = c.in_ok-found.found in
    let item = subst (λ u. IsSmall order value u 48 r) (sym c.requires.small.1.has_order ∙ o)
    (subst small (sym c.r-item.is) (All-get_or small c.args.candidates.now c.loop-r.r-index r c.loop-r-test.true c.requires.small.2)) in
    record {
      has_order = c.in_ok-found.ensures.order ∙ item.has_order;
      few = subst (IsRootSum n 48 1) (sym (subst (λ u. value u x ≡ value u r) item.has_order c.in_ok-found.ensures.value)) item.few;
    }

pub returns-then-branch-clause-solution : goal.returns-then-branch-clause-solution
returns-then-branch-clause-solution g c = λ n o.
    let order = g.S.Scalar.order_of in
    let value = g.S.Scalar.value in
    let small = IsSmall order value c.requires.small.0 48 in
    let r = c.r-item.result in
    let x = c.in_ok-found.found in
    let power = c.in_ok-power.power in
    let item = subst (λ u. IsSmall order value u 48 r) (sym c.requires.small.1.has_order ∙ o)
    (subst small (sym c.r-item.is) (All-get_or small c.args.candidates.now c.loop-r.r-index r c.loop-r-test.true c.requires.small.2)) in
    ap (λ y. (numbers n).mul (value n c.args.factor.now) ((numbers n).mul y (number_power (numbers n) y c.args.q)))
    (subst (λ u. value u x ≡ value u r) item.has_order c.in_ok-found.ensures.value)
    ∙ ap (λ y. (numbers n).mul (value n c.args.factor.now) ((numbers n).mul (value n r) y))
    (sym (subst (λ u. value u power ≡ number_power (numbers u) (value u r) c.args.q) item.has_order c.in_ok-power.ensures.value))
    ∙ (c.in_ok-is_solution.ensures n o).0 (is-true c.in_ok-is_solution.field-0 c.if-branch.true)

pub loop-r-preserved : goal.loop-r-preserved
loop-r-preserved g c = λ a l x is e.
    let order = g.S.Scalar.order_of in
    let n = g.S.Scalar.order_of c.args.factor.now in
    let value = g.S.Scalar.value in
    let small = IsSmall order value c.requires.small.0 48 in
    let r = c.r-item.result in
    let power = c.in_ok-power.power in
    elim (dec_le (suc a) c.loop-r.r-index) [
      | yes m ↦ c.loop-r.invariant a (omega (arith, m)) x is e
      | no m ↦
          let same : c.loop-r.r-index ≡ a = omega (arith, l, m) in
          let found = c.r-item.is ∙ get_or_default c.args.candidates.now c.loop-r.r-index c.r-item.result x c.loop-r-test.true
          ∙ ap (λ k. get_or c.args.candidates.now k x) same ∙ sym is in
          let item = subst (λ u. IsSmall order value u 48 r) (sym c.requires.small.1.has_order)
          (subst small (sym c.r-item.is) (All-get_or small c.args.candidates.now c.loop-r.r-index r c.loop-r-test.true c.requires.small.2)) in
          not-true c.in_ok-is_solution.field-0 c.if-branch.false ((c.in_ok-is_solution.ensures n (λ i. n)).1
          (ap (λ y. (numbers n).mul (value n c.args.factor.now) ((numbers n).mul (value n r) y))
          (subst (λ u. value u power ≡ number_power (numbers u) (value u r) c.args.q) item.has_order c.in_ok-power.ensures.value)
          ∙ ap (λ y. (numbers n).mul (value n c.args.factor.now) ((numbers n).mul (value n y) (number_power (numbers n) (value n y) c.args.q))) found ∙ e))
    ]

pub unreachable-requires : goal.unreachable-requires
unreachable-requires g c =
    let n = g.S.Scalar.order_of c.args.factor.now in
    let value = g.S.Scalar.value in
    let item = item_of (value n) c.args.candidates.now c.requires.exists.0 c.requires.exists.1 in
    let early : item.0 < c.loop-r.r-index = omega (arith, item.1, c.loop-r-test.false) in
    c.loop-r.invariant item.0 early item.2 item.3
    (ap (λ y. (numbers n).mul (value n c.args.factor.now) ((numbers n).mul y (number_power (numbers n) y c.args.q))) item.4 ∙ c.requires.exists.2)
