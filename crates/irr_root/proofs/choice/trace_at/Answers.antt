-- The trace of the extension solves the equation, and is a candidate.
use Rattle.std.proofs.Common.{◌≡◌, ◌∙◌, ap, refl, sym, subst, ℕ, true, map, Contains, rules}
use Rattle.irr_algebra.proofs.Rings.{ring_laws}
use Rattle.irr_number.specs.Number.{Number, numbers}
use Rattle.irr_root.proofs.Smalls.{is-true}
use Rattle.irr_root.specs.RootSums.{AreSmall}
use Rattle.irr_root.proofs.ChoiceLaws.{coset-lt, numbered, own-character, positions-below, solution-exists, trace-of}
use Rattle.irr_root.proofs.choice.trace_at.Goals as goal

pub target-requires-clause-left : goal.target-requires-clause-left
target-requires-clause-left g c = let e = c.requires.extension in coset-lt e.0 e.1 c.args.x e.2

pub target-requires-clause-right : goal.target-requires-clause-right
target-requires-clause-right g c = let e = c.requires.extension in coset-lt e.0 e.3 c.args.y e.4

nothing : (n : ℕ) (f s p : Number n) → s ≡ (numbers n).zero → (numbers n).mul f ((numbers n).mul s p) ≡ s
nothing n f s p e =
    let none : (numbers n).mul f ((numbers n).mul (numbers n).zero p) ≡ (numbers n).zero = simp (ring_laws, numbers n) in
    ap (λ x. (numbers n).mul f ((numbers n).mul x p)) e ∙ none ∙ sym e

pub returns-then-is_zero-clause-order : goal.returns-then-is_zero-clause-order
returns-then-is_zero-clause-order g c = c.in_ok-sum.ensures.small.has_order

pub returns-then-is_zero-clause-trace : goal.returns-then-is_zero-clause-trace
returns-then-is_zero-clause-trace g c d n m s en em ew =
    let N = c.args.order.now.n in
    let value = g.S.Scalar.value in
    let is : value N c.in_ok-sum.sum ≡ (numbers N).zero = subst (λ u. value u c.in_ok-sum.sum ≡ (numbers u).zero)
    c.in_ok-sum.ensures.small.has_order
    (c.is_zero.ensures.zero.0 (is-true c.is_zero.result (let e : c.is_zero.result ≡ true = search rules in e))) in
    trace-of d n m s (value N c.args.factor.now) (value N c.args.power.now) (value N c.in_ok-sum.sum) (value N c.in_ok-sum.sum)
    c.requires.factor_power ew (c.in_ok-sum.ensures.target d n m en em)
    (nothing N (value N c.args.factor.now) (value N c.in_ok-sum.sum) (value N c.args.power.now) is)

pub trace_candidates-requires-clause-positions : goal.trace_candidates-requires-clause-positions
trace_candidates-requires-clause-positions g c = positions-below c.requires.choice

pub trace_candidates-requires-clause-character : goal.trace_candidates-requires-clause-character
trace_candidates-requires-clause-character g c = own-character c.requires.choice

pub trace_candidates-requires-clause-place : goal.trace_candidates-requires-clause-place
trace_candidates-requires-clause-place g c = let e = c.requires.extension in coset-lt e.0 e.1 c.args.x e.2

pub first_solution-requires-clause-small : goal.first_solution-requires-clause-small
first_solution-requires-clause-small g c = (
  c.args.order.now.n,
  c.requires.factor,
  subst (AreSmall g.S.Scalar.order_of g.S.Scalar.value c.args.order.now.n 48) (sym c.as_slice.ensures.value) c.in_ok-candidates.ensures.small,
  c.requires.power,
  c.in_ok-sum.ensures.small,
)

pub first_solution-requires-clause-exists : goal.first_solution-requires-clause-exists
first_solution-requires-clause-exists g c =
    let N = c.args.order.now.n in
    let value = g.S.Scalar.value in
    let e = c.requires.extension in
    let d = e.0 in
    let n = e.1 in
    let m = e.3 in
    let u = e.5 in
    subst (λ n. (r : Number n) × Contains (map (value n) c.as_slice.result.now) r
    × ((numbers n).mul (value n c.args.factor.now) ((numbers n).mul r (value n c.args.power.now))
    ≡ value n c.in_ok-sum.sum)) (sym c.requires.factor.has_order) (
      u n,
      subst (λ xs. Contains (map (value N) xs) (u n)) (sym c.as_slice.ensures.value)
          (c.in_ok-candidates.ensures.traces c.args.members.now c.args.g N d.step (numbered d) c.args.rows d.family d.traces refl u e.6 n e.2),
      solution-exists d u e.6 n m (value N c.args.factor.now) (value N c.args.power.now) (value N c.in_ok-sum.sum) c.requires.factor_power e.7
          (c.in_ok-sum.ensures.target d n m e.2 e.4),
    )

pub returns-clause-order : goal.returns-clause-order
returns-clause-order g c = (c.in_ok-solution.ensures.small c.args.order.now.n c.requires.factor.has_order).has_order

pub returns-clause-trace : goal.returns-clause-trace
returns-clause-trace g c d n m s en em ew =
    let N = c.args.order.now.n in
    let value = g.S.Scalar.value in
    trace-of d n m s (value N c.args.factor.now) (value N c.args.power.now) (value N c.in_ok-solution.solution)
    (value N c.in_ok-sum.sum) c.requires.factor_power ew
    (c.in_ok-sum.ensures.target d n m en em) (c.in_ok-solution.ensures.solution N c.requires.factor.has_order)
