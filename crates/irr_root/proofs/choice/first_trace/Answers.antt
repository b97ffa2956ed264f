-- The trace of some extension solves the equation, and is a candidate.
use Rattle.std.proofs.Common.{◌≡◌, refl, sym, subst, map, ◌-◌, Contains}
use Rattle.irr_number.specs.Number.{Number, numbers}
use Rattle.irr_clifford.specs.Roots.{number_power}
use Rattle.irr_root.specs.RootSums.{AreSmall}
use Rattle.irr_root.proofs.ChoiceLaws.{coset-lt, numbered, one-or-two, own-character, positions-below, solution-exists, some-extension, trace-of}
use Rattle.irr_root.proofs.choice.first_trace.Goals as goal

pub target-requires-clause-left : goal.target-requires-clause-left
target-requires-clause-left g c = coset-lt c.requires.place.0 c.requires.place.1 c.args.y c.requires.place.2

pub target-requires-clause-right : goal.target-requires-clause-right
target-requires-clause-right g c = coset-lt c.requires.place.0 c.requires.place.1 c.args.y c.requires.place.2

pub trace_candidates-requires-clause-positions : goal.trace_candidates-requires-clause-positions
trace_candidates-requires-clause-positions g c = positions-below c.requires.choice

pub trace_candidates-requires-clause-character : goal.trace_candidates-requires-clause-character
trace_candidates-requires-clause-character g c = own-character c.requires.choice

pub trace_candidates-requires-clause-place : goal.trace_candidates-requires-clause-place
trace_candidates-requires-clause-place g c = coset-lt c.requires.place.0 c.requires.place.1 c.args.y c.requires.place.2

pub first_root-requires-clause-one_or_two : goal.first_root-requires-clause-one_or_two
first_root-requires-clause-one_or_two g c = one-or-two c.requires.choice

pub first_root-requires-clause-small : goal.first_root-requires-clause-small
first_root-requires-clause-small g c = (
  c.args.order.now.n,
  c.requires.factor,
  subst (AreSmall g.S.Scalar.order_of g.S.Scalar.value c.args.order.now.n 48) (sym c.as_slice.ensures.value) c.in_ok-candidates.ensures.small,
  c.in_ok-sum.ensures.small,
)

pub first_root-requires-clause-exists : goal.first_root-requires-clause-exists
first_root-requires-clause-exists g c =
    let N = c.args.order.now.n in
    let value = g.S.Scalar.value in
    let d = c.requires.place.0 in
    let m = c.requires.place.1 in
    let em = c.requires.place.2 in
    let u = some-extension d in
    subst (λ n. (r : Number n) × Contains (map (value n) c.as_slice.result.now) r
    × ((numbers n).mul (value n c.args.factor.now) ((numbers n).mul r (number_power (numbers n) r (c.args.p - 1)))
    ≡ value n c.in_ok-sum.sum)) (sym c.requires.factor.has_order) (
      u.0 m,
      subst (λ xs. Contains (map (value N) xs) (u.0 m)) (sym c.as_slice.ensures.value)
          (c.in_ok-candidates.ensures.traces c.args.members.now c.args.g N d.step (numbered d) c.args.rows d.family d.traces refl u.0 u.1 m em),
      solution-exists d u.0 u.1 m m (value N c.args.factor.now) (number_power (numbers N) (u.0 m) (c.args.p - 1))
          (value N c.in_ok-sum.sum) c.requires.power refl
          (c.in_ok-sum.ensures.target d m m em em),
    )

pub returns-clause-small : goal.returns-clause-small
returns-clause-small g c = c.in_ok-root.ensures.small c.args.order.now.n c.requires.factor.has_order

pub returns-clause-trace : goal.returns-clause-trace
returns-clause-trace g c d m em =
    let N = c.args.order.now.n in
    let value = g.S.Scalar.value in
    let r = value N c.in_ok-root.root in
    trace-of d m m r (value N c.args.factor.now) (number_power (numbers N) r (c.args.p - 1)) r (value N c.in_ok-sum.sum) c.requires.power refl
    (c.in_ok-sum.ensures.target d m m em em) (c.in_ok-root.ensures.solution N c.requires.factor.has_order)
