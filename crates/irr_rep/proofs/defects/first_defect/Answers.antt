-- The first defect.
use Rattle.std.proofs.Common.{◌≡◌, ◌<◌, inl, inr, subst, sym, Contains, rules}
use Rattle.irr_algebra.specs.Fin.{Fin, to_nat}
use Rattle.irr_algebra.proofs.Indices.{from_nat, to_nat-from_nat, to_nat-lt}
use Rattle.irr_rep.specs.Defects.{IsFirstFailure, Multiplies, MultipliesBy}
use Rattle.irr_rep.proofs.CommonDenominators.{checkable_multiples, divisor_limited, divisor_positive, family_order, multiplies-from, multiplies-to}
use Rattle.irr_rep.specs.Twisted.{place_count, phase_table}
use Rattle.irr_rep.proofs.Generating.{all_rows}
use Rattle.irr_rep.proofs.WrongPairs.{before_next, failure-map, is-true, no_unit, not-true, right_all, row_right, wrong_pair}
use Rattle.irr_rep.proofs.defects.first_defect.Goals as goal

pub common_denominator-requires : goal.common_denominator-requires
common_denominator-requires g c = (c.requires.n, place_count c.args.t.now, c.requires.denominator, c.requires.limits)

pub multiples-requires : goal.multiples-requires
multiples-requires g c =
    let p = c.requires in
    let h = place_count c.args.t.now in
    (p.n, h, p.denominator, p.limits, c.in_ok-number.ensures p.n h p.denominator p.limits)

pub rows_multiply-requires-clause-checkable : goal.rows_multiply-requires-clause-checkable
rows_multiply-requires-clause-checkable g c =
    let f = c.args.f.now in
    let p = c.requires in
    let h = place_count c.args.t.now in
    checkable_multiples (phase_table c.args.t.now) f.dim c.in_ok-number.number f.mats.items c.in_ok-mats.mats.items p
    (c.in_ok-number.ensures p.n h p.denominator p.limits) (c.in_ok-mats.ensures p.n h p.denominator p.limits)

pub rows_multiply-requires-clause-positive : goal.rows_multiply-requires-clause-positive
rows_multiply-requires-clause-positive g c =
    let f = c.args.f.now in
    let p = c.requires in
    let h = place_count c.args.t.now in
    divisor_positive p.n h f.dim p.denominator c.in_ok-number.number f.mats.items p.limits (phase_table c.args.t.now).start
    (c.in_ok-number.ensures p.n h p.denominator p.limits)

pub rows_multiply-requires-clause-limited : goal.rows_multiply-requires-clause-limited
rows_multiply-requires-clause-limited g c =
    let f = c.args.f.now in
    let p = c.requires in
    let h = place_count c.args.t.now in
    divisor_limited p.n h f.dim p.denominator c.in_ok-number.number f.mats.items p.limits (phase_table c.args.t.now).start
    (c.in_ok-number.ensures p.n h p.denominator p.limits)

pub returns-then-branch : goal.returns-then-branch
returns-then-branch g c p =
    let f = c.args.f.now in
    let T = phase_table c.args.t.now in
    let h = place_count c.args.t.now in
    let q = c.in_ok-number.number in
    let mats = c.in_ok-mats.mats.items in
    let places = c.in_ok-places.places.items in
    let v = c.in_ok-number.ensures p.n h p.denominator p.limits in
    let are = c.in_ok-mats.ensures p.n h p.denominator p.limits in
    let some = divisor_positive p.n h f.dim p.denominator q f.mats.items p.limits T.start v in
    let positive = family_order (λ u. 0 < u) (λ x. g.met.S.Scalar.admitted_positive (g.S.Scalar.order_of x) (g.met.S.Scalar.order_admitted x))
    p.n h f.dim f.mats.items p.limits.shape c.args.t.now.not_empty in
    let unit = (c.in_ok-has_unit.ensures p).0 (is-true c.in_ok-has_unit.field-0 c.if-not-branch.false) in
    let rows : (a b : Fin h) → Contains places (to_nat a) → MultipliesBy T p.n p.divides f.dim mats q a b =
    subst (λ xs. (a b : Fin h) → Contains xs (to_nat a) → MultipliesBy T p.n p.divides f.dim mats q a b) c.as_slice.ensures.value
    ((c.in_ok-rows_multiply.ensures (checkable_multiples T f.dim q f.mats.items mats p v are)).0
    (is-true c.in_ok-rows_multiply.field-0 c.if-branch.true)) in
    right_all T p.n p.divides f.dim f.mats.items unit
    (all_rows T p.n p.divides f.dim f.mats.items places c.in_ok-places.ensures.generate unit
    (λ a inside b. multiplies-to T p.n p.divides f.dim q f.mats.items mats positive some are a b (rows a b inside)))

pub first_wrong-requires-clause-checkable : goal.first_wrong-requires-clause-checkable
first_wrong-requires-clause-checkable g c =
    let f = c.args.f.now in
    let p = c.requires in
    let h = place_count c.args.t.now in
    checkable_multiples (phase_table c.args.t.now) f.dim c.in_ok-number.number f.mats.items c.in_ok-mats.mats.items p
    (c.in_ok-number.ensures p.n h p.denominator p.limits) (c.in_ok-mats.ensures p.n h p.denominator p.limits)

pub first_wrong-requires-clause-positive : goal.first_wrong-requires-clause-positive
first_wrong-requires-clause-positive g c =
    let f = c.args.f.now in
    let p = c.requires in
    let h = place_count c.args.t.now in
    divisor_positive p.n h f.dim p.denominator c.in_ok-number.number f.mats.items p.limits (phase_table c.args.t.now).start
    (c.in_ok-number.ensures p.n h p.denominator p.limits)

pub first_wrong-requires-clause-limited : goal.first_wrong-requires-clause-limited
first_wrong-requires-clause-limited g c =
    let f = c.args.f.now in
    let p = c.requires in
    let h = place_count c.args.t.now in
    divisor_limited p.n h f.dim p.denominator c.in_ok-number.number f.mats.items p.limits (phase_table c.args.t.now).start
    (c.in_ok-number.ensures p.n h p.denominator p.limits)

pub returns-then-not-branch : goal.returns-then-not-branch
returns-then-not-branch g c p =
    let f = c.args.f.now in
    no_unit (phase_table c.args.t.now) p.n p.divides f.dim f.mats.items
    (λ e. not-true c.in_ok-has_unit.field-0 c.if-not-branch.true ((c.in_ok-has_unit.ensures p).1 e))

pub returns-in-Some : goal.returns-in-Some
returns-in-Some g c p =
    let f = c.args.f.now in
    let T = phase_table c.args.t.now in
    let h = place_count c.args.t.now in
    let q = c.in_ok-number.number in
    let mats = c.in_ok-mats.mats.items in
    let v = c.in_ok-number.ensures p.n h p.denominator p.limits in
    let are = c.in_ok-mats.ensures p.n h p.denominator p.limits in
    let some = divisor_positive p.n h f.dim p.denominator q f.mats.items p.limits T.start v in
    let positive = family_order (λ u. 0 < u) (λ x. g.met.S.Scalar.admitted_positive (g.S.Scalar.order_of x) (g.met.S.Scalar.order_admitted x))
    p.n h f.dim f.mats.items p.limits.shape c.args.t.now.not_empty in
    let l : c.loop-i.i < h = search rules in
    let a = from_nat h c.loop-i.i l in
    let e = to_nat-from_nat h c.loop-i.i l in
    wrong_pair (phase_table c.args.t.now) p.n p.divides f.dim f.mats.items
    ((c.in_ok-has_unit.ensures p).0 (is-true c.in_ok-has_unit.field-0 c.if-not-branch.false)) a c.loop-i.i c.in-Some.j e
    (subst (IsFirstFailure (Multiplies T p.n p.divides f.dim f.mats.items a)) c.in-Some.is
    (failure-map (MultipliesBy T p.n p.divides f.dim mats q a) (Multiplies T p.n p.divides f.dim f.mats.items a) c.in_ok-j.field-0
    (multiplies-to T p.n p.divides f.dim q f.mats.items mats positive some are a)
    (multiplies-from T p.n p.divides f.dim q f.mats.items mats positive some are a)
    (c.in_ok-j.ensures (checkable_multiples T f.dim q f.mats.items mats p v are) a e)))
    (λ b q. c.loop-i.invariant p b q)

pub loop-i-preserved : goal.loop-i-preserved
loop-i-preserved g c p a b l =
    let f = c.args.f.now in
    let T = phase_table c.args.t.now in
    let h = place_count c.args.t.now in
    let q = c.in_ok-number.number in
    let mats = c.in_ok-mats.mats.items in
    let v = c.in_ok-number.ensures p.n h p.denominator p.limits in
    let are = c.in_ok-mats.ensures p.n h p.denominator p.limits in
    let some = divisor_positive p.n h f.dim p.denominator q f.mats.items p.limits T.start v in
    let positive = family_order (λ u. 0 < u) (λ x. g.met.S.Scalar.admitted_positive (g.S.Scalar.order_of x) (g.met.S.Scalar.order_admitted x))
    p.n h f.dim f.mats.items p.limits.shape c.args.t.now.not_empty in
    elim (before_next (to_nat a) c.loop-i.i l) [
      | inl less ↦ c.loop-i.invariant p a b less
      | inr e ↦ multiplies-to T p.n p.divides f.dim q f.mats.items mats positive some are a b
          (row_right (MultipliesBy T p.n p.divides f.dim mats q a)
          (subst (IsFirstFailure (MultipliesBy T p.n p.divides f.dim mats q a)) c.in_default.is
          (c.in_ok-j.ensures (checkable_multiples T f.dim q f.mats.items mats p v are) a e)) b)
    ]

pub returns : goal.returns
returns g c p =
    let f = c.args.f.now in
    let done : c.loop-i.i ≡ place_count c.args.t.now = search rules in
    right_all (phase_table c.args.t.now) p.n p.divides f.dim f.mats.items
    ((c.in_ok-has_unit.ensures p).0 (is-true c.in_ok-has_unit.field-0 c.if-not-branch.false))
    (λ i j. c.loop-i.invariant p i j (subst (λ k. to_nat i < k) (sym done) (to_nat-lt i)))
