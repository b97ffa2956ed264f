-- Text by text.
use Rattle.std.proofs.Common.{◌≡◌, ◌<◌, arith, length, refl, rules}
use Rattle.std.proofs.lemmas.Grind.{common_steps}
use Rattle.irr_report.specs.ValueTexts.{IsFaultOf}
use Rattle.irr_report.proofs.ValueLines.{to-none, to-more, stops-short, stops-fault, stops-long, all-read, all-pass}
use Rattle.irr_report.proofs.values.read_values.Goals as goal

pub loop-init : goal.loop-init
loop-init g c = λ earlier h. to-none g.S.Scalar.order_of g.S.Scalar.value c.args.order.now.n earlier c.args.count c.args.text.now c.new.result.items c.args.scale.now
    c.new.ensures.items h

pub loop-preserved : goal.loop-preserved
loop-preserved g c = λ earlier h. to-more g.S.Scalar.order_of g.S.Scalar.value c.args.order.now.n earlier c.args.count c.args.text.now c.loop.counter c.loop.rest.now
    c.loop.values.numbers.items c.loop.values.scale (c.loop.invariant earlier h) c.loop-test.true c.in-Some.word.now c.in-Some.behind.now
    c.in-Some.ensures.parts c.in-Some.ensures.word c.in-Some.ensures.behind c.in_ok-values.values.numbers.items c.in_ok-values.values.scale
    c.in_ok-values.ensures.value c.in_ok-values.ensures.more

pub returns-in_default-clause-fault : goal.returns-in_default-clause-fault
returns-in_default-clause-fault g c = record {
  fault = λ earlier h. stops-short g.S.Scalar.order_of g.S.Scalar.value c.args.order.now.n earlier c.args.count c.args.text.now c.loop.counter
      c.loop.rest.now c.loop.values.numbers.items c.loop.values.scale (c.loop.invariant earlier h) c.loop-test.true (c.in_default.ensures.none refl);
}

pub returns-in_err-values-clause-fault : goal.returns-in_err-values-clause-fault
returns-in_err-values-clause-fault g c = let made : IsFaultOf c.args.order.now.n c.args.count c.args.scale.now c.args.text.now c.in_err-values.field-0.0 = record {
  fault = λ earlier h. stops-fault g.S.Scalar.order_of g.S.Scalar.value c.args.order.now.n earlier c.args.count c.args.text.now c.loop.counter
      c.loop.rest.now c.loop.values.numbers.items c.loop.values.scale (c.loop.invariant earlier h) c.loop-test.true c.in-Some.word.now c.in-Some.behind.now
      c.in-Some.ensures.parts c.in-Some.ensures.word c.in-Some.ensures.behind c.in_err-values.field-0.0 c.in_err-values.ensures.fault;
} in search rules

pub returns-then-not-is_empty-clause-fault : goal.returns-then-not-is_empty-clause-fault
returns-then-not-is_empty-clause-fault g c =
    let done : c.loop.counter ≡ c.args.count = omega (arith, c.loop.auto.counter-end, c.loop-test.false) in
    let some : 0 < length c.loop.rest.now = grind (arith, common_steps) in
    record {
      fault = λ earlier h. stops-long g.S.Scalar.order_of g.S.Scalar.value c.args.order.now.n earlier c.args.count c.args.text.now c.loop.counter
          c.loop.rest.now c.loop.values.numbers.items c.loop.values.scale (c.loop.invariant earlier h) done some;
    }

pub returns-in_default-scale-clause-fault : goal.returns-in_default-scale-clause-fault
returns-in_default-scale-clause-fault g c =
    let done : c.loop.counter ≡ c.args.count = omega (arith, c.loop.auto.counter-end, c.loop-test.false) in
    let end : length c.loop.rest.now ≡ 0 = grind (arith, common_steps) in
    record {
      fault = λ earlier h. all-pass g.S.Scalar.order_of g.S.Scalar.value c.args.order.now.n earlier c.args.count c.args.text.now c.loop.counter
          c.loop.rest.now c.loop.values.numbers.items c.loop.values.scale (c.loop.invariant earlier h) done end c.in_default-scale.is;
    }

pub returns-clause-read : goal.returns-clause-read
returns-clause-read g c =
    let done : c.loop.counter ≡ c.args.count = omega (arith, c.loop.auto.counter-end, c.loop-test.false) in
    let end : length c.loop.rest.now ≡ 0 = grind (arith, common_steps) in
    λ earlier h. all-read g.S.Scalar.order_of g.S.Scalar.value c.args.order.now.n earlier c.args.count c.args.text.now c.loop.counter
    c.loop.rest.now c.loop.values.numbers.items c.loop.values.scale (c.loop.invariant earlier h) done end c.in-Some-scale.joined c.in-Some-scale.is
