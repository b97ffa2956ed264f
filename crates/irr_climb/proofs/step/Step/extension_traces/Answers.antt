-- The traces of an extension by their choice.
use Rattle.irr_climb.specs.Steps.{small}
use Rattle.irr_climb.proofs.ExtensionFrom.{few_members, few_rows}
use Rattle.irr_climb.proofs.MemberTraces.{traces_fit}
use Rattle.irr_climb.proofs.StepChoice.{choice_asks, choice_gives}
use Rattle.irr_climb.proofs.step.Step.extension_traces.Goals as goal

pub choose-requires-clause-family : goal.choose-requires-clause-family
choose-requires-clause-family g c =
    let r = c.requires in choice_asks r.1 r.3 c.args.family.now r.4 c.as_slice.result.now c.as_slice.ensures.value

pub choose-requires-clause-sizes : goal.choose-requires-clause-sizes
choose-requires-clause-sizes g c =
    let r = c.requires in
    let step = c.args.self.now in
    traces_fit (λ x. g.met.S.Scalar.admitted_limited (g.S.Scalar.order_of x) (g.met.S.Scalar.order_admitted x)) r.0 (small r.1)
    step.inner.places_within r.3 (few_rows r.2 (small r.1).places r.4.few (few_members r.1 step.outer.places_within)) c.args.family.now r.4.read
    r.4.sized

pub returns : goal.returns
returns g c M is d D fixed =
    choice_gives is D c.args.family.now fixed c.as_slice.result.now c.in_ok-traces.traces.items c.as_slice.ensures.value c.in_ok-traces.ensures
