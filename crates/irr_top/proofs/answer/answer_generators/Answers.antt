-- What a task is answered, where the generators are known.
use Rattle.std.proofs.Common.{sym, ◌∙◌, refl}
use Rattle.irr_top.specs.Asked.AsksOfGenerators.{refused, group}
use Rattle.irr_top.specs.Outcome.Serves.{serves, without_memory}
use Rattle.irr_top.specs.GroupOf.{IsGroupOf}
use Rattle.irr_top.proofs.Numerators.{readable_generators, readable_unimodular}
use Rattle.irr_top.proofs.Outcomes.{serves_more}
use Rattle.irr_top.proofs.answer.answer_generators.Goals as goal

pub close-requires-clause-generators : goal.close-requires-clause-generators
close-requires-clause-generators g c = readable_generators c.args.gens.now c.requires.readable

pub close-requires-clause-unimodular : goal.close-requires-clause-unimodular
close-requires-clause-unimodular g c = readable_unimodular c.args.gens.now c.requires.readable

pub answer_group-requires-clause-group : goal.answer_group-requires-clause-group
answer_group-requires-clause-group g c = (
  c.args.gens.now,
  record { readable = c.requires.readable; stands = c.in-Ok.ensures.group; phase = c.in-Ok.ensures.phase },
)

pub returns-in-Ok : goal.returns-in-Ok
returns-in-Ok g c =
    let is : IsGroupOf c.in-Ok.group c.args.gens.now = record {
      readable = c.requires.readable;
      stands = c.in-Ok.ensures.group;
      phase = c.in-Ok.ensures.phase;
    } in
    serves_more (λ s text a. group c.in-Ok.ensures.accepted a) (c.answer_group.ensures c.args.gens.now is)

pub returns-in-Some : goal.returns-in-Some
returns-in-Some g c = serves (refused c.in-Err.error (sym c.limit_of.ensures ∙ c.in-Some.is) c.in-Err.ensures.refused) c.refuse.ensures

pub returns-in-None : goal.returns-in-None
returns-in-None g c = without_memory refl
