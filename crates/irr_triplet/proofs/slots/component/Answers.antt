use Rattle.irr_triplet.specs.WrittenTerms.{written_term}
use Rattle.irr_triplet.proofs.SlotReading.{read_all}
use Rattle.irr_triplet.proofs.slots.component.Goals as goal

pub returns-clause-component : goal.returns-clause-component
returns-clause-component c = read_all c.args.rest.place c.term.result.1.place c.later_terms.result.1.place c.args.rest.text.now c.term.result.1.text.now c.later_terms.result.1.text.now
    (written_term c.term.result.0) c.with_term.result c.later_terms.result.0 c.term.ensures.term c.with_term.ensures.with c.later_terms.ensures.terms
