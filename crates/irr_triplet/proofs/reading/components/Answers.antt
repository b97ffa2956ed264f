-- The text is read from left to right.
use Rattle.irr_triplet.proofs.TripletParting.{parts_of}
use Rattle.irr_triplet.proofs.reading.components.Goals as goal

pub returns-clause-parts : goal.returns-clause-parts
returns-clause-parts c = parts_of c.args.text.now c.opened.result.text.now c.component.result.1.text.now c.behind_comma.result.text.now c.component-2.result.1.text.now c.behind_comma-2.result.text.now
    c.component-3.result.1.text.now c.opened.result.place c.component.result.1.place c.behind_comma.result.place c.component-2.result.1.place c.behind_comma-2.result.place c.component-3.result.1.place
    (record { x = c.component.result.0; y = c.component-2.result.0; z = c.component-3.result.0 })
    c.opened.ensures.rest c.component.ensures.component c.behind_comma.ensures.rest c.component-2.ensures.component c.behind_comma-2.ensures.rest c.component-3.ensures.component
