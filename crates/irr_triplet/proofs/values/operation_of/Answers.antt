use Rattle.std.proofs.Common.{◌∙◌, ap}
use Rattle.irr_algebra.specs.Fin.Fin.{first, next}
use Rattle.irr_space.specs.Operation.{component}
use Rattle.irr_seitz.specs.OperationMeaning.{operation}
use Rattle.irr_triplet.proofs.TripletRows.{rows_of}
use Rattle.irr_triplet.proofs.values.operation_of.Goals as goal

pub returns-clause-rows : goal.returns-clause-rows
returns-clause-rows c =
    let x = c.args.x in
    let y = c.args.y in
    let z = c.args.z in
    let same = c.with_vector.ensures.vector in
    let parts = c.in_ok-shift.ensures.components in
    rows_of (operation c.with_vector.result) x.x x.y x.z y.x y.y y.z z.x z.y z.z x.shift.num y.shift.num z.shift.num x.shift.den y.shift.den z.shift.den c.with_vector.ensures.rotation
    (ap (λ v. component v first) same ∙ parts.0) (ap (λ v. component v (next first)) same ∙ parts.1) (ap (λ v. component v (next (next first))) same ∙ parts.2)
