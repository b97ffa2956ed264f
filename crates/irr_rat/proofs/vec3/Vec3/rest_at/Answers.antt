use Rattle.std.proofs.Common.{◌∙◌, ap₂, pos, get_or, FitsSigned, rules}
use Rattle.std.specs.Int.{w64, int_rem_euclid}
use Rattle.std.proofs.lemmas.Int.{to_z-of_z}
use Rattle.irr_rat.proofs.vec3.Vec3.rest_at.Goals as goal

pub returns : goal.returns
returns c =
    let f : FitsSigned w64 (get_or c.args.self.now.num c.args.i (pos 0)) = search rules in
    to_z-of_z w64 c.rem_euclid.result (record { sfits = c.rem_euclid.type_inv }) ∙ c.rem_euclid.ensures.value
    ∙ ap₂ int_rem_euclid (to_z-of_z w64 _ f) (to_z-of_z w64 c.from.result (record { sfits = c.from.type_inv }) ∙ c.from.ensures)
