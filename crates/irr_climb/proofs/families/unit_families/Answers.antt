-- One family of one matrix.
use Rattle.std.proofs.Common.{◌≡◌, ◌∙◌, ap, refl, ◌++◌, ◌∷◌, []}
use Rattle.irr_rep.specs.declared.family.Family.{Family}
use Rattle.irr_climb.proofs.UnitList.{unit_on}
use Rattle.irr_climb.proofs.families.unit_families.Goals as goal

pub returns : goal.returns
returns g c h T =
    let unit = c.in_ok-unit.unit in
    let f : Family g.row.S.Denot g.S.Scalar = record { dim = 1; mats = c.push.new.self } in
    unit_on c.args.order.now.n f unit refl (c.in_ok-push.ensures.items ∙ ap (λ zs. zs ++ unit ∷ []) c.new-mats.ensures.items)
    c.in_ok-unit.ensures.rows c.in_ok-unit.ensures.cols c.in_ok-unit.ensures.order c.in_ok-unit.ensures.value T c.push-2.new.self.items
    (c.in_ok-push-2.ensures.items ∙ ap (λ zs. zs ++ f ∷ []) c.new-families.ensures.items)
