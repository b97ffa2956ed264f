-- One more dimension.
use Rattle.std.proofs.Common.{◌∙◌, ap, ap₂, sym, ℕ, List, [], ◌∷◌, ◌++◌, map}
use Rattle.std.proofs.lemmas.List.{map_more, take_all}
use Rattle.irr_rep.specs.declared.family.Family.{Family}
use Rattle.irr_top.proofs.made.dimensions.Goals as goal

pub loop-family-preserved : goal.loop-family-preserved
loop-family-preserved g c = c.in_ok-push.ensures.items
    ∙ ap₂ (λ (ds : List ℕ) (d : ℕ). ds ++ d ∷ []) c.loop-family.invariant
    (ap (λ (f : Family g.row.S.Denot g.S.Scalar). f.dim) c.family-item.is)
    ∙ sym (map_more (λ (f : Family g.row.S.Denot g.S.Scalar). f.dim) c.args.families.now c.loop-family.family-index
    c.family-item.result c.loop-family-test.true)

pub returns : goal.returns
returns g c = c.loop-family.invariant
    ∙ ap (map (λ (f : Family g.row.S.Denot g.S.Scalar). f.dim)) (take_all c.loop-family.family-index c.args.families.now c.loop-family-test.false)
