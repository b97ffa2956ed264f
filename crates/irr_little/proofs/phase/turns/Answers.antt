use Rattle.std.proofs.Common.{sym, ◌∙◌, ap, ap₂, subst, ◌*◌, pos, ◌*ℤ◌}
use Rattle.std.specs.Int.{w128}
use Rattle.std.proofs.lemmas.Int.{to_z-of_z}
use Rattle.irr_rational.specs.Integer.{integer}
use Rattle.irr_rational.specs.Rational.{rationals, ratio, IsWhole}
use Rattle.irr_little.proofs.Phases.{turns_value}
use Rattle.irr_little.proofs.phase.turns.Goals as goal

pub quotient-requires-clause-whole : goal.quotient-requires-clause-whole
quotient-requires-clause-whole c = subst IsWhole (sym (ap₂ ratio (to_z-of_z w128 c.multiple.result (record { sfits = c.multiple.type_inv }))
    (ap₂ ◌*◌ c.from.ensures c.from-2.ensures)
    ∙ turns_value c.args.n c.args.w.now.num c.args.v.now.num c.args.w.now.den c.args.v.now.den c.product.result c.multiple.result
    c.args.w.now.lowest.positive c.args.v.now.lowest.positive
    c.product.ensures.value (c.multiple.ensures.value ∙ ap (λ x. pos c.args.n *ℤ x) (to_z-of_z w128 c.product.result
    (record { sfits = c.product.type_inv }))))) c.requires.whole

pub returns-clause-value : goal.returns-clause-value
returns-clause-value c = sym (ap (integer rationals) (to_z-of_z w128 c.quotient.result (record { sfits = c.quotient.type_inv }))
    ∙ c.quotient.ensures.value
    ∙ ap₂ ratio (to_z-of_z w128 c.multiple.result (record { sfits = c.multiple.type_inv })) (ap₂ ◌*◌ c.from.ensures c.from-2.ensures)
    ∙ turns_value c.args.n c.args.w.now.num c.args.v.now.num c.args.w.now.den c.args.v.now.den c.product.result c.multiple.result
    c.args.w.now.lowest.positive c.args.v.now.lowest.positive
    c.product.ensures.value (c.multiple.ensures.value ∙ ap (λ x. pos c.args.n *ℤ x) (to_z-of_z w128 c.product.result
    (record { sfits = c.product.type_inv }))))
