use Rattle.std.proofs.Common.{sym, ◌∙◌, ap, subst, get_or, arith}
use Rattle.std.specs.Int.{◌∣◌}
use Rattle.std.proofs.lemmas.List.{get_or_default}
use Rattle.irr_algebra.specs.Matrix.{◌⊖◌}
use Rattle.irr_space.specs.Operation.{Vector, ◌⊙◌}
use Rattle.irr_space.specs.CanonicalOperation.{IsInCell}
use Rattle.irr_rat.specs.VectorMeaning.{vector}
use Rattle.irr_seitz.specs.OperationMeaning.{operation}
use Rattle.irr_seitz.specs.declared.op.Op.{Op}
use Rattle.irr_close.specs.Whole.{IsWholeVector}
use Rattle.irr_close.proofs.Lattice.{divisor_small, lcm_small, quotient_whole}
use Rattle.irr_close.proofs.centring.quotient.Goals as goal

pub product-made-requires-clause-small : goal.product-made-requires-clause-small
product-made-requires-clause-small c = divisor_small c.args.op.now.den c.requires.denominator.common c.requires.denominator.positive
    c.requires.denominator.small c.requires.denominator.op_divides

pub product-made-requires-clause-denominator : goal.product-made-requires-clause-denominator
product-made-requires-clause-denominator c = λ m h. lcm_small c.args.op.now.den c.args.factor.now.den c.requires.denominator.common m
    c.requires.denominator.positive c.requires.denominator.small
    c.requires.denominator.op_divides (c.requires.denominator.factors_divide 0 c.args.factor.now (omega arith)) h

pub difference-requires-clause-small : goal.difference-requires-clause-small
difference-requires-clause-small c = divisor_small c.shift.result.den c.requires.denominator.common c.requires.denominator.positive
    c.requires.denominator.small
    (subst (λ n. n ∣ c.requires.denominator.common) (sym c.shift.ensures.denominator)
    (c.product-made.ensures.divides c.requires.denominator.common c.requires.denominator.positive c.requires.denominator.op_divides
    (c.requires.denominator.factors_divide 0 c.args.factor.now (omega arith))))

pub difference-requires-clause-other_small : goal.difference-requires-clause-other_small
difference-requires-clause-other_small c = divisor_small c.shift-in-Some.result.den c.requires.denominator.common c.requires.denominator.positive
    c.requires.denominator.small
    (subst (λ n. n ∣ c.requires.denominator.common) (sym (c.shift-in-Some.ensures.denominator ∙ ap (λ (g : Op). g.den) c.index-kept-k.is))
    (c.requires.denominator.kept_divide c.in-Some.k c.index-kept-k.result c.in-Some.ensures.within))

pub difference-requires-clause-denominator : goal.difference-requires-clause-denominator
difference-requires-clause-denominator c = λ m h. lcm_small c.shift.result.den c.shift-in-Some.result.den c.requires.denominator.common m
    c.requires.denominator.positive c.requires.denominator.small
    (subst (λ n. n ∣ c.requires.denominator.common) (sym c.shift.ensures.denominator)
    (c.product-made.ensures.divides c.requires.denominator.common c.requires.denominator.positive c.requires.denominator.op_divides
    (c.requires.denominator.factors_divide 0 c.args.factor.now (omega arith))))
    (subst (λ n. n ∣ c.requires.denominator.common) (sym (c.shift-in-Some.ensures.denominator ∙ ap (λ (g : Op). g.den) c.index-kept-k.is))
    (c.requires.denominator.kept_divide c.in-Some.k c.index-kept-k.result c.in-Some.ensures.within)) h

pub difference-requires-clause-other_in_cell : goal.difference-requires-clause-other_in_cell
difference-requires-clause-other_in_cell c = subst IsInCell
    (sym (c.shift-in-Some.ensures.vector ∙ ap (λ (g : Op). (operation g).vector) c.index-kept-k.is))
    (c.requires.kept c.in-Some.k c.index-kept-k.result c.in-Some.ensures.within).in_cell

pub returns-clause-is : goal.returns-clause-is
returns-clause-is c = (
  c.in-Some.k,
  c.in-Some.ensures.within,
  λ d. (
    c.in-Some.ensures.found d ∙ c.product-made.ensures.rotation,
    quotient_whole (operation c.args.op.now ⊙ operation c.args.factor.now).vector (operation c.product-made.result).vector
        (operation (get_or c.args.kept.now c.in-Some.k d)).vector (vector c.difference.result)
        c.product-made.ensures.whole
        (subst (λ (v : Vector). IsWholeVector (((operation c.product-made.result).vector ⊖ v) ⊖ vector c.difference.result))
        (c.shift-in-Some.ensures.vector
        ∙ ap (λ (g : Op). (operation g).vector) (c.index-kept-k.is
        ∙ get_or_default c.args.kept.now c.in-Some.k c.index-kept-k.result d c.in-Some.ensures.within))
        (subst (λ (v : Vector). IsWholeVector ((v ⊖ vector c.shift-in-Some.result) ⊖ vector c.difference.result)) c.shift.ensures.vector
        c.difference.ensures.whole)),
  ),
)

pub returns-clause-divides : goal.returns-clause-divides
returns-clause-divides c = λ D p all h k. c.difference.ensures.divides D p
    (subst (λ n. n ∣ D) (sym c.shift.ensures.denominator) (c.product-made.ensures.divides D p h k))
    (subst (λ n. n ∣ D) (sym (c.shift-in-Some.ensures.denominator ∙ ap (λ (g : Op). g.den) c.index-kept-k.is))
    (all c.in-Some.k c.index-kept-k.result c.in-Some.ensures.within))
