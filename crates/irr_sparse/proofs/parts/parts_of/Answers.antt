-- One prime more is listed.
use Rattle.std.proofs.Common.{sym, subst, refl, List, ◌+◌, arith}
use Rattle.irr_sparse.proofs.Steps.{Listed, listed-all, listed-next, listed-room, listed-start, listed-weight}
use Rattle.irr_sparse.specs.declared.parts.Part.{Part}
use Rattle.irr_sparse.proofs.parts.parts_of.Goals as goal

pub loop-rest-init : goal.loop-rest-init
loop-rest-init c = subst (λ (xs : List Part). Listed c.args.n xs 2 c.args.n) (sym c.new-parts.ensures) (listed-start c.args.n c.requires.positive)

pub push-requires : goal.push-requires
push-requires c = (omega arith, listed-room c.args.n c.requires.positive c.loop-rest.parts.items c.loop-rest.p c.loop-rest.rest c.loop-rest.invariant c.requires.few c.loop-rest-test.true)

pub loop-rest-preserved : goal.loop-rest-preserved
loop-rest-preserved c = subst (λ (xs : List Part). Listed c.args.n xs (c.least_factor-prime.result + 1) c.factor_out-factored.result.rest) (sym c.push.ensures.items)
    (listed-next c.args.n c.requires.positive c.loop-rest.parts.items c.loop-rest.p c.loop-rest.rest c.loop-rest.invariant c.least_factor-prime.result c.factor_out-factored.result.base
    c.factor_out-factored.ensures.power.0 c.factor_out-factored.result.rest c.least_factor-prime.ensures.from c.least_factor-prime.ensures.left c.factor_out-factored.ensures.power.1 c.factor_out-factored.ensures.equal
    c.factor_out-factored.ensures.other _ refl refl)

pub returns-clause-all : goal.returns-clause-all
returns-clause-all c = listed-all c.args.n c.requires.positive c.loop-rest.parts.items c.loop-rest.p c.loop-rest.rest c.loop-rest.invariant (omega (arith, c.loop-rest-test.false))

pub returns-clause-weight : goal.returns-clause-weight
returns-clause-weight c = listed-weight c.args.n c.requires.positive c.loop-rest.parts.items c.loop-rest.p c.loop-rest.rest c.loop-rest.invariant (omega (arith, c.loop-rest-test.false))
