-- Lists are the same where each term is.
use Rattle.std.proofs.Common.{rules, ◌≡◌, refl, sym, ◌∙◌, ap, pos, length, FitsSigned, to_z, arith}
use Rattle.std.proofs.lemmas.Int.{to_z-of_z}
use Rattle.std.proofs.lemmas.List.{take_all, take_more_same}
use mir.Syntax.{w128}
use Rattle.irr_sparse.specs.TermList.{coefficient_at}
use Rattle.irr_sparse.proofs.terms.are_same.Goals as goal

pub returns-then-xs-ys : goal.returns-then-xs-ys
returns-then-xs-ys c = ((λ t. absurd (search rules)), λ e. absurd (c.if-xs-ys.true (ap length e)))

pub loop-i-init : goal.loop-i-init
loop-i-init c = refl

pub loop-i-preserved : goal.loop-i-preserved
loop-i-preserved c =
    let fx : FitsSigned w128 (coefficient_at c.args.xs.now c.loop-i.i) = search rules in
    let fy : FitsSigned w128 (coefficient_at c.args.ys.now c.loop-i.i) = search rules in
    let e : coefficient_at c.args.xs.now c.loop-i.i ≡ coefficient_at c.args.ys.now c.loop-i.i =
    sym (to_z-of_z w128 (coefficient_at c.args.xs.now c.loop-i.i) fx) ∙ ap (to_z w128) c.if-xs-i-2.false ∙ to_z-of_z w128 (coefficient_at c.args.ys.now c.loop-i.i) fy in
    take_more_same c.args.xs.now c.args.ys.now c.loop-i.i (0, pos 0) c.loop-i-test.true (omega (arith, c.loop-i-test.true, c.if-xs-ys.false)) c.loop-i.invariant (λ k. (c.if-xs-i.false k, e k))

pub returns : goal.returns
returns c = (
  (λ t. sym (take_all c.loop-i.i c.args.xs.now c.loop-i-test.false) ∙ c.loop-i.invariant ∙ take_all c.loop-i.i c.args.ys.now (omega (arith, c.loop-i-test.false, c.if-xs-ys.false))),
  λ e. search rules,
)
