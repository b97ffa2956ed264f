-- A top power takes its class with it; another place, or a coefficient 0, leaves all as it is.
use Rattle.std.proofs.Common.{◌≡◌, sym, ◌∙◌, ap, subst, List, ℤ, pos, length, ◌+◌, ◌<◌, ◌^◌, unsigned_abs, FitsSigned, to_z, arith, rules}
use Rattle.std.proofs.lemmas.Int.{to_z-of_z}
use mir.Syntax.{w128}
use Rattle.irr_cyc.specs.Form.{at}
use Rattle.irr_cyc.proofs.Passes.{IsMovedBelow, class-left, moved-nothing, moved-other, moved-taken, top-digit}
use Rattle.irr_cyc.proofs.reduction.reduce_at.Goals as goal
use Rattle.irr_cyc.proofs.reduction.reduce_at.Goals.{then-coefficients-top-ne0+then-top-base, else-coefficients-top-ne0, else-coefficients-top-ne0-via-then-coefficients-top-ne0+else-top-base, else-coefficients-top-ne0-via-else-coefficients-top-ne0}

pub take_from_class-requires-clause-small : goal.take_from_class-requires-clause-small
take_from_class-requires-clause-small c = λ i li e.
    let len : length c.loop-top.coefficients ≡ length c.args.coefficients.now = c.loop-top.auto.coefficients in
    let lt : i < length c.args.coefficients.now = omega arith in
    subst (λ x. unsigned_abs x < 2 ^ 126)
    (sym (class-left (length c.args.coefficients.now) c.args.p c.args.base c.requires.some c.requires.part (at c.args.coefficients.now) (at c.loop-top.coefficients) (at c.loop-top.coefficients) c.loop-top.top c.loop-top-test.true c.loop-top.invariant
    (top-digit (length c.args.coefficients.now) c.args.p c.args.base c.requires.some c.requires.part c.loop-top.top c.if-top-base.true) i lt e))
    (c.requires.small i lt)

pub loop-top-preserved : goal.loop-top-preserved
loop-top-preserved c =
    let len : length c.loop-top.coefficients ≡ length c.args.coefficients.now = c.loop-top.auto.coefficients in
    let moved : List ℤ → Type 0 = λ xs. IsMovedBelow (length c.args.coefficients.now) c.args.p (c.loop-top.top + 1) (at c.args.coefficients.now) (at xs) in
    elim c.if-coefficients-top-ne0.branch [
      | then-coefficients-top-ne0+then-top-base w ↦ subst moved (sym w.coefficients-is)
          (moved-taken (length c.args.coefficients.now) c.args.p c.args.base c.requires.some c.requires.part (at c.args.coefficients.now) (at c.loop-top.coefficients) (at w.take_from_class.new.coefficients) c.loop-top.top c.loop-top-test.true c.loop-top.invariant
          (top-digit (length c.args.coefficients.now) c.args.p c.args.base c.requires.some c.requires.part c.loop-top.top w.if-top-base.true)
          (λ i li e. w.take_from_class.ensures.class i (omega (arith, len)) e) (λ i li n. w.take_from_class.ensures.others i (omega (arith, len)) n))
      | else-coefficients-top-ne0 w ↦ subst moved (sym w.coefficients-is) (elim w.else-coefficients-top-ne0.branch [
        | else-coefficients-top-ne0-via-then-coefficients-top-ne0+else-top-base v ↦
            moved-other (length c.args.coefficients.now) c.args.p c.args.base c.requires.some c.requires.part (at c.args.coefficients.now) (at c.loop-top.coefficients) (at c.loop-top.coefficients) c.loop-top.top c.loop-top-test.true c.loop-top.invariant v.if-top-base.false
        | else-coefficients-top-ne0-via-else-coefficients-top-ne0 v ↦
            let fits : FitsSigned w128 (at c.loop-top.coefficients c.loop-top.top) = search rules in
            let nothing : at c.loop-top.coefficients c.loop-top.top ≡ pos 0 = sym (to_z-of_z w128 (at c.loop-top.coefficients c.loop-top.top) fits) ∙ ap (to_z w128) v.if-coefficients-top-ne0.false in
            moved-nothing (length c.args.coefficients.now) c.args.p c.args.base c.requires.some c.requires.part (at c.args.coefficients.now) (at c.loop-top.coefficients) c.loop-top.top c.loop-top-test.true c.loop-top.invariant nothing
      ])
    ]
