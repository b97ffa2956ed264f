-- The denominator of a canonical form is positive.
use Rattle.std.proofs.Common.{sym, subst, ◌<◌}
use Rattle.irr_char.proofs.MadeForms.{denominator_positive}
use Rattle.irr_char.proofs.rows.form_of.Goals as goal

pub invariant_of-result : goal.invariant_of-result
invariant_of-result g c = let e = c.in_ok-den.ensures.denominator in let n = g.S.Scalar.order_of c.args.x.now in
    record {
      positive = subst (λ d. 0 < d) (sym e) (denominator_positive (g.S.Scalar.order_of c.args.x.now)
          (g.S.Scalar.value (g.S.Scalar.order_of c.args.x.now) c.args.x.now));
    }
