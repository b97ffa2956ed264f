use Rattle.std.proofs.Common.{sym, ◌∙◌, ap₂, subst, subst₂}
use Rattle.irr_rat.specs.RatioMeaning.{fraction, IsReduced}
use Rattle.std.proofs.Common.{unsigned_abs}
use Rattle.std.specs.Int.{IsGcd}
use Rattle.irr_rat.proofs.Fractions.{reduced_quotients, divisor_positive}
use Rattle.irr_rat.proofs.ratio.Ratio.lowest.Goals as goal

pub div-requires : goal.div-requires
div-requires g c =
    let exact = g.met.I.Integral.exact_law in
    let greatest = subst (λ x. IsGcd (unsigned_abs x) (unsigned_abs (g.I.Number.value c.args.den)) (unsigned_abs (g.I.Number.value c.common_divisor-divisor.result))) (c.abs.ensures.value exact) c.common_divisor-divisor.ensures.greatest in
    g.met.I.Num.can_div_law c.args.num c.common_divisor-divisor.result (λ e. g.met.I.Num.positive_divisor_law _ _ e c.requires.num.0 c.common_divisor-divisor.ensures.fits
    (divisor_positive (g.I.Number.value c.args.num) (g.I.Number.value c.args.den) (g.I.Number.value c.common_divisor-divisor.result) c.requires.positive c.common_divisor-divisor.ensures.sign greatest))

pub div-requires-2 : goal.div-requires-2
div-requires-2 g c =
    let exact = g.met.I.Integral.exact_law in
    let greatest = subst (λ x. IsGcd (unsigned_abs x) (unsigned_abs (g.I.Number.value c.args.den)) (unsigned_abs (g.I.Number.value c.common_divisor-divisor.result))) (c.abs.ensures.value exact) c.common_divisor-divisor.ensures.greatest in
    g.met.I.Num.can_div_law c.args.den c.common_divisor-divisor.result (λ e. g.met.I.Num.positive_divisor_law _ _ e c.requires.den.0 c.common_divisor-divisor.ensures.fits
    (divisor_positive (g.I.Number.value c.args.num) (g.I.Number.value c.args.den) (g.I.Number.value c.common_divisor-divisor.result) c.requires.positive c.common_divisor-divisor.ensures.sign greatest))

pub invariant_of-result : goal.invariant_of-result
invariant_of-result g c =
    let exact = g.met.I.Integral.exact_law in
    let greatest = subst (λ x. IsGcd (unsigned_abs x) (unsigned_abs (g.I.Number.value c.args.den)) (unsigned_abs (g.I.Number.value c.common_divisor-divisor.result))) (c.abs.ensures.value exact) c.common_divisor-divisor.ensures.greatest in
    record {
      reduced = subst₂ IsReduced (sym (g.met.I.Num.div_law _ _ c.div.result c.div.ensures exact)) (sym (g.met.I.Num.div_law _ _ c.div-2.result c.div-2.ensures exact))
          (reduced_quotients (g.I.Number.value c.args.num) (g.I.Number.value c.args.den) (g.I.Number.value c.common_divisor-divisor.result) c.requires.positive c.common_divisor-divisor.ensures.sign greatest).0;
    }

pub returns : goal.returns
returns g c =
    let exact = g.met.I.Integral.exact_law in
    let greatest = subst (λ x. IsGcd (unsigned_abs x) (unsigned_abs (g.I.Number.value c.args.den)) (unsigned_abs (g.I.Number.value c.common_divisor-divisor.result))) (c.abs.ensures.value exact) c.common_divisor-divisor.ensures.greatest in
    ap₂ fraction (g.met.I.Num.div_law _ _ c.div.result c.div.ensures exact) (g.met.I.Num.div_law _ _ c.div-2.result c.div-2.ensures exact)
    ∙ (reduced_quotients (g.I.Number.value c.args.num) (g.I.Number.value c.args.den) (g.I.Number.value c.common_divisor-divisor.result) c.requires.positive c.common_divisor-divisor.ensures.sign greatest).1
