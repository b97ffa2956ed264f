-- The coefficients of the terms stand for their sum.
use Rattle.std.proofs.Common.{◌≡◌, ◌∙◌, ap, length, ◌++◌, take, drop, arith}
use Rattle.irr_algebra.specs.Ring.{whole}
use Rattle.irr_number.specs.Number.{numbers}
use Rattle.irr_canonical.specs.Coefficient.{number_of}
use Rattle.irr_cyc.proofs.Combined.{through}
use Rattle.irr_cyc.proofs.TermSums.{terms-value}
use Rattle.irr_cyc.proofs.Values.{written-back}
use Rattle.irr_cyc.proofs.coefficients.DenseScalar.from_terms.Goals as goal

pub returns-clause-value : goal.returns-clause-value
returns-clause-value c =
    let back : take c.in_ok-coefficients.coefficients.len (c.add_terms.new.sums ++ drop (length c.add_terms.new.sums) c.in_ok-coefficients.coefficients.items) ≡ c.add_terms.new.sums =
    written-back c.in_ok-coefficients.coefficients.items c.add_terms.new.sums c.in_ok-coefficients.coefficients.len (c.add_terms.auto.sums ∙ c.as_mut_slice.ensures.len) in
    let count : length c.as_mut_slice.result.now ≡ c.args.order.now.n = ap length c.as_mut_slice.ensures.value ∙ c.in_ok-coefficients.ensures.len ∙ c.n.ensures.value in
    ap ((numbers c.args.order.now.n).mul (whole (numbers c.args.order.now.n) c.args.den))
    (through c.args.order.now.n (length (take c.in_ok-coefficients.coefficients.len (c.add_terms.new.sums ++ drop (length c.add_terms.new.sums) c.in_ok-coefficients.coefficients.items))) c.of_powers.result.coefficients.items
    (take c.in_ok-coefficients.coefficients.len (c.add_terms.new.sums ++ drop (length c.add_terms.new.sums) c.in_ok-coefficients.coefficients.items)) c.of_powers.result.den c.args.den (ap length back ∙ c.add_terms.auto.sums ∙ count) c.of_powers.ensures.value
    ∙ ap (λ xs. number_of c.args.order.now.n xs c.args.den) back)
    ∙ terms-value c.args.order.now.n c.args.terms.now c.add_terms.new.sums c.args.den c.requires.positive c.requires.exponents (λ k lk. c.add_terms.ensures.value k (omega (arith, count)))
