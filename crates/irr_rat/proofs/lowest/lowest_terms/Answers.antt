use Rattle.std.proofs.Common.{◌≡◌, ◌∙◌, ap, subst, ℕ, ℤ, List, pos, FitsSigned, get_or, rules, unsigned_abs, to_z, of_z}
use Rattle.std.specs.Int.{IsGcd, w128}
use Rattle.std.specs.Int.RustNames.{int_div}
use Rattle.std.proofs.lemmas.Int.{to_z-of_z}
use Rattle.irr_rational.specs.Ratio.{entry}
use Rattle.irr_rat.proofs.LowestForms.{IsCommonGcd, lowest_already, three_gcd, three_lowest}
use Rattle.irr_rat.proofs.lowest.lowest_terms.Goals as goal

x-fits : (c : goal.After-quotient-3) → FitsSigned w128 (get_or c.args.num 0 (pos 0))
x-fits c = search rules

y-fits : (c : goal.After-quotient-3) → FitsSigned w128 (get_or c.args.num 1 (pos 0))
y-fits c = search rules

z-fits : (c : goal.After-quotient-3) → FitsSigned w128 (get_or c.args.num 2 (pos 0))
z-fits c = search rules

-- the greatest common divisor of all, from three calls
divisor : (num : List ℤ) (den f g h : ℕ) → FitsSigned w128 (get_or num 0 (pos 0)) → FitsSigned w128 (get_or num 1 (pos 0)) → FitsSigned w128 (get_or num 2 (pos 0))
    → IsGcd (unsigned_abs (to_z w128 (of_z w128 (get_or num 2 (pos 0))))) den f → IsGcd (unsigned_abs (to_z w128 (of_z w128 (get_or num 1 (pos 0))))) f g
    → IsGcd (unsigned_abs (to_z w128 (of_z w128 (get_or num 0 (pos 0))))) g h → IsCommonGcd {n = 3} (entry num) den h
divisor num den f g h fx fy fz z y x = three_gcd num den f g h
    (subst (λ a. IsGcd (unsigned_abs a) den f) (to_z-of_z _ _ fz) z)
    (subst (λ a. IsGcd (unsigned_abs a) f g) (to_z-of_z _ _ fy) y)
    (subst (λ a. IsGcd (unsigned_abs a) g h) (to_z-of_z _ _ fx) x)

divisor_of : (c : goal.After-quotient-3) → IsCommonGcd {n = 3} (entry c.args.num) c.args.den c.common_divisor-common.result
divisor_of c = divisor c.args.num c.args.den c.common_divisor.result c.common_divisor-2.result c.common_divisor-common.result (x-fits c) (y-fits c) (z-fits c)
    c.common_divisor.ensures.greatest c.common_divisor-2.ensures.greatest c.common_divisor-common.ensures.greatest

pub returns-then-common-eq1-clause-lowest : goal.returns-then-common-eq1-clause-lowest
returns-then-common-eq1-clause-lowest c =
    let fx : FitsSigned w128 (get_or c.args.num 0 (pos 0)) = search rules in
    let fy : FitsSigned w128 (get_or c.args.num 1 (pos 0)) = search rules in
    let fz : FitsSigned w128 (get_or c.args.num 2 (pos 0)) = search rules in
    lowest_already (entry c.args.num) c.args.den c.common_divisor-common.result c.requires c.if-common-eq1.true
    (divisor c.args.num c.args.den c.common_divisor.result c.common_divisor-2.result c.common_divisor-common.result fx fy fz
    c.common_divisor.ensures.greatest c.common_divisor-2.ensures.greatest c.common_divisor-common.ensures.greatest)

-- a result of a call, read back
of_quotient : (q a : ℤ) (g : ℕ) → FitsSigned w128 q → FitsSigned w128 a → q ≡ int_div (to_z w128 (of_z w128 a)) (pos g) → to_z w128 (of_z w128 q) ≡ int_div a (pos g)
of_quotient q a g f h e = to_z-of_z w128 q f ∙ e ∙ ap (λ a. int_div a (pos g)) (to_z-of_z w128 a h)

pub returns-clause-lowest : goal.returns-clause-lowest
returns-clause-lowest c = (three_lowest c.args.num _ _ _ c.args.den c.common_divisor-common.result c.requires (divisor_of c)
    (of_quotient c.quotient.result _ c.common_divisor-common.result (record { sfits = c.quotient.type_inv }) (x-fits c) c.quotient.ensures)
    (of_quotient c.quotient-2.result _ c.common_divisor-common.result (record { sfits = c.quotient-2.type_inv }) (y-fits c) c.quotient-2.ensures)
    (of_quotient c.quotient-3.result _ c.common_divisor-common.result (record { sfits = c.quotient-3.type_inv }) (z-fits c) c.quotient-3.ensures)).0

pub returns-clause-same : goal.returns-clause-same
returns-clause-same c = (three_lowest c.args.num _ _ _ c.args.den c.common_divisor-common.result c.requires (divisor_of c)
    (of_quotient c.quotient.result _ c.common_divisor-common.result (record { sfits = c.quotient.type_inv }) (x-fits c) c.quotient.ensures)
    (of_quotient c.quotient-2.result _ c.common_divisor-common.result (record { sfits = c.quotient-2.type_inv }) (y-fits c) c.quotient-2.ensures)
    (of_quotient c.quotient-3.result _ c.common_divisor-common.result (record { sfits = c.quotient-3.type_inv }) (z-fits c) c.quotient-3.ensures)).1
