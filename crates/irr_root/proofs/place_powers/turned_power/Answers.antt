-- The powers by their products.
use Rattle.std.proofs.Common.{sym, ◌∙◌, ap, subst, ◌≡◌, ◌⊎◌, inl, inr, ℕ, ◌%◌}
use Rattle.irr_algebra.specs.Fin.{to_nat}
use Rattle.irr_rep.specs.Twisted.{phase_table}
use Rattle.irr_space.specs.PhaseTable.{exponents_below, place_power}
use Rattle.irr_root.proofs.PlacePowers.{cube-exponent, cube-place, square-exponent, square-place}
use Rattle.irr_root.proofs.place_powers.turned_power.Goals as goal

three_of : (p : ℕ) → (p ≡ 2) ⊎ (p ≡ 3) → (p ≡ 2 → ⊥) → p ≡ 3
three_of p (inl e) ne = absurd (ne e)
three_of p (inr e) ne = e

pub returns-then-p-eq2-clause-place : goal.returns-then-p-eq2-clause-place
returns-then-p-eq2-clause-place c q e =
    let T = phase_table c.args.t.now in
    subst (λ k. c.turned_product-square.result.place ≡ to_nat (place_power T.start T.product q k)) (sym c.if-p-eq2.true)
    (c.turned_product-square.ensures.place q q e e ∙ sym (ap to_nat (square-place T q)))

pub returns-then-p-eq2-clause-exponent : goal.returns-then-p-eq2-clause-exponent
returns-then-p-eq2-clause-exponent c q e =
    let T = phase_table c.args.t.now in
    subst (λ k. c.turned_product-square.result.exponent ≡ exponents_below T.start T.product T.exponent q k % T.order) (sym c.if-p-eq2.true)
    (square-exponent T q c.turned_product-square.result.exponent (c.turned_product-square.ensures.exponent q q e e))

pub returns-else-p-eq2-clause-place : goal.returns-else-p-eq2-clause-place
returns-else-p-eq2-clause-place c q e =
    let T = phase_table c.args.t.now in
    subst (λ k. c.turned_product.result.place ≡ to_nat (place_power T.start T.product q k)) (sym
    (three_of c.args.p c.requires.two_or_three c.if-p-eq2.false))
    (c.turned_product.ensures.place q (T.product q q) e (sym (c.turned_product-square.ensures.place q q e e)) ∙ sym (ap to_nat (cube-place T q)))

pub returns-else-p-eq2-clause-exponent : goal.returns-else-p-eq2-clause-exponent
returns-else-p-eq2-clause-exponent c q e =
    let T = phase_table c.args.t.now in
    subst (λ k. c.turned_product.result.exponent ≡ exponents_below T.start T.product T.exponent q k % T.order)
    (sym (three_of c.args.p c.requires.two_or_three c.if-p-eq2.false))
    (cube-exponent T q c.turned_product.result.exponent c.turned_product-square.result.exponent (c.turned_product-square.ensures.exponent q q e e)
    (c.turned_product.ensures.exponent q (T.product q q) e (sym (c.turned_product-square.ensures.place q q e e))))
