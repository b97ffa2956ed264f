-- Each turn takes out one more factor p.
use Rattle.std.proofs.Common.{◌≡◌, sym, ◌∙◌, ap, ℕ, suc, ◌*◌, ◌/◌, ◌<◌, inl, inr, arith}
use Rattle.std.proofs.lemmas.Bool.{cases_lt}
use native.Mathlib.Nat as Nat
use Rattle.irr_sparse.proofs.parts.factor_out.Goals as goal

positive-quotient : (p rest : ℕ) → 0 < rest → p * (rest / p) ≡ rest → 0 < rest / p
positive-quotient p rest h e = elim (cases_lt 0 (rest / p)) [ inl l ↦ l | inr g ↦ (let z : rest / p ≡ 0 = omega arith in absurd (omega (arith, e, ap (λ x. p * x) z))) ]

moved : (number base p rest next : ℕ) → number ≡ base * p * rest → p * next ≡ rest → number ≡ base * p * p * next
moved number base p rest next h e = h ∙ ap (λ x. base * p * x) (sym e) ∙ (let s : base * p * (p * next) ≡ base * p * p * next = omega arith in s)

pub loop-rest-preserved : goal.loop-rest-preserved
loop-rest-preserved c =
    let inv = c.loop-rest.invariant in
    let e : c.args.p * (c.loop-rest.rest / c.args.p) ≡ c.loop-rest.rest = Nat.mul-div_cancel' c.args.p (Nat.dvd_of_mod-eq-zero c.args.p c.loop-rest-test.true) in
    record {
      equal = moved c.args.number c.loop-rest.base c.args.p c.loop-rest.rest (c.loop-rest.rest / c.args.p) inv.equal e;
      power = (suc inv.power.0, ap (λ b. b * c.args.p) inv.power.1 ∙ sym (Nat.pow-suc c.args.p inv.power.0));
      positive = positive-quotient c.args.p c.loop-rest.rest inv.positive e;
    }

pub returns-clause-other : goal.returns-clause-other
returns-clause-other c = λ d. c.loop-rest-test.false (Nat.mod-eq-zero_of_dvd c.args.p d)
