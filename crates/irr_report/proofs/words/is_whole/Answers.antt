-- The first digit, and the others.
use Rattle.std.proofs.Common.{◌≡◌, ◌≤◌, ◌∙◌, sym, ap, subst, List, ℕ, ◌∷◌, take, drop, length, arith}
use Rattle.std.specs.Prelude.{◌↔◌}
use Rattle.std.specs.Str.Parse.{AllDigits}
use Rattle.std.proofs.lemmas.Bool.{eqb-true, eq-eqb}
use Rattle.std.proofs.lemmas.Grind.{common_steps}
use Rattle.std.proofs.Math.Seq.{take-length}
use Rattle.irr_digits.specs.DigitRun.{BeginsWithDigit}
use Rattle.irr_digits.proofs.Numerals.{run_whole}
use Rattle.irr_numeral.specs.WrittenNumber.{IsWhole}
use Rattle.irr_report.proofs.words.is_whole.Goals as goal

to_the_end : (digits rest : List ℕ) (first run : ℕ) → digits ≡ first ∷ rest → 49 ≤ first → first ≤ 57 → run ≤ length rest → AllDigits 10 (take run rest)
    → ¬ (BeginsWithDigit (drop run rest)) → (run ≡ length rest) ↔ IsWhole digits
to_the_end digits rest first run is low high within all longest = (
  λ e. subst IsWhole (sym is) (low, high, subst (AllDigits 10) (ap (λ n. take n rest) e ∙ take-length rest) all),
  λ w. (let v : IsWhole (first ∷ rest) = subst IsWhole is w in let le : length rest ≤ run = run_whole rest run v.2 longest in omega arith),
)

pub returns : goal.returns
returns c =
    let low : 49 ≤ c.in-Some.first.now = grind (arith, common_steps) in
    let high : c.in-Some.first.now ≤ 57 = grind (arith, common_steps) in
    let both = to_the_end c.args.digits.now c.in-Some.rest.now c.in-Some.first.now c.digit_run.result c.in-Some.ensures.cases.0 low high c.digit_run.ensures.within c.digit_run.ensures.digits c.digit_run.ensures.longest in
    (λ t. both.0 (eqb-true c.digit_run.result (length c.in-Some.rest.now) t), λ is. eq-eqb c.digit_run.result (length c.in-Some.rest.now) (both.1 is))
