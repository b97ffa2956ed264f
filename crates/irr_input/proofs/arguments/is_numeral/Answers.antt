-- Digits up to the end are all of the word.
use Rattle.std.proofs.Common.{ℕ, List, ◌≡◌, ◌<◌, ◌≤◌, ◌∙◌, ap, subst, length, take, drop, arith}
use Rattle.std.specs.Prelude.{◌↔◌}
use Rattle.std.specs.Str.Parse.{AllDigits, IsNumeral}
use Rattle.std.proofs.Math.Seq.{take-length}
use Rattle.std.proofs.lemmas.Bool.{eqb-true, eq-eqb}
use Rattle.std.proofs.lemmas.Grind.{common_steps}
use Rattle.irr_digits.specs.DigitRun.{BeginsWithDigit}
use Rattle.irr_digits.proofs.Numerals.{run_whole}
use Rattle.irr_input.proofs.arguments.is_numeral.Goals as goal

to_the_end : (word : List ℕ) (run : ℕ) → 0 < length word → run ≤ length word → AllDigits 10 (take run word) → ¬ (BeginsWithDigit (drop run word)) → (run ≡ length word) ↔ IsNumeral 10 word
to_the_end word run some within digits longest = (λ e. (some, subst (AllDigits 10) (ap (λ n. take n word) e ∙ take-length word) digits), λ is. let all : length word ≤ run = run_whole word run is.1 longest in omega arith)

pub returns-then-not-is_empty : goal.returns-then-not-is_empty
returns-then-not-is_empty c =
    let some : 0 < length c.args.word.now = grind (arith, common_steps) in
    let both = to_the_end c.args.word.now c.digit_run.result some c.digit_run.ensures.within c.digit_run.ensures.digits c.digit_run.ensures.longest in
    (λ t. both.0 (eqb-true c.digit_run.result (length c.args.word.now) t), λ is. eq-eqb c.digit_run.result (length c.args.word.now) (both.1 is))
