-- The digits at the front are those of the number, as no digit follows.
use Rattle.std.proofs.Common.{◌≡◌, sym, ℕ, List}
use Rattle.irr_token.specs.Token.{PlacedNumber}
use Rattle.irr_token.proofs.Blanks.{number_step}
use Rattle.irr_token.proofs.read.front_number.Goals as goal

same : (p q : ℕ) (ds es : List ℕ) → p ≡ q → ds ≡ es → ◌≡◌ {A = PlacedNumber} (record { place = p; digits = ds }) (record { place = q; digits = es })
same p q ds es e f = cc

pub returns-clause-number : goal.returns-clause-number
returns-clause-number c = λ n ts is sp.
    let step = number_step c.args.rest.place c.args.rest.text.now c.split_at.result.0.now c.split_at.result.1.now c.digit_run-count.result c.behind.result.place c.behind.result.text.now n ts
    c.split_at.ensures.front c.split_at.ensures.back c.digit_run-count.ensures.digits c.digit_run-count.ensures.longest c.digit_run-count.ensures.within c.behind.ensures.rest is sp in
    (same c.args.rest.place n.place c.split_at.result.0.now n.digits (sym sp.1) step.0, step.1)
