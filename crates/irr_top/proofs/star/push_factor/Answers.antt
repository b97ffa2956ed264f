-- The word of an entry.
use Rattle.std.proofs.Common.{◌∙◌, ap, ℕ, List, ◌++◌}
use Rattle.irr_rep.specs.Twisted.{phase_table}
use Rattle.irr_top.proofs.StarTexts.{factor-word}
use Rattle.irr_top.proofs.star.push_factor.Goals as goal

pub returns : goal.returns
returns c = λ p q e f. c.in_ok-extend_from_slice.ensures.items
    ∙ ap (λ (t : List ℕ). c.args.text.now.items ++ t) (c.as_bytes.ensures.value ∙ c.in_ok-format.ensures.ok
    ∙ factor-word (phase_table c.args.t.now) p q c.table.result c.phase-exponent.result (c.table.ensures.product p q e f)
    (c.phase-exponent.ensures.exponent p q e f))
