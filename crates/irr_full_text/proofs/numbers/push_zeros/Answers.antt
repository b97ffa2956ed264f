-- One more zero.
use Rattle.std.proofs.Common.{◌∙◌, ◌++◌, ap, sym, subst, ◌<◌, ◌≤◌}
use Rattle.irr_algebra.specs.Fin.{Fin}
use Rattle.irr_algebra.proofs.Indices.{from_nat, to_nat-from_nat}
use Rattle.irr_number.specs.Number.{numbers}
use Rattle.irr_report.proofs.ZeroTexts.{zero-word}
use Rattle.irr_full_text.specs.Lines.{number_word}
use Rattle.irr_full_text.proofs.FirstPieces.{pieces_none, pieces_step, pieces_all}
use Rattle.irr_full_text.proofs.numbers.push_zeros.Goals as goal

pub loop-init : goal.loop-init
loop-init c = λ M d h e. pieces_none c.args.text.now.items (λ (c : Fin d). number_word M (numbers M).zero)

pub loop-preserved : goal.loop-preserved
loop-preserved c = λ M d h e.
    let inside : c.loop.counter < d = subst (λ n. c.loop.counter < n) e c.loop-test.true in
    c.in_ok-extend_from_slice.ensures.items ∙ ap (λ word. c.loop.text.items ++ word) (sym (zero-word M h))
    ∙ pieces_step c.args.text.now.items (λ (c : Fin d). number_word M (numbers M).zero) c.loop.text.items c.loop.counter
    (from_nat d c.loop.counter inside) (to_nat-from_nat d c.loop.counter inside) (c.loop.invariant M d h e)

pub returns : goal.returns
returns c = λ M d h e. pieces_all c.args.text.now.items (λ (c : Fin d). number_word M (numbers M).zero)
    c.loop.text.items c.loop.counter
    (subst (λ n. n ≤ c.loop.counter) e c.loop-test.false) (c.loop.invariant M d h e)
