-- The zeros so far.
use Rattle.std.proofs.Common.{◌≡◌, ◌++◌, ◌<◌, ℕ}
use Rattle.irr_number.specs.Number.{numbers}
use Rattle.irr_algebra.specs.Fin.{Fin}
use Rattle.irr_full_text.specs.Lines.{number_word}
use Rattle.irr_full_text.proofs.FirstPieces.{first_pieces}
use Rattle.irr_full_text.proofs.numbers.push_zeros.Given as goal

abbrev pub invariant-loop : goal.invariant-loop
invariant-loop l = (M d : ℕ) → 0 < M → l.count ≡ d → l.text.items ≡ l.fn.text.items ++ first_pieces l.counter
    (λ (c : Fin d). number_word M (numbers M).zero)
