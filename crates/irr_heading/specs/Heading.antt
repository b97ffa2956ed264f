-- The first lines of the texts of commands.
--   phase_word s           the word for the sign of the phase
--   heading name n s       the name of a text and its version n; above version 1 a line has the sign of the phase
use Rattle.std.specs.Prelude.{ℕ, List, [], ◌++◌, codes, nat_le, if◌then◌else◌}
use Rattle.std.specs.Fmt.{decimal}
use Rattle.irr_space.specs.Reciprocal.{Sign}
use Rattle.irr_space.specs.Reciprocal.Sign.{minus, plus}
use Rattle.irr_text.specs.ReportText.{line, next_word}

abbrev pub phase_word : Sign → List ℕ
phase_word minus = codes "minus"
phase_word plus = codes "plus"

abbrev pub heading : List ℕ → ℕ → Sign → List ℕ
heading name n s = line (name ++ next_word (decimal n))
    ++ (if nat_le n 1 then [] else line (codes "phase" ++ next_word (phase_word s)))
