-- The lines, and what they fix.
use Rattle.std.proofs.Common.{sym, ◌∙◌, refl, ◌%◌, ◌^◌}
use Rattle.irr_gen.specs.Groups.{group_of, generators}
use Rattle.irr_gen.specs.MadeInput.{lines_text, made_wave}
use Rattle.irr_gen.proofs.OneInput.{lines_exist, one_text}
use Rattle.irr_gen.proofs.laws.one_made_input.Goals as goal

pub returns-clause-some : goal.returns-clause-some
returns-clause-some c = λ n. let made = lines_exist (generators (group_of (n % 4))) (n % 2 ^ 31) 2000 in
    (lines_text made.0, made_wave n, record { lines = made.0; are_lines = made.1; is_text = refl; is_wave = refl })

pub returns-clause-one : goal.returns-clause-one
returns-clause-one c = λ n s t k l h q. (one_text n s t k l h q, h.is_wave ∙ sym q.is_wave)
