-- The parts of the text, one after another.
use Rattle.std.proofs.Common.{◌∙◌, ap, ℕ, List, ◌++◌, map}
use Rattle.std.specs.Prelude.{codes}
use Rattle.std.specs.Fmt.{decimal}
use Rattle.std.specs.List.{flat_map}
use Rattle.irr_text.specs.WaveText.{wave_text}
use Rattle.irr_seitz.specs.PhaseMeaning.{sign_of}
use Rattle.irr_heading.specs.Heading.{heading}
use Rattle.irr_kvec.specs.WaveMeaning.{wave_vector}
use Rattle.irr_power.specs.Squares.{square_entry}
use Rattle.irr_power.specs.SquareText.{square_lines}
use Rattle.irr_power.proofs.SquareTexts.{head_parts}
use Rattle.irr_power.proofs.text.text_square.Goals as goal

pub returns : goal.returns
returns c =
    let first = heading (codes "square") c.args.version (sign_of c.args.phase) in
    c.in_ok-extend_from_slice-2.ensures.items ∙ ap (λ (t : List ℕ). t ++ codes "end\n")
    (c.in_ok-push_squares.ensures ∙ ap (λ (t : List ℕ). t ++ flat_map square_lines (map square_entry c.args.squares.now))
    (c.in_ok-extend_from_slice.ensures.items
    ∙ ap (λ (t : List ℕ). c.push_heading.new.text.items ++ t) (c.as_bytes.ensures.value ∙ c.in_ok-format.ensures.ok)
    ∙ ap (λ (t : List ℕ). t ++ (codes "order " ++ (decimal c.args.order ++ (codes "\nwave "
    ++ (wave_text (wave_vector c.args.k.now) ++ codes "\n")))))
    (c.in_ok-push_heading.ensures ∙ ap (λ (t : List ℕ). t ++ first) c.new-text.ensures.items)
    ∙ head_parts first (decimal c.args.order) (wave_text (wave_vector c.args.k.now))))
