-- The parts of the text, one after another.
use Rattle.std.proofs.Common.{◌≡◌, ◌∙◌, ap, ℕ, List, [], ◌++◌, map}
use Rattle.std.specs.Prelude.{codes}
use Rattle.std.specs.Fmt.{decimal}
use Rattle.std.specs.List.{flat_map}
use Rattle.irr_text.specs.WaveText.{wave_text}
use Rattle.irr_seitz.specs.PhaseMeaning.{sign_of}
use Rattle.irr_heading.specs.Heading.{heading}
use Rattle.irr_kvec.specs.WaveMeaning.{wave_vector}
use Rattle.irr_subduce.specs.Restrictions.{rep_content}
use Rattle.irr_subduce.specs.SubduceText.{rep_lines}
use Rattle.irr_subduce.proofs.Texts.{head_parts}
use Rattle.irr_subduce.proofs.text.text_subduce.Goals as goal

pub returns : goal.returns
returns c =
    let first = heading (codes "subduce") c.args.version (sign_of c.args.phase) in
    c.in_ok-extend_from_slice-2.ensures.items ∙ ap (λ (t : List ℕ). t ++ codes "end\n")
    (c.in_ok-push_reps.ensures ∙ ap (λ (t : List ℕ). t ++ flat_map rep_lines (map rep_content c.args.reps.now))
    (c.in_ok-extend_from_slice.ensures.items
    ∙ ap (λ (t : List ℕ). c.push_heading.new.text.items ++ t) (c.as_bytes.ensures.value ∙ c.in_ok-format.ensures.ok)
    ∙ ap (λ (t : List ℕ). t ++ (codes "order " ++ (decimal c.args.order ++ (codes "\nwave "
    ++ (wave_text (wave_vector c.args.k.now) ++ codes "\n")))))
    (c.in_ok-push_heading.ensures ∙ ap (λ (t : List ℕ). t ++ first) c.new-text.ensures.items)
    ∙ head_parts first (decimal c.args.order) (wave_text (wave_vector c.args.k.now))))
