-- The lines, one after another.
use Rattle.std.proofs.Common.{◌≡◌, ◌∙◌, ◌++◌, sym, ap, List, ℕ, ◌∷◌}
use Rattle.std.specs.Prelude.{codes}
use Rattle.std.specs.Fmt.{decimal}
use Rattle.std.specs.List.{flat_map}
use Rattle.irr_algebra.specs.Pair.{times}
use Rattle.irr_algebra.proofs.Pairs.{times-mul}
use Rattle.irr_text.specs.ReportText.{line, next_word}
use Rattle.irr_report.specs.Printed.{numbered}
use Rattle.irr_full_text.specs.Lines.{trace_word, matrix_text}
use Rattle.irr_full_text.proofs.Texts.{rep-parts, lines-parts}
use Rattle.irr_full_text.proofs.representations.push_full.Goals as goal

pub returns : goal.returns
returns g c = λ e.
    let old = c.args.text.now.items in
    let k = decimal c.args.number in
    let n = decimal (times e.star.arms e.size) in
    let head = line (codes "rep" ++ next_word (83 ∷ k) ++ next_word (codes "dim") ++ next_word n) in
    let traces = line (codes "char" ++ flat_map (trace_word e.number e.matrix) c.args.ops.now) in
    let matrices = numbered (matrix_text e.number e.matrix) 1 c.args.gens.now in
    let dim : c.dim-dim.result ≡ times e.star.arms e.size = c.dim-dim.ensures.dim e.group e.wave e.star e.number
    e.divides e.size e.small e.induced
    ∙ sym (times-mul e.star.arms e.size) in
    c.in_ok-push_matrices.ensures e ∙ ap (λ (t : List ℕ). t ++ matrices) (c.in_ok-push_traces.ensures e
    ∙ ap (λ (t : List ℕ). t ++ traces) (c.in_ok-extend_from_slice.ensures.items
    ∙ ap (λ (t : List ℕ). old ++ t) (c.as_bytes.ensures.value ∙ c.in_ok-format.ensures.ok
    ∙ ap (λ (m : ℕ). codes "rep S" ++ (k ++ (codes " dim " ++ (decimal m ++ codes "\n")))) dim)
    ∙ rep-parts old k n))
    ∙ lines-parts old head traces matrices
