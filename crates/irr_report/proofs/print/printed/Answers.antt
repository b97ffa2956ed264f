-- The parts of a report, one after another.
use Rattle.std.proofs.Common.{◌∙◌, ◌≡◌, ap, ◌++◌, List, ℕ, length, arith}
use Rattle.std.specs.Prelude.{codes}
use Rattle.std.specs.Fmt.{decimal}
use Rattle.std.proofs.lemmas.Grind.{common_steps}
use Rattle.irr_report.specs.Printed.{numbered, head_text, operation_text, representation_text}
use Rattle.irr_report.proofs.LineTexts.{report-parts}
use Rattle.irr_report.proofs.print.printed.Goals as goal

pub returns : goal.returns
returns g c = let r = c.args.r.now in
    let places : c.len.result ≡ length r.ops.items = grind (arith, common_steps) in
    let count : c.len-count.result ≡ length r.reps.items = grind (arith, common_steps) in
    report-parts r c.in_ok-text.text.items c.push_operations.new.text.items c.extend_from_slice.new.self.items c.push_representations.new.text.items
    c.extend_from_slice-2.new.self.items
    (c.in_ok-text.ensures ∙ ap (head_text r.wave r.order) places)
    (c.in_ok-push_operations.ensures ∙ ap (λ xs. c.in_ok-text.text.items ++ numbered operation_text 1 xs) c.deref.ensures.value)
    (c.in_ok-extend_from_slice.ensures.items ∙ ap (λ (t : List ℕ). c.push_operations.new.text.items ++ t) (c.as_bytes.ensures.value
    ∙ c.in_ok-format.ensures.ok
    ∙ ap (λ (n : ℕ). codes "reps " ++ (decimal n ++ codes "\n")) count))
    (c.in_ok-push_representations.ensures ∙ ap (λ xs. c.extend_from_slice.new.self.items ++ numbered (representation_text {G = g.S.Scalar}) 1 xs)
    c.deref-2.ensures.value)
    c.in_ok-extend_from_slice-2.ensures.items
