-- The parts of the text, one after another.
use Rattle.std.proofs.Common.{◌≡◌, ◌∙◌, ap, ap₂, ℕ, List, ◌++◌, length, get_or}
use Rattle.std.specs.Prelude.{codes}
use Rattle.std.specs.Fmt.{decimal}
use Rattle.std.proofs.lemmas.List.{get_or_default}
use Rattle.irr_seitz.specs.declared.op.Op.{Op}
use Rattle.irr_kvec.specs.WaveMeaning.{wave_vector}
use Rattle.irr_rep.specs.Twisted.{phase_table, operation_places}
use Rattle.irr_little.specs.declared.arms.Arm.{Arm}
use Rattle.irr_report.specs.Printed.{numbered}
use Rattle.irr_top.specs.StarText.{head_text, arm_text}
use Rattle.irr_top.proofs.StarTexts.{star-parts}
use Rattle.irr_top.proofs.star.lines.Goals as goal

pub returns : goal.returns
returns c = λ d a same.
    let group = c.args.group.now in
    let arms = c.args.arms.now in
    let order : c.order.result ≡ (phase_table c.args.t.now).order = c.order.ensures.order in
    let first : get_or arms 0 c.index-arms-0.result ≡ get_or arms 0 a = get_or_default arms 0 c.index-arms-0.result a c.requires.some in
    star-parts group arms d a (operation_places c.args.t.now) c.args.ops.now c.requires.count same
    (phase_table c.args.t.now) c.in_ok-text.text.items c.push_arms.new.text.items c.extend_from_slice.new.self.items
    c.push_operations.new.text.items c.push_factors.new.text.items c.extend_from_slice-2.new.self.items
    (c.in_ok-text.ensures ∙ ap₂ (λ (x : Arm) (n : ℕ). head_text (wave_vector x.wave) n (length arms)) first order)
    (c.in_ok-push_arms.ensures d ∙ ap (λ (xs : List Op). c.in_ok-text.text.items ++ numbered (arm_text xs d) 1 arms) c.ops.ensures.list)
    (c.in_ok-extend_from_slice.ensures.items ∙ ap (λ (t : List ℕ). c.push_arms.new.text.items ++ t) (c.as_bytes.ensures.value
    ∙ c.in_ok-format.ensures.ok
    ∙ ap (λ (n : ℕ). codes "ops " ++ (decimal n ++ codes "\n")) c.requires.count))
    c.in_ok-push_operations.ensures
    c.in_ok-push_factors.ensures
    c.in_ok-extend_from_slice-2.ensures.items
