-- The parts, one after another.
use Rattle.std.proofs.Common.{◌≡◌, ◌∙◌, sym, ap, ap₂, subst, ℕ, List, ◌++◌, append_assoc, length, get_or}
use Rattle.std.specs.Prelude.{codes}
use Rattle.std.specs.Fmt.{decimal}
use Rattle.std.proofs.lemmas.List.{get_or_default}
use Rattle.irr_seitz.specs.declared.op.Op.{Op}
use Rattle.irr_kvec.specs.WaveMeaning.{wave_vector}
use Rattle.irr_little.specs.declared.arms.Arm.{Arm}
use Rattle.irr_report.specs.Printed.{numbered, operation_text}
use Rattle.irr_full_text.specs.Lines.{AreInList, head_text, arm_text, star_text}
use Rattle.irr_full_text.proofs.text.star_lines.Goals as goal

pub push_arms-requires : goal.push_arms-requires
push_arms-requires c = subst (λ (xs : List Op). AreInList xs c.args.arms.now) (sym c.ops-ops.ensures.list)
    c.requires.numbers

pub returns : goal.returns
returns c = λ d a.
    let arms = c.args.arms.now in
    let ops = c.ops-ops.result.now in
    let first : get_or arms 0 c.index-arms-0.result ≡ get_or arms 0 a = get_or_default arms 0 c.index-arms-0.result a
    c.requires.some in
    c.in_ok-push_operations.ensures ∙ ap (λ (t : List ℕ). t ++ numbered operation_text 1 ops)
    (c.in_ok-extend_from_slice.ensures.items ∙ ap₂ (λ (s t : List ℕ). s ++ t)
    (c.in_ok-push_arms.ensures d ∙ ap (λ (t : List ℕ). t ++ numbered (arm_text ops d) 1 arms)
    (c.in_ok-text.ensures ∙ ap (λ (x : Arm). head_text (wave_vector x.wave) c.args.order (length arms)) first))
    (c.as_bytes.ensures.value ∙ c.in_ok-format.ensures.ok
    ∙ sym (append_assoc (codes "ops ") (decimal (length ops)) (codes "\n"))))
    ∙ ap (λ (xs : List Op). star_text xs arms c.args.order d a) c.ops-ops.ensures.list
