use Rattle.std.proofs.Common.{refl, sym, subst, rules}
use Rattle.std.specs.Prelude.{IsTrue}
use Rattle.irr_input.specs.declared.input.InputError.{InputError}
use Rattle.irr_input.specs.SectionLines.{IsSkipped}
use Rattle.irr_input.specs.LineReading.{IsLineFault}
use Rattle.irr_input.specs.LineReading.IsLineRead.{skipped, generator}
use Rattle.irr_input.proofs.lines.read_line.Goals as goal

pub returns-then-is_skipped-clause-read : goal.returns-then-is_skipped-clause-read
returns-then-is_skipped-clause-read c = skipped (c.is_skipped.ensures.0 c.if-is_skipped.true) refl

pub returns-in_err-op-clause-fault : goal.returns-in_err-op-clause-fault
returns-in_err-op-clause-fault c =
    let e : InputError = c.in_err-op.field-0.0 in
    let f = c.in_err-op.ensures.fault in
    let no : ¬ (IsSkipped c.args.line.now) = (λ s. let t : IsTrue c.is_skipped.result = c.is_skipped.ensures.1 s in absurd (cc (c.if-is_skipped.false))) in
    let r : IsLineFault c.args.number c.args.line.now e = subst (IsLineFault c.args.number c.args.line.now) (sym f.1) (refl, no, f.2) in
    search rules

pub returns-clause-read : goal.returns-clause-read
returns-clause-read c = generator (record { line = c.args.number; op = c.in_ok-op.op }) (λ s. let t : IsTrue c.is_skipped.result = c.is_skipped.ensures.1 s in absurd (cc (c.if-is_skipped.false))) refl
    c.in_ok-op.ensures.text c.in_ok-op.ensures.readable c.in_ok-push.ensures.items
