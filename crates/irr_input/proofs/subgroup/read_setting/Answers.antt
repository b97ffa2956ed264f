use Rattle.std.proofs.Common.{rules}
use Rattle.irr_input.specs.declared.input.InputError.{InputError}
use Rattle.irr_input.specs.LineReading.{IsSettingFault}
use Rattle.irr_input.proofs.SubgroupReadings.{setting_read, basis_missing, basis_faulty, origin_missing, origin_faulty}
use Rattle.irr_input.proofs.subgroup.read_setting.Goals as goal

pub returns-in_err-line-clause-fault : goal.returns-in_err-line-clause-fault
returns-in_err-line-clause-fault c =
    let e : InputError = c.in_err-line.field-0.0 in
    let r : IsSettingFault c.args.left.lines c.args.left.text.now e = basis_missing c.args.left.lines c.args.left.text.now e c.in_err-line.ensures.fault in
    search rules

pub returns-in_err-basis-clause-fault : goal.returns-in_err-basis-clause-fault
returns-in_err-basis-clause-fault c =
    let e : InputError = c.in_err-basis.field-0.0 in
    let r : IsSettingFault c.args.left.lines c.args.left.text.now e =
    basis_faulty c.args.left.lines c.in_ok-line.left.lines c.args.left.text.now c.in_ok-line.line.now c.in_ok-line.left.text.now e c.in_ok-line.ensures.found c.in_err-basis.ensures.fault in
    search rules

pub returns-in_err-line-2-clause-fault : goal.returns-in_err-line-2-clause-fault
returns-in_err-line-2-clause-fault c =
    let e : InputError = c.in_err-line-2.field-0.0 in
    let r : IsSettingFault c.args.left.lines c.args.left.text.now e =
    origin_missing c.args.left.lines c.in_ok-line.left.lines c.args.left.text.now c.in_ok-line.line.now c.in_ok-line.left.text.now c.in_ok-basis.basis.num c.in_ok-basis.basis.den e
    c.in_ok-line.ensures.found c.in_ok-basis.ensures.read c.in_err-line-2.ensures.fault in
    search rules

pub returns-in_err-shift-clause-fault : goal.returns-in_err-shift-clause-fault
returns-in_err-shift-clause-fault c =
    let e : InputError = c.in_err-shift.field-0.0 in
    let r : IsSettingFault c.args.left.lines c.args.left.text.now e =
    origin_faulty c.args.left.lines c.in_ok-line.left.lines c.in_ok-line-2.left.lines c.args.left.text.now c.in_ok-line.line.now c.in_ok-line.left.text.now c.in_ok-line-2.line.now
    c.in_ok-line-2.left.text.now c.in_ok-basis.basis.num c.in_ok-basis.basis.den e c.in_ok-line.ensures.found c.in_ok-basis.ensures.read c.in_ok-line-2.ensures.found c.in_err-shift.ensures.fault in
    search rules

pub returns-clause-read : goal.returns-clause-read
returns-clause-read c =
    setting_read c.args.left.lines c.in_ok-line.left.lines c.in_ok-line-2.left.lines c.args.left.text.now c.in_ok-line.line.now c.in_ok-line.left.text.now c.in_ok-line-2.line.now
    c.in_ok-line-2.left.text.now _ c.in_ok-line.ensures.found c.in_ok-basis.ensures.read c.in_ok-line-2.ensures.found c.in_ok-shift.ensures.read
