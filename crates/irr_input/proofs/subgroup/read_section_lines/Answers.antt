use Rattle.std.proofs.Common.{refl, ◌+◌, rules}
use Rattle.irr_input.specs.declared.keyword.Keyword.TheVariants.{Subgroup}
use Rattle.irr_input.specs.declared.input.InputError.{InputError}
use Rattle.irr_input.specs.SectionLines.{IsSubgroupText}
use Rattle.irr_input.specs.LineReading.{IsSubFault}
use Rattle.irr_input.proofs.SubgroupReadings.{at_first, sub_read, subgroup_faulty, setting_faulty, sub_generator_faulty}
use Rattle.irr_input.proofs.subgroup.read_section_lines.Goals as goal

pub subgroup_line-requires : goal.subgroup_line-requires
subgroup_line-requires c = at_first Subgroup c.args.left.text.now c.next_line.result.0.now c.next_line.result.1.now c.requires.begins c.next_line.ensures.line

pub returns-in_err-subgroup_line-clause-fault : goal.returns-in_err-subgroup_line-clause-fault
returns-in_err-subgroup_line-clause-fault c =
    let e : InputError = c.in_err-subgroup_line.field-0.0 in
    let b = at_first Subgroup c.args.left.text.now c.next_line.result.0.now c.next_line.result.1.now c.requires.begins c.next_line.ensures.line in
    let r : IsSubFault c.args.left.lines c.args.left.text.now e =
    subgroup_faulty c.args.left.lines (c.args.left.lines + 1) c.args.left.text.now c.next_line.result.0.now c.next_line.result.1.now e c.next_line.ensures.line b refl c.in_err-subgroup_line.ensures.fault in
    search rules

pub returns-in_err-line-clause-fault : goal.returns-in_err-line-clause-fault
returns-in_err-line-clause-fault c =
    let e : InputError = c.in_err-line.field-0.0 in
    let b = at_first Subgroup c.args.left.text.now c.next_line.result.0.now c.next_line.result.1.now c.requires.begins c.next_line.ensures.line in
    let t : IsSubgroupText c.next_line.result.0.now = search rules in
    let r : IsSubFault c.args.left.lines c.args.left.text.now e =
    setting_faulty c.args.left.lines (c.args.left.lines + 1) c.args.left.text.now c.next_line.result.0.now c.next_line.result.1.now e c.next_line.ensures.line b t refl c.in_err-line.ensures.fault in
    search rules

pub returns-in_err-gens-clause-fault : goal.returns-in_err-gens-clause-fault
returns-in_err-gens-clause-fault c =
    let e : InputError = c.in_err-gens.field-0.0 in
    let b = at_first Subgroup c.args.left.text.now c.next_line.result.0.now c.next_line.result.1.now c.requires.begins c.next_line.ensures.line in
    let t : IsSubgroupText c.next_line.result.0.now = search rules in
    let r : IsSubFault c.args.left.lines c.args.left.text.now e =
    sub_generator_faulty c.args.left.lines (c.args.left.lines + 1) c.in_ok-line.left.lines c.in_ok-line.line c.args.left.text.now c.next_line.result.0.now c.next_line.result.1.now
    c.in_ok-line.left.text.now c.in_ok-line.setting e c.next_line.ensures.line b t refl c.in_ok-line.ensures.read c.in_err-gens.ensures.fault in
    search rules

pub returns-clause-read : goal.returns-clause-read
returns-clause-read c =
    let b = at_first Subgroup c.args.left.text.now c.next_line.result.0.now c.next_line.result.1.now c.requires.begins c.next_line.ensures.line in
    let t : IsSubgroupText c.next_line.result.0.now = search rules in
    sub_read c.args.left.lines (c.args.left.lines + 1) c.in_ok-line.left.lines c.in_ok-gens.left.lines c.args.left.text.now c.next_line.result.0.now c.next_line.result.1.now c.in_ok-line.left.text.now
    c.in_ok-gens.left.text.now _ c.next_line.ensures.line b t refl c.in_ok-line.ensures.read c.in_ok-gens.ensures.read
