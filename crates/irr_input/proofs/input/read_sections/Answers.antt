-- Generators, a subgroup, and a report.
use Rattle.std.proofs.Common.{refl, sym, subst, ◌≤◌, length, rules, arith}
use Rattle.irr_input.specs.declared.input.InputError.{InputError}
use Rattle.irr_input.specs.Stages.Said.{group}
use Rattle.irr_input.specs.Stages.Reaches.{start}
use Rattle.irr_input.specs.InputLines.{HasLines, IsInputFault, placed, sub_content, whole}
use Rattle.irr_input.proofs.LineCounts.{reached_lines}
use Rattle.irr_input.proofs.OneInput.{may_end}
use Rattle.irr_input.proofs.SubgroupReadings.{group_takes}
use Rattle.irr_input.proofs.input.read_sections.Goals as goal

pub returns-in_err-gens-clause-fault : goal.returns-in_err-gens-clause-fault
returns-in_err-gens-clause-fault g c =
    let e : InputError = c.in_err-gens.field-0.0 in
    let r : IsInputFault c.args.text.now e = c.in_err-gens.ensures.fault.fault c.args.text.now (λ gens. group gens) group_takes start in
    search rules

pub returns-in_err-sub-clause-fault : goal.returns-in_err-sub-clause-fault
returns-in_err-sub-clause-fault g c =
    let e : InputError = c.in_err-sub.field-0.0 in
    let r : IsInputFault c.args.text.now e = c.in_err-sub.ensures.fault.fault c.args.text.now (placed c.in_ok-gens.gens.items)
    (c.in_ok-gens.ensures.read.reached c.args.text.now (λ gens. group gens) group_takes start) in
    search rules

pub returns-in_err-report-clause-fault : goal.returns-in_err-report-clause-fault
returns-in_err-report-clause-fault g c =
    let e : InputError = c.in_err-report.field-0.0 in
    let gens = placed c.in_ok-gens.gens.items in
    let sub = sub_content c.in_ok-sub.sub in
    let reached = c.in_ok-sub.ensures.read.reached c.args.text.now gens (c.in_ok-gens.ensures.read.reached c.args.text.now (λ gens. group gens) group_takes start) in
    let r : IsInputFault c.args.text.now e = c.in_err-report.ensures.fault.fault c.args.text.now (whole gens sub) (may_end gens sub) (c.in_ok-sub.ensures.stops.stopped gens) reached in
    search rules

pub returns-clause-input : goal.returns-clause-input
returns-clause-input g c =
    let gens = placed c.in_ok-gens.gens.items in record {
      comes = record {
        said = whole gens (sub_content c.in_ok-sub.sub);
        number = c.in_ok-sub.left.lines;
        rest = c.in_ok-sub.left.text.now;
        reached = c.in_ok-sub.ensures.read.reached c.args.text.now gens (c.in_ok-gens.ensures.read.reached c.args.text.now (λ gens. group gens) group_takes start);
        at_end = (refl, c.in_ok-report.ensures.rest);
      };
    }

pub returns-clause-lines : goal.returns-clause-lines
returns-clause-lines g c =
    let gens = placed c.in_ok-gens.gens.items in
    let reached = c.in_ok-sub.ensures.read.reached c.args.text.now gens (c.in_ok-gens.ensures.read.reached c.args.text.now (λ gens. group gens) group_takes start) in
    let l = c.in_ok-report.ensures.lines in
    subst (HasLines c.args.text.now) (sym l.2) (reached_lines reached l.0 l.1)

pub returns-clause-few : goal.returns-clause-few
returns-clause-few g c =
    let l = c.in_ok-report.ensures.lines in
    let few : length c.in_ok-gens.gens.items ≤ c.in_ok-gens.left.lines = c.in_ok-gens.ensures.few in
    let forward : c.in_ok-gens.left.lines ≤ c.in_ok-sub.left.lines = c.in_ok-sub.ensures.forward in
    omega (arith, few, forward, l.2)
