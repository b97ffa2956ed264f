use Rattle.std.proofs.Common.{◌≡◌, refl, ◌+◌, ◌≤◌, ◌<◌, length, arith}
use Rattle.std.proofs.lemmas.Grind.{common_steps}
use Rattle.irr_input.proofs.LineCounts.{none_counted, one_counted, all_counted}
use Rattle.irr_input.proofs.section.count_lines.Goals as goal

pub loop-rest-init : goal.loop-rest-init
loop-rest-init c = (none_counted c.args.text.now, omega arith)

pub loop-rest-preserved : goal.loop-rest-preserved
loop-rest-preserved c = (
  one_counted c.args.text.now c.loop-rest.rest.now c.next_line.result.0.now c.next_line.result.1.now c.loop-rest.lines (c.loop-rest.lines + 1)
      c.loop-rest.invariant.0 c.next_line.ensures.line refl,
  let shorter : length c.next_line.result.1.now < length c.loop-rest.rest.now = c.next_line.ensures.shorter in
      let so_far : c.loop-rest.lines + length c.loop-rest.rest.now ≤ length c.args.text.now = c.loop-rest.invariant.1 in
      omega arith,
)

pub returns-clause-lines : goal.returns-clause-lines
returns-clause-lines c =
    let none : length c.loop-rest.rest.now ≡ 0 = grind (arith, common_steps) in
    all_counted c.args.text.now c.loop-rest.rest.now c.loop-rest.lines c.loop-rest.invariant.0 none
