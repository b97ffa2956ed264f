-- The lines are read one after another.
use Rattle.std.proofs.Common.{refl, sym, subst, ◌≡◌, ◌<◌, ◌≤◌, ◌+◌, length, arith}
use Rattle.std.proofs.lemmas.Grind.{common_steps}
use Rattle.irr_report.specs.ReportFault.{IsFault}
use Rattle.irr_report.proofs.StagesRead.{nothing-read, line-read, line-fails, line-missing, all-read}
use Rattle.irr_report.proofs.StageLimits.{all-limits}
use Rattle.irr_report.proofs.read.read_report.Goals as goal

pub loop-rest-init : goal.loop-rest-init
loop-rest-init g c = (nothing-read c.args.text.now, omega arith)

pub loop-rest-preserved : goal.loop-rest-preserved
loop-rest-preserved g c = (
  line-read c.args.text.now c.loop-rest.rest.now c.next_line.result.0.now c.next_line.result.1.now c.loop-rest.number (c.loop-rest.number + 1) c.loop-rest.stage c.in-Ok.next c.loop-rest.invariant.0 c.next_line.ensures.line refl c.in-Ok.ensures.steps,
  let shorter : length c.next_line.result.1.now < length c.loop-rest.rest.now = c.next_line.ensures.shorter in
      let so_far : c.loop-rest.number + length c.loop-rest.rest.now ≤ length c.args.text.now = c.loop-rest.invariant.1 in
      omega arith,
)

pub returns-in-Err-clause-fault : goal.returns-in-Err-clause-fault
returns-in-Err-clause-fault g c = subst (IsFault c.args.text.now) (sym c.at_line.ensures) (line-fails c.args.text.now c.loop-rest.rest.now c.next_line.result.0.now c.next_line.result.1.now c.loop-rest.number (c.loop-rest.number + 1) c.loop-rest.stage c.in-Err.error c.loop-rest.invariant.0 c.next_line.ensures.line refl c.in-Err.ensures.fails)

pub returns-in-Some-clause-report : goal.returns-in-Some-clause-report
returns-in-Some-clause-report g c = let end : length c.loop-rest.rest.now ≡ 0 = grind (arith, common_steps) in all-read c.args.text.now c.loop-rest.rest.now c.loop-rest.number c.loop-rest.stage c.in-Some.report c.loop-rest.invariant.0 end c.in-Some.ensures.some

pub returns-in-Some-clause-limits : goal.returns-in-Some-clause-limits
returns-in-Some-clause-limits g c = let end : length c.loop-rest.rest.now ≡ 0 = grind (arith, common_steps) in all-limits c.args.text.now c.loop-rest.rest.now c.loop-rest.number c.loop-rest.stage c.in-Some.report c.loop-rest.invariant.0 end c.in-Some.ensures.some

pub returns-in-None-clause-fault : goal.returns-in-None-clause-fault
returns-in-None-clause-fault g c = let end : length c.loop-rest.rest.now ≡ 0 = grind (arith, common_steps) in line-missing c.args.text.now c.loop-rest.rest.now c.loop-rest.number (c.loop-rest.number + 1) c.loop-rest.stage c.loop-rest.invariant.0 end refl (c.in-None.ensures.none refl)
