-- Lines that are skipped, and then the line that is needed.
use Rattle.std.proofs.Common.{◌≡◌, refl, ◌+◌, ◌≤◌, ◌<◌, length, rules, arith}
use Rattle.std.specs.Prelude.{IsTrue}
use Rattle.std.proofs.lemmas.Grind.{common_steps}
use Rattle.irr_input.specs.SectionLines.{Begins, IsSkipped}
use Rattle.irr_input.proofs.LineReadings.{none_skipped, one_skipped, needed_found, needed_other, needed_end}
use Rattle.irr_input.proofs.lines.needed_line.Goals as goal

pub loop-rest-init : goal.loop-rest-init
loop-rest-init c = (none_skipped c.args.left.lines c.args.left.text.now, omega arith, omega arith)

pub loop-rest-preserved : goal.loop-rest-preserved
loop-rest-preserved c =
    let t : IsTrue c.is_skipped.result = search rules in
    let shorter : length c.next_line.result.1.now < length c.loop-rest.rest.now = c.next_line.ensures.shorter in
    let so_far : c.loop-rest.lines + length c.loop-rest.rest.now ≤ c.args.left.lines + length c.args.left.text.now = c.loop-rest.invariant.1 in (
      one_skipped c.args.left.lines c.loop-rest.lines (c.loop-rest.lines + 1) c.args.left.text.now c.loop-rest.rest.now c.next_line.result.0.now c.next_line.result.1.now c.loop-rest.invariant.0
          c.next_line.ensures.line (c.is_skipped.ensures.0 t) refl,
      omega arith,
      (let forward : c.args.left.lines ≤ c.loop-rest.lines = c.loop-rest.invariant.2 in omega arith),
    )

pub returns-then-begins-clause-found : goal.returns-then-begins-clause-found
returns-then-begins-clause-found c =
    needed_found c.args.keyword c.args.left.lines c.loop-rest.lines (c.loop-rest.lines + 1) c.args.left.text.now c.loop-rest.rest.now c.next_line.result.0.now c.next_line.result.1.now
    c.loop-rest.invariant.0 c.next_line.ensures.line (c.begins.ensures.0 c.if-begins.true) refl

pub returns-then-not-is_skipped-clause-fault : goal.returns-then-not-is_skipped-clause-fault
returns-then-not-is_skipped-clause-fault c =
    let unskipped : ¬ (IsSkipped c.next_line.result.0.now) = (λ s. let t : IsTrue c.is_skipped.result = c.is_skipped.ensures.1 s in absurd (cc (c.if-not-is_skipped.true))) in
    let other : ¬ (Begins c.args.keyword c.next_line.result.0.now) = (λ b. let t : IsTrue c.begins.result = c.begins.ensures.1 b in absurd (cc (c.if-begins.false))) in
    needed_other c.args.keyword c.args.left.lines c.loop-rest.lines (c.loop-rest.lines + 1) c.args.left.text.now c.loop-rest.rest.now c.next_line.result.0.now c.next_line.result.1.now
    c.loop-rest.invariant.0 c.next_line.ensures.line unskipped other refl

pub returns-clause-fault : goal.returns-clause-fault
returns-clause-fault c =
    let none : length c.loop-rest.rest.now ≡ 0 = grind (arith, common_steps) in
    needed_end c.args.keyword c.args.left.lines c.loop-rest.lines (c.loop-rest.lines + 1) c.args.left.text.now c.loop-rest.rest.now c.loop-rest.invariant.0 none refl
