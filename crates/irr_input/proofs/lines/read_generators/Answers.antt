-- The lines are read one after another, up to one that begins a section.
use Rattle.std.proofs.Common.{◌≡◌, refl, ◌+◌, ◌≤◌, ◌<◌, length, inl, inr, rules, arith}
use Rattle.std.specs.Prelude.{IsTrue}
use Rattle.std.proofs.lemmas.Grind.{common_steps}
use Rattle.std.proofs.lemmas.List.{nil_from_length}
use Rattle.irr_input.specs.declared.keyword.Keyword.{Keyword}
use Rattle.irr_input.specs.declared.input.InputError.{InputError}
use Rattle.irr_input.specs.SectionLines.{Begins}
use Rattle.irr_input.specs.LineReading.{IsGeneratorFault}
use Rattle.irr_input.proofs.LineReadings.{none_read, none_readable, none_few, line_read, readable_more, few_more, generator_fault}
use Rattle.irr_input.proofs.lines.read_generators.Goals as goal

pub loop-line-init : goal.loop-line-init
loop-line-init c = (
  none_read c.new-gens.result.items c.args.left.lines c.args.left.text.now c.new-gens.ensures.items,
  none_readable c.new-gens.result.items c.new-gens.ensures.items,
  none_few c.new-gens.result.items c.args.left.lines c.new-gens.ensures.items,
  omega arith,
  omega arith,
)

pub loop-line-preserved : goal.loop-line-preserved
loop-line-preserved c =
    let other : (k : Keyword) → ¬ (Begins k c.next_line.result.0.now) = (λ k b. let t : IsTrue c.begins_section.result = c.begins_section.ensures.none k b in absurd (cc (c.if-begins_section.false))) in
    let shorter : length c.next_line.result.1.now < length c.loop-line.rest.now = c.next_line.ensures.shorter in
    let so_far : c.loop-line.lines + length c.loop-line.rest.now ≤ c.args.left.lines + length c.args.left.text.now = c.loop-line.invariant.3 in (
      line_read c.loop-line.gens.items c.read_line.new.gens.items c.args.left.lines c.loop-line.lines (c.loop-line.lines + 1) c.args.left.text.now c.loop-line.rest.now c.next_line.result.0.now
          c.next_line.result.1.now c.loop-line.invariant.0 c.next_line.ensures.line other refl c.in_ok-read_line.ensures.read,
      readable_more c.loop-line.gens.items c.read_line.new.gens.items (c.loop-line.lines + 1) c.next_line.result.0.now c.loop-line.invariant.1 c.in_ok-read_line.ensures.read,
      few_more c.loop-line.gens.items c.read_line.new.gens.items c.loop-line.lines (c.loop-line.lines + 1) c.next_line.result.0.now c.loop-line.invariant.2 refl c.in_ok-read_line.ensures.read,
      omega arith,
      (let forward : c.args.left.lines ≤ c.loop-line.lines = c.loop-line.invariant.4 in omega arith),
    )

pub returns-then-begins_section-clause-read : goal.returns-then-begins_section-clause-read
returns-then-begins_section-clause-read c = c.loop-line.invariant.0

pub returns-then-begins_section-clause-readable : goal.returns-then-begins_section-clause-readable
returns-then-begins_section-clause-readable c = c.loop-line.invariant.1

pub returns-then-begins_section-clause-ends : goal.returns-then-begins_section-clause-ends
returns-then-begins_section-clause-ends c =
    let b = c.begins_section.ensures.some c.if-begins_section.true in
    inr (b.0, record { line = c.next_line.result.0.now; behind = c.next_line.result.1.now; is_first = c.next_line.ensures.line; begins = b.1 })

pub returns-in_err-read_line-clause-fault : goal.returns-in_err-read_line-clause-fault
returns-in_err-read_line-clause-fault c =
    let e : InputError = c.in_err-read_line.field-0.0 in
    let other : (k : Keyword) → ¬ (Begins k c.next_line.result.0.now) = (λ k b. let t : IsTrue c.begins_section.result = c.begins_section.ensures.none k b in absurd (cc (c.if-begins_section.false))) in
    let r : IsGeneratorFault c.args.left.lines c.args.left.text.now e =
    generator_fault c.loop-line.gens.items c.args.left.lines c.loop-line.lines (c.loop-line.lines + 1) c.args.left.text.now c.loop-line.rest.now c.next_line.result.0.now c.next_line.result.1.now e
    c.loop-line.invariant.0 c.next_line.ensures.line other refl c.in_err-read_line.ensures.fault in
    search rules

pub returns-clause-read : goal.returns-clause-read
returns-clause-read c = c.loop-line.invariant.0

pub returns-clause-readable : goal.returns-clause-readable
returns-clause-readable c = c.loop-line.invariant.1

pub returns-clause-ends : goal.returns-clause-ends
returns-clause-ends c =
    let none : length c.loop-line.rest.now ≡ 0 = grind (arith, common_steps) in
    inl (nil_from_length c.loop-line.rest.now none)
