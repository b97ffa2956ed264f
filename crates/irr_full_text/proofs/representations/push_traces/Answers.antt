-- One more trace.
use Rattle.std.proofs.Common.{◌∙◌, ◌++◌, sym, ap, List, ℕ, [], ◌∷◌, append-nil}
use Rattle.std.specs.Prelude.{codes}
use Rattle.std.specs.List.{flat_map}
use Rattle.std.proofs.lemmas.List.{take_all}
use Rattle.irr_report.proofs.Pieces.{flat_map_step}
use Rattle.irr_full_text.specs.Lines.{number_word, trace_word}
use Rattle.irr_full_text.proofs.Texts.{traces-parts}
use Rattle.irr_full_text.proofs.Readings.{represented, printable_at}
use Rattle.irr_full_text.proofs.representations.push_traces.Goals as goal

pub loop-op-init : goal.loop-op-init
loop-op-init g c = λ e. c.in_ok-extend_from_slice.ensures.items
    ∙ sym (append-nil (c.args.text.now.items ++ codes "char"))

pub trace-requires-clause-induced : goal.trace-requires-clause-induced
trace-requires-clause-induced g c = represented c.args.full.now c.requires.reading

pub trace-requires-clause-member : goal.trace-requires-clause-member
trace-requires-clause-member g c = (printable_at c.args.full.now.group c.args.ops.now c.requires.operations
    c.loop-op.op-index c.op-item.result
    c.loop-op-test.true c.op-item.is).0

pub trace-requires-clause-small : goal.trace-requires-clause-small
trace-requires-clause-small g c = (printable_at c.args.full.now.group c.args.ops.now c.requires.operations
    c.loop-op.op-index c.op-item.result
    c.loop-op-test.true c.op-item.is).1

pub loop-op-preserved : goal.loop-op-preserved
loop-op-preserved g c = λ e.
    c.in_ok-push_value.ensures e.number (c.in_ok-trace.ensures.order ∙ e.induced.order)
    ∙ ap (λ y. c.loop-op.text.items ++ number_word e.number y)
    (c.in_ok-trace.ensures.trace e.group e.wave e.star e.number e.divides e.size e.small e.induced e.matrix e.is_full)
    ∙ flat_map_step (trace_word e.number e.matrix) (c.args.text.now.items ++ codes "char") c.loop-op.text.items
    c.args.ops.now c.loop-op.op-index
    c.op-item.result c.loop-op-test.true c.op-item.is (c.loop-op.invariant e)

pub returns : goal.returns
returns g c = λ e. c.in_ok-push.ensures.items ∙ ap (λ (t : List ℕ). t ++ 10 ∷ []) (c.loop-op.invariant e
    ∙ ap (λ xs. (c.args.text.now.items ++ codes "char") ++ flat_map (trace_word e.number e.matrix) xs)
    (take_all c.loop-op.op-index c.args.ops.now c.loop-op-test.false))
    ∙ traces-parts c.args.text.now.items (flat_map (trace_word e.number e.matrix) c.args.ops.now)
