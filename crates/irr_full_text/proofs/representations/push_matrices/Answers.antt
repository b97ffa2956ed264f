-- One more matrix.
use Rattle.std.proofs.Common.{◌∙◌, ◌++◌, ap}
use Rattle.std.proofs.lemmas.List.{take_all}
use Rattle.irr_report.specs.Printed.{numbered}
use Rattle.irr_report.proofs.Pieces.{numbered_none, numbered_step}
use Rattle.irr_full_text.specs.Lines.{matrix_text}
use Rattle.irr_full_text.proofs.Readings.{printable_at}
use Rattle.irr_full_text.proofs.representations.push_matrices.Goals as goal

pub loop-i-init : goal.loop-i-init
loop-i-init g c = λ e. numbered_none (matrix_text e.number e.matrix) c.args.text.now.items

pub push_matrix-requires-clause-operation : goal.push_matrix-requires-clause-operation
push_matrix-requires-clause-operation g c = printable_at c.args.full.now.group c.args.gens.now c.requires.generators
    c.loop-i.i c.index-gens-i.result
    c.loop-i-test.true c.index-gens-i.is

pub loop-i-preserved : goal.loop-i-preserved
loop-i-preserved g c = λ e. c.in_ok-push_matrix.ensures e ∙ numbered_step (matrix_text e.number e.matrix)
    c.args.text.now.items c.loop-i.text.items
    c.args.gens.now c.loop-i.i c.index-gens-i.result c.loop-i-test.true c.index-gens-i.is (c.loop-i.invariant e)

pub returns : goal.returns
returns g c = λ e. c.loop-i.invariant e ∙ ap (λ xs. c.args.text.now.items ++ numbered (matrix_text e.number e.matrix) 1
    xs)
    (take_all c.loop-i.i c.args.gens.now c.loop-i-test.false)
