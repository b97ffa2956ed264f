-- Line groups and the lists on them.
--   line_has_steps           the table of a line group has steps
--   here_size                the points of a line
use Rattle.std.proofs.Common.{ℕ, suc}
use Rattle.irr_algebra.specs.Fin.{Fin}
use Rattle.irr_space.specs.Operation.{Operation, WaveVector}
use Rattle.irr_space.specs.Reciprocal.{Sign}
use Rattle.irr_space.specs.CanonicalOperation.{IsNumbering}
use Rattle.irr_space.specs.PhaseTable.{PhaseTable}
use Rattle.irr_cocycle.proofs.Numberings.{rotation_distinct}
use Rattle.irr_chain.specs.NormalSubgroup.{HasSteps}
use Rattle.irr_steps.proofs.Tables.{operations_have_steps}
use Rattle.irr_line.specs.LineGroup.{IsInLineGroup, IsLineTable}

pub line_has_steps : (s : Sign) (G : Operation → Type 0) {n : ℕ} (point : Fin (suc n) → WaveVector) {h : ℕ} (ops : Fin h → Operation) (T : PhaseTable h)
    → IsNumbering G (IsInLineGroup G point) ops → IsLineTable s G point ops T → HasSteps T
line_has_steps s G point ops T numbering table = operations_have_steps T ops (record {
  quotient = table.quotient;
  products = table.products;
  distinct = rotation_distinct G (IsInLineGroup G point) ops numbering;
})
