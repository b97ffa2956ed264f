-- A report of the program whose representations are those of a list on a table of phases.
--   IsReportOfList r ops T L     the operations are ops, the order is that of T, and the representations have the matrices of L,
--                                with their traces as characters
use Rattle.std.specs.Prelude.{ℕ, ◌≡◌, [], length, slice_index_or}
use Rattle.irr_algebra.specs.Fin.{Fin, to_nat}
use Rattle.irr_theory.specs.Representations.{Representations}
use Rattle.irr_space.specs.Operation.{Operation, identity}
use Rattle.irr_space.specs.PhaseTable.{PhaseTable, phases_at}
use Rattle.irr_space.specs.CompleteList.{row}
use Rattle.irr_cyc.specs.declared.scalars.Scalar.{Ghosts}
use Rattle.irr_rep.specs.Family.{matrix_at}
use Rattle.irr_report.specs.declared.report.Report.{Report}
use Rattle.irr_report.specs.Content.{number_at, operations_of, sizes, characters, matrices}

pub record IsReportOfList {S : Type 0} {G : Ghosts S} {h : ℕ} (r : Report S G) (ops : Fin h → Operation) (T : PhaseTable h)
    (L : Representations (phases_at T)) : Type 0 where
  pub order : r.order ≡ T.order
  pub places : length r.ops.items ≡ h
  pub operation : (i : Fin h) → slice_index_or (operations_of r) (to_nat i) identity ≡ ops i
  pub count : length r.reps.items ≡ L.count
  pub size : (m : Fin L.count) → slice_index_or (sizes r) (to_nat m) 0 ≡ L.size m
  pub matrix : (m : Fin L.count) (i : Fin h) → matrix_at T.order (L.size m) (slice_index_or (matrices r) (to_nat m) []) i ≡ (L.member m).at i
  pub character : (m : Fin L.count) (i : Fin h)
      → number_at G.value T.order (slice_index_or (characters r) (to_nat m) []) (to_nat i) ≡ row T (L.member m) i
