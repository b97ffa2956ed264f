-- What a report says of families of matrices on a table of phases.
--   Families T                  families of matrices at the places of T, over the numbers of its order, each with a row of numbers
--   families_report k ops T F   the report of such families at a wave vector, with the operations ops
--   at_order T F M v m          the matrices of the m-th family as numbers of order M
--   AreSmall T F                each family is a small representation: D(start) = 1 and D(i)D(j) = z^x(i,j) D(l(i,j))
--   small_list T F p            the list of these representations
use Rattle.std.specs.Prelude.{ℕ, ◌≡◌}
use Rattle.std.specs.Int.{◌∣◌}
use Rattle.irr_algebra.specs.Fin.{Fin}
use Rattle.irr_algebra.specs.Matrix.{Matrix, ◌·◌, scale, unit}
use Rattle.irr_algebra.specs.Homomorphism.{map_matrix}
use Rattle.irr_number.specs.Number.{Number, numbers}
use Rattle.irr_number.specs.Lift.{lift}
use Rattle.irr_theory.specs.Representations.{Representations}
use Rattle.irr_space.specs.Operation.{Operation, WaveVector}
use Rattle.irr_space.specs.PhaseTable.{PhaseTable, phases_at}
use Rattle.irr_text.specs.ReportText.{ReportContent}

pub record Families {h : ℕ} (T : PhaseTable h) : Type 0 where
  pub count : ℕ
  pub size : Fin count → ℕ
  pub character : (m : Fin count) → Fin h → Number T.order
  pub matrix : (m : Fin count) → Fin h → Matrix (numbers T.order) (size m) (size m)

abbrev pub families_report : WaveVector → {h : ℕ} (ops : Fin h → Operation) (T : PhaseTable h) → Families T → ReportContent
families_report wave {h} ops T F = record {
  wave = wave;
  order = T.order;
  places = h;
  operation = ops;
  count = F.count;
  size = F.size;
  character = F.character;
  matrix = F.matrix;
}

-- the same matrices over the numbers of order M
abbrev pub at_order : {h : ℕ} (T : PhaseTable h) (F : Families T) (M : ℕ) → T.order ∣ M → (m : Fin F.count) → Fin h → Matrix (numbers M) (F.size m) (F.size m)
at_order T F M v m i = map_matrix (lift T.order M T.order_positive v) (F.matrix m i)

pub record AreSmall {h : ℕ} (T : PhaseTable h) (F : Families T) : Type 0 where
  pub unit_at : (m : Fin F.count) → F.matrix m T.start ≡ unit (numbers T.order) (F.size m)
  pub product_at : (m : Fin F.count) (i j : Fin h) → F.matrix m i · F.matrix m j ≡ scale (numbers T.order) ((phases_at T).phase i j) (F.matrix m (T.product i j))

abbrev pub small_list : {h : ℕ} (T : PhaseTable h) (F : Families T) → AreSmall T F → Representations (phases_at T)
small_list T F p = record {
  count = F.count;
  size = F.size;
  member = λ m. record { at = F.matrix m; at-start = p.unit_at m; at-product = p.product_at m };
}
