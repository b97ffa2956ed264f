-- The trials of the families of a report, from the report, and the products and exponents of its operations, alone.
--   PassesOn r p start l x w t    the families of the report pass the trial t, with products l and exponents x
--   IsJudged w s G k r v          the verdict on the families of a report with the right order and operations
--   judged                        it is that of the definition
--   judged_unique                 and there is one
use Rattle.std.proofs.Common.{◌≡◌, sym, ◌∙◌, subst, ℕ, ◌<◌, ◌*◌}
use Rattle.std.specs.Int.{◌∣◌}
use denote.Struct.Props.{props}
use Rattle.irr_algebra.specs.Action.{Equivalent, HasDimension, IsIrreducible, IsSimple}
use Rattle.irr_algebra.specs.Fin.{Fin, to_nat}
use Rattle.irr_algebra.specs.Homomorphism.{map_matrix}
use Rattle.irr_algebra.specs.Matrix.{Matrix, ◌·◌, scale, trace, unit}
use Rattle.irr_algebra.proofs.Indices.{to_nat_inj}
use Rattle.irr_number.specs.Number.{numbers, root_power}
use Rattle.irr_number.specs.Lift.{lift}
use Rattle.irr_theory.specs.Representations.{count_total}
use Rattle.irr_space.specs.Operation.{Operation, WaveVector}
use Rattle.irr_space.specs.Reciprocal.{IsOrder, Sign}
use Rattle.irr_space.specs.CanonicalOperation.{IsNumbering}
use Rattle.irr_space.specs.Star.{IsInLittleGroup}
use Rattle.irr_space.specs.PhaseTable.{IsTableOf, PhaseTable}
use Rattle.irr_text.specs.ReportText.{ReportContent}
use Rattle.irr_check.specs.declared.verdict.Verdict.{Verdict}
use Rattle.irr_check.specs.Families.{Families, families_report}
use Rattle.irr_check.specs.Trials.{Passes, PassesAll, PassesInequivalent, PassesIrreducible, Reading, Trial}
use Rattle.irr_check.specs.Trials.Reading.{dimensions, meaning}
use Rattle.irr_check.specs.Trials.Trial.{all, at_product, at_trace, at_unit, inequivalent, irreducible}
use Rattle.irr_check.specs.Verdict.{IsFamiliesVerdict}
use Rattle.irr_check.specs.Verdict.IsFamiliesVerdict.{fails, passes}
use Rattle.irr_check.proofs.OneTable.{IsListTable, exponent_unique, product_unique}
use Rattle.irr_check.proofs.TrialTurns.{IsTrialsVerdict, verdict_unique}
use Rattle.irr_check.proofs.TrialTurns.IsTrialsVerdict.{first_failed, none_failed}

module _ (r : ReportContent) (p : 0 < r.order) (start : Fin r.places) (l : Fin r.places → Fin r.places → Fin r.places)
    (x : Fin r.places → Fin r.places → ℕ) where
  -- the matrices over the numbers of order M
  abbrev pub over_order : (M : ℕ) → r.order ∣ M → (m : Fin r.count) → Fin r.places → Matrix (numbers M) (r.size m) (r.size m)
  over_order M v m i = map_matrix (lift r.order M p v) (r.matrix m i)

  -- a family of matrices that is a small representation over the numbers of order M
  pub record IsSmallOver (M : ℕ) (v : r.order ∣ M) {d : ℕ} (at : Fin r.places → Matrix (numbers M) d d) : Type 0 where
    pub at_first : at start ≡ unit (numbers M) d
    pub at_products : (i j : Fin r.places) → at i · at j ≡ scale (numbers M) ((lift r.order M p v).map (root_power r.order (x i j))) (at (l i j))

  unfoldable pub IrreducibleOn : Reading → Fin r.count → Type 0
  IrreducibleOn meaning m = (M : ℕ) (v : r.order ∣ M) → 0 < M → IsIrreducible (over_order M v m)
  IrreducibleOn dimensions m = IsSimple (r.matrix m)

  unfoldable pub InequivalentOn : Reading → Fin r.count → Fin r.count → Type 0
  InequivalentOn meaning a b = to_nat a < to_nat b → ¬ (Equivalent (r.matrix a) (r.matrix b))
  InequivalentOn dimensions a b = to_nat a < to_nat b → HasDimension (r.matrix a) (r.matrix b) 0

  unfoldable pub AllOn : Reading → Type 0
  AllOn meaning = (M : ℕ) (v : r.order ∣ M) → 0 < M → (d : ℕ) (at : Fin r.places → Matrix (numbers M) d d) → IsSmallOver M v at → 0 < d
      → IsIrreducible at → (m : Fin r.count) × Equivalent at (over_order M v m)
  AllOn dimensions = count_total r.count (λ m. r.size m * r.size m) ≡ r.places

  unfoldable pub PassesOn : Reading → Trial r.count r.places → Type 0
  PassesOn w (at_unit m) = r.matrix m start ≡ unit (numbers r.order) (r.size m)
  PassesOn w (at_product m i j) = r.matrix m i · r.matrix m j ≡ scale (numbers r.order) (root_power r.order (x i j)) (r.matrix m (l i j))
  PassesOn w (at_trace m i) = r.character m i ≡ trace (r.matrix m i)
  PassesOn w (irreducible m) = IrreducibleOn w m
  PassesOn w (inequivalent a b) = InequivalentOn w a b
  PassesOn w all = AllOn w

module _ (k : WaveVector) {h : ℕ} (ops : Fin h → Operation) (T : PhaseTable h) (F : Families T) where
  abbrev On : Reading → Trial F.count h → Type 0
  On = PassesOn (families_report k ops T F) T.order_positive T.start T.product T.exponent

  on : (w : Reading) (t : Trial F.count h) → Passes T F w t → On w t
  unfolding Passes PassesIrreducible PassesInequivalent PassesAll PassesOn IrreducibleOn InequivalentOn AllOn
  on w (at_unit m) e = e
  on w (at_product m i j) e = e
  on w (at_trace m i) e = e
  on meaning (irreducible m) e = e
  on dimensions (irreducible m) e = e
  on meaning (inequivalent a b) e = e
  on dimensions (inequivalent a b) e = e
  on meaning all e = λ M v q d at s. e M v q d (record { at = at; at-start = s.at_first; at-product = s.at_products })
  on dimensions all e = e

  off : (w : Reading) (t : Trial F.count h) → On w t → Passes T F w t
  unfolding Passes PassesIrreducible PassesInequivalent PassesAll PassesOn IrreducibleOn InequivalentOn AllOn
  off w (at_unit m) e = e
  off w (at_product m i j) e = e
  off w (at_trace m i) e = e
  off meaning (irreducible m) e = e
  off dimensions (irreducible m) e = e
  off meaning (inequivalent a b) e = e
  off dimensions (inequivalent a b) e = e
  off meaning all e = λ M v q d A. e M v q d A.at (record { at_first = A.at-start; at_products = A.at-product })
  off dimensions all e = e

  trials_verdict : (w : Reading) {v : Verdict} → IsFamiliesVerdict w T F v → IsTrialsVerdict (On w) v
  trials_verdict w (fails t is) = first_failed t (record {
    fails = λ e. is.fails (off w t e);
    earlier = λ u b. on w u (is.earlier u b);
  })
  trials_verdict w (passes every) = none_failed (λ t. on w t (every t))

pub record IsJudged (w : Reading) (s : Sign) (G : Operation → Type 0) (k : WaveVector) (r : ReportContent) (v : Verdict) : Type 0 where
  pub numbering : IsNumbering G (IsInLittleGroup G k) r.operation
  pub is_order : IsOrder G k r.order
  pub positive : 0 < r.order
  pub start : Fin r.places
  pub start_first : to_nat start ≡ 0
  pub product : Fin r.places → Fin r.places → Fin r.places
  pub exponent : Fin r.places → Fin r.places → ℕ
  pub table : IsListTable s k r.order r.operation product exponent
  pub verdict : IsTrialsVerdict (PassesOn r positive start product exponent w) v

module _ (w : Reading) (s : Sign) (G : Operation → Type 0) (k : WaveVector) where
  judged_families : {h : ℕ} (ops : Fin h → Operation) (T : PhaseTable h) (F : Families T) (v : Verdict) → IsNumbering G (IsInLittleGroup G k) ops
      → IsTableOf s G k ops T → IsFamiliesVerdict w T F v → IsJudged w s G k (families_report k ops T F) v
  judged_families ops T F v numbering table verdict = record {
    numbering = numbering;
    is_order = table.is_order;
    positive = T.order_positive;
    start = T.start;
    start_first = T.start_first;
    product = T.product;
    exponent = T.exponent;
    table = record { quotient = table.quotient; products = table.products; phases = table.phases };
    verdict = trials_verdict k ops T F w verdict;
  }

  pub judged : (r : ReportContent) {h : ℕ} (ops : Fin h → Operation) (T : PhaseTable h) (F : Families T) (v : Verdict)
      → IsNumbering G (IsInLittleGroup G k) ops → IsTableOf s G k ops T → r ≡ families_report k ops T F → IsFamiliesVerdict w T F v
      → IsJudged w s G k r v
  judged r ops T F v numbering table is verdict = subst (λ c. IsJudged w s G k c v) (sym is) (judged_families ops T F v numbering table verdict)

  module _ (r : ReportContent) (v u : Verdict) (a : IsJudged w s G k r v) (b : IsJudged w s G k r u) where
    same_positive : a.positive ≡ b.positive
    same_positive = let prop : IsProp (0 < r.order) = hlevel props in prop a.positive b.positive

    same_start : a.start ≡ b.start
    same_start = to_nat_inj a.start b.start (a.start_first ∙ sym b.start_first)

    moved : IsTrialsVerdict (PassesOn r b.positive b.start b.product b.exponent w) v
    moved =
        let first = subst (λ p. IsTrialsVerdict (PassesOn r p a.start a.product a.exponent w) v) same_positive a.verdict in
        let second = subst (λ i. IsTrialsVerdict (PassesOn r b.positive i a.product a.exponent w) v) same_start first in
        let third = subst (λ l. IsTrialsVerdict (PassesOn r b.positive b.start l a.exponent w) v)
        (product_unique s k r.order r.operation a.numbering.ordered a.product b.product a.exponent b.exponent a.table b.table) second in
        subst (λ x. IsTrialsVerdict (PassesOn r b.positive b.start b.product x w) v)
        (exponent_unique s k r.order r.operation a.numbering.ordered a.product b.product a.exponent b.exponent a.table b.table) third

    pub judged_unique : v ≡ u
    judged_unique = verdict_unique (PassesOn r b.positive b.start b.product b.exponent w) moved b.verdict
