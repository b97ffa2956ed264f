-- What holds of a group of operations holds of each with the same operations.
--   reciprocal_along, order_along, little_along      reciprocal vectors, orders, little groups
--   numbering_along, table_along                     numberings of a little group, and tables of phases
--   verdict_along, complete_along                    verdicts, reports of complete lists
use Rattle.std.proofs.Common.{◌↔◌, ℕ}
use Rattle.irr_algebra.specs.Fin.{Fin}
use Rattle.irr_space.specs.Operation.{Operation, WaveVector, translation}
use Rattle.irr_space.specs.Reciprocal.{IsOrder, IsPeriod, IsReciprocal, Sign, times}
use Rattle.irr_space.specs.CanonicalOperation.{IsNumbering}
use Rattle.irr_space.specs.Star.{IsInLittleGroup}
use Rattle.irr_space.specs.PhaseTable.{IsTableOf, PhaseTable}
use Rattle.irr_close.proofs.Along.{canonical_along, exponent_along}
use Rattle.irr_text.specs.ReportText.{ReportContent}
use Rattle.irr_check.specs.declared.verdict.Verdict.{Verdict}
use Rattle.irr_check.specs.Trials.{Reading}
use Rattle.irr_check.specs.Verdict.{IsCompleteReport, IsVerdict}
use Rattle.irr_check.specs.Verdict.IsVerdict.{of_families, other_operations, other_order}

module _ (G H : Operation → Type 0) (same : (g : Operation) → G g ↔ H g) where
  pub reciprocal_along : (k : WaveVector) → IsReciprocal G k → IsReciprocal H k
  reciprocal_along k r = record { is_whole = λ t m. r.is_whole t ((same (translation t)).1 m) }

  pub little_along : (k : WaveVector) (g : Operation) → IsInLittleGroup G k g → IsInLittleGroup H k g
  little_along k g l = record { member = (same g).0 l.member; keeps = reciprocal_along _ l.keeps }

module _ (G H : Operation → Type 0) (same : (g : Operation) → G g ↔ H g) where
  back : (g : Operation) → H g ↔ G g
  back g = ((same g).1, (same g).0)

  period_along : (k : WaveVector) (q : ℕ) → IsPeriod G k q → IsPeriod H k q
  period_along k q p = record {
    positive = p.positive;
    reciprocal = reciprocal_along G H same (times q k) p.reciprocal;
    least = λ n l r. p.least n l (reciprocal_along H G back (times n k) r);
  }

  pub order_along : (k : WaveVector) (n : ℕ) → IsOrder G k n → IsOrder H k n
  order_along k n o = record {
    exponent = o.exponent;
    period = o.period;
    is_exponent = exponent_along G H same o.exponent o.is_exponent;
    is_period = period_along k o.period o.is_period;
    is_product = o.is_product;
  }

  pub numbering_along : (k : WaveVector) {h : ℕ} (ops : Fin h → Operation) → IsNumbering G (IsInLittleGroup G k) ops
      → IsNumbering H (IsInLittleGroup H k) ops
  numbering_along k ops n = record {
    canonical = λ i. canonical_along G H same (ops i) (n.canonical i);
    member = λ i. little_along G H same k (ops i) (n.member i);
    all = λ g c m. n.all g (canonical_along H G back g c) (little_along H G back k g m);
    ordered = n.ordered;
  }

  pub table_along : (s : Sign) (k : WaveVector) {h : ℕ} (ops : Fin h → Operation) (T : PhaseTable h) → IsTableOf s G k ops T → IsTableOf s H k ops T
  table_along s k ops T t = record {
    is_order = order_along k T.order t.is_order;
    quotient = t.quotient;
    is_translation = λ i j. (same (translation (t.quotient i j))).0 (t.is_translation i j);
    products = t.products;
    phases = t.phases;
  }

  pub verdict_along : (w : Reading) (s : Sign) (r : ReportContent) {v : Verdict} → IsVerdict w s G r v → IsVerdict w s H r v
  verdict_along w s r (other_order {n = n} order other) = other_order (order_along r.wave n order) other
  verdict_along w s r (other_operations ops order numbering first) = other_operations ops (order_along r.wave r.order order)
      (numbering_along r.wave ops numbering) first
  verdict_along w s r (of_families ops T F numbering table is verdict) = of_families ops T F (numbering_along r.wave ops numbering)
      (table_along s r.wave ops T table) is verdict

  pub complete_along : (s : Sign) (r : ReportContent) → IsCompleteReport s G r → IsCompleteReport s H r
  complete_along s r c = record {
    places = c.places;
    operation = c.operation;
    numbering = numbering_along r.wave c.operation c.numbering;
    table = c.table;
    is_table = table_along s r.wave c.operation c.table c.is_table;
    representations = c.representations;
    complete = c.complete;
    content = c.content;
  }
