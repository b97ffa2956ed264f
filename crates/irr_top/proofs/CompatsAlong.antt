-- What holds of a group of operations holds of each with the same operations.
--   line_order_along          the order of a line
--   relations_along           compatibility relations
--   content_along             what stands in their text
use Rattle.std.proofs.Common.{◌↔◌, ℕ, suc}
use Rattle.irr_algebra.specs.Fin.{Fin}
use Rattle.irr_theory.specs.Representations.{Representations}
use Rattle.irr_space.specs.Operation.{Operation, WaveVector, translation}
use Rattle.irr_space.specs.CanonicalOperation.{IsNumbering}
use Rattle.irr_space.specs.PhaseTable.{PhaseTable, phases_at}
use Rattle.irr_space.specs.Reciprocal.{Sign}
use Rattle.irr_close.proofs.Along.{canonical_along, exponent_along}
use Rattle.irr_check.proofs.Along.{little_along, numbering_along, table_along}
use Rattle.irr_full_text.proofs.Along.{period_along}
use Rattle.irr_line.specs.LineGroup.{IsInLineGroup, IsLineOrder, IsLineTable}
use Rattle.irr_compat.specs.Relations.{LineRelations, PointRelations}
use Rattle.irr_compat_text.specs.CompatText.{CompatContent, IsCompatContent}

module _ (G H : Operation → Type 0) (same : (g : Operation) → G g ↔ H g) where
  pub line_order_along : {n : ℕ} (point : Fin (suc n) → WaveVector) (m : ℕ) → IsLineOrder G point m → IsLineOrder H point m
  line_order_along point m o = record {
    exponent = o.exponent;
    period = o.period;
    common = o.common;
    is_exponent = exponent_along G H same o.exponent o.is_exponent;
    is_period = λ i. period_along G H same (point i) (o.period i) (o.is_period i);
    is_common = o.is_common;
    is_product = o.is_product;
  }

  pub line_along : {n : ℕ} (point : Fin (suc n) → WaveVector) (g : Operation) → IsInLineGroup G point g → IsInLineGroup H point g
  line_along point g l = record { in_little = little_along G H same _ g l.in_little; keeps_step = l.keeps_step }

module _ (G H : Operation → Type 0) (same : (g : Operation) → G g ↔ H g) where
  back : (g : Operation) → H g ↔ G g
  back g = ((same g).1, (same g).0)

  pub line_numbering_along : {n : ℕ} (point : Fin (suc n) → WaveVector) {h : ℕ} (ops : Fin h → Operation)
      → IsNumbering G (IsInLineGroup G point) ops → IsNumbering H (IsInLineGroup H point) ops
  line_numbering_along point ops n = record {
    canonical = λ i. canonical_along G H same (ops i) (n.canonical i);
    member = λ i. line_along G H same point (ops i) (n.member i);
    all = λ g c m. n.all g (canonical_along H G back g c) (line_along H G back point g m);
    ordered = n.ordered;
  }

  pub line_table_along : (s : Sign) {n : ℕ} (point : Fin (suc n) → WaveVector) {h : ℕ} (ops : Fin h → Operation) (T : PhaseTable h)
      → IsLineTable s G point ops T → IsLineTable s H point ops T
  line_table_along s point ops T t = record {
    is_order = line_order_along G H same point T.order t.is_order;
    quotient = t.quotient;
    is_translation = λ i j. (same (translation (t.quotient i j))).0 (t.is_translation i j);
    products = t.products;
    phases = t.phases;
  }

module _ (G H : Operation → Type 0) (same : (g : Operation) → G g ↔ H g) where
  abbrev pub point_along : {s : Sign} {n : ℕ} {point : Fin (suc n) → WaveVector} {h : ℕ} {ops : Fin h → Operation} {T : PhaseTable h}
      {list : Representations (phases_at T)} {i : Fin (suc n)} → PointRelations s G point ops T list i → PointRelations s H point ops T list i
  point_along {s = s} {point = point} {i = i} r = record {
    places = r.places;
    little = r.little;
    numbering = numbering_along G H same (point i) r.little r.numbering;
    table = r.table;
    is_table = table_along G H same s (point i) r.little r.table r.is_table;
    members = r.members;
    complete = r.complete;
    in_order = r.in_order;
    divides = r.divides;
    reading = r.reading;
    is_reading = r.is_reading;
    mult = r.mult;
    is_mult = r.is_mult;
    adds_up = r.adds_up;
  }

  abbrev pub relations_along : {s : Sign} {n : ℕ} {point : Fin (suc n) → WaveVector} {h : ℕ} {T : PhaseTable h} → LineRelations s G point T → LineRelations s H point T
  relations_along {s = s} {point = point} {T = T} r = record {
    operation = r.operation;
    numbering = line_numbering_along G H same point r.operation r.numbering;
    is_table = line_table_along G H same s point r.operation T r.is_table;
    list = r.list;
    complete = r.complete;
    in_order = r.in_order;
    at_point = λ i. point_along (r.at_point i);
  }

  pub content_along : (s : Sign) {n : ℕ} (point : Fin (suc n) → WaveVector) (c : CompatContent) → IsCompatContent s G point c → IsCompatContent s H point c
  content_along s point c is = record {
    places = is.places;
    table = is.table;
    relations = relations_along is.relations;
    content = is.content;
  }
