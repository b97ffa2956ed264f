-- What holds of a group of operations holds of each with the same operations.
--   star_along         stars
--   full_along         full representations
--   content_along      contents of the text
use Rattle.std.proofs.Common.{◌↔◌, ℕ, List}
use Rattle.std.specs.Int.{◌∣◌}
use Rattle.irr_algebra.specs.Fin.{Fin}
use Rattle.irr_algebra.specs.Matrix.{Matrix}
use Rattle.irr_algebra.specs.Pair.{times}
use Rattle.irr_algebra.specs.Action.{IsIrreducible}
use Rattle.irr_number.specs.Number.{numbers}
use Rattle.irr_theory.specs.FactorSystem.{Representation}
use Rattle.irr_space.specs.Operation.{Operation, WaveVector, translation}
use Rattle.irr_space.specs.Reciprocal.{IsOrder, IsPeriod, IsReciprocal, IsReduced, Sign, times as multiple}
use Rattle.irr_space.specs.CanonicalOperation.{IsNumbering}
use Rattle.irr_space.specs.Star.{Carries, IsArms, IsInLittleGroup, IsInStar}
use Rattle.irr_space.specs.PhaseTable.{IsTableOf, PhaseTable, phases_over}
use Rattle.irr_close.proofs.Along.{canonical_along, centrings_along, exponent_along, numbering_along}
use Rattle.irr_full.specs.GroupRepresentation.{family, raised}
use Rattle.irr_full.specs.Star.{Star}
use Rattle.irr_full.specs.Full.{IsFullOf}
use Rattle.irr_full_text.specs.FullText.{AreGeneratorsOf, FullContent, IsFullContent}

module _ (G H : Operation → Type 0) (same : (g : Operation) → G g ↔ H g) where
  pub reciprocal_along : (k : WaveVector) → IsReciprocal G k → IsReciprocal H k
  reciprocal_along k r = record { is_whole = λ t m. r.is_whole t ((same (translation t)).1 m) }

  pub little_along : (k : WaveVector) (g : Operation) → IsInLittleGroup G k g → IsInLittleGroup H k g
  little_along k g l = record { member = (same g).0 l.member; keeps = reciprocal_along _ l.keeps }

  pub carries_along : (g : Operation) (k w : WaveVector) → Carries G g k w → Carries H g k w
  carries_along g k w c = record {
    image = c.image;
    turned_back = c.turned_back;
    equivalent = reciprocal_along _
        c.equivalent;
  }

  in_star_along : (k w : WaveVector) → IsInStar G k w → IsInStar H k w
  in_star_along k w s = record {
    operation = s.operation;
    member = (same s.operation).0 s.member;
    carries = carries_along s.operation k w s.carries;
  }

module _ (G H : Operation → Type 0) (same : (g : Operation) → G g ↔ H g) where
  back : (g : Operation) → H g ↔ G g
  back g = ((same g).1, (same g).0)

  pub reduced_along : (k r : WaveVector) → IsReduced G k r → IsReduced H k r
  reduced_along k r e = record {
    equivalent = reciprocal_along G H same _ e.equivalent;
    no_negative = e.no_negative;
    least = λ w q m. e.least w (reciprocal_along H G back _ q) m;
  }

  pub arms_along : (k : WaveVector) {n a : ℕ} (ops : Fin n → Operation) (arm : Fin a → WaveVector) (number : Fin a
      → Fin n)
      → IsArms G k ops arm number → IsArms H k ops arm number
  arms_along k ops arm number s = record {
    reduced = λ i. reduced_along (arm i) (arm i) (s.reduced i);
    carries = λ i. carries_along G H same (ops (number i)) k (arm i) (s.carries i);
    is_first = λ i j c. s.is_first i j (carries_along H G back (ops j) k (arm i) c);
    all = λ w m. let t = s.all w (in_star_along H G back k w m) in (t.0, reciprocal_along G H same _ t.1);
    ordered = s.ordered;
  }

  pub period_along : (k : WaveVector) (q : ℕ) → IsPeriod G k q → IsPeriod H k q
  period_along k q p = record {
    positive = p.positive;
    reciprocal = reciprocal_along G H same (multiple q k) p.reciprocal;
    least = λ n l r. p.least n l (reciprocal_along H G back (multiple n k) r);
  }

  order_along : (k : WaveVector) (n : ℕ) → IsOrder G k n → IsOrder H k n
  order_along k n o = record {
    exponent = o.exponent;
    period = o.period;
    is_exponent = exponent_along G H same o.exponent o.is_exponent;
    is_period = period_along k o.period o.is_period;
    is_product = o.is_product;
  }

  pub places_along : (k : WaveVector) {h : ℕ} (ops : Fin h → Operation) → IsNumbering G (IsInLittleGroup G k) ops
      → IsNumbering H (IsInLittleGroup H k) ops
  places_along k ops n = record {
    canonical = λ i. canonical_along G H same (ops i) (n.canonical i);
    member = λ i. little_along G H same k (ops i) (n.member i);
    all = λ g c m. n.all g (canonical_along H G back g c) (little_along H G back k g m);
    ordered = n.ordered;
  }

  pub table_along : (s : Sign) (k : WaveVector) {h : ℕ} (ops : Fin h → Operation) (T : PhaseTable h)
      → IsTableOf s G k ops T → IsTableOf s H k ops T
  table_along s k ops T t = record {
    is_order = order_along k T.order t.is_order;
    quotient = t.quotient;
    is_translation = λ i j. (same (translation (t.quotient i j))).0 (t.is_translation i j);
    products = t.products;
    phases = t.phases;
  }

  module _ {s : Sign} {k : WaveVector} (S : Star s G k) where
    abbrev pub star_along : Star s H k
    star_along = record {
      count = S.count;
      canonical = S.canonical;
      canonical_numbering = numbering_along G H same S.count S.canonical S.canonical_numbering;
      arms = S.arms;
      arm = S.arm;
      number = S.number;
      are_arms = arms_along k S.canonical S.arm S.number S.are_arms;
      places = S.places;
      operation = S.operation;
      numbering = places_along k S.operation S.numbering;
      table = S.table;
      is_table = table_along s k S.operation S.table S.is_table;
    }

    pub full_along : (M : ℕ) (v : S.table.order ∣ M) {d : ℕ} (D : Representation (phases_over S.table M v) d)
        (A : Operation → Matrix (numbers M) (times S.arms d) (times S.arms d)) → IsFullOf S M v D A
        → IsFullOf star_along M v D A
    full_along M v D A full = record {
      carried = λ g m i j n in_n e x is. full.carried g ((same g).1 m) i j n (little_along H G back k n in_n) e x is;
      apart = λ g m i j none. full.apart g ((same g).1 m) i j (λ n in_n e. none n (little_along G H same k n in_n) e);
    }

  irreducible_along : (M d : ℕ) (A : Operation → Matrix (numbers M) d d) → IsIrreducible (family G A)
      → IsIrreducible (family H A)
  irreducible_along M d A irreducible = record {
    no_invariant = λ r p above below independent invariant. irreducible.no_invariant r p above below independent
        (record { stays = λ i j. invariant.stays (i.0, (same i.0).0 i.1) j });
  }

  generators_along : {n : ℕ} (ops : Fin n → Operation) (gs : List Operation) → AreGeneratorsOf G ops gs
      → AreGeneratorsOf H ops gs
  generators_along ops gs are = record {
    centrings = are.centrings;
    are_centrings = centrings_along G H same are.centrings are.are_centrings;
    are = are.are;
  }

  pub content_along : (s : Sign) (k : WaveVector) (c : FullContent) → IsFullContent s G k c → IsFullContent s H k c
  content_along s k c t = record {
    wave = t.wave;
    reduced = reduced_along k t.wave t.reduced;
    star = star_along t.star;
    list = t.list;
    complete = t.complete;
    in_order = t.in_order;
    full = t.full;
    is_full = λ v m. full_along t.star _ v _ (t.full m) (t.is_full v m);
    irreducible = λ K v positive above m. irreducible_along K _ (raised t.star.table.order K positive v (t.full m))
        (t.irreducible K v positive above m);
    generators = t.generators;
    are_generators = generators_along t.star.canonical t.generators t.are_generators;
    content = t.content;
  }
