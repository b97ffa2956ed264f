-- What holds of a group of operations holds of each with the same operations.
--   representative_along      representatives of stars
--   dimension_along           dimensions of spaces of intertwiners
--   parts_along               the parts of a representation
--   pair_order_along          the order for two wave vectors
--   products_along            the direct products at two wave vectors
--   content_along             what stands in their text
use Rattle.std.proofs.Common.{◌↔◌, ℕ, ◌<◌, List}
use Rattle.std.specs.Int.{◌∣◌}
use Rattle.irr_algebra.specs.Fin.{Fin}
use Rattle.irr_algebra.specs.Ring.{Ring}
use Rattle.irr_algebra.specs.Matrix.{Matrix}
use Rattle.irr_algebra.specs.Pair.{times}
use Rattle.irr_algebra.specs.Action.{HasDimension, IsIntertwiner}
use Rattle.irr_number.specs.Number.{numbers}
use Rattle.irr_theory.specs.FactorSystem.{Representation}
use Rattle.irr_space.specs.Operation.{Operation, WaveVector}
use Rattle.irr_space.specs.Reciprocal.{Sign}
use Rattle.irr_space.specs.Star.{IsInStar}
use Rattle.irr_space.specs.PhaseTable.{phases_over}
use Rattle.irr_close.proofs.Along.{exponent_along}
use Rattle.irr_full.specs.GroupRepresentation.{family}
use Rattle.irr_full.specs.Star.{Star}
use Rattle.irr_full.specs.Full.{IsFullOf}
use Rattle.irr_full.specs.Parts.{ArePartsOf, IsMultiplicity, IsRepresentative, Part}
use Rattle.irr_full_text.proofs.Along.{carries_along, full_along, little_along, period_along, reduced_along, star_along}
use Rattle.irr_product.specs.Products.{AreProducts, IsPairOf, IsPairOrder, PairContent}
use Rattle.irr_product.specs.ProductText.{IsProductContent, ProductContent}

module _ (G H : Operation → Type 0) (same : (g : Operation) → G g ↔ H g) where
  back : (g : Operation) → H g ↔ G g
  back g = ((same g).1, (same g).0)

  intertwiner_along : {R : Ring} {a b : ℕ} (s : Operation → Matrix R a a) (t : Operation → Matrix R b b) (x : Matrix R b a)
      → IsIntertwiner (family G s) (family G t) x → IsIntertwiner (family H s) (family H t) x
  intertwiner_along s t x is = record { intertwines = λ g. is.intertwines (g.0, (same g.0).1 g.1) }

  in_star_along : (k w : WaveVector) → IsInStar G k w → IsInStar H k w
  in_star_along k w s = record {
    operation = s.operation;
    member = (same s.operation).0 s.member;
    carries = carries_along G H same s.operation k w s.carries;
  }

  -- a full representation on the same operations
  full_back : {s : Sign} {k : WaveVector} (S : Star s G k) (M : ℕ) (v : S.table.order ∣ M) {d : ℕ}
      (D : Representation (phases_over S.table M v) d) (A : Operation → Matrix (numbers M) (times S.arms d) (times S.arms d))
      → IsFullOf (star_along G H same S) M v D A → IsFullOf S M v D A
  full_back {k = k} S M v D A full = record {
    carried = λ g m i j n in_n e x is. full.carried g ((same g).0 m) i j n (little_along G H same k n in_n) e x is;
    apart = λ g m i j none. full.apart g ((same g).0 m) i j (λ n in_n e. none n (little_along H G back k n in_n) e);
  }

module _ (G H : Operation → Type 0) (same : (g : Operation) → G g ↔ H g) where
  pub representative_along : (k : WaveVector) → IsRepresentative G k → IsRepresentative H k
  representative_along k r = record {
    reduced = reduced_along G H same k k r.reduced;
    least = λ w in_star reduced. r.least w (in_star_along H G (back G H same) k w in_star)
        (reduced_along H G (back G H same) w w reduced);
  }

  pub dimension_along : {R : Ring} {a b : ℕ} (s : Operation → Matrix R a a) (t : Operation → Matrix R b b) (n : ℕ)
      → HasDimension (family G s) (family G t) n → HasDimension (family H s) (family H t) n
  dimension_along s t n d = record {
    members = d.members;
    are_intertwiners = λ k. intertwiner_along G H same s t (d.members k) (d.are_intertwiners k);
    independent = d.independent;
    spanning = λ x is. d.spanning x (intertwiner_along H G (back G H same) s t x is);
  }

  multiplicity_along : (s : Sign) {M e : ℕ} (positive : 0 < M) (A : Operation → Matrix (numbers M) e e) (p : Part)
      → IsMultiplicity s G positive A p → IsMultiplicity s H positive A p
  multiplicity_along s positive A p m = record {
    star = star_along G H same m.star;
    list = m.list;
    is_complete = m.is_complete;
    in_order = m.in_order;
    member = m.member;
    label = m.label;
    dim = m.dim;
    multiplicity = λ K v w above F full. dimension_along F _ p.mult
        (m.multiplicity K v w above F (full_back G H same m.star K v _ F full));
  }

module _ (G H : Operation → Type 0) (same : (g : Operation) → G g ↔ H g) where
  pub parts_along : (s : Sign) {M e : ℕ} (positive : 0 < M) (A : Operation → Matrix (numbers M) e e) {n : ℕ} (parts : Fin n → Part)
      → ArePartsOf s G positive A parts → ArePartsOf s H positive A parts
  parts_along s positive A parts are = record {
    representative = λ i. representative_along G H same (parts i).wave (are.representative i);
    multiplicity = λ i. multiplicity_along G H same s positive A (parts i) (are.multiplicity i);
    occurs = are.occurs;
    all = λ p r m l. are.all p (representative_along H G (back G H same) p.wave r)
        (multiplicity_along H G (back G H same) s positive A p m) l;
    ordered = are.ordered;
  }

  pub pair_order_along : (k l : WaveVector) (n : ℕ) → IsPairOrder G k l n → IsPairOrder H k l n
  pair_order_along k l n o = record {
    exponent = o.exponent;
    first = o.first;
    second = o.second;
    common = o.common;
    is_exponent = exponent_along G H same o.exponent o.is_exponent;
    is_first = period_along G H same k o.first o.is_first;
    is_second = period_along G H same l o.second o.is_second;
    first_divides = o.first_divides;
    second_divides = o.second_divides;
    least = o.least;
    is_product = o.is_product;
  }

  pair_along : (s : Sign) {M a b : ℕ} (m n : ℕ) (F : Operation → Matrix (numbers M) a a) (E : Operation → Matrix (numbers M) b b)
      (p : PairContent) → IsPairOf s G M m n F E p → IsPairOf s H M m n F E p
  pair_along s {M = M} m n F E p is = record {
    first = is.first;
    second = is.second;
    dim = is.dim;
    parts = λ positive. parts_along s positive _ _ (is.parts positive);
    adds_up = is.adds_up;
  }

  pub products_along : (s : Sign) (k l : WaveVector) (M : ℕ) (ps : List PairContent) → AreProducts s G k l M ps → AreProducts s H k l M ps
  products_along s k l M ps are = record {
    left = star_along G H same are.left;
    right = star_along G H same are.right;
    left_list = are.left_list;
    right_list = are.right_list;
    left_complete = are.left_complete;
    left_ordered = are.left_ordered;
    right_complete = are.right_complete;
    right_ordered = are.right_ordered;
    left_divides = are.left_divides;
    right_divides = are.right_divides;
    left_full = are.left_full;
    right_full = are.right_full;
    left_is_full = λ m. full_along G H same are.left M are.left_divides _ (are.left_full m) (are.left_is_full m);
    right_is_full = λ n. full_along G H same are.right M are.right_divides _ (are.right_full n) (are.right_is_full n);
    count = are.count;
    pair = λ m n none. pair_along s _ _ (are.left_full m) (are.right_full n) _ (are.pair m n none);
  }

  pub content_along : (s : Sign) (k l : WaveVector) (c : ProductContent) → IsProductContent s G k l c → IsProductContent s H k l c
  content_along s k l c is = record {
    left = reduced_along G H same k c.left is.left;
    right = reduced_along G H same l c.right is.right;
    is_order = pair_order_along c.left c.right c.order is.is_order;
    products = products_along s c.left c.right c.order c.pairs is.products;
  }
