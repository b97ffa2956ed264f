-- A table of phases in the program (`Twisted`), as the theory has it.
--   table_of                 a table of phases from its lists and their laws
--   place_count t            the number of its places
--   phase_table t            the table of phases that it holds
--   operation_places t       the place of each operation in the group's list
--   IsMemberProduct, IsMemberExponent    an entry of the restriction's lists
use Rattle.std.specs.Prelude.{ℕ, ◌≡◌, ◌<◌, List, length, slice_index, vec_len}
use Rattle.std.proofs.Common.{ap, sym, ◌∙◌, subst}
use Rattle.std.specs.Int.{◌∣◌}
use Rattle.irr_algebra.specs.Fin.{Fin, to_nat}
use Rattle.irr_algebra.proofs.Indices.{from_nat, to_nat-from_nat, to_nat-lt}
use Rattle.irr_space.specs.PhaseTable.{PhaseTable}
use Rattle.irr_rep.specs.declared.table.Twisted.{Twisted}
use Rattle.irr_rep.specs.Table.{IsGroup, AreInverses, IsFactorSystem, entry}
use Rattle.irr_rep.specs.TableLaws.{place_product, place_product_assoc, start-place_product, place_product-start, exponents_below-along, element_order, opposite_place, opposite_place-product, product-opposite_place, place_exponent_assoc}

-- the table of phases with these products, exponents and inverses
unfoldable pub table_of : (order h : ℕ) (product exponent : ℕ → ℕ → ℕ) (inverse : ℕ → ℕ) → 0 < order → 0 < h
    → IsGroup h product → AreInverses h product inverse → IsFactorSystem order h product exponent → PhaseTable h
table_of order h product exponent inverse order_positive positive group inverses factors =
    let start : Fin h = from_nat h 0 positive in
    let first : to_nat start ≡ 0 = to_nat-from_nat h 0 positive in
    record {
      order = order;
      order_positive = order_positive;
      start = start;
      start_first = first;
      product = place_product h product group;
      opposite = opposite_place h product group inverse inverses;
      exponent = λ i j. exponent (to_nat i) (to_nat j);
      start-product = start-place_product h product group start first;
      product-start = place_product-start h product group start first;
      product_assoc = place_product_assoc h product group;
      opposite-product = opposite_place-product h product group inverse inverses start first;
      product-opposite = product-opposite_place h product group inverse inverses start first;
      exponent_below = λ i j. factors.exponent_below (to_nat i) (to_nat j) (to_nat-lt i) (to_nat-lt j);
      exponent-start = λ i. ap (exponent (to_nat i)) first ∙ factors.exponent-unit (to_nat i) (to_nat-lt i);
      start-exponent = λ i. ap (λ a. exponent a (to_nat i)) first ∙ factors.unit-exponent (to_nat i) (to_nat-lt i);
      exponent_assoc = place_exponent_assoc h product group order exponent factors;
      order_divides = λ i m o. factors.order_divides (to_nat i) m (to_nat-lt i) (element_order h product group start first i m o);
      exponents_divided = λ i m o. subst (λ s. m ∣ s) (sym (exponents_below-along h product group start first exponent i m))
          (factors.exponents_divided (to_nat i) m (to_nat-lt i) (element_order h product group start first i m o));
    }

-- how many places there are
abbrev pub place_count : Twisted → ℕ
place_count t = vec_len t.places

-- the table that the program's value holds
unfoldable pub phase_table : (t : Twisted) → PhaseTable (place_count t)
phase_table t = table_of t.order (place_count t) (entry (place_count t) t.products.items) (entry (place_count t) t.exponents.items) (slice_index t.inverses.items)
    t.order_positive t.not_empty t.group t.opposites t.factors

-- where each operation stands in the group's list
abbrev pub operation_places : Twisted → List ℕ
operation_places t = t.places.items

-- x is the position among the members of the product of those at a and b
abbrev pub IsMemberProduct : (t : Twisted) → List ℕ → ℕ → ℕ → ℕ → Type 0
IsMemberProduct t members a b x =
    (x < length members) × (slice_index members x ≡ entry (place_count t) t.products.items (slice_index members a) (slice_index members b))

-- x is the exponent of the members at a and b
abbrev pub IsMemberExponent : (t : Twisted) → List ℕ → ℕ → ℕ → ℕ → Type 0
IsMemberExponent t members a b x = x ≡ entry (place_count t) t.exponents.items (slice_index members a) (slice_index members b)
