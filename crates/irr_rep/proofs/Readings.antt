-- What the table of phases of a `Twisted` reads from its lists.
--   entry_read               the entry that is read at its place
--   product-phase_table      the products stand row by row
--   exponent-phase_table     and so do the exponents
--   opposite-phase_table     the inverses stand in their list
--   listed                   so the lists are those of the table
--   product_at, exponent_at, inverse_at      the same at the numbers of places
use Rattle.std.proofs.Common.{◌≡◌, sym, ◌∙◌, ap, ap₂, refl, ℕ}
use Rattle.std.specs.Prelude.{◌<◌, ◌+◌, ◌*◌, List, length, slice_index, slice_index_or}
use Rattle.std.proofs.lemmas.List.{get_or_read_under}
use Rattle.irr_algebra.specs.Fin.{Fin, to_nat}
use Rattle.irr_rep.specs.declared.table.Twisted.{Twisted}
use Rattle.irr_rep.specs.Table.{entry, IsListed}
use Rattle.irr_rep.specs.TableLaws.{to_nat-place_product, to_nat-opposite_place}
use Rattle.irr_rep.specs.Twisted.{phase_table, place_count, table_of}

-- the entry that is read at its place in the list
pub entry_read : (xs : List ℕ) (h i j k x n : ℕ) → x ≡ slice_index_or xs k x → k < h * h → n ≡ h * h → n ≡ length xs → k ≡ i * h + j
    → x ≡ entry h xs i j
entry_read xs h i j k x n read within total count place =
    get_or_read_under xs k (h * h) x 0 read within (sym total ∙ count) ∙ ap (slice_index xs) place

module _ (t : Twisted) where
  pub order-phase_table : (phase_table t).order ≡ t.order
  unfolding phase_table table_of
  order-phase_table = refl

  pub product-phase_table : (i j : Fin (place_count t)) → to_nat ((phase_table t).product i j) ≡ entry (place_count t) t.products.items (to_nat i)
      (to_nat j)
  unfolding phase_table table_of
  product-phase_table i j = to_nat-place_product (place_count t) (entry (place_count t) t.products.items) t.group i j

  pub exponent-phase_table : (i j : Fin (place_count t)) → (phase_table t).exponent i j ≡ entry (place_count t) t.exponents.items (to_nat i)
      (to_nat j)
  unfolding phase_table table_of
  exponent-phase_table i j = refl

  pub opposite-phase_table : (i : Fin (place_count t)) → to_nat ((phase_table t).opposite i) ≡ slice_index t.inverses.items (to_nat i)
  unfolding phase_table table_of
  opposite-phase_table i = to_nat-opposite_place (place_count t) (entry (place_count t) t.products.items) t.group
      (slice_index t.inverses.items) t.opposites i

  pub product_at : (i j : ℕ) (p q : Fin (place_count t)) → to_nat p ≡ i → to_nat q ≡ j
      → entry (place_count t) t.products.items i j ≡ to_nat ((phase_table t).product p q)
  product_at i j p q e f = sym (product-phase_table p q ∙ ap₂ (entry (place_count t) t.products.items) e f)

  pub exponent_at : (i j : ℕ) (p q : Fin (place_count t)) → to_nat p ≡ i → to_nat q ≡ j
      → entry (place_count t) t.exponents.items i j ≡ (phase_table t).exponent p q
  exponent_at i j p q e f = sym (exponent-phase_table p q ∙ ap₂ (entry (place_count t) t.exponents.items) e f)

  pub inverse_at : (i : ℕ) (p : Fin (place_count t)) → to_nat p ≡ i → slice_index t.inverses.items i ≡ to_nat ((phase_table t).opposite p)
  inverse_at i p e = sym (opposite-phase_table p ∙ ap (slice_index t.inverses.items) e)

  pub listed : IsListed (phase_table t) t.order t.products.items t.exponents.items
  listed = record { same_order = order-phase_table; product-entry = product-phase_table; exponent-entry = exponent-phase_table }
