-- The table of the lists.
use Rattle.std.proofs.Common.{sym, ◌∙◌, subst, vec_len}
use Rattle.irr_rep.specs.Table.{AreUnitColumns, HasInverses, entry}
use Rattle.irr_rep.proofs.Readings.{listed}
use Rattle.irr_rep.proofs.UnitColumns.{inverse-of_columns}
use Rattle.irr_rep.proofs.table.Twisted.new.Goals as goal

pub unit_columns-requires-clause-inverses : goal.unit_columns-requires-clause-inverses
unit_columns-requires-clause-inverses c =
    subst (λ k. HasInverses k (entry k c.as_slice.result.now)) (sym c.len.ensures)
    (subst (λ xs. HasInverses (vec_len c.args.place) (entry (vec_len c.args.place) xs)) (sym c.as_slice.ensures.value) c.requires.inverses)

pub invariant_of-result : goal.invariant_of-result
invariant_of-result c =
    let columns = subst (λ xs. AreUnitColumns (vec_len c.args.place)
    (entry (vec_len c.args.place) xs) c.in_ok-inverses.inverses.items) c.as_slice.ensures.value
    (subst (λ k. AreUnitColumns k (entry k c.as_slice.result.now) c.in_ok-inverses.inverses.items) c.len.ensures c.in_ok-inverses.ensures) in
    record {
      order_positive = c.requires.order_positive;
      order_within = c.requires.order_within;
      not_empty = c.requires.not_empty;
      places_within = c.requires.places_within;
      full_products = c.requires.full_table;
      full_exponents = c.requires.full_phase;
      full_inverses = c.in_ok-inverses.inverses.ok.0 ∙ columns.count;
      group = c.requires.group;
      opposites = inverse-of_columns (vec_len c.args.place) (entry (vec_len c.args.place) c.args.table.items) c.in_ok-inverses.inverses.items
          c.requires.group c.requires.inverses columns;
      factors = c.requires.factors;
    }

pub returns-clause-table : goal.returns-clause-table
returns-clause-table c = listed _
