-- The comparison of places sorts by their rows.
use Rattle.std.proofs.Common.{rules, ap, is_lt, length}
use Rattle.std.proofs.lemmas.Fn.{always_returns_same}
use Rattle.irr_char.proofs.PlaceOrders.{place_cmp, weak_order, place_answer, not_before, places_within}
use Rattle.irr_char.proofs.rows.sorted_places.Goals as goal

pub returns-clause-sorted : goal.returns-clause-sorted
returns-clause-sorted c n h f start s p rows = not_before n p start f (length c.args.rows.now) c.sort_by.new.self.items
    (c.in_ok-sort_by.ensures.sorted (λ a b. is_lt (place_cmp n p start f (length c.args.rows.now) a b))
    (weak_order n p start f (length c.args.rows.now))
    (always_returns_same _ _ _ (λ a r q k. (
      ap is_lt (place_answer n p start f (length c.args.rows.now) a.0.now a.1.0.now r (search rules)
          (search rules) (search rules) (search rules)),
      search rules,
    ))))
    (places_within (length c.args.rows.now) c.in_ok-places.places.items c.sort_by.new.self.items (search rules) c.sort_by.ensures.permutation)
