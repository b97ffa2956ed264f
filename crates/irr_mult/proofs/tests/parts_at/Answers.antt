-- A star, and a member of its list.
use Rattle.std.proofs.Common.{sym, subst}
use native.Mathlib.Nat as Nat
use Rattle.std.specs.Int.{◌∣◌}
use Rattle.irr_mult.proofs.tests.parts_at.Goals as goal

pub star_characters-requires-clause-order : goal.star_characters-requires-clause-order
star_characters-requires-clause-order g c = (
  c.own_order-n.result,
  c.own_order-n.ensures,
  subst (λ m. c.own_order-n.result ∣ m) (sym c.in_ok-order.ensures) (Nat.dvd_refl c.own_order-n.result),
)

pub member_parts-requires-clause-characters : goal.member_parts-requires-clause-characters
member_parts-requires-clause-characters g c = (c.in_ok-order.order.n, c.in_ok-star.ensures.characters.characters)
