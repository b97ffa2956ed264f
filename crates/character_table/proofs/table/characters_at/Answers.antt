-- The order of the table is that of the wave vector.
use Rattle.std.proofs.Common.{◌≡◌, sym, ◌∙◌, subst}
use Rattle.std.specs.Int.{◌∣◌}
use native.Mathlib.Nat as Nat
use Rattle.irr_space.specs.Reciprocal.{IsOrder}
use Rattle.irr_kvec.specs.WaveMeaning.{wave_vector}
use Rattle.irr_rep.specs.Twisted.{phase_table}
use Rattle.irr_close.specs.StandsFor.{stands_for}
use Rattle.irr_mult.proofs.StarFacts.{some_operation}
use Rattle.character_table.proofs.table.characters_at.Goals as goal

pub star_characters-requires-clause-order : goal.star_characters-requires-clause-order
star_characters-requires-clause-order g c =
    let n = (phase_table c.in-Ok-little.table).order in
    let same : c.in_ok-order-in-Ok-little.order.n ≡ n = c.in_ok-order-in-Ok-little.ensures ∙ c.order.ensures.order in
    (n, (c.in-Ok-little.ensures.table.table (some_operation c.args.group.now)).is_order, subst (λ m. n ∣ m) (sym same) (Nat.dvd_refl n))

pub returns-in_ok-star-in-Ok-little : goal.returns-in_ok-star-in-Ok-little
returns-in_ok-star-in-Ok-little g c =
    let n = (phase_table c.in-Ok-little.table).order in
    let same : c.in_ok-order-in-Ok-little.order.n ≡ n = c.in_ok-order-in-Ok-little.ensures ∙ c.order.ensures.order in
    let is : IsOrder (stands_for c.args.group.now) (wave_vector c.in-Ok.k) n =
    (c.in-Ok-little.ensures.table.table (some_operation c.args.group.now)).is_order in (
      c.in_ok-order-in-Ok-little.order.n,
      subst (λ w. IsOrder (stands_for c.args.group.now) (wave_vector w) c.in_ok-order-in-Ok-little.order.n)
          (sym c.in_ok-star-in-Ok-little.ensures.wave) (subst (IsOrder (stands_for c.args.group.now) (wave_vector c.in-Ok.k)) (sym same) is),
      c.in_ok-star-in-Ok-little.ensures.characters,
    )
