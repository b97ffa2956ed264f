-- The characters at the first wave vectors.
use Rattle.irr_mult.specs.Traced.{AreStarCharacters}
use Rattle.irr_mult.proofs.CharactersAt.{AtFirst}
use Rattle.irr_mult.proofs.characters.characters_at.Given as goal

abbrev pub invariant-loop-wave : goal.invariant-loop-wave
invariant-loop-wave g l = AtFirst (AreStarCharacters g.S.Scalar.order_of g.S.Scalar.value l.group l.order.n) l.waves
    l.wave-index l.stars.items
