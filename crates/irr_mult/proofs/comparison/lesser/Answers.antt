use Rattle.std.proofs.Common.{refl, inl, inr, true≢false, sym, ◌∙◌}
use Rattle.irr_rational.proofs.Lexicographic.{at_most_refl}
use Rattle.irr_space.specs.Operation.{wave_component}
use Rattle.irr_kvec.specs.WaveMeaning.{wave_vector}
use Rattle.irr_mult.proofs.WaveOrder.{at_most_other}
use Rattle.irr_mult.proofs.comparison.lesser.Goals as goal

pub returns-then-is_below-clause-one : goal.returns-then-is_below-clause-one
returns-then-is_below-clause-one c = inr refl

pub returns-then-is_below-clause-first : goal.returns-then-is_below-clause-first
returns-then-is_below-clause-first c = inr (c.is_below.ensures.0 c.if-is_below.true)

pub returns-then-is_below-clause-second : goal.returns-then-is_below-clause-second
returns-then-is_below-clause-second c = at_most_refl (wave_component (wave_vector c.args.b))

pub returns-clause-one : goal.returns-clause-one
returns-clause-one c = inl refl

pub returns-clause-first : goal.returns-clause-first
returns-clause-first c = at_most_refl (wave_component (wave_vector c.args.a))

pub returns-clause-second : goal.returns-clause-second
returns-clause-second c = at_most_other (wave_vector c.args.a) (wave_vector c.args.b)
    (λ b. true≢false (sym (c.is_below.ensures.1 b) ∙ c.if-is_below.false))
