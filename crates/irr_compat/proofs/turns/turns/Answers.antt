-- Turn by turn.
use Rattle.std.proofs.Common.{◌∙◌, ap, ◌+◌, [], ◌∷◌, length, length-append, arith}
use Rattle.irr_kvec.specs.WaveMeaning.{wave_vector}
use Rattle.irr_mult.proofs.StarFacts.{pushed}
use Rattle.irr_compat.specs.Turns.{IsTurn}
use Rattle.irr_compat.proofs.turns.turns.Goals as goal

pub loop-a-init : goal.loop-a-init
loop-a-init c = (ap length c.new-turns.ensures.items, λ j t l. absurd (omega (arith, l)))

pub loop-a-preserved : goal.loop-a-preserved
loop-a-preserved c = (
  ap length c.in_ok-push.ensures.items ∙ length-append c.loop-a.turns.items (c.turn_at-turn.result ∷ []) ∙ ap (λ n. n + 1) c.loop-a.invariant.0,
  pushed (IsTurn c.args.group.now c.args.line.now c.args.table.now (wave_vector c.args.first.now) (wave_vector c.args.point.now)) c.loop-a.turns.items
      c.push.new.self.items c.turn_at-turn.result c.loop-a.a c.loop-a.invariant.0 c.in_ok-push.ensures.items c.loop-a.invariant.1 c.turn_at-turn.ensures,
)

pub returns : goal.returns
returns c = record {
  count = (let i = c.loop-a.invariant.0 in omega (arith, i, c.loop-a-test.false, c.loop-a.auto.a-end, c.len-a-end.ensures.count));
  turn = λ a t l. c.loop-a.invariant.1 a t (let i = c.loop-a.invariant.0 in omega (arith, l, i));
}
