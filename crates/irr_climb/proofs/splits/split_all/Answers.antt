-- One place more.
use Rattle.irr_rep.specs.Twisted.{phase_table}
use Rattle.irr_climb.specs.Splits.{IsSplit}
use Rattle.irr_climb.proofs.Pushed.{each_pushed_pair, one_longer}
use Rattle.irr_climb.proofs.splits.split_all.Goals as goal

pub loop-x-preserved : goal.loop-x-preserved
loop-x-preserved c =
    let exponents = c.loop-x.exponents.items in
    let parts = c.loop-x.parts.items in
    let x = c.loop-x.x in
    let split = c.split-e.result in
    let invariant = c.loop-x.invariant in
    let first = c.in_ok-push.ensures.items in
    let second = c.in_ok-push-2.ensures.items in
    record {
      exponents = one_longer exponents c.push.new.self.items split.0 x invariant.exponents first;
      parts = one_longer parts c.push-in-loop-x.new.self.items split.1 x invariant.parts second;
      splits = each_pushed_pair (λ x e n. IsSplit (phase_table c.args.t.now) c.args.members.now c.args.g c.args.p x e n) exponents parts
          c.push.new.self.items c.push-in-loop-x.new.self.items split.0 split.1 x invariant.exponents invariant.parts first second invariant.splits
          c.split-e.ensures;
    }
