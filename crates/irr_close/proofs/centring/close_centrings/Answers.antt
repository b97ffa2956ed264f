use Rattle.std.proofs.Common.{sym, ◌∙◌, ap, subst, ◌<◌, ◌≤◌, ◌++◌, ◌∷◌, [], length, get_or, arith, rules}
use Rattle.std.specs.List.{All}
use Rattle.irr_algebra.specs.Matrix.{◌·◌}
use Rattle.irr_seitz.specs.OperationMeaning.{operation}
use Rattle.irr_seitz.specs.declared.op.Op.{Op}
use Rattle.irr_close.specs.Closing.{IsKept, HasRotation}
use Rattle.irr_close.specs.Centring.{IsLatticeRefusal}
use Rattle.irr_close.proofs.Keeping.{longer-length}
use Rattle.irr_close.proofs.Rotating.{seeds_numbers}
use Rattle.irr_close.proofs.Gathering.{lattice_in_cell, lattice_over, over_generators, over_seeds, from_generators, from_seeds, start_lattice, gathered_start, gathered_more, settled_start, settled_more}
use Rattle.irr_close.proofs.centring.close_centrings.Goals as goal

pub gather-requires-clause-denominator : goal.gather-requires-clause-denominator
gather-requires-clause-denominator c = over_generators c.args.generators.now c.args.kept.now c.index-kept-0.result c.requires.denominator
    c.requires.kept (subst (IsKept c.args.generators.now) (sym c.index-kept-0.is) (c.requires.kept 0 c.index-kept-0.result c.requires.nonempty))

pub gather-requires-clause-rotations : goal.gather-requires-clause-rotations
gather-requires-clause-rotations c = subst (λ (g : Op). All (λ s. HasRotation c.args.kept.now ((operation g).rotation · (operation s).rotation))
    c.args.generators.now) (sym c.index-kept-0.is) (c.requires.rotations c.index-kept-0.result)

pub returns-in_err-gather-clause-refused : goal.returns-in_err-gather-clause-refused
returns-in_err-gather-clause-refused c =
    let r : IsLatticeRefusal c.args.generators.now c.in_err-gather.field-0.0 = c.in_err-gather.ensures.refused.is c.args.generators.now
    (from_generators c.args.generators.now c.args.kept.now c.index-kept-0.result c.requires.invertible c.requires.generators c.requires.kept
    (subst (IsKept c.args.generators.now) (sym c.index-kept-0.is) (c.requires.kept 0 c.index-kept-0.result c.requires.nonempty)))
    (start_lattice c.args.generators.now c.push.new.self.items c.zero.result c.zero.ensures.vector c.zero.ensures.denominator
    (c.in_ok-push.ensures.items ∙ ap (λ cs. cs ++ c.zero.result ∷ []) c.new-centrings.ensures.items)) in
    search rules

pub loop-op-init : goal.loop-op-init
loop-op-init c = record {
  lattice = c.in_ok-gather.ensures.lattice c.args.generators.now
      (from_generators c.args.generators.now c.args.kept.now c.index-kept-0.result c.requires.invertible c.requires.generators c.requires.kept
      (subst (IsKept c.args.generators.now) (sym c.index-kept-0.is) (c.requires.kept 0 c.index-kept-0.result c.requires.nonempty)))
      (start_lattice c.args.generators.now c.push.new.self.items c.zero.result c.zero.ensures.vector c.zero.ensures.denominator
      (c.in_ok-push.ensures.items ∙ ap (λ cs. cs ++ c.zero.result ∷ []) c.new-centrings.ensures.items));
  gathered = gathered_start c.args.generators.now c.args.seeds.now c.args.kept.now c.gather.new.centrings.items c.index-kept-0.result c.requires.nonempty
      c.index-kept-0.is c.in_ok-gather.ensures.quotients;
}

pub gather-requires-in-loop-op-clause-factors : goal.gather-requires-in-loop-op-clause-factors
gather-requires-in-loop-op-clause-factors c = seeds_numbers c.args.generators.now c.args.seeds.now c.requires.seeds c.requires.generators

pub gather-requires-in-loop-op-clause-denominator : goal.gather-requires-in-loop-op-clause-denominator
gather-requires-in-loop-op-clause-denominator c = over_seeds c.args.generators.now c.args.seeds.now c.args.kept.now c.op-item.result c.requires.denominator
    c.requires.seeds c.requires.kept (subst (IsKept c.args.generators.now) (sym c.op-item.is)
    (c.requires.kept c.loop-op.op-index c.op-item.result c.loop-op-test.true))

pub gather-requires-in-loop-op-clause-rotations : goal.gather-requires-in-loop-op-clause-rotations
gather-requires-in-loop-op-clause-rotations c = λ k d l.
    subst (λ (g : Op). HasRotation c.args.kept.now ((operation g).rotation · (operation (get_or c.args.seeds.now k d)).rotation)) (sym c.op-item.is)
    (c.requires.products c.loop-op.op-index c.op-item.result c.loop-op-test.true k l d)

pub returns-in_err-gather-2-clause-refused : goal.returns-in_err-gather-2-clause-refused
returns-in_err-gather-2-clause-refused c =
    let r : IsLatticeRefusal c.args.generators.now c.in_err-gather-2.field-0.0 = c.in_err-gather-2.ensures.refused.is c.args.generators.now
    (from_seeds c.args.generators.now c.args.seeds.now c.args.kept.now c.op-item.result c.requires.invertible c.requires.generators
    c.requires.seeds c.requires.kept
    (subst (IsKept c.args.generators.now) (sym c.op-item.is) (c.requires.kept c.loop-op.op-index c.op-item.result c.loop-op-test.true)))
    c.loop-op.invariant.lattice in
    search rules

pub loop-op-preserved : goal.loop-op-preserved
loop-op-preserved c = record {
  lattice = c.in_ok-gather-2.ensures.lattice c.args.generators.now
      (from_seeds c.args.generators.now c.args.seeds.now c.args.kept.now c.op-item.result c.requires.invertible c.requires.generators
      c.requires.seeds c.requires.kept
      (subst (IsKept c.args.generators.now) (sym c.op-item.is) (c.requires.kept c.loop-op.op-index c.op-item.result c.loop-op-test.true)))
      c.loop-op.invariant.lattice;
  gathered = gathered_more c.args.generators.now c.args.seeds.now c.args.kept.now c.loop-op.centrings.items c.gather-in-loop-op.new.centrings.items c.op-item.result
      c.loop-op.op-index c.loop-op-test.true c.op-item.is c.in_ok-gather-2.ensures.longer c.in_ok-gather-2.ensures.quotients
      c.loop-op.invariant.gathered;
}

pub loop-i-init : goal.loop-i-init
loop-i-init c = record {
  lattice = c.loop-op.invariant.lattice;
  within = omega arith;
  settled = settled_start c.args.generators.now c.args.seeds.now c.args.kept.now c.loop-op.centrings.items c.loop-op.op-index c.loop-op-test.false
      c.loop-op.invariant.gathered;
}

pub subtract-requires-clause-in_cell : goal.subtract-requires-clause-in_cell
subtract-requires-clause-in_cell c = lattice_in_cell c.args.generators.now c.loop-i.centrings.items c.requires.denominator c.loop-i.invariant.lattice

pub turn-requires-clause-in_cell : goal.turn-requires-clause-in_cell
turn-requires-clause-in_cell c = lattice_in_cell c.args.generators.now c.subtract.new.centrings.items c.requires.denominator
    (c.in_ok-subtract.ensures.lattice c.args.generators.now c.requires.invertible c.loop-i.invariant.lattice)

pub turn-requires-clause-place : goal.turn-requires-clause-place
turn-requires-clause-place c = let l : c.loop-i.i < length c.loop-i.centrings.items = omega
    arith in let m : length c.loop-i.centrings.items ≤ length c.subtract.new.centrings.items = longer-length c.loop-i.centrings.items
    c.subtract.new.centrings.items c.in_ok-subtract.ensures.longer in omega arith

pub turn-requires-clause-denominator : goal.turn-requires-clause-denominator
turn-requires-clause-denominator c = lattice_over c.args.generators.now c.args.kept.now c.subtract.new.centrings.items c.requires.denominator
    c.requires.kept (c.in_ok-subtract.ensures.lattice c.args.generators.now c.requires.invertible c.loop-i.invariant.lattice)

pub returns-in_err-subtract-clause-refused : goal.returns-in_err-subtract-clause-refused
returns-in_err-subtract-clause-refused c =
    let r : IsLatticeRefusal c.args.generators.now c.in_err-subtract.field-0.0 = c.in_err-subtract.ensures.refused.is c.args.generators.now
    c.requires.invertible c.loop-i.invariant.lattice in
    search rules

pub returns-in_err-turn-clause-refused : goal.returns-in_err-turn-clause-refused
returns-in_err-turn-clause-refused c =
    let r : IsLatticeRefusal c.args.generators.now c.in_err-turn.field-0.0 = c.in_err-turn.ensures.refused.is c.args.generators.now
    c.requires.invertible c.requires.kept
    (c.in_ok-subtract.ensures.lattice c.args.generators.now c.requires.invertible c.loop-i.invariant.lattice) in
    search rules

pub loop-i-preserved : goal.loop-i-preserved
loop-i-preserved c = let l : c.loop-i.i < length c.loop-i.centrings.items = omega arith in record {
  lattice = c.in_ok-turn.ensures.lattice c.args.generators.now c.requires.invertible c.requires.kept
      (c.in_ok-subtract.ensures.lattice c.args.generators.now c.requires.invertible c.loop-i.invariant.lattice);
  within = (let m : length c.loop-i.centrings.items ≤ length c.subtract.new.centrings.items = longer-length c.loop-i.centrings.items
      c.subtract.new.centrings.items c.in_ok-subtract.ensures.longer in
      let n : length c.subtract.new.centrings.items ≤ length c.turn.new.centrings.items = longer-length c.subtract.new.centrings.items
      c.turn.new.centrings.items c.in_ok-turn.ensures.longer in omega arith);
  settled = settled_more c.args.generators.now c.args.seeds.now c.args.kept.now c.loop-i.centrings.items c.subtract.new.centrings.items c.turn.new.centrings.items
      c.loop-i.i l c.in_ok-subtract.ensures.longer c.in_ok-turn.ensures.longer c.loop-i.invariant.settled
      c.in_ok-subtract.ensures.differences c.in_ok-turn.ensures.turned;
}
