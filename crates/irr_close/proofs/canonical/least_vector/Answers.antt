use Rattle.std.proofs.Common.{sym, subst, inl, inr, arith}
use Rattle.std.specs.Int.{◌∣◌}
use Rattle.irr_algebra.specs.Matrix.{◌⊖◌}
use Rattle.irr_rat.specs.VectorMeaning.{vector}
use Rattle.irr_rat.specs.declared.vec3.Vec3.{Vec3}
use Rattle.irr_space.specs.Operation.{Vector}
use Rattle.irr_seitz.specs.OperationMeaning.{operation}
use Rattle.irr_close.specs.Whole.{IsWholeVector}
use Rattle.irr_close.proofs.LeastVectors.{small_at, common_small, first_least, next_least, all_least}
use Rattle.irr_close.proofs.canonical.least_vector.Goals as goal

pub difference-least-requires-clause-other_small : goal.difference-least-requires-clause-other_small
difference-least-requires-clause-other_small c = small_at c.args.centrings.now c.index-centrings-0.result 0 c.requires.denominator.0
    c.requires.denominator.1 c.requires.denominator.2 c.requires.denominator.4 c.requires.nonempty c.index-centrings-0.is

pub difference-least-requires-clause-denominator : goal.difference-least-requires-clause-denominator
difference-least-requires-clause-denominator c = common_small c.shift-shift.result.den c.args.centrings.now c.index-centrings-0.result 0
    c.requires.denominator.0 c.requires.denominator.1 c.requires.denominator.2
    (subst (λ n. n ∣ c.requires.denominator.0) (sym c.shift-shift.ensures.denominator) c.requires.denominator.3) c.requires.denominator.4
    c.requires.nonempty c.index-centrings-0.is

pub loop-centring-init : goal.loop-centring-init
loop-centring-init c = record {
  least = first_least c.args.centrings.now (operation c.args.op.now) c.index-centrings-0.result c.difference-least.result c.requires.nonempty
      c.index-centrings-0.is c.difference-least.ensures.in_cell
      (subst (λ (v : Vector). IsWholeVector ((v ⊖ vector c.index-centrings-0.result) ⊖ vector c.difference-least.result)) c.shift-shift.ensures.vector
      c.difference-least.ensures.whole);
  divides = λ D p h all. c.difference-least.ensures.divides D p (subst (λ n. n ∣ D) (sym c.shift-shift.ensures.denominator) h)
      (subst (λ (x : Vec3). x.den ∣ D) (sym c.index-centrings-0.is) (all 0 c.index-centrings-0.result c.requires.nonempty));
}

pub difference-requires-clause-other_small : goal.difference-requires-clause-other_small
difference-requires-clause-other_small c = small_at c.args.centrings.now c.centring-item.result c.loop-centring.centring-index
    c.requires.denominator.0 c.requires.denominator.1 c.requires.denominator.2 c.requires.denominator.4 c.loop-centring-test.true c.centring-item.is

pub difference-requires-clause-denominator : goal.difference-requires-clause-denominator
difference-requires-clause-denominator c = common_small c.shift-shift.result.den c.args.centrings.now c.centring-item.result
    c.loop-centring.centring-index c.requires.denominator.0 c.requires.denominator.1 c.requires.denominator.2
    (subst (λ n. n ∣ c.requires.denominator.0) (sym c.shift-shift.ensures.denominator) c.requires.denominator.3) c.requires.denominator.4
    c.loop-centring-test.true c.centring-item.is

pub loop-centring-preserved : goal.loop-centring-preserved
loop-centring-preserved c = record {
  least = next_least c.args.centrings.now (operation c.args.op.now) c.loop-centring.least c.difference.result c.lesser-least.result
      c.centring-item.result c.loop-centring.centring-index c.loop-centring.invariant.least c.loop-centring-test.true c.centring-item.is
      c.difference.ensures.in_cell
      (subst (λ (v : Vector). IsWholeVector ((v ⊖ vector c.centring-item.result) ⊖ vector c.difference.result)) c.shift-shift.ensures.vector
      c.difference.ensures.whole)
      c.lesser-least.ensures.one c.lesser-least.ensures.at_most c.lesser-least.ensures.at_most_other;
  divides = λ D p h all. elim c.lesser-least.ensures.one [
    | inl e ↦ subst (λ (x : Vec3). x.den ∣ D) (sym e) (c.loop-centring.invariant.divides D p h all)
    | inr e ↦ subst (λ (x : Vec3). x.den ∣ D) (sym e) (c.difference.ensures.divides D p (subst (λ n. n ∣ D) (sym c.shift-shift.ensures.denominator) h)
        (subst (λ (x : Vec3). x.den ∣ D) (sym c.centring-item.is)
        (all c.loop-centring.centring-index c.centring-item.result c.loop-centring-test.true)))
  ];
}

pub returns-clause-least : goal.returns-clause-least
returns-clause-least c = all_least c.args.centrings.now (operation c.args.op.now) c.loop-centring.least c.index-centrings-0.result
    c.loop-centring.centring-index (let e = c.loop-centring-test.false in omega arith) c.loop-centring.invariant.least
