use Rattle.std.proofs.Common.{◌≡◌, sym, ◌∙◌, ap, subst, ◌*◌, ◌<◌, ◌≤◌, ◌^◌, List, length, get_or, unsigned_abs, arith}
use Rattle.std.proofs.lemmas.List.{get_or_default}
use Rattle.irr_algebra.specs.Matrix.{◌⊖◌}
use Rattle.irr_rational.specs.Ratio.{entry}
use Rattle.irr_space.specs.Operation.{turned}
use Rattle.irr_space.specs.Reciprocal.{AreEquivalent}
use Rattle.irr_seitz.specs.Rotation.{determinant}
use Rattle.irr_seitz.specs.OperationMeaning.{operation}
use Rattle.irr_seitz.specs.declared.op.Op.{Op}
use Rattle.irr_kvec.specs.WaveMeaning.{wave_vector}
use Rattle.irr_kvec.specs.Centrings.{LatticeOf, IsCentringList}
use Rattle.irr_close.specs.StandsFor.{stands_for}
use Rattle.irr_little.proofs.Spaces.{same_reciprocal, canonical_at, carries_along}
use Rattle.irr_little.proofs.Shifts.{entries_at}
use Rattle.irr_close.proofs.SpaceGroups.{space_group}
use Rattle.irr_real.proofs.waves.image.Goals as goal

pub wrapped-requires-clause-centrings : goal.wrapped-requires-clause-centrings
wrapped-requires-clause-centrings c = subst IsCentringList (sym c.centrings.ensures.list)
    (space_group c.args.group.now).centrings

pub returns-clause-limits : goal.returns-clause-limits
returns-clause-limits c = record {
  numerators = λ i. let s : unsigned_abs (entry c.act.result.num i) ≤ 486 * 10 ^ 9 = c.act.ensures.size
      (10 ^ 9) c.wrapped.ensures.small i in omega arith;
  denominator = subst (λ n. n ≤ 10 ^ 7) (sym (c.act.ensures.denominator ∙ c.wrapped.ensures.denominator))
      c.requires.limits.denominator;
}

pub act-requires-clause-entries : goal.act-requires-clause-entries
act-requires-clause-entries c = entries_at c.ops-ops.result.now c.args.group.now.centrings.items
    c.ops-ops.ensures.canonical c.args.place
    c.index-ops-place.result
    (subst (λ (xs : List Op). c.args.place < length xs) (sym c.ops-ops.ensures.list) c.requires.place)
    c.index-ops-place.is

pub act-requires-clause-unimodular : goal.act-requires-clause-unimodular
act-requires-clause-unimodular c = subst (λ (g : Op). unsigned_abs (determinant (operation g).rotation) ≡ 1)
    (sym (c.index-ops-place.is ∙ ap (λ (xs : List Op). get_or xs c.args.place c.index-ops-place.result)
    c.ops-ops.ensures.list))
    ((space_group c.args.group.now).unimodular c.args.place c.index-ops-place.result c.requires.place)

pub act-requires-clause-limits : goal.act-requires-clause-limits
act-requires-clause-limits c = record {
  numerators = λ i. let s : unsigned_abs (entry c.wrapped.result.num i) ≤ 10 ^ 9 = c.wrapped.ensures.small i in omega
      arith;
  denominator = subst (λ n. n ≤ 10 ^ 7) (sym c.wrapped.ensures.denominator) c.requires.limits.denominator;
}

pub returns-clause-carries : goal.returns-clause-carries
returns-clause-carries c = λ d. carries_along (stands_for c.args.group.now) (space_group c.args.group.now).is_group
    (operation
    (get_or c.args.group.now.ops.items c.args.place d))
    (canonical_at c.args.group.now d c.args.place c.requires.place).member (wave_vector c.args.k.now)
    (wave_vector c.wrapped.result)
    (wave_vector c.act.result)
    ((same_reciprocal c.args.group.now (wave_vector c.wrapped.result ⊖ wave_vector c.args.k.now)).1
    (subst (λ cs. AreEquivalent (LatticeOf cs) (wave_vector c.wrapped.result)
    (wave_vector c.args.k.now)) c.centrings.ensures.list c.wrapped.ensures.equivalent))
    (subst (λ (g : Op). turned (wave_vector c.act.result) (operation g) ≡ wave_vector c.wrapped.result)
    (c.index-ops-place.is ∙ ap (λ (xs : List Op). get_or xs c.args.place c.index-ops-place.result)
    c.ops-ops.ensures.list
    ∙ get_or_default c.args.group.now.ops.items c.args.place c.index-ops-place.result d c.requires.place)
    c.act.ensures.turned_back)
