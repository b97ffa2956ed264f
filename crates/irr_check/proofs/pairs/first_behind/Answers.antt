-- The first representation behind another that some matrix other than 0 intertwines with it.
use Rattle.std.proofs.Common.{rules, ◌≡◌, subst, ◌<◌, length, arith}
use Rattle.irr_rep.specs.Twisted.{phase_table}
use Rattle.irr_check.specs.Pairs.{AreApartBelow, IsFirstBehind}
use Rattle.irr_check.proofs.PairFacts.{apart_any, apart_next, not_apart, pair_characters}
use Rattle.irr_check.proofs.pairs.first_behind.Goals as goal

pub average-requires : goal.average-requires
average-requires g c =
    let m : c.loop-b.b < length c.args.reps.now = search rules in
    pair_characters (phase_table c.args.t.now) c.args.reps.now c.requires.checked c.requires.sound c.args.a c.loop-b.b c.index-reps-a.result
    c.index-reps-b.result c.requires.inside m c.deref.result.now c.deref-in-loop-b.result.now c.deref.ensures.value c.deref-in-loop-b.ensures.value

pub loop-b-init : goal.loop-b-init
loop-b-init g c k from below = absurd (omega (arith, from, below))

pub returns-then-dimension-ne0 : goal.returns-then-dimension-ne0
unfolding IsFirstBehind
returns-then-dimension-ne0 g c =
    let T = phase_table c.args.t.now in
    let reps = c.args.reps.now in
    let x = c.index-reps-a.result in
    let y = c.index-reps-b.result in
    let m : c.loop-b.b < length reps = search rules in
    let behind : c.args.a < c.loop-b.b = search rules in
    let other : ¬ (c.in_ok-dimension.dimension ≡ 0) = search rules in
    let d = c.in_ok-dimension.ensures (pair_characters T reps c.requires.checked c.requires.sound c.args.a c.loop-b.b x y c.requires.inside m
    c.deref.result.now c.deref-in-loop-b.result.now c.deref.ensures.value c.deref-in-loop-b.ensures.value) in (
      behind,
      m,
      not_apart T reps c.requires.checked c.requires.sound c.args.a c.loop-b.b x y c.requires.inside m c.in_ok-dimension.dimension d other,
      c.loop-b.invariant,
    )

pub loop-b-preserved : goal.loop-b-preserved
loop-b-preserved g c =
    let T = phase_table c.args.t.now in
    let reps = c.args.reps.now in
    let x = c.index-reps-a.result in
    let y = c.index-reps-b.result in
    let m : c.loop-b.b < length reps = search rules in
    let none : c.in_ok-dimension.dimension ≡ 0 = search rules in
    let d = c.in_ok-dimension.ensures (pair_characters T reps c.requires.checked c.requires.sound c.args.a c.loop-b.b x y c.requires.inside m
    c.deref.result.now c.deref-in-loop-b.result.now c.deref.ensures.value c.deref-in-loop-b.ensures.value) in
    apart_next T reps c.requires.checked c.requires.sound c.args.a c.loop-b.b x y c.requires.inside m c.loop-b.invariant
    (apart_any T reps c.requires.checked c.requires.sound c.args.a c.loop-b.b x y c.requires.inside m c.in_ok-dimension.dimension d none)

pub returns : goal.returns
unfolding IsFirstBehind
returns g c =
    let done : c.loop-b.b ≡ length c.args.reps.now = search rules in
    subst (AreApartBelow (phase_table c.args.t.now) c.args.reps.now c.args.a) done c.loop-b.invariant
