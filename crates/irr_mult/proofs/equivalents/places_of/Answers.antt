-- Place by place.
use Rattle.std.proofs.Common.{rules, ◌≡◌, sym, subst, length}
use Rattle.irr_kvec.specs.WaveMeaning.{wave_vector}
use Rattle.irr_mult.proofs.SamePlaces.{SameSoFar, all_equivalent, more_same, none_same}
use Rattle.irr_mult.proofs.WaveOrder.{same_or_different}
use Rattle.irr_mult.proofs.equivalents.places_of.Goals as goal

pub loop-i-init : goal.loop-i-init
loop-i-init c = subst (SameSoFar c.args.waves.now c.args.k.now 0) (sym c.new-places.ensures.items)
    (none_same c.args.waves.now c.args.k.now)

pub loop-i-preserved : goal.loop-i-preserved
loop-i-preserved c =
    let k = c.args.k.now in
    let v = c.index-waves-i.result in
    more_same c.args.waves.now k c.loop-i.i c.loop-i-test.true v c.index-waves-i.is c.loop-i.places.items
    c.keep_same.new.places.items c.in_ok-keep_same.ensures.same c.in_ok-keep_same.ensures.other
    (same_or_different (wave_vector v) (wave_vector k)) c.loop-i.invariant

pub returns : goal.returns
returns c group own all =
    let done : c.loop-i.i ≡ length c.args.waves.now = search rules in
    all_equivalent c.args.waves.now c.args.k.now c.loop-i.i done c.loop-i.places.items c.loop-i.invariant group own all
