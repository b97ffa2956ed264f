-- In its place.
use Rattle.std.proofs.Common.{rules, refl, sym, subst, ◌≤◌, length}
use Rattle.irr_kvec.specs.WaveMeaning.{wave_vector}
use Rattle.irr_mult.specs.OrderedWaves.{AreInOrder, IsOneOf, IsPlace, waves_of}
use Rattle.irr_mult.proofs.OrderedLists.{limits_with, place_within, with_one, with_other}
use Rattle.irr_mult.proofs.ordered.insert.Goals as goal

pub place-requires : goal.place-requires
place-requires c = subst (λ xs. AreInOrder (waves_of xs)) (sym c.deref.ensures.value) c.requires

pub insert-requires : goal.insert-requires
insert-requires c =
    let l : c.in-Some.at ≤ length c.args.found.now.items = place_within c.args.found.now.items c.args.wave c.in-Some.at
    (subst (λ xs. IsPlace (waves_of xs) (wave_vector c.args.wave) c.in-Some.at) c.deref.ensures.value
    c.in-Some.ensures.some) in
    search rules

pub returns-in_ok-insert-in-Some-clause-found : goal.returns-in_ok-insert-in-Some-clause-found
returns-in_ok-insert-in-Some-clause-found c = with_other c.args.found.now.items c.args.wave c.in-Some.at
    (subst (λ xs. IsPlace (waves_of xs) (wave_vector c.args.wave) c.in-Some.at) c.deref.ensures.value
    c.in-Some.ensures.some) c.insert.new.self.items c.in_ok-insert-in-Some.ensures.items

pub returns-in_ok-insert-in-Some-clause-limits : goal.returns-in_ok-insert-in-Some-clause-limits
returns-in_ok-insert-in-Some-clause-limits c limits own = limits_with c.args.found.now.items c.args.wave c.in-Some.at
    c.insert.new.self.items c.in_ok-insert-in-Some.ensures.items limits own

pub returns-in-None-clause-found : goal.returns-in-None-clause-found
returns-in-None-clause-found c = with_one c.args.found.now.items c.args.wave
    (subst (λ xs. IsOneOf (waves_of xs) (wave_vector c.args.wave)) c.deref.ensures.value (c.in-None.ensures.none refl))
    c.args.found.now.items refl
