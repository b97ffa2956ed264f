-- The side, and the entries of its members.
use Rattle.std.proofs.Common.{◌≡◌, sym, subst, ◌≤◌, ◌^◌, List, map}
use Rattle.std.specs.List.{All}
use Rattle.irr_seitz.specs.OperationMeaning.{AreWithin}
use Rattle.irr_seitz.specs.PhaseMeaning.{sign_of}
use Rattle.irr_kvec.specs.WaveMeaning.{wave_vector}
use Rattle.irr_kvec.specs.declared.wave.Wave.{Wave}
use Rattle.irr_close.specs.StandsFor.{stands_for}
use Rattle.irr_little.specs.declared.arms.Arm.{Arm}
use Rattle.irr_subduce.specs.ArmWaves.{AreArmWaves}
use Rattle.irr_subduce.specs.Restrictions.{AreRestrictions, rep_content}
use Rattle.irr_subduce.proofs.ArmListings.{waves_of_side}
use Rattle.irr_subduce.proofs.ArmSizes.{denominators_small, numerators_small}
use Rattle.irr_subduce.proofs.Periods.{order_positive}
use Rattle.irr_subduce.proofs.RestrictedEntries.{restrictions_of_entries}
use Rattle.irr_subduce.proofs.restrictions.restrictions_at.Goals as goal

pub new-requires-clause-positive : goal.new-requires-clause-positive
new-requires-clause-positive g c = order_positive (stands_for c.args.group.now) (wave_vector c.args.k.now) c.args.n c.requires.order

pub side_of-requires-clause-order : goal.side_of-requires-clause-order
side_of-requires-clause-order g c = (c.args.n, c.requires.order, c.requires.within)

pub arm_waves-requires-clause-numerators : goal.arm_waves-requires-clause-numerators
arm_waves-requires-clause-numerators g c = subst (λ (xs : List Arm). All (λ (a : Arm). AreWithin (10 ^ 9) a.wave.num) xs) (sym c.as_slice-arms.ensures.value)
    (numerators_small c.args.group.now c.in_ok-side.side.star.arms.items c.in_ok-side.ensures.star c.in_ok-side.ensures.arms c.args.n c.requires.within
    c.requires.order)

pub arm_waves-requires-clause-denominators : goal.arm_waves-requires-clause-denominators
arm_waves-requires-clause-denominators g c = subst (λ (xs : List Arm). All (λ (a : Arm). a.wave.den ≤ 100000) xs) (sym c.as_slice-arms.ensures.value)
    (denominators_small c.args.group.now c.in_ok-side.side.star.arms.items c.in_ok-side.ensures.star c.in_ok-side.ensures.arms c.args.n c.requires.within
    c.requires.order)

pub restrictions_of-requires-clause-waves : goal.restrictions_of-requires-clause-waves
restrictions_of-requires-clause-waves g c = (
  c.requires.sub.1.image,
  wave_vector c.args.k.now,
  waves_of_side c.args.group.now c.args.sub.now c.requires.sub.1.image (wave_vector c.args.k.now) c.in_ok-side.side c.in_ok-side.ensures c.args.n
      c.in_ok-order.order.n c.in_ok-order.ensures c.requires.order c.requires.sub.1.phase c.requires.sub.1.subgroup c.as_slice.result.now
      (subst (λ (ws : List Wave). AreArmWaves c.args.sub.now c.in_ok-side.side.star.arms.items ws) (sym c.as_slice.ensures.value)
      (subst (λ (xs : List Arm). AreArmWaves c.args.sub.now xs c.in_ok-waves.waves.items) c.as_slice-arms.ensures.value c.in_ok-waves.ensures)),
)

pub returns : goal.returns
returns g c gens s =
    let w = waves_of_side c.args.group.now c.args.sub.now s.image (wave_vector c.args.k.now) c.in_ok-side.side c.in_ok-side.ensures c.args.n
    c.in_ok-order.order.n c.in_ok-order.ensures c.requires.order s.phase s.subgroup c.as_slice.result.now
    (subst (λ (ws : List Wave). AreArmWaves c.args.sub.now c.in_ok-side.side.star.arms.items ws) (sym c.as_slice.ensures.value)
    (subst (λ (xs : List Arm). AreArmWaves c.args.sub.now xs c.in_ok-waves.waves.items) c.as_slice-arms.ensures.value c.in_ok-waves.ensures)) in
    subst (λ n. AreRestrictions (sign_of c.args.group.now.phase) (stands_for c.args.group.now) (stands_for c.args.sub.now.group) s.image
    (wave_vector c.args.k.now) n (map rep_content c.in_ok-entries.entries.items)) c.in_ok-order.ensures
    (restrictions_of_entries w.is_side c.in_ok-order.order.positive w.divides c.in_ok-entries.entries.items
    (c.in_ok-entries.ensures s.image (wave_vector c.args.k.now) w))
