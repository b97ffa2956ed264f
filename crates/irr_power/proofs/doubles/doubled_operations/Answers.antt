-- One more square.
use Rattle.std.proofs.Common.{rules, ◌≡◌, subst, length, get_or, ℕ, ◌<◌}
use Rattle.std.proofs.lemmas.List.{get_or_default}
use Rattle.irr_seitz.specs.OperationMeaning.{operation}
use Rattle.irr_seitz.specs.declared.op.Op.{Op}
use Rattle.irr_close.specs.StandsFor.{stands_for}
use Rattle.irr_star.specs.Sizes.{HasSmallVector}
use Rattle.irr_side.specs.ArmTraces.{AreEach}
use Rattle.irr_power.specs.Doubles.{IsDouble}
use Rattle.irr_side.proofs.EachItems.{each_more, each_none}
use Rattle.irr_power.proofs.doubles.doubled_operations.Goals as goal

pub loop-place-init : goal.loop-place-init
loop-place-init c = each_none _ c.new-squares.result.items c.new-squares.ensures.items

pub doubled-requires : goal.doubled-requires
doubled-requires c = c.requires c.loop-place.place-index 0 c.loop-place-test.true

pub loop-place-preserved : goal.loop-place-preserved
loop-place-preserved c = each_more (λ p (x : Op). (stands_for c.args.group.now (operation x) × HasSmallVector x)
    × ((n : ℕ) → IsDouble c.args.group.now (get_or c.args.places.now p n) x))
    c.loop-place.place-index c.loop-place.squares.items c.push.new.self.items c.doubled.result c.in_ok-push.ensures.items c.loop-place.invariant (
      (c.doubled.ensures.member, c.doubled.ensures.small),
      λ n. subst (λ m. IsDouble c.args.group.now m c.doubled.result) (get_or_default c.args.places.now c.loop-place.place-index 0 n c.loop-place-test.true)
          c.doubled.ensures.square,
    )

pub returns-clause-members : goal.returns-clause-members
returns-clause-members c = λ k x l. (c.loop-place.invariant.each k x (subst (λ m. k < m) c.loop-place.invariant.count l)).0

pub returns-clause-squares : goal.returns-clause-squares
returns-clause-squares c =
    let done : c.loop-place.place-index ≡ length c.args.places.now = search rules in
    subst (λ m. AreEach (λ p (x : Op). (n : ℕ) → IsDouble c.args.group.now (get_or c.args.places.now p n) x) m c.loop-place.squares.items) done
    (record { count = c.loop-place.invariant.count; each = λ k x l. (c.loop-place.invariant.each k x l).1 })
