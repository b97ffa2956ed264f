-- The sums of the arms, and the entries.
use Rattle.std.proofs.Common.{sym, subst, List, map}
use Rattle.std.specs.List.{All}
use native.Mathlib.Nat as Nat
use Rattle.irr_seitz.specs.PhaseMeaning.{sign_of}
use Rattle.irr_kvec.specs.WaveMeaning.{wave_vector}
use Rattle.irr_close.specs.StandsFor.{stands_for}
use Rattle.irr_little.specs.declared.arms.Arm.{Arm}
use Rattle.irr_product.specs.Sums.{AreSums, IsSummand}
use Rattle.irr_product.proofs.ArmSums.{arms_are_summands}
use Rattle.irr_power.specs.Squares.{AreSquares, square_entry}
use Rattle.irr_power.proofs.WholeSquares.{arm_sums_of, order_positive, squares_of_entries}
use Rattle.irr_power.proofs.squares.squares_at.Goals as goal

pub new-requires-clause-positive : goal.new-requires-clause-positive
new-requires-clause-positive g c = order_positive c.args.group.now (wave_vector c.args.k.now) c.args.n c.requires.order

pub side_of-requires-clause-order : goal.side_of-requires-clause-order
side_of-requires-clause-order g c = (c.args.n, c.requires.order, c.requires.within)

pub arm_sums-requires-clause-positive : goal.arm_sums-requires-clause-positive
arm_sums-requires-clause-positive g c = order_positive c.args.group.now (wave_vector c.args.k.now) c.args.n c.requires.order

pub arm_sums-requires-clause-left : goal.arm_sums-requires-clause-left
arm_sums-requires-clause-left g c = subst (λ (xs : List Arm). All (λ (a : Arm). IsSummand c.args.n a.wave) xs) (sym c.as_slice-arms.ensures.value)
    (arms_are_summands c.args.group.now c.in_ok-side.side.star.arms.items c.in_ok-side.ensures.star c.in_ok-side.ensures.arms
    c.args.n (order_positive c.args.group.now (wave_vector c.args.k.now) c.args.n c.requires.order) c.requires.within
    c.args.n c.requires.order (Nat.dvd_refl c.args.n))

pub arm_sums-requires-clause-right : goal.arm_sums-requires-clause-right
arm_sums-requires-clause-right g c = subst (λ (xs : List Arm). All (λ (a : Arm). IsSummand c.args.n a.wave) xs) (sym c.as_slice-arms.ensures.value)
    (arms_are_summands c.args.group.now c.in_ok-side.side.star.arms.items c.in_ok-side.ensures.star c.in_ok-side.ensures.arms
    c.args.n (order_positive c.args.group.now (wave_vector c.args.k.now) c.args.n c.requires.order) c.requires.within
    c.args.n c.requires.order (Nat.dvd_refl c.args.n))

pub squares_of-requires : goal.squares_of-requires
squares_of-requires g c = (
  wave_vector c.args.k.now,
  arm_sums_of c.args.group.now (wave_vector c.args.k.now) c.args.n c.requires.order c.in_ok-side.side c.as_slice.result.now
      c.in_ok-side.ensures c.in_ok-order.order.n c.in_ok-order.ensures
      (subst (λ ws. AreSums c.args.group.now c.in_ok-side.side.star.arms.items c.in_ok-side.side.star.arms.items ws)
      (sym c.as_slice.ensures.value)
      (subst (λ (x : List Arm). AreSums c.args.group.now x x c.in_ok-sums.sums.items) c.as_slice-arms.ensures.value c.in_ok-sums.ensures)),
)

pub returns : goal.returns
returns g c =
    let s = arm_sums_of c.args.group.now (wave_vector c.args.k.now) c.args.n c.requires.order c.in_ok-side.side c.as_slice.result.now
    c.in_ok-side.ensures c.in_ok-order.order.n c.in_ok-order.ensures
    (subst (λ ws. AreSums c.args.group.now c.in_ok-side.side.star.arms.items c.in_ok-side.side.star.arms.items ws)
    (sym c.as_slice.ensures.value)
    (subst (λ (x : List Arm). AreSums c.args.group.now x x c.in_ok-sums.sums.items) c.as_slice-arms.ensures.value c.in_ok-sums.ensures)) in
    subst (λ n. AreSquares (sign_of c.args.group.now.phase) (stands_for c.args.group.now) (wave_vector c.args.k.now) n
    (map square_entry c.in_ok-squares.squares.items)) c.in_ok-order.ensures
    (squares_of_entries s.is_side c.in_ok-order.order.positive s.divides c.in_ok-squares.squares.items
    (c.in_ok-squares.ensures (wave_vector c.args.k.now) s))
