-- The summands, and the entries of all pairs.
use Rattle.std.proofs.Common.{◌≡◌, refl, sym, subst, subst₂, ℕ, List}
use Rattle.std.specs.List.{All}
use Rattle.irr_space.specs.Operation.{WaveVector}
use Rattle.irr_cyc.specs.declared.scalars.Scalar.{Ghosts}
use Rattle.irr_kvec.specs.declared.wave.Wave.{Wave}
use Rattle.irr_close.specs.declared.group.Group.{Group}
use Rattle.irr_little.specs.declared.arms.Arm.{Arm}
use Rattle.irr_product.specs.Meetings.{AreSidesOf, HasSums}
use Rattle.irr_product.specs.Sums.{AreSums, IsSummand}
use Rattle.irr_side.specs.declared.sides.Side.{Side}
use Rattle.irr_product.proofs.ArmSums.{arms_are_summands}
use Rattle.irr_product.proofs.WholeProducts.{first_order, products_of_entries, second_order, sums_of_pair}
use Rattle.irr_product.proofs.products.products_between.Goals as goal

-- the sums of the arms, in the lists that the program has them in
with_sums : {X : Type 0} {V : Ghosts X} {group : Group} {k l : WaveVector} {M : ℕ} {left right : Side X V} → AreSidesOf group k l M left right
    → (arms others : List Arm) (made sums : List Wave) → arms ≡ left.star.arms.items → others ≡ right.star.arms.items → sums ≡ made
    → AreSums group arms others made → HasSums group k l M left right sums
with_sums {group = group} {k = k} {l = l} {M = M} {left = left} {right = right} s arms others made sums p q r are =
    sums_of_pair group k l M s.order left right sums s.left s.right M refl
    (subst (AreSums group left.star.arms.items right.star.arms.items) (sym r)
    (subst₂ (λ (x y : List Arm). AreSums group x y made) p q are))

pub arm_sums-requires-clause-left : goal.arm_sums-requires-clause-left
arm_sums-requires-clause-left g c =
    let s = c.requires.2 in
    let n = c.args.order.now.n in
    let o = first_order c.args.group.now c.requires.0 c.requires.1 n s.order c.args.order.now.limited in
    subst₂ (λ (m : ℕ) (xs : List Arm). All (λ (a : Arm). IsSummand m a.wave) xs) (sym c.n.ensures.value) (sym c.as_slice-arms.ensures.value)
    (arms_are_summands c.args.group.now c.args.left.now.star.arms.items s.left.star s.left.arms n c.args.order.now.positive
    c.args.order.now.limited o.0 o.1 o.2)

pub arm_sums-requires-clause-right : goal.arm_sums-requires-clause-right
arm_sums-requires-clause-right g c =
    let s = c.requires.2 in
    let n = c.args.order.now.n in
    let o = second_order c.args.group.now c.requires.0 c.requires.1 n s.order c.args.order.now.limited in
    subst₂ (λ (m : ℕ) (xs : List Arm). All (λ (a : Arm). IsSummand m a.wave) xs) (sym c.n.ensures.value) (sym c.as_slice-others.ensures.value)
    (arms_are_summands c.args.group.now c.args.right.now.star.arms.items s.right.star s.right.arms n c.args.order.now.positive
    c.args.order.now.limited o.0 o.1 o.2)

pub products_of-requires : goal.products_of-requires
products_of-requires g c = (
  c.requires.0,
  c.requires.1,
  with_sums c.requires.2 c.as_slice-arms.result.now c.as_slice-others.result.now c.in_ok-sums.sums.items c.as_slice.result.now
      c.as_slice-arms.ensures.value c.as_slice-others.ensures.value c.as_slice.ensures.value c.in_ok-sums.ensures,
)

pub returns : goal.returns
returns g c k l s =
    let q = with_sums s c.as_slice-arms.result.now c.as_slice-others.result.now c.in_ok-sums.sums.items c.as_slice.result.now
    c.as_slice-arms.ensures.value c.as_slice-others.ensures.value c.as_slice.ensures.value c.in_ok-sums.ensures in
    products_of_entries q.left q.right c.args.order.now.positive q.left_divides q.right_divides c.in_ok-entries.entries.items
    (c.in_ok-entries.ensures k l q)
