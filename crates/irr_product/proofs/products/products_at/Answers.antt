-- The orders, and the entries of all pairs.
use Rattle.std.proofs.Common.{◌≡◌, sym, subst, ℕ, IsTrue, map, rules}
use Rattle.irr_space.specs.Operation.{WaveVector}
use Rattle.irr_cyc.specs.declared.scalars.Scalar.{Ghosts}
use Rattle.irr_seitz.specs.PhaseMeaning.{sign_of}
use Rattle.irr_kvec.specs.WaveMeaning.{wave_vector}
use Rattle.irr_close.specs.StandsFor.{stands_for}
use Rattle.irr_close.specs.declared.group.Group.{Group}
use Rattle.irr_product.specs.Meetings.{AreSidesOf}
use Rattle.irr_product.specs.Products.{AreProducts, IsPairOrder, pair_content}
use Rattle.irr_side.specs.Sides.{IsSideOf}
use Rattle.irr_side.specs.declared.sides.Side.{Side}
use Rattle.irr_product.proofs.PairOrders.{pair_order-positive}
use Rattle.irr_product.proofs.WholeProducts.{first_order, second_order}
use Rattle.irr_product.proofs.products.products_at.Goals as goal

-- with the order that the program has made
sides : {X : Type 0} {V : Ghosts X} (group : Group) (k l : WaveVector) (n M : ℕ) (left right : Side X V) → M ≡ n → IsPairOrder (stands_for group) k l n
    → IsSideOf group k left → IsSideOf group l right → AreSidesOf group k l M left right
sides group k l n M left right e o A B = record { left = A; right = B; order = subst (IsPairOrder (stands_for group) k l) (sym e) o }

pub new-requires-clause-positive : goal.new-requires-clause-positive
new-requires-clause-positive g c = pair_order-positive (stands_for c.args.group.now) (wave_vector c.args.k1.now)
    (wave_vector c.args.k2.now) c.args.n c.requires.order

pub side_of-requires-clause-order : goal.side_of-requires-clause-order
side_of-requires-clause-order g c =
    let o = first_order c.args.group.now (wave_vector c.args.k1.now) (wave_vector c.args.k2.now) c.args.n c.requires.order
    c.requires.within in (o.0, o.1, o.3)

pub side_of-requires-2-clause-order : goal.side_of-requires-2-clause-order
side_of-requires-2-clause-order g c =
    let o = second_order c.args.group.now (wave_vector c.args.k1.now) (wave_vector c.args.k2.now) c.args.n c.requires.order
    c.requires.within in (o.0, o.1, o.3)

pub products_between-requires : goal.products_between-requires
products_between-requires g c =
    let k = wave_vector c.args.k1.now in
    let l = wave_vector c.args.k2.now in
    let left = c.in_ok-left.left in
    let e : k ≡ l = c.is_same.ensures.0 (let t : IsTrue c.is_same.result = search rules in t) in (
      k,
      l,
      sides c.args.group.now k l c.args.n c.in_ok-order.order.n left left c.in_ok-order.ensures c.requires.order c.in_ok-left.ensures
          (subst (λ m. IsSideOf c.args.group.now m left) e c.in_ok-left.ensures),
    )

pub returns-then-is_same : goal.returns-then-is_same
returns-then-is_same g c =
    let k = wave_vector c.args.k1.now in
    let l = wave_vector c.args.k2.now in
    let left = c.in_ok-left.left in
    let e : k ≡ l = c.is_same.ensures.0 (let t : IsTrue c.is_same.result = search rules in t) in
    subst (λ n. AreProducts (sign_of c.args.group.now.phase) (stands_for c.args.group.now) k l n (map pair_content c.in_ok-squares.squares.items))
    c.in_ok-order.ensures (c.in_ok-squares.ensures k l
    (sides c.args.group.now k l c.args.n c.in_ok-order.order.n left left c.in_ok-order.ensures c.requires.order c.in_ok-left.ensures
    (subst (λ m. IsSideOf c.args.group.now m left) e c.in_ok-left.ensures)))

pub products_between-requires-2 : goal.products_between-requires-2
products_between-requires-2 g c =
    let k = wave_vector c.args.k1.now in
    let l = wave_vector c.args.k2.now in (
      k,
      l,
      sides c.args.group.now k l c.args.n c.in_ok-order.order.n c.in_ok-left.left c.in_ok-right.right c.in_ok-order.ensures c.requires.order
          c.in_ok-left.ensures c.in_ok-right.ensures,
    )

pub returns : goal.returns
returns g c =
    let k = wave_vector c.args.k1.now in
    let l = wave_vector c.args.k2.now in
    subst (λ n. AreProducts (sign_of c.args.group.now.phase) (stands_for c.args.group.now) k l n (map pair_content c.in_ok-entries.entries.items))
    c.in_ok-order.ensures (c.in_ok-entries.ensures k l
    (sides c.args.group.now k l c.args.n c.in_ok-order.order.n c.in_ok-left.left c.in_ok-right.right c.in_ok-order.ensures c.requires.order
    c.in_ok-left.ensures c.in_ok-right.ensures))
