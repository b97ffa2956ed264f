-- The rows of a full representation at a star, as they are made.
--   asked            rows for the sums over pairs of arms
--   pairs            two rows of sums
--   square_row       the row of their halves
use Rattle.std.proofs.Common.{◌≡◌, sym, subst, subst₂, ℕ, ◌<◌, List, length, Vec, Global}
use Rattle.irr_number.specs.Number.{Number}
use Rattle.irr_seitz.specs.declared.op.Op.{Op}
use Rattle.irr_cyc.specs.declared.scalars.Scalar.{Ghosts}
use Rattle.irr_char.specs.Characters.{IsRowOf}
use Rattle.irr_star.specs.declared.full.Full.{Full}
use Rattle.irr_side.specs.ArmTraces.{AreArmRows}
use Rattle.irr_product.specs.ClassRows.{ClassRows, class_sum}
use Rattle.irr_power.specs.Halves.{AreHalves, ArePairs}
use Rattle.irr_power.specs.Meetings.{HasSquareRows, IsSquareRow}
use Rattle.irr_power.specs.Returns.{ReturnRows, return_sum}
use Rattle.irr_power.specs.Targets.{AreTargetRows}
use Rattle.irr_power.specs.declared.meetings.Meeting.{Meeting}
use Rattle.irr_power.proofs.HalfRows.{class_small, halved_row, pairs_of_rows, return_small}

module _ {X : Type 0} {V : Ghosts X} (M : ℕ) (full : Full X V) (t : Meeting) (has : HasSquareRows {V = V} M full t)
    (ops squares : List Op) (classes : List ℕ) (is_ops : ops ≡ t.ops.items) (is_squares : squares ≡ t.doubles.items)
    (is_classes : classes ≡ t.classes.items)
    (arms rows : List (Vec X Global)) (is_rows : rows ≡ arms) (are_arms : AreArmRows {V = V} full ops M arms)
    (doubles doubled : List (Vec X Global)) (is_doubled : doubled ≡ doubles) (are_doubles : AreArmRows {V = V} full squares M doubles)
    (targets taken : List (Vec ℕ Global)) (is_taken : taken ≡ targets) (are_targets : AreTargetRows {V = V} full ops targets) where
  arms_there : AreArmRows {V = V} full t.ops.items M rows
  arms_there = subst₂ (λ os xs. AreArmRows {V = V} full os M xs) is_ops (sym is_rows) are_arms

  doubles_there : AreArmRows {V = V} full t.doubles.items M doubled
  doubles_there = subst₂ (λ os xs. AreArmRows {V = V} full os M xs) is_squares (sym is_doubled) are_doubles

  targets_there : AreTargetRows {V = V} full t.ops.items taken
  targets_there = subst₂ (λ os xs. AreTargetRows {V = V} full os xs) is_ops (sym is_taken) are_targets

  pub asked : ClassRows V.order_of V.value M (length ops) rows rows classes × ReturnRows V.order_of V.value M (length ops) doubled taken classes
  asked = subst₂ (λ (os : List Op) cs. ClassRows V.order_of V.value M (length os) rows rows cs
      × ReturnRows V.order_of V.value M (length os) doubled taken cs) (sym is_ops) (sym is_classes)
      (has.rows rows doubled taken arms_there doubles_there targets_there)

  module _ (products xs returns ys : List X) (is_xs : xs ≡ products) (is_ys : ys ≡ returns)
      (made_products : (e : ClassRows V.order_of V.value M (length ops) rows rows classes)
      → IsRowOf {h = length ops} V.order_of V.value M (class_sum e) products)
      (made_returns : (e : ReturnRows V.order_of V.value M (length ops) doubled taken classes)
      → IsRowOf {h = length ops} V.order_of V.value M (return_sum e) returns) where
    pub pairs : ArePairs V.order_of V.value M xs ys
    pairs = subst₂ (λ x y. ArePairs V.order_of V.value M x y) (sym is_xs) (sym is_ys)
        (pairs_of_rows V.order_of V.value M (length ops) (class_sum asked.0) (return_sum asked.1) products returns
        (made_products asked.0) (made_returns asked.1)
        (class_small V.order_of V.value M (length ops) rows rows classes asked.0)
        (return_small V.order_of V.value M (length ops) doubled taken classes asked.1))

    MadeProducts : List Op → List ℕ → Type 0
    MadeProducts os cs = (e : ClassRows V.order_of V.value M (length os) rows rows cs)
        → IsRowOf {h = length os} V.order_of V.value M (class_sum e) xs

    MadeReturns : List Op → List ℕ → Type 0
    MadeReturns os cs = (e : ReturnRows V.order_of V.value M (length os) doubled taken cs)
        → IsRowOf {h = length os} V.order_of V.value M (return_sum e) ys

    products_there : MadeProducts t.ops.items t.classes.items
    unfolding MadeProducts
    products_there = subst₂ MadeProducts is_ops is_classes first
      where
        first : MadeProducts ops classes
        first e = subst (IsRowOf {h = length ops} V.order_of V.value M (class_sum e)) (sym is_xs) (made_products e)

    returns_there : MadeReturns t.ops.items t.classes.items
    unfolding MadeReturns
    returns_there = subst₂ MadeReturns is_ops is_classes first
      where
        first : MadeReturns ops classes
        first e = subst (IsRowOf {h = length ops} V.order_of V.value M (return_sum e)) (sym is_ys) (made_returns e)

    pub square_row : 0 < M → (f : (n : ℕ) → Number n → Number n → Number n) (row : List X)
        → (ArePairs V.order_of V.value M xs ys → AreHalves V.order_of V.value M (f M) xs ys row) → IsSquareRow {V = V} f M full t row
    unfolding MadeProducts MadeReturns
    square_row positive f row halves = record {
      arms = rows;
      doubles = doubled;
      targets = taken;
      are_arms = arms_there;
      are_doubles = doubles_there;
      are_targets = targets_there;
      halves = λ e r number half. halved_row V.order_of V.value M (length t.ops.items) (class_sum e) (return_sum r) xs ys
          (products_there e) (returns_there r) positive (f M) row (halves pairs) number half;
    }
