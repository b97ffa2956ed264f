-- Rows of sums of products of numbers, over pairs of rows.
--   ClassRows .. n h left right cs   left and right have rows of h numbers of order n, sums of at most 48 powers of z; cs are the
--                                    numbers of pairs of them
--   class_sum e p                    the sum, over these pairs, of the products of the numbers at the place p
use Rattle.std.specs.Prelude.{ℕ, ◌≡◌, ◌≤◌, ◌+◌, ◌*◌, List, length, Vec}
use Rattle.std.specs.Global.{Global}
use Rattle.irr_algebra.specs.Fin.{Fin, to_nat}
use Rattle.irr_algebra.specs.Sum.{sum}
use Rattle.irr_number.specs.Number.{Number, numbers}
use Rattle.irr_canonical.specs.RootSum.{IsRootSum}
use Rattle.irr_char.specs.Characters.{IsRowOf}
use Rattle.irr_mult.specs.Listing.{item}
use Rattle.irr_mult.specs.Traced.{traces_at}

pub record ClassRows {S : Type 0} (order : S → ℕ) (value : (n : ℕ) → S → Number n) (n h : ℕ)
    (left right : List (Vec S Global)) (classes : List ℕ) : Type 0 where
  pub lefts : ℕ
  pub rights : ℕ
  pub left_count : length left ≡ lefts
  pub right_count : length right ≡ rights
  pub left_number : Fin lefts → Fin h → Number n
  pub right_number : Fin rights → Fin h → Number n
  pub left_row : (i : Fin lefts) → IsRowOf order value n (left_number i) (traces_at left (to_nat i))
  pub right_row : (j : Fin rights) → IsRowOf order value n (right_number j) (traces_at right (to_nat j))
  pub left_small : (i : Fin lefts) (p : Fin h) → IsRootSum n 48 1 (left_number i p)
  pub right_small : (j : Fin rights) (p : Fin h) → IsRootSum n 48 1 (right_number j p)
  pub few_classes : length classes ≤ 2304
  pub first : Fin (length classes) → Fin lefts
  pub second : Fin (length classes) → Fin rights
  pub class : (t : Fin (length classes)) → item classes t ≡ to_nat (first t) * rights + to_nat (second t)

unfoldable pub class_sum : {S : Type 0} {order : S → ℕ} {value : (n : ℕ) → S → Number n} {n h : ℕ}
    {left right : List (Vec S Global)} {classes : List ℕ} → ClassRows order value n h left right classes → Fin h → Number n
class_sum {n = n} {classes = classes} e p = sum (numbers n) (length classes)
    (λ t. (numbers n).mul (e.left_number (e.first t) p) (e.right_number (e.second t) p))
