-- Direct products of the full representations at two wave vectors (Bradley and Cracknell, section 4.7).
--   IsPairOrder G k l n         n = e lcm(p,q), with the exponent e of G and the periods p of k and q of l
--   PairContent                 two labels, a number of rows, and parts
--   pair_content p              what the program's value stands for
--   IsPairOf s G M m n F H p    p is the entry of the members m and n of two lists: their labels, from 1, the product of the numbers
--                               of rows of their full representations F and H, and the parts of the direct product of these,
--                               whose multiplicities times dimensions add up to that number
--   AreProducts s G k l M ps    ps are the entries of all pairs of members of complete lists in canonical order at k and at l, in
--                               the order (1,1), (1,2), .., with the full representations over the numbers of order M
--   AreProductsAt group k l ps  so for the group of the program, over the order of the pair
--   IsRefused G k l e           of e p and e lcm(p,q), n is the first above the limit; want of memory says nothing
use Rattle.std.specs.Prelude.{ℕ, suc, ◌≡◌, ◌<◌, ◌≤◌, ◌+◌, ◌*◌, ◌⊎◌, List, length, map, slice_index_or}
use Rattle.std.specs.Int.{◌∣◌}
use Rattle.irr_algebra.specs.Fin.{Fin, to_nat}
use Rattle.irr_algebra.specs.Matrix.{Matrix}
use Rattle.irr_algebra.specs.Pair.{times}
use Rattle.irr_number.specs.Number.{numbers}
use Rattle.irr_theory.specs.Representations.{Representations, count_total}
use Rattle.irr_space.specs.Operation.{Operation, WaveVector}
use Rattle.irr_space.specs.SpaceGroup.{IsExponent}
use Rattle.irr_space.specs.Reciprocal.{Sign, IsOrder, IsPeriod}
use Rattle.irr_space.specs.PhaseTable.{phases_at}
use Rattle.irr_space.specs.CompleteList.{IsCompleteList, IsInOrder, over}
use Rattle.irr_cyc.specs.declared.orders.TheConstants.{ORDER_LIMIT}
use Rattle.irr_seitz.specs.PhaseMeaning.{sign_of}
use Rattle.irr_close.specs.StandsFor.{stands_for}
use Rattle.irr_close.specs.declared.group.Group.{Group}
use Rattle.irr_full.specs.Star.{Star}
use Rattle.irr_full.specs.Full.{IsFullOf}
use Rattle.irr_full.specs.Product.{kronecker}
use Rattle.irr_full.specs.Parts.{ArePartsOf, Part}
use Rattle.irr_mult.specs.Listing.{item}
use Rattle.irr_mult.specs.StarParts.{part_of}
use Rattle.irr_mult.specs.declared.part.PairParts.{PairParts}
use Rattle.irr_mult.specs.declared.error.WorkError.{WorkError}
use Rattle.irr_mult.specs.declared.error.WorkError.TheVariants.{OrderTooLarge, Memory}

pub record IsPairOrder (G : Operation → Type 0) (k l : WaveVector) (n : ℕ) : Type 0 where
  pub exponent : ℕ
  pub first : ℕ
  pub second : ℕ
  pub common : ℕ
  pub is_exponent : IsExponent G exponent
  pub is_first : IsPeriod G k first
  pub is_second : IsPeriod G l second
  pub first_divides : first ∣ common
  pub second_divides : second ∣ common
  pub least : (m : ℕ) → first ∣ m → second ∣ m → common ∣ m
  pub is_product : n ≡ exponent * common

pub record PairContent : Type 0 where
  pub first : ℕ
  pub second : ℕ
  pub dim : ℕ
  pub parts : List Part

abbrev pub pair_content : PairParts → PairContent
pair_content p = record { first = p.a; second = p.b; dim = p.dim; parts = map part_of p.parts.items }

pub record IsPairOf (s : Sign) (G : Operation → Type 0) (M : ℕ) {a b : ℕ} (m n : ℕ)
    (F : Operation → Matrix (numbers M) a a) (H : Operation → Matrix (numbers M) b b) (p : PairContent) : Type 0 where
  pub first : p.first ≡ suc m
  pub second : p.second ≡ suc n
  pub dim : p.dim ≡ a * b
  pub parts : (positive : 0 < M) → ArePartsOf s G positive (kronecker F H) (item p.parts)
  pub adds_up : count_total (length p.parts) (λ i. (item p.parts i).mult * (item p.parts i).dim) ≡ p.dim

pub record AreProducts (s : Sign) (G : Operation → Type 0) (k l : WaveVector) (M : ℕ) (ps : List PairContent) : Type 0 where
  pub left : Star s G k
  pub right : Star s G l
  pub left_list : Representations (phases_at left.table)
  pub right_list : Representations (phases_at right.table)
  pub left_complete : IsCompleteList left.table left_list
  pub left_ordered : IsInOrder left.table left_list
  pub right_complete : IsCompleteList right.table right_list
  pub right_ordered : IsInOrder right.table right_list
  -- the full representations
  pub left_divides : left.table.order ∣ M
  pub right_divides : right.table.order ∣ M
  pub left_full : (m : Fin left_list.count) → Operation → Matrix (numbers M) (times left.arms (left_list.size m))
      (times left.arms (left_list.size m))
  pub right_full : (n : Fin right_list.count) → Operation → Matrix (numbers M) (times right.arms (right_list.size n))
      (times right.arms (right_list.size n))
  pub left_is_full : (m : Fin left_list.count) → IsFullOf left M left_divides
      (over left.table M left_divides (left_list.member m)) (left_full m)
  pub right_is_full : (n : Fin right_list.count) → IsFullOf right M right_divides
      (over right.table M right_divides (right_list.member n)) (right_full n)
  -- the entries
  pub count : length ps ≡ left_list.count * right_list.count
  pub pair : (m : Fin left_list.count) (n : Fin right_list.count) (none : PairContent)
      → IsPairOf s G M (to_nat m) (to_nat n) (left_full m) (right_full n)
      (slice_index_or ps (to_nat m * right_list.count + to_nat n) none)

pub record AreProductsAt (group : Group) (k l : WaveVector) (ps : List PairParts) : Type 0 where
  pub order : ℕ
  pub is_order : IsPairOrder (stands_for group) k l order
  pub within : order ≤ ORDER_LIMIT
  pub products : AreProducts (sign_of group.phase) (stands_for group) k l order (map pair_content ps)

abbrev pub IsRefused : (Operation → Type 0) → WaveVector → WaveVector → WorkError → Type 0
IsRefused G k l (OrderTooLarge n) = (ORDER_LIMIT < n)
    × (IsOrder G k n ⊎ (IsPairOrder G k l n × (m : ℕ) × IsOrder G k m × (m ≤ ORDER_LIMIT)))
IsRefused G k l Memory = Unit {0}
