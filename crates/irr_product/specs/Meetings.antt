-- Where direct products of full representations meet a star.
--   IsOverOrder group M full           full is a full representation of the group, and its order divides M
--   IsMeeting .. wave t                t has the traces of two lists at the operations of the little group of the wave
--                                      vector, and the numbers of the sums of arms that are it
--   AreMeetings .. stars ts            ts are so at the stars, in order
--   HasPairRows .. c t                 t has the rows of the members a and b of both lists at the star c
--   IsPairRow .. c t row               row has the sums of their products
--   ArePairRows .. stars ts rows       rows are so at the stars, in order
--   AreSidesOf group k l M a b         the sides of two wave vectors whose pair has the order M
--   HasSums .. sums                    two sides, over a multiple of their orders, and the sums of their arms
--   Setting .. stars ts                these, with the stars of the sums and the meetings there
--   IsEntry A B a b p                  p is the entry of the members a and b of the lists of two sides
--   AreEntries A B n ps                ps are the first n entries, in the order (1,1), (1,2), ..
use Rattle.std.specs.Prelude.{ℕ, ◌≡◌, ◌<◌, ◌+◌, ◌*◌, List, length, map, slice_index_or, Vec}
use Rattle.std.specs.Global.{Global}
use Rattle.std.specs.Int.{◌∣◌}
use Rattle.std.specs.List.{All}
use Rattle.irr_algebra.specs.Fin.{Fin, to_nat}
use Rattle.irr_algebra.specs.Matrix.{Matrix}
use Rattle.irr_algebra.specs.Pair.{times}
use Rattle.irr_number.specs.Number.{Number, numbers}
use Rattle.irr_space.specs.Operation.{Operation, WaveVector}
use Rattle.irr_space.specs.Reciprocal.{AreEquivalent}
use Rattle.irr_space.specs.CanonicalOperation.{IsNumbering}
use Rattle.irr_space.specs.Star.{IsInLittleGroup}
use Rattle.irr_space.specs.CompleteList.{over}
use Rattle.irr_seitz.specs.OperationMeaning.{operation}
use Rattle.irr_seitz.specs.PhaseMeaning.{sign_of}
use Rattle.irr_seitz.specs.declared.op.Op.{Op}
use Rattle.irr_cyc.specs.declared.scalars.Scalar.{Ghosts}
use Rattle.irr_rep.specs.Twisted.{place_count}
use Rattle.irr_kvec.specs.WaveMeaning.{wave_vector}
use Rattle.irr_kvec.specs.declared.wave.Wave.{Wave}
use Rattle.irr_close.specs.StandsFor.{IsSameGroup, stands_for}
use Rattle.irr_close.specs.declared.group.Group.{Group}
use Rattle.irr_char.specs.Characters.{IsRowOf}
use Rattle.irr_full.specs.Full.{IsFullOf}
use Rattle.irr_star.specs.Induced.{IsFullRepresentation}
use Rattle.irr_star.specs.declared.full.Full.{Full}
use Rattle.irr_mult.specs.Listing.{IsListing, item}
use Rattle.irr_mult.specs.OrderedWaves.{waves_of}
use Rattle.irr_mult.specs.Stars.{AreStarsOf}
use Rattle.irr_mult.specs.Traced.{AreStarCharacters}
use Rattle.irr_mult.specs.declared.part.PairParts.{PairParts}
use Rattle.irr_mult.specs.declared.star.StarCharacters.{StarCharacters}
use Rattle.irr_side.specs.ArmTraces.{AreEach, AreMembers, AreTables}
use Rattle.irr_product.specs.ClassRows.{ClassRows, class_sum}
use Rattle.irr_product.specs.Products.{IsPairOf, IsPairOrder, pair_content}
use Rattle.irr_side.specs.Sides.{IsSideOf}
use Rattle.irr_product.specs.Sums.{AreSums}
use Rattle.irr_product.specs.declared.meetings.Meeting.{Meeting}
use Rattle.irr_side.specs.declared.sides.Side.{Side}

pub record IsOverOrder {X : Type 0} {V : Ghosts X} (group : Group) (M : ℕ) (full : Full X V) : Type 0 where
  pub induced : IsFullRepresentation full
  pub same : IsSameGroup group full.group
  pub divides : full.order.n ∣ M

pub record IsMeeting {X : Type 0} {V : Ghosts X} (group : Group) (M : ℕ) (firsts seconds : List (Full X V))
    (sums : List Wave) (wave : Wave) (t : Meeting X) : Type 0 where
  pub ops : List Op
  pub members : AreMembers group ops
  pub numbering : IsNumbering (stands_for group) (IsInLittleGroup (stands_for group) (wave_vector wave))
      (λ (p : Fin (length ops)). operation (item ops p))
  pub left : AreTables firsts ops M t.left.items
  pub right : AreTables seconds ops M t.right.items
  pub classes : IsListing to_nat (λ (j : Fin (length sums)).
      AreEquivalent (stands_for group) (wave_vector wave) (wave_vector (item sums j)))
      (λ i j. to_nat i < to_nat j) t.classes.items

abbrev pub AreMeetings : {X : Type 0} {V : Ghosts X} (group : Group) (M : ℕ) (left right : List (Full X V))
    (sums : List Wave) → List (StarCharacters X) → List (Meeting X) → Type 0
AreMeetings {X} group M left right sums stars ts = AreEach (λ n t. (c : StarCharacters X)
    → IsMeeting group M left right sums (slice_index_or stars n c).wave t) (length stars) ts

pub record HasPairRows {X : Type 0} (order : X → ℕ) (value : (n : ℕ) → X → Number n) (M a b : ℕ)
    (c : StarCharacters X) (t : Meeting X) : Type 0 where
  pub first : a < length t.left.items
  pub second : b < length t.right.items
  pub rows : (left right : Vec (Vec X Global) Global) → ClassRows order value M (place_count c.table)
      (slice_index_or t.left.items a left).items (slice_index_or t.right.items b right).items t.classes.items

pub record IsPairRow {X : Type 0} (order : X → ℕ) (value : (n : ℕ) → X → Number n) (M a b : ℕ)
    (c : StarCharacters X) (t : Meeting X) (row : List X) : Type 0 where
  pub sums : (left right : Vec (Vec X Global) Global) (e : ClassRows order value M (place_count c.table)
      (slice_index_or t.left.items a left).items (slice_index_or t.right.items b right).items t.classes.items)
      → IsRowOf order value M (class_sum e) row

abbrev pub ArePairRows : {X : Type 0} (order : X → ℕ) (value : (n : ℕ) → X → Number n) (M a b : ℕ)
    → List (StarCharacters X) → List (Meeting X) → List (Vec X Global) → Type 0
ArePairRows {X} order value M a b stars ts rows = AreEach
    (λ i (row : Vec X Global). (c : StarCharacters X) (t : Meeting X)
    → IsPairRow order value M a b (slice_index_or stars i c) (slice_index_or ts i t) row.items) (length stars) rows

pub record AreSidesOf {X : Type 0} {V : Ghosts X} (group : Group) (k l : WaveVector) (M : ℕ) (first second : Side X V) : Type 0 where
  pub left : IsSideOf group k first
  pub right : IsSideOf group l second
  pub order : IsPairOrder (stands_for group) k l M

pub record HasSums {X : Type 0} {V : Ghosts X} (group : Group) (k l : WaveVector) (M : ℕ) (first second : Side X V)
    (ws : List Wave) : Type 0 where
  pub left : IsSideOf group k first
  pub right : IsSideOf group l second
  pub left_divides : left.star.table.order ∣ M
  pub right_divides : right.star.table.order ∣ M
  pub sums : AreSums group first.star.arms.items second.star.arms.items ws

pub record Setting {X : Type 0} {V : Ghosts X} (group : Group) (k l : WaveVector) (M : ℕ) (first second : Side X V)
    (ws : List Wave) (cs : List (StarCharacters X)) (ts : List (Meeting X)) : Type 0 where
  pub given : HasSums group k l M first second ws
  pub stars : AreStarsOf (stands_for group) (waves_of ws) (map (λ c. wave_vector c.wave) cs)
  pub characters : All (AreStarCharacters V.order_of V.value group M) cs
  pub meetings : AreMeetings group M first.fulls.items second.fulls.items ws cs ts

-- with whatever full representations over the numbers of order M
pub record IsEntry {X : Type 0} {V : Ghosts X} {group : Group} {k l : WaveVector} (M : ℕ) {left right : Side X V}
    (A : IsSideOf group k left) (B : IsSideOf group l right) (a b : ℕ) (p : PairParts) : Type 0 where
  pub is_pair : (u : A.star.table.order ∣ M) (v : B.star.table.order ∣ M) (m : Fin A.list.count) (n : Fin B.list.count)
      → to_nat m ≡ a → to_nat n ≡ b
      → (F : Operation → Matrix (numbers M) (times A.star.arms (A.list.size m)) (times A.star.arms (A.list.size m)))
      → IsFullOf A.star M u (over A.star.table M u (A.list.member m)) F
      → (H : Operation → Matrix (numbers M) (times B.star.arms (B.list.size n)) (times B.star.arms (B.list.size n)))
      → IsFullOf B.star M v (over B.star.table M v (B.list.member n)) H
      → IsPairOf (sign_of group.phase) (stands_for group) M a b F H (pair_content p)

abbrev pub AreEntries : {X : Type 0} {V : Ghosts X} {group : Group} {k l : WaveVector} (M : ℕ) {left right : Side X V}
    → IsSideOf group k left → IsSideOf group l right → ℕ → List PairParts → Type 0
AreEntries M {right = right} A B n ps = AreEach (λ i p. (a b : ℕ) → b < length right.fulls.items
    → i ≡ a * length right.fulls.items + b → IsEntry M A B a b p) n ps
