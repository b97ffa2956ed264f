-- Where the squares of full representations meet a star.
--   IsMeeting group sums wave t       t has the operations of the little group of a wave vector, their squares, and the numbers of
--                                     the sums of arms that are equivalent to the wave vector
--   AreMeetings .. stars ts           ts are so at the stars, in order
--   HasSquareRows M full t            the traces of a full representation at these operations, those at their squares, and the arms
--                                     to which they take others are rows for the sums over pairs of arms
--   IsSquareRow f M full t row        row has the halves of f x y, for the sums x of products of traces of both arms and y of the
--                                     traces at the squares of the operations that take the first arm to the second
--   AreSquareRows f M full ts rows    rows are so at the stars, in order
--   HasArmSums .. sums                a side over a multiple of its order, and the sums of its arms
--   Setting .. stars ts               these, with the stars of the sums and the meetings there
--   IsEntry M A m p                   p is the entry of the member m of the list of a side
--   AreEntries M A n ps               ps are the first n entries, in order
use Rattle.std.specs.Prelude.{ℕ, ◌≡◌, ◌<◌, List, length, map, slice_index_or, Vec}
use Rattle.std.specs.Global.{Global}
use Rattle.std.specs.Int.{◌∣◌}
use Rattle.std.specs.List.{All}
use Rattle.irr_algebra.specs.Fin.{Fin, to_nat}
use Rattle.irr_algebra.specs.Matrix.{Matrix}
use Rattle.irr_algebra.specs.Pair.{times}
use Rattle.irr_number.specs.Number.{Number, numbers}
use Rattle.irr_space.specs.Operation.{Operation, WaveVector}
use Rattle.irr_space.specs.Reciprocal.{AreEquivalent}
use Rattle.irr_space.specs.CanonicalOperation.{IsNumbering}
use Rattle.irr_space.specs.Star.{IsInLittleGroup}
use Rattle.irr_space.specs.CompleteList.{over}
use Rattle.irr_seitz.specs.OperationMeaning.{operation}
use Rattle.irr_seitz.specs.PhaseMeaning.{sign_of}
use Rattle.irr_cyc.specs.declared.scalars.Scalar.{Ghosts}
use Rattle.irr_kvec.specs.WaveMeaning.{wave_vector}
use Rattle.irr_kvec.specs.declared.wave.Wave.{Wave}
use Rattle.irr_close.specs.StandsFor.{stands_for}
use Rattle.irr_close.specs.declared.group.Group.{Group}
use Rattle.irr_little.specs.Places.{AreLittlePlaces}
use Rattle.irr_char.specs.Characters.{IsRowOf}
use Rattle.irr_full.specs.Full.{IsFullOf}
use Rattle.irr_star.specs.declared.full.Full.{Full}
use Rattle.irr_mult.specs.Listing.{IsListing, item}
use Rattle.irr_mult.specs.OrderedWaves.{waves_of}
use Rattle.irr_mult.specs.Stars.{AreStarsOf}
use Rattle.irr_mult.specs.Traced.{AreStarCharacters}
use Rattle.irr_mult.specs.declared.star.StarCharacters.{StarCharacters}
use Rattle.irr_side.specs.ArmTraces.{AreArmRows, AreEach, AreMembers, HasMembers}
use Rattle.irr_product.specs.ClassRows.{ClassRows, class_sum}
use Rattle.irr_side.specs.Sides.{IsSideOf}
use Rattle.irr_product.specs.Sums.{AreSums}
use Rattle.irr_side.specs.declared.sides.Side.{Side}
use Rattle.irr_power.specs.Doubles.{AreDoubles}
use Rattle.irr_power.specs.Halves.{IsHalf}
use Rattle.irr_power.specs.Returns.{ReturnRows, return_sum}
use Rattle.irr_power.specs.Squares.{IsSquareOf, square_entry}
use Rattle.irr_power.specs.Targets.{AreTargetRows}
use Rattle.irr_power.specs.declared.meetings.Meeting.{Meeting}
use Rattle.irr_power.specs.declared.parts.SquareParts.{SquareParts}

pub record IsMeeting (group : Group) (sums : List Wave) (wave : Wave) (t : Meeting) : Type 0 where
  pub members : AreMembers group t.ops.items
  pub numbering : IsNumbering (stands_for group) (IsInLittleGroup (stands_for group) (wave_vector wave))
      (λ (p : Fin (length t.ops.items)). operation (item t.ops.items p))
  pub places : List ℕ
  pub are_places : AreLittlePlaces group (wave_vector wave) places
  pub double_members : AreMembers group t.doubles.items
  pub doubles : AreDoubles group places t.doubles.items
  pub classes : IsListing to_nat (λ (j : Fin (length sums)).
      AreEquivalent (stands_for group) (wave_vector wave) (wave_vector (item sums j)))
      (λ i j. to_nat i < to_nat j) t.classes.items

abbrev pub AreMeetings : {X : Type 0} (group : Group) (sums : List Wave) → List (StarCharacters X) → List Meeting → Type 0
AreMeetings {X} group sums stars ts = AreEach (λ n t. (c : StarCharacters X)
    → IsMeeting group sums (slice_index_or stars n c).wave t) (length stars) ts

pub record HasSquareRows {X : Type 0} {V : Ghosts X} (M : ℕ) (full : Full X V) (t : Meeting) : Type 0 where
  pub members : HasMembers M t.ops.items full
  pub double_members : HasMembers M t.doubles.items full
  pub rows : (arms doubles : List (Vec X Global)) (targets : List (Vec ℕ Global)) → AreArmRows {V = V} full t.ops.items M arms
      → AreArmRows {V = V} full t.doubles.items M doubles → AreTargetRows {V = V} full t.ops.items targets
      → ClassRows V.order_of V.value M (length t.ops.items) arms arms t.classes.items
      × ReturnRows V.order_of V.value M (length t.ops.items) doubles targets t.classes.items

pub record IsSquareRow {X : Type 0} {V : Ghosts X} (f : (n : ℕ) → Number n → Number n → Number n) (M : ℕ) (full : Full X V)
    (t : Meeting) (row : List X) : Type 0 where
  pub arms : List (Vec X Global)
  pub doubles : List (Vec X Global)
  pub targets : List (Vec ℕ Global)
  pub are_arms : AreArmRows {V = V} full t.ops.items M arms
  pub are_doubles : AreArmRows {V = V} full t.doubles.items M doubles
  pub are_targets : AreTargetRows {V = V} full t.ops.items targets
  pub halves : (e : ClassRows V.order_of V.value M (length t.ops.items) arms arms t.classes.items)
      (r : ReturnRows V.order_of V.value M (length t.ops.items) doubles targets t.classes.items)
      (number : Fin (length t.ops.items) → Number M)
      → ((p : Fin (length t.ops.items)) → IsHalf M (f M (class_sum e p) (return_sum r p)) (number p))
      → IsRowOf V.order_of V.value M number row

abbrev pub AreSquareRows : {X : Type 0} {V : Ghosts X} (f : (n : ℕ) → Number n → Number n → Number n) (M : ℕ) → Full X V
    → List Meeting → List (Vec X Global) → Type 0
AreSquareRows {X} {V} f M full ts rows = AreEach
    (λ i (row : Vec X Global). (t : Meeting) → IsSquareRow {V = V} f M full (slice_index_or ts i t) row.items) (length ts) rows

pub record HasArmSums {X : Type 0} {V : Ghosts X} (group : Group) (k : WaveVector) (M : ℕ) (side : Side X V) (ws : List Wave)
    : Type 0 where
  pub is_side : IsSideOf group k side
  pub divides : is_side.star.table.order ∣ M
  pub sums : AreSums group side.star.arms.items side.star.arms.items ws

pub record Setting {X : Type 0} {V : Ghosts X} (group : Group) (k : WaveVector) (M : ℕ) (side : Side X V) (ws : List Wave)
    (cs : List (StarCharacters X)) (ts : List Meeting) : Type 0 where
  pub given : HasArmSums group k M side ws
  pub stars : AreStarsOf (stands_for group) (waves_of ws) (map (λ c. wave_vector c.wave) cs)
  pub characters : All (AreStarCharacters V.order_of V.value group M) cs
  pub meetings : AreMeetings group ws cs ts

-- with whatever full representation over the numbers of order M
pub record IsEntry {X : Type 0} {V : Ghosts X} {group : Group} {k : WaveVector} (M : ℕ) {side : Side X V}
    (A : IsSideOf group k side) (n : ℕ) (p : SquareParts) : Type 0 where
  pub is_square : (u : A.star.table.order ∣ M) (m : Fin A.list.count) → to_nat m ≡ n
      → (F : Operation → Matrix (numbers M) (times A.star.arms (A.list.size m)) (times A.star.arms (A.list.size m)))
      → IsFullOf A.star M u (over A.star.table M u (A.list.member m)) F
      → IsSquareOf (sign_of group.phase) (stands_for group) M n F (square_entry p)

abbrev pub AreEntries : {X : Type 0} {V : Ghosts X} {group : Group} {k : WaveVector} (M : ℕ) {side : Side X V}
    → IsSideOf group k side → ℕ → List SquareParts → Type 0
AreEntries M A n ps = AreEach (IsEntry M A) n ps
