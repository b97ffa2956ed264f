-- Where restrictions meet a star of the subgroup.
--   AreImages group sub k ops        ops are the images of the canonical operations of the little group of k in the subgroup
--   IsMeeting group sub ws wave t    t has these, and the numbers of the arms whose wave vectors ws are equivalent to that one
--   HasPartRows .. full t            the parts of full at its operations
--   AreStarRows .. full ts rows      rows have the traces of the parts at the stars, in order
--   HasMeetings ..                   a subgroup, a side, the wave vectors of its arms, their stars, and the meetings there
--   IsEntry s a r                    r is the entry of the member a of the list of the side
use Rattle.std.specs.Prelude.{ℕ, ◌≡◌, ◌<◌, List, length, map, slice_index_or, Vec}
use Rattle.std.specs.Global.{Global}
use Rattle.std.specs.Int.{◌∣◌}
use Rattle.std.specs.List.{All}
use Rattle.irr_algebra.specs.Fin.{Fin, to_nat}
use Rattle.irr_algebra.specs.Matrix.{Matrix}
use Rattle.irr_algebra.specs.Pair.{times}
use Rattle.irr_number.specs.Number.{numbers}
use Rattle.irr_space.specs.Operation.{Operation, WaveVector}
use Rattle.irr_space.specs.Reciprocal.{AreEquivalent}
use Rattle.irr_space.specs.CanonicalOperation.{IsNumbering}
use Rattle.irr_space.specs.Star.{IsInLittleGroup}
use Rattle.irr_space.specs.CompleteList.{over}
use Rattle.irr_seitz.specs.OperationMeaning.{operation}
use Rattle.irr_seitz.specs.PhaseMeaning.{sign_of}
use Rattle.irr_seitz.specs.declared.op.Op.{Op}
use Rattle.irr_cyc.specs.declared.scalars.Scalar.{Ghosts}
use Rattle.irr_kvec.specs.WaveMeaning.{wave_vector}
use Rattle.irr_kvec.specs.declared.wave.Wave.{Wave}
use Rattle.irr_close.specs.StandsFor.{stands_for}
use Rattle.irr_close.specs.declared.group.Group.{Group}
use Rattle.irr_full.specs.Full.{IsFullOf}
use Rattle.irr_full.specs.Restriction.{IsImage, IsSubgroup}
use Rattle.irr_star.specs.declared.full.Full.{Full}
use Rattle.irr_mult.specs.Listing.{IsListing, item}
use Rattle.irr_mult.specs.OrderedWaves.{waves_of}
use Rattle.irr_mult.specs.Stars.{AreStarsOf}
use Rattle.irr_mult.specs.Traced.{AreStarCharacters}
use Rattle.irr_mult.specs.declared.part.RepParts.{RepParts}
use Rattle.irr_mult.specs.declared.star.StarCharacters.{StarCharacters}
use Rattle.irr_setting.specs.Setting.{basis, origin}
use Rattle.irr_side.specs.ArmTraces.{AreEach, AreMembers}
use Rattle.irr_side.specs.Sides.{IsSideOf}
use Rattle.irr_side.specs.declared.sides.Side.{Side}
use Rattle.irr_subduce.specs.ArmWaves.{AreArmWaves}
use Rattle.irr_subduce.specs.PartTraces.{IsPartRow, PartAt}
use Rattle.irr_subduce.specs.Restrictions.{IsRestrictionOf, rep_content}
use Rattle.irr_subduce.specs.declared.meetings.Meeting.{Meeting}
use Rattle.irr_subduce.specs.declared.sub.Sub.{Sub}

pub record AreImages (group : Group) (sub : Sub) (k : WaveVector) (ops : List Op) : Type 0 where
  pub inner : List Op
  pub numbering : IsNumbering (stands_for sub.group) (IsInLittleGroup (stands_for sub.group) k)
      (λ (p : Fin (length inner)). operation (item inner p))
  pub members : AreMembers group ops
  pub images : AreEach (λ n f. (g : Op) → IsImage (basis sub.setting) (origin sub.setting) (operation (slice_index_or inner n g)) (operation f))
      (length inner) ops

pub record IsMeeting (group : Group) (sub : Sub) (ws : List Wave) (wave : Wave) (t : Meeting) : Type 0 where
  pub images : AreImages group sub (wave_vector wave) t.images.items
  pub arms : IsListing to_nat (λ (j : Fin (length ws)).
      AreEquivalent (stands_for sub.group) (wave_vector wave) (wave_vector (item ws j)))
      (λ i j. to_nat i < to_nat j) t.arms.items

abbrev pub AreMeetings : Group → Sub → List Wave → {X : Type 0} → List (StarCharacters X) → List Meeting → Type 0
AreMeetings group sub ws {X} stars ts = AreEach (λ n t. (c : StarCharacters X)
    → IsMeeting group sub ws (slice_index_or stars n c).wave t) (length stars) ts

abbrev pub HasPartRows : {X : Type 0} {V : Ghosts X} → ℕ → Full X V → Meeting → Type 0
HasPartRows M full t = (p : ℕ) (g : Op) → p < length t.images.items → PartAt M full t.arms.items (slice_index_or t.images.items p g)

abbrev pub AreStarRows : {X : Type 0} {V : Ghosts X} → ℕ → Full X V → List Meeting → List (Vec X Global) → Type 0
AreStarRows {X} {V} M full ts rows = AreEach (λ n (row : Vec X Global). (t : Meeting)
    → IsPartRow {V = V} M full (slice_index_or ts n t).arms.items (slice_index_or ts n t).images.items row.items) (length ts) rows

pub record HasWaves {X : Type 0} {V : Ghosts X} (group : Group) (sub : Sub) (image : Operation → Operation) (k : WaveVector) (M : ℕ)
    (side : Side X V) (ws : List Wave) : Type 0 where
  pub phase : sub.group.phase ≡ group.phase
  pub subgroup : IsSubgroup (basis sub.setting) (origin sub.setting) (stands_for sub.group) (stands_for group) image
  pub is_side : IsSideOf group k side
  pub divides : is_side.star.table.order ∣ M
  pub waves : AreArmWaves sub side.star.arms.items ws

pub record HasMeetings {X : Type 0} {V : Ghosts X} (group : Group) (sub : Sub) (image : Operation → Operation) (k : WaveVector) (M : ℕ)
    (side : Side X V) (ws : List Wave) (cs : List (StarCharacters X)) (ts : List Meeting) : Type 0 where
  pub given : HasWaves group sub image k M side ws
  pub stars : AreStarsOf (stands_for sub.group) (waves_of ws) (map (λ c. wave_vector c.wave) cs)
  pub characters : All (AreStarCharacters V.order_of V.value sub.group M) cs
  pub meetings : AreMeetings group sub ws cs ts

-- with whatever full representations over the numbers of order M
pub record IsEntry {X : Type 0} {V : Ghosts X} {group : Group} {k : WaveVector} (sub : Sub) (image : Operation → Operation) (M : ℕ)
    {side : Side X V} (A : IsSideOf group k side) (a : ℕ) (r : RepParts) : Type 0 where
  pub is_restriction : (u : A.star.table.order ∣ M) (m : Fin A.list.count) → to_nat m ≡ a
      → (F : Operation → Matrix (numbers M) (times A.star.arms (A.list.size m)) (times A.star.arms (A.list.size m)))
      → IsFullOf A.star M u (over A.star.table M u (A.list.member m)) F
      → IsRestrictionOf (sign_of group.phase) (stands_for sub.group) image M a F (rep_content r)

abbrev pub AreEntries : {X : Type 0} {V : Ghosts X} {group : Group} {k : WaveVector} → Sub → (Operation → Operation) → ℕ → {side : Side X V}
    → IsSideOf group k side → ℕ → List RepParts → Type 0
AreEntries sub image M A n rs = AreEach (λ a r. IsEntry sub image M A a r) n rs
