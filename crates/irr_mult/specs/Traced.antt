-- Representations of space groups, given by their stars and the traces of their parts.
--   SpaceRepresentation          a representation of the group of the program, over the numbers of one order, diagonal at
--                                translations
--   StarOn s G k T a             what makes a star of k with the table T and a arms
--   star_on S                    that star
--   AreStarCharacters .. group M c   c has the characters, over the numbers of order M, of a complete list in canonical order
--                                at its wave vector
--   IsTraced .. A c traces       c is so at the representative of its star, where the part of A has these traces
--   traces_at traces i           those at the place i
--   AreTraced .. A stars traces  so at each of the stars on which A stands, which are in the order of their wave vectors
use Rattle.std.specs.Prelude.{ℕ, ◌≡◌, ◌<◌, List, [], length, map, slice_index_or, Vec}
use Rattle.std.specs.Global.{Global}
use Rattle.irr_algebra.specs.Fin.{Fin, to_nat}
use Rattle.irr_algebra.specs.Matrix.{Matrix}
use Rattle.irr_number.specs.Number.{Number, numbers}
use Rattle.irr_rational.specs.Order.{IsBelow}
use Rattle.irr_space.specs.Operation.{Operation, WaveVector, wave_component}
use Rattle.irr_space.specs.Reciprocal.{Sign}
use Rattle.irr_space.specs.CanonicalOperation.{IsNumbering}
use Rattle.irr_space.specs.Star.{IsArms, IsInLittleGroup, IsInStar}
use Rattle.irr_space.specs.PhaseTable.{PhaseTable, IsTableOf}
use Rattle.irr_space.specs.CompleteList.{IsCompleteList, IsInOrder}
use Rattle.irr_rep.specs.Twisted.{phase_table}
use Rattle.irr_seitz.specs.PhaseMeaning.{sign_of}
use Rattle.irr_close.specs.StandsFor.{stands_for}
use Rattle.irr_close.specs.declared.group.Group.{Group}
use Rattle.irr_kvec.specs.WaveMeaning.{wave_vector}
use Rattle.irr_full.specs.GroupRepresentation.{IsRepresentation, HasDiagonal}
use Rattle.irr_full.specs.Star.{Star}
use Rattle.irr_full.specs.Part.{HasPhase, IsPartOf}
use Rattle.irr_full.specs.Parts.{IsRepresentative}
use Rattle.irr_mult.specs.declared.star.StarCharacters.{StarCharacters}
use Rattle.irr_mult.specs.Listing.{item}
use Rattle.irr_mult.specs.StarParts.{HasCharacters, IsPartRow}

pub record SpaceRepresentation : Type 0 where
  pub group : Group
  pub order : ℕ
  pub positive : 0 < order
  pub size : ℕ
  pub at : Operation → Matrix (numbers order) size size
  pub is_representation : IsRepresentation (stands_for group) at
  pub has_diagonal : HasDiagonal (stands_for group) at

-- the fields of `Star` beside the table and the number of arms
pub record StarOn (s : Sign) (G : Operation → Type 0) (k : WaveVector) {h : ℕ} (T : PhaseTable h) (a : ℕ) : Type 0 where
  pub count : ℕ
  pub canonical : Fin count → Operation
  pub canonical_numbering : IsNumbering G (λ _. Unit {0}) canonical
  pub arm : Fin a → WaveVector
  pub number : Fin a → Fin count
  pub are_arms : IsArms G k canonical arm number
  pub operation : Fin h → Operation
  pub numbering : IsNumbering G (IsInLittleGroup G k) operation
  pub is_table : IsTableOf s G k operation T

abbrev pub star_on : {s : Sign} {G : Operation → Type 0} {k : WaveVector} {h : ℕ} {T : PhaseTable h} {a : ℕ}
    → StarOn s G k T a → Star s G k
star_on {h = h} {T = T} {a = a} S = record {
  count = S.count;
  canonical = S.canonical;
  canonical_numbering = S.canonical_numbering;
  arms = a;
  arm = S.arm;
  number = S.number;
  are_arms = S.are_arms;
  places = h;
  operation = S.operation;
  numbering = S.numbering;
  table = T;
  is_table = S.is_table;
}

pub record AreStarCharacters {S : Type 0} (order : S → ℕ) (value : (n : ℕ) → S → Number n) (group : Group) (M : ℕ)
    (c : StarCharacters S) : Type 0 where
  pub star : StarOn (sign_of group.phase) (stands_for group) (wave_vector c.wave) (phase_table c.table) c.arms
  pub characters : HasCharacters order value M c
  pub complete : IsCompleteList (phase_table c.table) characters.list
  pub ordered : IsInOrder (phase_table c.table) characters.list

pub record IsTraced {S : Type 0} (order : S → ℕ) (value : (n : ℕ) → S → Number n) (A : SpaceRepresentation)
    (c : StarCharacters S) (traces : List S) : Type 0 where
  pub has : AreStarCharacters order value A.group A.order c
  pub representative : IsRepresentative (stands_for A.group) (wave_vector c.wave)
  pub row : IsPartRow has.characters traces
  pub places : Fin row.count → Fin A.size
  pub is_part : IsPartOf (star_on has.star) A.order has.characters.divides A.at places row.part

-- the traces at a place of a list, none past its end
abbrev pub traces_at : {S : Type 0} → List (Vec S Global) → ℕ → List S
traces_at {S} rows i = slice_index_or (map (λ (v : Vec S Global). v.items) rows) i []

pub record AreTraced {S : Type 0} (order : S → ℕ) (value : (n : ℕ) → S → Number n) (A : SpaceRepresentation)
    (stars : List (StarCharacters S)) (traces : List (Vec S Global)) : Type 0 where
  pub same_length : length traces ≡ length stars
  pub star : (i : Fin (length stars)) → IsTraced order value A (item stars i) (traces_at traces (to_nat i))
  pub ordered : (i j : Fin (length stars)) → to_nat i < to_nat j
      → IsBelow (wave_component (wave_vector (item stars i).wave)) (wave_component (wave_vector (item stars j).wave))
  pub all : (j : Fin A.size) → (i : Fin (length stars)) × (l : WaveVector)
      × IsInStar (stands_for A.group) (wave_vector (item stars i).wave) l
      × HasPhase (sign_of A.group.phase) (stands_for A.group) l A.order A.at j
