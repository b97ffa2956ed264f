-- What the lines of an input before its report say, one after another.
--   Placed                    the number of a line, and the operation that stands there
--   SubContent                what a subgroup section says: the number of the line of its basis, basis and origin, and its generators
--   Said                      what lines say so far: generators of the group; the line subgroup behind them, so that a basis must follow;
--                             a basis behind it, so that an origin must follow; or a basis and an origin, and generators of the subgroup
--   MayStand s sort           a line of this sort may follow where s is said; with a report the input ends
--   Adds n line s t           with the n-th line behind what says s, t is said
--   Reaches bytes s n rest    the first n lines of the bytes say s, and the rest follows them
--   IsWrong s line reason     where s is said, the line is the first that is faulty: no line of its sort may follow, and the reason is
--                             Shape at its first byte, or it is faulty as one of its sort
use Rattle.std.specs.Prelude.{ℕ, ℤ, ◌≡◌, suc, List, [], ◌∷◌, ◌++◌}
use Rattle.irr_algebra.specs.Matrix.{Matrix}
use Rattle.irr_rational.specs.Rational.{rationals}
use Rattle.irr_lines.specs.Lines.{IsFirstLine}
use Rattle.irr_space.specs.Operation.{Operation, Vector}
use Rattle.irr_rat.specs.declared.vec3.Vec3.{Vec3}
use Rattle.irr_rat.specs.VectorMeaning.{vector}
use Rattle.irr_triplet.specs.TripletFault.{IsTextOf}
use Rattle.irr_setting.specs.Setting.{basis_of}
use Rattle.irr_setting_text.specs.SettingFault.{IsBasisText, IsOriginText}
use Rattle.irr_input.specs.declared.keyword.Keyword.TheVariants.{Subgroup, Basis, Origin, Report}
use Rattle.irr_input.specs.declared.input.Reason.{Reason}
use Rattle.irr_input.specs.declared.input.Reason.TheVariants as reasons
use Rattle.irr_input.specs.SectionLines.{LineSort, IsOfSort, IsSubgroupText, IsOwnFault}
use Rattle.irr_input.specs.SectionLines.LineSort.{skipped, triplet, section}

pub record Placed : Type 0 where
  pub line : ℕ
  pub operation : Operation

pub record SubContent : Type 0 where
  pub line : ℕ
  pub basis : Matrix rationals 3 3
  pub origin : Vector
  pub gens : List Placed

pub data Said : Type 0 where
  group : List Placed → Said
  begun : List Placed → Said
  based : List Placed → ℕ → Matrix rationals 3 3 → Said
  complete : List Placed → SubContent → Said

abbrev pub MayStand : Said → LineSort → Type 0
MayStand (group gens) skipped = Unit {0}
MayStand (group gens) triplet = Unit {0}
MayStand (group gens) (section Subgroup) = Unit {0}
MayStand (group gens) (section Basis) = ⊥
MayStand (group gens) (section Origin) = ⊥
MayStand (group gens) (section Report) = Unit {0}
MayStand (begun gens) skipped = Unit {0}
MayStand (begun gens) triplet = ⊥
MayStand (begun gens) (section Subgroup) = ⊥
MayStand (begun gens) (section Basis) = Unit {0}
MayStand (begun gens) (section Origin) = ⊥
MayStand (begun gens) (section Report) = ⊥
MayStand (based gens n P) skipped = Unit {0}
MayStand (based gens n P) triplet = ⊥
MayStand (based gens n P) (section Subgroup) = ⊥
MayStand (based gens n P) (section Basis) = ⊥
MayStand (based gens n P) (section Origin) = Unit {0}
MayStand (based gens n P) (section Report) = ⊥
MayStand (complete gens sub) skipped = Unit {0}
MayStand (complete gens sub) triplet = Unit {0}
MayStand (complete gens sub) (section Subgroup) = ⊥
MayStand (complete gens sub) (section Basis) = ⊥
MayStand (complete gens sub) (section Origin) = ⊥
MayStand (complete gens sub) (section Report) = Unit {0}

-- one generator more of a subgroup
abbrev pub with_generator : SubContent → Placed → SubContent
with_generator sub g = record { line = sub.line; basis = sub.basis; origin = sub.origin; gens = sub.gens ++ g ∷ [] }

abbrev pub placed_at : ℕ → Operation → Placed
placed_at n g = record { line = n; operation = g }

-- a setting, and no generator yet
abbrev pub setting_at : ℕ → Matrix rationals 3 3 → Vector → SubContent
setting_at n P p = record { line = n; basis = P; origin = p; gens = [] }

pub data Adds (n : ℕ) (line : List ℕ) : Said → Said → Type 0 where
  nothing : {s : Said} → IsOfSort line skipped → Adds n line s s
  generator : {gens : List Placed} (g : Operation) → IsOfSort line triplet → IsTextOf line g
      → Adds n line (group gens) (group (gens ++ placed_at n g ∷ []))
  subgroup : {gens : List Placed} → IsOfSort line (section Subgroup) → IsSubgroupText line → Adds n line (group gens) (begun gens)
  basis : {gens : List Placed} (num : List (List ℤ)) (den : ℕ) → IsOfSort line (section Basis) → IsBasisText line num den
      → Adds n line (begun gens) (based gens n (basis_of num den))
  origin : {gens : List Placed} {m : ℕ} {P : Matrix rationals 3 3} (p : Vec3) → IsOfSort line (section Origin) → IsOriginText line p
      → Adds n line (based gens m P) (complete gens (setting_at m P (vector p)))
  sub_generator : {gens : List Placed} {sub : SubContent} (g : Operation) → IsOfSort line triplet → IsTextOf line g
      → Adds n line (complete gens sub) (complete gens (with_generator sub (placed_at n g)))

pub data Reaches (bytes : List ℕ) : Said → ℕ → List ℕ → Type 0 where
  start : Reaches bytes (group []) 0 bytes
  more : {s t : Said} {n : ℕ} {rest line behind : List ℕ} → Reaches bytes s n rest → IsFirstLine rest line behind → Adds (suc n) line s t
      → Reaches bytes t (suc n) behind

pub data IsWrong (s : Said) (line : List ℕ) (reason : Reason) : Type 0 where
  misplaced : ((sort : LineSort) → IsOfSort line sort → ¬ (MayStand s sort)) → reason ≡ reasons.Shape 0 → IsWrong s line reason
  faulty : (sort : LineSort) → IsOfSort line sort → MayStand s sort → IsOwnFault line sort reason → IsWrong s line reason
