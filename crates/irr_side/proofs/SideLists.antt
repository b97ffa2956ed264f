-- One wave vector's side: the star and the full representations, from a list of small ones on the table of the little group.
--   some_item              an item of a list
--   small_family           a member of the list as a small family
--   inducible              the families of the list can be induced
--   side_of_list           the full representations are those of a side
use Rattle.std.proofs.Common.{◌≡◌, sym, ◌∙◌, ap, subst, refl, ℕ, ◌<◌, ◌≤◌, List, [], ◌∷◌, length, get_or, arith}
use Rattle.std.specs.Int.{◌∣◌}
use Rattle.std.specs.List.{All}
use Rattle.std.proofs.lemmas.Nat.Gcd.{le_of_dvd}
use native.Mathlib.Nat as Nat
use Rattle.irr_algebra.specs.Fin.{Fin, to_nat}
use Rattle.irr_algebra.proofs.Indices.{from_nat, to_nat-from_nat, to_nat-lt}
use Rattle.irr_theory.specs.FactorSystem.{Representation}
use Rattle.irr_space.specs.Operation.{WaveVector}
use Rattle.irr_space.specs.PhaseTable.{PhaseTable, phases_at, phases_over}
use Rattle.irr_space.specs.CompleteList.{over}
use Rattle.irr_seitz.specs.PhaseMeaning.{sign_of}
use Rattle.irr_seitz.specs.declared.op.Op.{Op}
use Rattle.irr_cyc.specs.declared.scalars.Scalar.{Ghosts}
use Rattle.irr_mat.specs.Size.{IsWithin}
use Rattle.irr_rep.specs.Family.{matrix_at}
use Rattle.irr_rep.specs.Twisted.{phase_table, place_count, operation_places}
use Rattle.irr_rep.specs.declared.family.Family.{Family}
use Rattle.irr_rep.specs.declared.table.Twisted.{Twisted}
use Rattle.irr_rep.proofs.Families.{at_own_order-over}
use Rattle.irr_kvec.specs.Centrings.{IsWithinLimits}
use Rattle.irr_kvec.specs.WaveMeaning.{wave_vector}
use Rattle.irr_kvec.specs.declared.wave.Wave.{Wave}
use Rattle.irr_climb.specs.Families.{IsRead}
use Rattle.irr_climb.specs.Lists.{IsSmallList}
use Rattle.irr_climb.specs.Sizes.{HasSharpSizes}
use Rattle.irr_climb.proofs.ClimbedLevel.{few_members}
use Rattle.irr_climb.proofs.FullRows.{size_few}
use Rattle.irr_close.specs.StandsFor.{stands_for}
use Rattle.irr_close.specs.declared.group.Group.{Group}
use Rattle.irr_little.specs.Arms.{AreArms}
use Rattle.irr_little.specs.Table.{IsLittleTable}
use Rattle.irr_little.specs.declared.arms.Arm.{Arm}
use Rattle.irr_little.specs.declared.arms.Arms.{Arms}
use Rattle.irr_little.proofs.Spaces.{numbering_of}
use Rattle.irr_full.specs.Star.{Star}
use Rattle.irr_star.specs.Sizes.{IsSmallFamily}
use Rattle.irr_star.specs.Stars.{AreArmsOf, IsStarOf, star_of}
use Rattle.irr_star.specs.declared.full.Full.{Full}
use Rattle.irr_star.proofs.StarLists.{star_of_lists}
use Rattle.irr_mult.proofs.StarFacts.{full_list, some_operation}
use Rattle.irr_side.specs.Sides.{AreInducedFrom, IsInducible, IsSideOf}
use Rattle.irr_side.specs.declared.sides.Side.{Side}

-- an item of a list that has one
pub some_item : {A : Type 0} (xs : List A) (k : ℕ) → k < length xs → A
some_item [] k l = absurd (omega (arith, l))
some_item (x ∷ xs) k l = x

-- a member of a list on a table
module _ {X : Type 0} {V : Ghosts X} {h : ℕ} (T : PhaseTable h) (places : h ≤ 48) (v : T.order ∣ T.order) (fs : List (Family X V))
    (s : IsSmallList T fs) (sizes : All (HasSharpSizes T.order h) fs) (m : Fin s.list.count) where
  pub inside : to_nat m < length fs
  inside = subst (λ n. to_nat m < n) (sym s.read.count) (to_nat-lt m)

  pub few_rows : s.list.size m ≤ 48
  few_rows = size_few s.list (full_list T fs s) m places

  module _ (other : Family X V) where
    abbrev family : Family X V
    family = get_or fs (to_nat m) other

    is_read : IsRead T.order (phases_at T) (s.list.member m) family
    is_read = s.read.read m other

    sharp : HasSharpSizes T.order h family
    sharp = sizes (to_nat m) other inside

    pub small_family : IsSmallFamily T.order (over T T.order v (s.list.member m)).at family
    small_family = record {
      size = is_read.size;
      shape = is_read.shape;
      matrices = λ i. is_read.matrices i ∙ sym (at_own_order-over T v (s.list.member m) i);
      few = few_rows;
      denominator = sharp.denominator;
      small = sharp.small;
      entries = λ i. subst (IsWithin T.order 13824 sharp.denominator) (is_read.matrices i ∙ sym (at_own_order-over T v (s.list.member m) i))
          (subst (λ d. IsWithin T.order 13824 sharp.denominator (matrix_at T.order d family.mats.items i)) is_read.size (sharp.entries i));
    }

-- the star and the list
module _ (group : Group) (wave : Wave) (arms : List Arm) (t : Twisted) (are : AreArms group (wave_vector wave) arms)
    (table : IsLittleTable group (wave_vector wave) (operation_places t) (phase_table t)) where
  abbrev pub star : Star (sign_of group.phase) (stands_for group) (wave_vector wave)
  star = star_of group (wave_vector wave) arms t (some_operation group) (record { wave = wave; op = 0 })
      (numbering_of group (some_operation group)) are table

  is_star : IsStarOf group arms t star
  is_star = star_of_lists group (wave_vector wave) arms t (some_operation group) (record { wave = wave; op = 0 })
      (numbering_of group (some_operation group)) are table

  module _ {X : Type 0} {V : Ghosts X} (fs : List (Family X V)) (s : IsSmallList (phase_table t) fs)
      (sizes : All (HasSharpSizes (phase_table t).order (place_count t)) fs) where
    places : place_count t ≤ 48
    places = t.places_within

    abbrev member : (v : (phase_table t).order ∣ (phase_table t).order) (m : Fin s.list.count)
        → Representation (phases_over (phase_table t) (phase_table t).order v) (s.list.size m)
    member v m = over (phase_table t) (phase_table t).order v (s.list.member m)

    small_member : (v : (phase_table t).order ∣ (phase_table t).order) (m : Fin s.list.count) (other : Family X V)
        → IsSmallFamily (phase_table t).order (member v m).at (get_or fs (to_nat m) other)
    small_member v = small_family (phase_table t) places v fs s sizes

    pub inducible : All (IsInducible group arms t) fs
    inducible k f l =
        let below : k < s.list.count = subst (λ n. k < n) s.read.count l in
        let m : Fin s.list.count = from_nat s.list.count k below in
        let v = Nat.dvd_refl (phase_table t).order in (
          wave_vector wave,
          star,
          (phase_table t).order,
          v,
          s.list.size m,
          member v m,
          is_star,
          subst (λ n. IsSmallFamily (phase_table t).order (member v m).at (get_or fs n f)) (to_nat-from_nat s.list.count k below)
              (small_member v m f),
        )

    pub side_of_list : (side : Side X V) → side.star.arms.items ≡ arms → All (λ (a : Arm). IsWithinLimits a.wave) arms
        → AreInducedFrom group arms t fs side.fulls.items → IsSideOf group (wave_vector wave) side
    side_of_list side same limits are_induced = record {
      star = star;
      arms = subst (λ xs. AreArmsHere xs) (sym same) is_star.are_arms;
      limits = subst (λ xs. All (λ (a : Arm). IsWithinLimits a.wave) xs) (sym same) limits;
      list = s.list;
      complete = s.complete;
      ordered = s.ordered;
      few = Nat.le_trans (few_members s.list (full_list (phase_table t) fs s)) places;
      small = λ m. few_rows (phase_table t) places (Nat.dvd_refl (phase_table t).order) fs s sizes m;
      count = are_induced.count ∙ s.read.count;
      induced = λ v m g.
          let l = inside (phase_table t) places v fs s sizes m in
          let e : Family X V = some_item fs (to_nat m) l in
          (are_induced.each (to_nat m) e g l).induced (wave_vector wave) star (phase_table t).order v (s.list.size m) (member v m) is_star
          (small_member v m e);
    }
      where
        AreArmsHere : List Arm → Type 0
        AreArmsHere xs = AreArmsOf group xs star
