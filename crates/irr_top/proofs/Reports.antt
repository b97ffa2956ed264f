-- The report of a list of small representations, from the families of the program and their characters.
--   fits_together     it fits together
--   report_of_list    it is the report of the list
use Rattle.std.proofs.Common.{◌≡◌, sym, ◌∙◌, ap, subst, subst₂, ℕ, ◌<◌, List, [], length, map, get_or, slice_index}
use Rattle.std.specs.List.{All}
use Rattle.std.proofs.lemmas.List.{get_or-map, length-map}
use Rattle.irr_algebra.specs.Fin.{Fin, to_nat}
use Rattle.irr_algebra.specs.Matrix.{trace}
use Rattle.irr_algebra.proofs.Indices.{to_nat-lt}
use Rattle.irr_theory.specs.Representations.{Representations}
use Rattle.irr_space.specs.Operation.{identity}
use Rattle.irr_space.specs.PhaseTable.{PhaseTable, phases_at}
use Rattle.irr_space.specs.CompleteList.{row}
use Rattle.irr_seitz.specs.OperationMeaning.{operation}
use Rattle.irr_seitz.specs.declared.op.Op.{Op}
use Rattle.irr_cyc.specs.declared.scalars.Scalar.{Ghosts}
use Rattle.irr_close.specs.declared.group.Group.{Group}
use Rattle.irr_rep.specs.declared.family.Family.{Family}
use Rattle.irr_rep.specs.Family.{matrix_at}
use Rattle.irr_climb.specs.Families.{AreRead, IsRead}
use Rattle.irr_little.specs.Table.{listed_operations}
use Rattle.irr_report.specs.declared.report.RepText.{RepText}
use Rattle.irr_report.specs.declared.report.Report.{Report}
use Rattle.irr_report.specs.Content.{FitsTogether, HasPlaces, number_at}
use Rattle.irr_report.specs.OfList.{IsReportOfList}
use Rattle.irr_top.specs.Members.{HasTraces}
use Rattle.irr_top.proofs.Members.{some_item}

module _ {S : Type 0} {G : Ghosts S} {h : ℕ} (T : PhaseTable h) (families : List (Family S G)) (r : Report S G) (order : r.order ≡ T.order)
    (places : length r.ops.items ≡ h) (same : map (λ (t : RepText S G). t.family) r.reps.items ≡ families)
    (traces : All (HasTraces T.order h) r.reps.items) where
  pub fits_together : FitsTogether r
  fits_together k d l =
      let t : RepText S G = get_or r.reps.items k d in
      let has : HasTraces T.order h t = traces k d l in
      subst₂ (λ n c. HasPlaces n c t) (sym order) (sym places) (record { count = has.row.count; orders = has.row.orders; shape = has.shape })

  module _ (L : Representations (phases_at T)) (read : AreRead T.order (phases_at T) L families) where
    count : length r.reps.items ≡ L.count
    count = sym (length-map r.reps.items (λ (t : RepText S G). t.family)) ∙ ap length same ∙ read.count

    module _ (m : Fin L.count) where
      below : to_nat m < length r.reps.items
      below = subst (λ n. to_nat m < n) (sym count) (to_nat-lt m)

      other : RepText S G
      other = some_item r.reps.items (to_nat m) below

      abbrev rep : RepText S G
      rep = get_or r.reps.items (to_nat m) other

      mapped : {B : Type 0} (f : RepText S G → B) (e : B) → get_or (map f r.reps.items) (to_nat m) e ≡ f rep
      mapped f e = get_or-map f r.reps.items (to_nat m) other e below

      is_read : IsRead T.order (phases_at T) (L.member m) rep.family
      is_read = subst (IsRead T.order (phases_at T) (L.member m))
          (ap (λ fs. get_or fs (to_nat m) rep.family) (sym same) ∙ mapped (λ t. t.family) rep.family) (read.read m rep.family)

      has : HasTraces T.order h rep
      has = traces (to_nat m) other below

      character-at : (i : Fin h) → number_at G.value T.order rep.chars.items (to_nat i) ≡ row T (L.member m) i
      unfolding number_at row
      character-at i = has.row.numbers_at i ∙ ap (λ n. trace (matrix_at T.order n rep.family.mats.items i)) is_read.size
          ∙ ap trace (is_read.matrices i)

    module _ (group : Group) (xs : List ℕ)
        (ops : (a : ℕ) (d : Op) → a < h → get_or r.ops.items a d ≡ get_or group.ops.items (slice_index xs a) d) where
      pub report_of_list : (d : Op) → IsReportOfList r (listed_operations group h xs d) T L
      report_of_list d = record {
        order = order;
        places = places;
        operation = λ i. get_or-map operation r.ops.items (to_nat i) d identity (subst (λ n. to_nat i < n) (sym places) (to_nat-lt i))
            ∙ ap operation (ops (to_nat i) d (to_nat-lt i));
        count = count;
        size = λ m. mapped m (λ t. t.family.dim) 0 ∙ (is_read m).size;
        matrix = λ m i. ap (λ ms. matrix_at T.order (L.size m) ms i) (mapped m (λ t. t.family.mats.items) []) ∙ (is_read m).matrices i;
        character = λ m i. ap (λ cs. number_at G.value T.order cs (to_nat i)) (mapped m (λ t. t.chars.items) []) ∙ character-at m i;
      }
