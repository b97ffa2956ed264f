-- Verdicts on reports of the program.
--   order_verdict            the order is another
--   order_within             the order of the wave vector is within a limit that the table's is
--   operations_verdict       the operations differ
--   families_verdict_of      they are the same
--   checked_at               the representations are within the limits, at the order and the number of places of the table
--   sizes_of                 dimensions are positive
use Rattle.std.proofs.Common.{◌≡◌, sym, ◌∙◌, ap, subst, inl, inr, ℕ, ◌<◌, ◌≤◌, ◌+◌, List, [], ◌∷◌, length, get_or, All, arith}
use Rattle.std.specs.Prelude.{Some, None}
use mathlib.Core.Path.{fun_ext}
use Rattle.std.proofs.lemmas.Bool.{cases_lt}
use Rattle.std.proofs.lemmas.List.{get_or-map, get_or_default}
use Rattle.irr_algebra.specs.Fin.{Fin, to_nat}
use Rattle.irr_algebra.proofs.Indices.{from_nat, to_nat-from_nat, to_nat-lt}
use Rattle.irr_space.specs.Operation.{Operation, identity}
use Rattle.irr_space.specs.Reciprocal.{IsOrder}
use Rattle.irr_space.specs.PhaseTable.{PhaseTable}
use Rattle.irr_text.specs.ReportText.{ReportContent}
use Rattle.irr_seitz.specs.OperationMeaning.{operation}
use Rattle.irr_seitz.specs.PhaseMeaning.{sign_of}
use Rattle.irr_seitz.specs.declared.op.Op.{Op}
use Rattle.irr_kvec.specs.WaveMeaning.{wave_vector}
use Rattle.irr_close.specs.StandsFor.{stands_for}
use Rattle.irr_close.specs.declared.group.Group.{Group}
use Rattle.irr_little.specs.Table.{IsLittleTable, listed_operations}
use Rattle.irr_cyc.specs.declared.scalars.Scalar.{Ghosts}
use Rattle.irr_rep.specs.Family.{matrix_at}
use Rattle.irr_report.specs.Content.{characters, content_of, matrices, number_at, operations_of, sizes}
use Rattle.irr_report.specs.declared.report.RepText.{RepText}
use Rattle.irr_report.specs.declared.report.Report.{Report}
use Rattle.irr_check.specs.declared.verdict.Verdict.{Verdict}
use Rattle.irr_check.specs.declared.verdict.Verdict.TheVariants.{No}
use Rattle.irr_check.specs.declared.verdict.Clause.TheVariants.{Order, Ops}
use Rattle.irr_check.specs.Families.{families_report}
use Rattle.irr_report.specs.Limits.{IsChecked, IsWithinLimits}
use Rattle.irr_check.specs.Listed.{families_of}
use Rattle.irr_check.specs.Operations.{AreSameAt, IsFirstOther}
use Rattle.irr_check.specs.Trials.{IsFirstFailed}
use Rattle.irr_check.specs.Trials.Reading.{dimensions}
use Rattle.irr_check.specs.Verdict.{IsFamiliesVerdict, IsSameAt, IsVerdict}
use Rattle.irr_check.specs.Verdict.IsVerdict.{of_families, other_operations, other_order}
use Rattle.irr_check.proofs.OneTable.{order_unique}

-- an item of a list that has one
some_item : {A : Type 0} (xs : List A) → 0 < length xs → A
some_item [] l = absurd (omega (arith, l))
some_item (x ∷ xs) l = x

module _ {S : Type 0} {G : Ghosts S} (group : Group) (r : Report S G) (limits : IsWithinLimits r) (xs : List ℕ) {h : ℕ} (T : PhaseTable h)
    (little : IsLittleTable group (wave_vector r.wave) xs T) where
  abbrev Says : Verdict → Type 0
  Says v = IsVerdict dimensions (sign_of group.phase) (stands_for group) (content_of r) v

  default : Op
  default = some_item r.ops.items limits.some_operation

  abbrev listed : Fin h → Operation
  listed = listed_operations group h xs default

  pub order_verdict : ¬ (r.order ≡ T.order) → Says (No Order 0 T.order 0)
  order_verdict other = other_order (little.table default).is_order other

  pub order_within : (limit : ℕ) → T.order ≤ limit → (n : ℕ) → IsOrder (stands_for group) (wave_vector r.wave) n → n ≤ limit
  order_within limit within n order = subst (λ x. x ≤ limit)
      (order_unique (stands_for group) (wave_vector r.wave) T.order n (little.table default).is_order order) within

  -- an operation of the report
  given : (j : Fin (length r.ops.items)) (e : Op) → get_or (operations_of r) (to_nat j) identity ≡ operation (get_or r.ops.items (to_nat j) e)
  given j e = get_or-map operation r.ops.items (to_nat j) e identity (to_nat-lt j)

  abbrev written : Fin (length r.ops.items) → Operation
  written j = get_or (operations_of r) (to_nat j) identity

  same_to : (k : ℕ) → AreSameAt group.ops.items xs r.ops.items k → IsSameAt listed written k
  same_to k same =
      let j : Fin (length r.ops.items) = from_nat (length r.ops.items) k same.right in
      let at : to_nat j ≡ k = to_nat-from_nat (length r.ops.items) k same.right in
      let inside : k < h = subst (λ n. k < n) (sym little.count) same.left in
      let i : Fin h = from_nat h k inside in
      let to : to_nat i ≡ k = to_nat-from_nat h k inside in
      record {
        forward = λ a e. (j, at, equal a j e at same);
        backward = λ b e. (i, to, equal i b to e same);
      }
    where
      equal : (a : Fin h) (b : Fin (length r.ops.items)) → to_nat a ≡ k → to_nat b ≡ k → AreSameAt group.ops.items xs r.ops.items k → listed a ≡ written b
      equal a b e f same =
          ap (λ n. operation (get_or group.ops.items (get_or xs n 0) default)) e
          ∙ same.same default default
          ∙ ap (λ n. operation (get_or r.ops.items n default)) (sym f)
          ∙ sym (given b default)

  same_from : (k : ℕ) → k < h → IsSameAt listed written k → AreSameAt group.ops.items xs r.ops.items k
  same_from k l same =
      let i : Fin h = from_nat h k l in
      let at : to_nat i ≡ k = to_nat-from_nat h k l in
      let found = same.forward i at in
      let all = group.ops.items in
      let p = get_or xs k 0 in
      let left : k < length xs = subst (λ n. k < n) little.count l in
      let known : p < length all = little.places.below p (k, left, get_or_default xs k p 0 left) in
      record {
        left = left;
        right = subst (λ n. n < length r.ops.items) found.1 (to_nat-lt found.0);
        same = λ d e. ap operation (get_or_default all p d default known)
            ∙ ap (λ n. operation (get_or all (get_or xs n 0) default)) (sym at) ∙ found.2 ∙ given found.0 e
            ∙ ap (λ n. operation (get_or r.ops.items n e)) found.1;
      }

  operations_failed : (i : ℕ) → IsFirstOther group.ops.items xs r.ops.items (Some i) → IsFirstFailed (λ k l. k < l) (IsSameAt listed written) i
  unfolding IsFirstOther
  operations_failed i (left, right, other, open_end, before) = record {
    fails = λ same. elim (cases_lt i h) [
      | inl l ↦ other (same_from i l same)
      | inr past ↦ elim (cases_lt i (length r.ops.items)) [
        | inl l ↦ (
            let j : Fin (length r.ops.items) = from_nat (length r.ops.items) i l in
            let found = same.backward j (to_nat-from_nat (length r.ops.items) i l) in
            let below = to_nat-lt found.0 in
            let at = found.1 in
            omega (arith, below, at, past)
            )
        | inr ended ↦ (let count = little.count in open_end (omega (arith, left, count, past)) (omega (arith, right, ended)))
      ]
    ];
    earlier = λ k l. same_to k (before k l);
  }

  pub operations_verdict : r.order ≡ T.order → (i : ℕ) → IsFirstOther group.ops.items xs r.ops.items (Some i) → Says (No Ops 0 (i + 1) 0)
  operations_verdict order i first = other_operations listed
      (subst (IsOrder (stands_for group) (wave_vector r.wave)) (sym order) (little.table default).is_order) (little.numbering default)
      (operations_failed i first)

  -- the content at an order and a number of places, with these operations
  at_counts : (n k : ℕ) → (Fin k → Operation) → ReportContent
  at_counts n k ops = record {
    wave = wave_vector r.wave;
    order = n;
    places = k;
    operation = ops;
    count = length r.reps.items;
    size = λ m. get_or (sizes r) (to_nat m) 0;
    character = λ m i. number_at G.value n (get_or (characters r) (to_nat m) []) (to_nat i);
    matrix = λ m i. matrix_at n (get_or (sizes r) (to_nat m) 0) (get_or (matrices r) (to_nat m) []) i;
  }

  module _ (order : r.order ≡ T.order) (same : IsFirstOther group.ops.items xs r.ops.items None) where
    pub places_are : length r.ops.items ≡ h
    unfolding IsFirstOther
    places_are = sym (little.count ∙ same.0)

    operations_are : (i : Fin h) → get_or (operations_of r) (to_nat i) identity ≡ listed i
    unfolding IsFirstOther
    operations_are i =
        let l : to_nat i < length xs = subst (λ n. to_nat i < n) little.count (to_nat-lt i) in
        let s = same.1 (to_nat i) l in
        get_or-map operation r.ops.items (to_nat i) default identity s.right ∙ sym (s.same default default)

    content_is : content_of r ≡ families_report (wave_vector r.wave) listed T (families_of T r.reps.items)
    unfolding at_counts
    content_is =
        ap (λ n. at_counts n (length r.ops.items) (λ i. get_or (operations_of r) (to_nat i) identity)) order
        ∙ ap (λ k. at_counts T.order k (λ i. get_or (operations_of r) (to_nat i) identity)) places_are
        ∙ ap (at_counts T.order h) (fun_ext operations_are)

    pub families_verdict_of : (v : Verdict) → IsFamiliesVerdict dimensions T (families_of T r.reps.items) v → Says v
    families_verdict_of v verdict = of_families listed T (families_of T r.reps.items) (little.numbering default) (little.table default) content_is verdict

    pub checked_at : All (IsChecked T.order h) r.reps.items
    checked_at = subst (λ n. All (IsChecked n h) r.reps.items) order
        (subst (λ k. All (IsChecked r.order k) r.reps.items) places_are limits.representations)

-- dimensions are positive
pub sizes_of : {S : Type 0} {G : Ghosts S} (r : Report S G) → IsWithinLimits r → (m : Fin (content_of r).count) → 0 < (content_of r).size m
sizes_of {S} {G} r limits m =
    let t : RepText S G = some_item r.reps.items (let l = to_nat-lt m in omega (arith, l)) in
    subst (λ n. 0 < n) (sym (get_or-map (λ (u : RepText S G). u.family.dim) r.reps.items (to_nat m) t 0 (to_nat-lt m)))
    (limits.representations (to_nat m) t (to_nat-lt m)).family.shape.positive
