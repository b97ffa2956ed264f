-- A chain of one level, and the choice of an extension of the family of one unit matrix on the unit.
--   only_level               the level has the unit alone, and generates the whole table
--   unit_step                the level as a subgroup with a cyclic quotient
--   unit_simple_fixed, unit_matrices     the family, and that of the program
--   small_traces             the traces of an extension are sums of few powers of z
use Rattle.std.specs.Prelude.{ℕ, ◌≡◌, ◌<◌, List, [], ◌∷◌, length, map, slice_index}
use Rattle.std.specs.Int.{◌∣◌}
use Rattle.std.specs.List.{range_with_len}
use Rattle.std.proofs.Common.{sym, ◌∙◌, ap, subst, refl, zero-add, get_or, ◌++◌, arith}
use Rattle.std.proofs.lemmas.List.{get_or-map}
use Rattle.std.proofs.lemmas.List.FromFn.{get_or-range_with_len, length-range_with_len}
use Rattle.irr_algebra.specs.Fin.{Fin, to_nat}
use Rattle.irr_algebra.specs.Matrix.{unit}
use Rattle.irr_algebra.proofs.Indices.{from_nat, to_nat-from_nat, to_nat-lt}
use Rattle.irr_number.specs.Number.{Number, numbers}
use Rattle.irr_theory.specs.FactorSystem.{Representation}
use Rattle.irr_eigen.specs.Step.{Subtable}
use Rattle.irr_clifford.specs.Cyclic.{CyclicQuotient}
use Rattle.irr_clifford.specs.FromTraces.{AreExtensionTraces}
use Rattle.irr_canonical.specs.RootSum.{IsRootSum}
use Rattle.irr_space.specs.PhaseTable.{PhaseTable, phases_over}
use Rattle.irr_cyc.specs.declared.scalars.Scalar.{Ghosts}
use Rattle.irr_mat.specs.declared.matrices.Mat.{Mat}
use Rattle.irr_mat.specs.Entries.{first_order, matrix_of}
use Rattle.irr_mat.specs.Size.{IsWithin}
use Rattle.irr_mat.proofs.Bounds.{within-unit}
use Rattle.irr_rep.specs.declared.family.Family.{Family}
use Rattle.irr_rep.specs.Family.{HasShape, matrix_at}
use Rattle.irr_rep.specs.Subgroup.{IsRestriction}
use Rattle.irr_rep.proofs.Families.{matrix_at-item}
use Rattle.irr_rep.proofs.SingleEntries.{IsSingle, singles-more, singles-none, SinglesSoFar}
use Rattle.irr_rep.proofs.TraceRoots.{trace-IsRootSum}
use Rattle.irr_chain.specs.declared.series.Level.{Level}
use Rattle.irr_chain.specs.NormalSubgroup.{In}
use Rattle.irr_chain.specs.Series.{IsLevel, IsSeries}
use Rattle.irr_chain.proofs.Chains.{whole_in, whole_subgroup}
use Rattle.irr_level.specs.Part.{ArePositions, as_subgroup}
use Rattle.irr_level.proofs.Positions.{inner_part, whole_restriction}
use Rattle.irr_level.proofs.TableLevels.{level_position, level_quotient, other_order}
use Rattle.irr_char.specs.Characters.{IsRowOf}
use Rattle.irr_root.specs.Choice.{HasMatrices}
use Rattle.irr_root.specs.CyclicStep.{inner_phases, IsCyclicStep, IsSimpleFixed, step_subgroup}
use Rattle.irr_root.specs.RootSums.{AreSmall}
use Rattle.irr_root.proofs.SingleFamilies.{singles-shape}
use Rattle.irr_root.proofs.UnitFamilies.{unit_family, unit_fixed, unit_simple}

-- what the level of a chain of one level has, and what it generates
pub record IsOnlyLevel {h : ℕ} (T : PhaseTable h) (level : Level) : Type 0 where
  pub unit : level.members.items ≡ 0 ∷ []
  pub outer : List ℕ
  pub is_level : IsLevel T level outer
  pub whole : (i : Fin h) → In outer i

pub only_level : {h : ℕ} (T : PhaseTable h) (levels : List Level) → length levels ≡ 1 → IsSeries T (0 ∷ []) levels → (level : Level)
    → level ≡ get_or levels 0 level → IsOnlyLevel T level
only_level T [] one series level own = absurd (omega (arith, one))
only_level T (l ∷ []) one series level own = subst (IsOnlyLevel T) (sym own)
    (record { unit = series.0; outer = series.1.0; is_level = series.1.1.0; whole = series.1.1.1 })
only_level T (l ∷ m ∷ ls) one series level own = absurd (omega (arith, one))

module _ {h k : ℕ} (T : PhaseTable h) (level : Level) (only : IsOnlyLevel T level) (K : PhaseTable k)
    (low : IsRestriction T level.members.items K) (M : ℕ) (divides : T.order ∣ M) (positive : 0 < M) where
  abbrev places : List ℕ
  places = range_with_len 0 h

  count : length places ≡ h
  count = length-range_with_len 0 h

  numbers_of : (a : ℕ) → a < h → slice_index places a ≡ a
  numbers_of a l = get_or-range_with_len 0 h a 0 l ∙ zero-add a

  high : IsRestriction T places T
  high = whole_restriction T places count numbers_of

  is : IsLevel T level places
  is = other_order T level only.outer places only.is_level (whole_subgroup T places count numbers_of)
      (λ i a. whole_in T places count numbers_of i) (λ i a. only.whole i)

  inner : K.order ∣ M
  inner = subst (λ r. r ∣ M) (sym low.same_order) divides

  part : (sub : Subtable (phases_over K M inner) (phases_over T M divides)) × ArePositions level.members.items places sub.place
  part = inner_part T level.members.items places K T is.normal.subgroup is.generated.subgroup low high M divides inner is.normal.normal.within

  position : (g : Fin h) × (slice_index places (to_nat g) ≡ level.g)
  position = level_position T level places is T high

  quotient : (Q : CyclicQuotient (as_subgroup part.0)) × (Q.index ≡ level.p) × (Q.generator ≡ position.0)
  quotient = level_quotient T level places is T high K low M divides inner part.0 part.1 position.0 position.1

  own_step : IsCyclicStep T K level.members.items level.p level.g M
  own_step = record {
    positive = positive;
    two_or_three = only.is_level.two_or_three;
    divides = divides;
    inner_divides = inner;
    same_order = low.same_order;
    part = part.0;
    quotient = quotient.0;
    index = quotient.1;
    generator = ap to_nat quotient.2 ∙ sym (numbers_of (to_nat position.0) (to_nat-lt position.0)) ∙ position.1;
    count = sym low.count;
    member = λ i. sym (part.1 i) ∙ numbers_of (to_nat (part.0.place i)) (to_nat-lt (part.0.place i));
  }

pub unit_step : {h k : ℕ} (T : PhaseTable h) (level : Level) → IsOnlyLevel T level → (K : PhaseTable k) (members : List ℕ)
    → members ≡ level.members.items → IsRestriction T members K → (M : ℕ) → T.order ∣ M → 0 < M → IsCyclicStep T K members level.p level.g M
unit_step T level only K members e low M divides positive = subst (λ ms. IsCyclicStep T K ms level.p level.g M) (sym e)
    (own_step T level only K (subst (λ ms. IsRestriction T ms K) e low) M divides positive)

module _ {S : Type 0} {G : Ghosts S} (M : ℕ) (m : Mat S G) (rows : m.rows ≡ 1) (cols : m.cols ≡ 1)
    (order : first_order G.order_of m.entries.items ≡ M) (value : matrix_of G.value M 1 1 m.entries.items ≡ unit (numbers M) 1) where
  unit_single : IsSingle M m
  unit_single = record { rows = rows; cols = cols; order = order; within = subst (IsWithin M 1 1) (sym value) (within-unit M 1) }

  module _ (none mats : List (Mat S G)) (empty : none ≡ []) (pushed : mats ≡ none ++ m ∷ []) where
    pub unit_singles : SinglesSoFar M 1 mats
    unit_singles = singles-more M 0 none mats m (singles-none M none empty) pushed unit_single

    only_matrix : mats ≡ m ∷ []
    only_matrix = pushed ∙ ap (λ zs. zs ++ m ∷ []) empty

    unit_at : {k : ℕ} → k ≡ 1 → (i : Fin k) → matrix_at M 1 mats i ≡ unit (numbers M) 1
    unit_at one i = subst (λ ms. matrix_at M 1 ms i ≡ unit (numbers M) 1) (sym only_matrix)
        (matrix_at-item M 1 (m ∷ []) 0 m (let l : 0 < length (m ∷ []) = omega arith in l) refl i
        (let l = to_nat-lt i in omega (arith, l, one)) ∙ value)

    module _ {h k : ℕ} {T : PhaseTable h} {K : PhaseTable k} {members : List ℕ} {p g : ℕ} (step : IsCyclicStep T K members p g M) (one : k ≡ 1) where
      abbrev pub unit_on : Representation (inner_phases step) 1
      unit_on = unit_family (inner_phases step) one

      pub unit_simple_fixed : IsSimpleFixed step unit_on
      unit_simple_fixed = record {
        positive = omega arith;
        few = omega (arith, one);
        simple = unit_simple (inner_phases step) one;
        fixed = unit_fixed (step_subgroup step) step.quotient one;
      }

      pub unit_matrices : (f : Family S G) → f.dim ≡ 1 → f.mats.items ≡ mats → HasMatrices step unit_on f
      unit_matrices f dim e = record {
        size = dim;
        shape = subst (HasShape M k 1) (sym e) (subst (λ n. HasShape M n 1 mats) (sym one) (singles-shape M 1 mats unit_singles));
        matrices = λ i. subst (λ ms. matrix_at M 1 ms i ≡ unit (numbers M) 1) (sym e) (unit_at one i);
      }

-- one power of z for each row
pub small_traces : {S : Type 0} (order : S → ℕ) (value : (n : ℕ) → S → Number n) {h k : ℕ} {T : PhaseTable h} {K : PhaseTable k} {members : List ℕ}
    {p g M : ℕ} (step : IsCyclicStep T K members p g M) {d : ℕ} (D : Representation (inner_phases step) d) (s : Fin k → Number M) (xs : List S)
    → AreExtensionTraces step.quotient D s → IsRowOf order value M s xs → AreSmall order value M d xs
small_traces order value {k = k} {T = T} {M = M} step {d} D s xs a r j x l =
    let below : j < k = subst (λ n. j < n) r.count l in
    let n = from_nat k j below in
    let here : value M (get_or xs j x) ≡ s n = sym (get_or-map (value M) xs j x (numbers M).zero l)
    ∙ ap (λ i. get_or (map (value M) xs) i (numbers M).zero) (sym (to_nat-from_nat k j below)) ∙ r.numbers_at n in
    record {
      has_order = r.orders j x l;
      few = subst (IsRootSum M d 1) (a.trace-coset n ∙ sym here)
          (trace-IsRootSum M step.positive T step.divides a.family (T.product step.quotient.generator (step.part.place n)));
    }
