-- The list of the subgroup of the unit: one family of size 1.
--   unit_on                  a family of the program whose one matrix is the unit is a full list on the subgroup of the unit
use Rattle.std.specs.Prelude.{ℕ, ◌≡◌, ◌<◌, List, [], ◌∷◌, length}
use Rattle.std.specs.Int.{◌∣◌}
use Rattle.std.proofs.Common.{sym, ◌∙◌, ap, subst, refl, get_or, arith}
use native.Mathlib.Nat as Nat
use Rattle.std.proofs.lemmas.List.Elements.{All-nil, All-push}
use Rattle.irr_algebra.specs.Ring.{Ring}
use Rattle.irr_algebra.specs.Fin.{Fin, to_nat}
use Rattle.irr_algebra.specs.Matrix.{Matrix, trace, unit}
use Rattle.irr_algebra.proofs.Indices.{only_first, to_nat-lt}
use Rattle.irr_algebra.proofs.Matrices.{trace-unit}
use Rattle.irr_number.specs.Number.{numbers}
use Rattle.irr_theory.specs.FactorSystem.{FactorSystem}
use Rattle.irr_theory.specs.Representations.{count_total, IsFull, Representations}
use Rattle.irr_space.specs.PhaseTable.{PhaseTable, phases_over}
use Rattle.irr_canonical.specs.RootSum.{IsRootSum}
use Rattle.irr_cyc.specs.declared.scalars.Scalar.{Ghosts}
use Rattle.irr_mat.specs.declared.matrices.Mat.{Mat}
use Rattle.irr_mat.specs.Entries.{first_order, matrix_of}
use Rattle.irr_mat.specs.Size.{IsWithin}
use Rattle.irr_mat.proofs.Bounds.{within-unit}
use Rattle.irr_rep.specs.declared.family.Family.{Family}
use Rattle.irr_rep.specs.Family.{HasShape, matrix_at}
use Rattle.irr_rep.proofs.Families.{matrix_at-item}
use Rattle.irr_rep.proofs.TraceRoots.{IsRootSum-whole}
use Rattle.irr_root.proofs.UnitFamilies.{unit_family, unit_simple}
use Rattle.irr_climb.specs.Families.{IsRead}
use Rattle.irr_climb.specs.Lists.{IsFullOn}
use Rattle.irr_climb.specs.Sizes.{IsSized, size_bound}
use Rattle.irr_climb.proofs.FamilyLists.{read_one}
use Rattle.irr_climb.proofs.OverMember.{sized_of_one}
use Rattle.irr_climb.proofs.SharpSizes.{few_one, small_one}

module _ {R : Ring} (P : FactorSystem R) (one : P.places ≡ 1) where
  abbrev unit_list : Representations P
  unit_list = record { count = 1; size = λ m. 1; member = λ m. unit_family P one }

  unit_full : IsFull unit_list
  unfolding count_total
  unit_full = record {
    positive = λ m. omega arith;
    simple = λ m. unit_simple P one;
    inequivalent = λ m n d e. d (sym (only_first m) ∙ only_first n);
    squares = sym one;
  }

module _ {S : Type 0} {G : Ghosts S} (M : ℕ) (f : Family S G) (m : Mat S G) (dim : f.dim ≡ 1) (mats : f.mats.items ≡ m ∷ [])
    (rows : m.rows ≡ 1) (cols : m.cols ≡ 1)
    (order : first_order G.order_of m.entries.items ≡ M) (value : matrix_of G.value M 1 1 m.entries.items ≡ unit (numbers M) 1) where
  all_one : (P : Mat S G → Type 0) → P m → (k : ℕ) (d : Mat S G) → k < length (m ∷ []) → P (get_or (m ∷ []) k d)
  all_one P p = All-push P [] m (All-nil P) p

  shape_of_one : (n : ℕ) → n ≡ 1 → HasShape M n 1 f.mats.items
  shape_of_one n e = subst (HasShape M n 1) (sym mats) (record {
    count = sym e;
    positive = omega arith;
    rows = all_one (λ (a : Mat S G). a.rows ≡ 1) rows;
    cols = all_one (λ (a : Mat S G). a.cols ≡ 1) cols;
    orders = all_one (λ (a : Mat S G). first_order G.order_of a.entries.items ≡ M) order;
  })

  unit_matrix : (n : ℕ) → n ≡ 1 → (i : Fin n) → matrix_at M 1 f.mats.items i ≡ unit (numbers M) 1
  unit_matrix n e i = subst (λ ms. matrix_at M 1 ms i ≡ unit (numbers M) 1) (sym mats)
      (matrix_at-item M 1 (m ∷ []) 0 m (let l : 0 < length (m ∷ []) = omega arith in l) refl i
      (let l = to_nat-lt i in omega (arith, l, e)) ∙ value)

  unit_read : (P : FactorSystem (numbers M)) → (one : P.places ≡ 1) → IsRead M P (unit_family P one) f
  unit_read P one = record { size = dim; shape = shape_of_one P.places one; matrices = λ i. unit_matrix P.places one i }

  unit_entries : (i : Fin 1) → IsWithin M 1 1 (matrix_at M f.dim f.mats.items i)
  unit_entries i = subst (λ d. IsWithin M 1 1 (matrix_at M d f.mats.items i)) (sym dim)
      (subst (IsWithin M 1 1) (sym (unit_matrix 1 refl i)) (within-unit M 1))

  unit_sized : IsSized M 1 f
  unfolding size_bound
  unit_sized = record {
    denominator = 1;
    small = omega arith;
    within = λ i. unit_entries i;
    sharp = record {
      divides = subst (λ k. k ∣ 1) (sym dim) (Nat.dvd_refl 1);
      powers = 1;
      over = 1;
      few = few_one 1 f.dim;
      small = small_one 1;
      entries = λ i. unit_entries i;
      traces = λ i. subst (λ d. IsRootSum M d 1 (trace (matrix_at M d f.mats.items i))) (sym dim)
          (subst (λ (a : Matrix (numbers M) 1 1). IsRootSum M 1 1 (trace a)) (sym (unit_matrix 1 refl i))
          (subst (IsRootSum M 1 1) (sym (trace-unit (numbers M) 1)) (IsRootSum-whole M 1)));
    };
  }

  pub unit_on : {h : ℕ} (T : PhaseTable h) (fs : List (Family S G)) → fs ≡ f ∷ [] → IsFullOn T M (0 ∷ []) fs
  unit_on T fs e = subst (λ gs. IsFullOn T M (0 ∷ []) gs) (sym e) (record {
    full = λ n U r w. (let one : n ≡ 1 = r.count in record {
      list = unit_list (phases_over U M w) one;
      read = read_one M (phases_over U M w) (unit_family (phases_over U M w) one) f (unit_read (phases_over U M w) one);
      full = unit_full (phases_over U M w) one;
    });
    sized = sized_of_one M 1 (f ∷ []) f refl unit_sized;
  })
