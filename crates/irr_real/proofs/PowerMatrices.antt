-- Families of matrices whose entries are powers of z or 0, for the tests.
--   PowersSoFar, powers_none, powers_more       the first k entries of a matrix
--   powers_orders, powers_within                all of them
--   IsPowerMatrix, MatricesSoFar, matrices_none, matrices_more      the first k matrices of a family
--   within, shape        its sizes
--   checkable            such a family can be checked
--   represented          where no defect is found, it is a small representation
--   small_family         a small one
use Rattle.std.proofs.Common.{◌≡◌, sym, ◌∙◌, ap, subst, refl, ℕ, ◌+◌, ◌*◌, ◌<◌, ◌≤◌, ◌^◌, List, [], ◌∷◌, ◌++◌, length}
use Rattle.std.proofs.Common.{length-append, Option, None, arith}
use Rattle.std.specs.List.{All}
use Rattle.std.specs.Int.{◌∣◌}
use Rattle.std.proofs.lemmas.List.Elements.{All-nil, All-push}
use native.Mathlib.Nat as Nat
use Rattle.irr_algebra.specs.Fin.{Fin, to_nat}
use Rattle.irr_algebra.proofs.Indices.{to_nat-lt}
use Rattle.irr_number.specs.Number.{Number}
use Rattle.irr_canonical.specs.RootSum.{IsRootSum}
use Rattle.irr_space.specs.PhaseTable.{PhaseTable}
use Rattle.irr_cyc.specs.declared.scalars.Scalar.{Ghosts}
use Rattle.irr_mat.specs.declared.matrices.Mat.{Mat}
use Rattle.irr_mat.specs.Entries.{first_order, HaveOneOrder, matrix_of}
use Rattle.irr_mat.specs.Size.{IsWithin}
use Rattle.irr_mat.proofs.Bounds.{within-list, within-more}
use Rattle.irr_mat.proofs.Entries.{one_order}
use Rattle.irr_rep.specs.Defects.{IsCheckable, IsFirstDefect}
use Rattle.irr_rep.specs.declared.family.Defect.{Defect}
use Rattle.irr_rep.specs.declared.family.Family.{Family}
use Rattle.irr_rep.specs.Family.{HasShape, IsRepresentationOf, matrix_at, representation}
use Rattle.irr_rep.proofs.Families.{matrix_at-item, representation-at}
use Rattle.irr_rep.proofs.SingleEntries.{item}
use Rattle.irr_real.specs.Families.{IsSmallFamily}
use Rattle.irr_real.proofs.FamilyTraces.{short_traces}

module _ {S : Type 0} (order : S → ℕ) (value : (n : ℕ) → S → Number n) (n : ℕ) where
  pub record PowersSoFar (k : ℕ) (xs : List S) : Type 0 where
    pub count : length xs ≡ k
    pub orders : All (λ x. order x ≡ n) xs
    pub few : All (λ x. IsRootSum n 1 1 (value n x)) xs

  pub powers_none : (xs : List S) → xs ≡ [] → PowersSoFar 0 xs
  powers_none xs e = record {
    count = ap length e;
    orders = subst (All (λ x. order x ≡ n)) (sym e) (All-nil (λ x. order x ≡ n));
    few = subst (All (λ x. IsRootSum n 1 1 (value n x))) (sym e) (All-nil (λ x. IsRootSum n 1 1 (value n x)));
  }

  pub powers_more : (k : ℕ) (xs after : List S) (x : S) → PowersSoFar k xs → after ≡ xs ++ x ∷ [] → order x ≡ n
      → IsRootSum n 1 1 (value n x)
      → PowersSoFar (k + 1) after
  powers_more k xs after x s e o r = record {
    count = ap length e ∙ length-append xs (x ∷ []) ∙ ap (λ j. j + 1) s.count;
    orders = subst (All (λ x. order x ≡ n)) (sym e) (All-push (λ x. order x ≡ n) xs x s.orders o);
    few = subst (All (λ x. IsRootSum n 1 1 (value n x))) (sym e)
        (All-push (λ x. IsRootSum n 1 1 (value n x)) xs x s.few r);
  }

  module _ (d : ℕ) (some : 0 < d) (xs : List S) (s : PowersSoFar (d * d) xs) where
    pub powers_orders : (first_order order xs ≡ n) × HaveOneOrder order xs
    powers_orders = one_order order n xs s.orders (subst (λ k. 0 < k) (sym s.count) (Nat.mul-pos some some))

    pub powers_within : IsWithin n 1 1 (matrix_of value n d d xs)
    powers_within = within-list value n d d 1 1 xs (omega arith) s.count s.few

module _ {S : Type 0} {G : Ghosts S} (n d : ℕ) where
  pub record IsPowerMatrix (m : Mat S G) : Type 0 where
    pub rows : m.rows ≡ d
    pub cols : m.cols ≡ d
    pub order : first_order G.order_of m.entries.items ≡ n
    pub within : IsWithin n 1 1 (matrix_of G.value n d d m.entries.items)

  pub record MatricesSoFar (k : ℕ) (mats : List (Mat S G)) : Type 0 where
    pub count : length mats ≡ k
    pub each : All IsPowerMatrix mats

  pub matrices_none : (mats : List (Mat S G)) → mats ≡ [] → MatricesSoFar 0 mats
  matrices_none mats e = record {
    count = ap length e;
    each = subst (All IsPowerMatrix) (sym e)
        (All-nil IsPowerMatrix);
  }

  pub matrices_more : (k : ℕ) (mats after : List (Mat S G)) (m : Mat S G) → MatricesSoFar k mats → after
      ≡ mats ++ m ∷ [] → IsPowerMatrix m
      → MatricesSoFar (k + 1) after
  matrices_more k mats after m s e is = record {
    count = ap length e ∙ length-append mats (m ∷ []) ∙ ap (λ j. j + 1) s.count;
    each = subst (All IsPowerMatrix) (sym e) (All-push IsPowerMatrix mats m s.each is);
  }

module _ {S : Type 0} {G : Ghosts S} {h : ℕ} (T : PhaseTable h) (n : ℕ) (limited : n ≤ 12000) (v : T.order ∣ n)
    (d : ℕ) (some : 0 < d) (few : d ≤ 2)
    (mats : List (Mat S G)) (s : MatricesSoFar n d h mats) where
  pub within : (i : Fin h) → IsWithin n 1 1 (matrix_at n d mats i)
  within i =
      let l : to_nat i < length mats = subst (λ k. to_nat i < k) (sym s.count) (to_nat-lt i) in
      let m = item mats (to_nat i) l in
      subst (IsWithin n 1 1) (sym (matrix_at-item n d mats (to_nat i) m.0 l m.1 i refl))
      (subst (λ u. IsWithin n 1 1 (matrix_of G.value n d d u.entries.items)) (sym m.1) (s.each (to_nat i) m.0 l).within)

  pub shape : HasShape n h d mats
  shape = record {
    count = s.count;
    positive = some;
    rows = λ k e l. (s.each k e l).rows;
    cols = λ k e l. (s.each k e l).cols;
    orders = λ k e l. (s.each k e l).order;
  }

  abbrev pub checkable : IsCheckable T d mats
  checkable = record {
    n = n;
    divides = v;
    denominator = 1;
    limits = record {
      shape = shape;
      few = omega (arith, few);
      limited = omega arith;
      within = λ i. within-more n d d 1 (2 ^ 30) 1 (matrix_at n d mats i) (omega arith) (within i);
    };
  }

  pub represented : (r : Option Defect) → r ≡ None → IsFirstDefect T n v d mats r → IsRepresentationOf T n v d mats
  unfolding IsFirstDefect
  represented r e is = subst (IsFirstDefect T n v d mats) e is

module _ {S : Type 0} {G : Ghosts S} {h : ℕ} (T : PhaseTable h) (n : ℕ) (limited : n ≤ 12000) (v : T.order ∣ n)
    (f : Family S G) (some : 0 < f.dim)
    (few : f.dim ≤ 2) (s : MatricesSoFar n f.dim h f.mats.items) (p : IsRepresentationOf T n v f.dim f.mats.items) where
  pub small_family : IsSmallFamily T n f
  small_family = record {
    divides = v;
    small = representation T n v f.dim f.mats.items p;
    family = record {
      size = refl;
      shape = shape T n limited v f.dim some few f.mats.items s;
      matrices = λ i. sym (representation-at T n v f.dim f.mats.items p i);
      few = omega (arith, few);
      fits = λ i. short_traces n f.dim 1 1 ((representation T n v f.dim f.mats.items p).at i)
          limited (omega (arith, few)) (omega arith) (omega arith)
          (subst (IsWithin n 1 1) (sym (representation-at T n v f.dim f.mats.items p i))
          (within T n limited v f.dim some few f.mats.items s i));
    };
  }
