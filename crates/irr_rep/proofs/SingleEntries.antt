-- Families of matrices of one row, made one after another.
--   item                              what stands at a place
--   only_item, single_order, single_within        a list of one number
--   IsSingle n m                      m has one row and one column, and its entry is a power of z of the order n
--   SinglesSoFar, singles-none, singles-more      the first k of them
--   checkable_singles                 the family of them can be checked
use Rattle.std.proofs.Common.{◌≡◌, sym, ◌∙◌, ap, subst, ℕ, ◌+◌, ◌<◌, ◌^◌, List, [], ◌∷◌, ◌++◌, length, length-append, get_or, refl, arith}
use Rattle.std.specs.List.{All}
use Rattle.std.specs.Int.{◌∣◌}
use Rattle.std.proofs.lemmas.List.{get_or_default}
use Rattle.std.proofs.lemmas.List.Elements.{All-nil, All-push}
use Rattle.irr_algebra.specs.Fin.{Fin, to_nat}
use Rattle.irr_algebra.proofs.Indices.{to_nat-lt}
use Rattle.irr_cyc.specs.declared.scalars.Scalar.{Ghosts}
use Rattle.irr_mat.specs.declared.matrices.Mat.{Mat}
use Rattle.irr_number.specs.Number.{Number}
use Rattle.irr_canonical.specs.RootSum.{IsRootSum}
use Rattle.irr_mat.specs.Entries.{HaveOneOrder, first_order, matrix_of}
use Rattle.irr_mat.specs.Size.{IsWithin}
use Rattle.irr_mat.proofs.Bounds.{within-list, within-more}
use Rattle.irr_mat.proofs.Entries.{one_order}
use Rattle.irr_space.specs.PhaseTable.{PhaseTable}
use Rattle.irr_rep.specs.Defects.{IsCheckable}
use Rattle.irr_rep.specs.Family.{matrix_at}
use Rattle.irr_rep.proofs.Families.{matrix_at-item}

-- what stands at a place
pub item : {A : Type 0} (xs : List A) (k : ℕ) → k < length xs → (x : A) × (x ≡ get_or xs k x)
item [] k l = absurd (omega arith)
item (y ∷ ys) k l = (get_or (y ∷ ys) k y, sym (get_or_default (y ∷ ys) k (get_or (y ∷ ys) k y) y l))

-- a list of one number
pub only_item : {A : Type 0} (xs old : List A) (x : A) → xs ≡ old ++ x ∷ [] → old ≡ [] → xs ≡ x ∷ []
only_item xs old x e f = e ∙ ap (λ ys. ys ++ x ∷ []) f

pub single_order : {S : Type 0} (order : S → ℕ) (n : ℕ) (xs : List S) (x : S) → xs ≡ x ∷ [] → order x ≡ n → HaveOneOrder order xs
single_order order n xs x e o = subst (HaveOneOrder order) (sym e)
    (one_order order n (x ∷ []) (All-push (λ y. order y ≡ n) [] x (All-nil (λ y. order y ≡ n)) o) (omega arith)).1

pub single_within : {S : Type 0} (value : (n : ℕ) → S → Number n) (n : ℕ) (xs : List S) (x : S) → xs ≡ x ∷ [] → IsRootSum n 1 1 (value n x)
    → IsWithin n 1 1 (matrix_of value n 1 1 xs)
single_within value n xs x e r = subst (λ ys. IsWithin n 1 1 (matrix_of value n 1 1 ys)) (sym e)
    (within-list value n 1 1 1 1 (x ∷ []) (omega arith) (omega arith)
    (All-push (λ y. IsRootSum n 1 1 (value n y)) [] x (All-nil (λ y. IsRootSum n 1 1 (value n y))) r))

module _ {S : Type 0} {G : Ghosts S} (n : ℕ) where
  pub record IsSingle (m : Mat S G) : Type 0 where
    pub rows : m.rows ≡ 1
    pub cols : m.cols ≡ 1
    pub order : first_order G.order_of m.entries.items ≡ n
    pub within : IsWithin n 1 1 (matrix_of G.value n 1 1 m.entries.items)

  pub record SinglesSoFar (k : ℕ) (mats : List (Mat S G)) : Type 0 where
    pub count : length mats ≡ k
    pub single : All IsSingle mats

  pub singles-none : (mats : List (Mat S G)) → mats ≡ [] → SinglesSoFar 0 mats
  singles-none mats e = record { count = ap length e; single = subst (All IsSingle) (sym e) (All-nil IsSingle) }

  pub singles-more : (k : ℕ) (mats after : List (Mat S G)) (m : Mat S G) → SinglesSoFar k mats → after ≡ mats ++ m ∷ [] → IsSingle m
      → SinglesSoFar (k + 1) after
  singles-more k mats after m s e is = record {
    count = ap length e ∙ length-append mats (m ∷ []) ∙ ap (λ j. j + 1) s.count;
    single = subst (All IsSingle) (sym e) (All-push IsSingle mats m s.single is);
  }

  pub checkable_singles : {h : ℕ} (T : PhaseTable h) (v : T.order ∣ n) (mats : List (Mat S G)) → SinglesSoFar h mats → IsCheckable T 1 mats
  checkable_singles {h} T v mats s = record {
    n = n;
    divides = v;
    denominator = 1;
    limits = record {
      shape = record {
        count = s.count;
        positive = omega arith;
        rows = λ k d l. (s.single k d l).rows;
        cols = λ k d l. (s.single k d l).cols;
        orders = λ k d l. (s.single k d l).order;
      };
      few = omega arith;
      limited = omega arith;
      within = within;
    };
  }
    where
      within : (i : Fin h) → IsWithin n (2 ^ 30) 1 (matrix_at n 1 mats i)
      within i =
          let l : to_nat i < length mats = subst (λ k. to_nat i < k) (sym s.count) (to_nat-lt i) in
          let m = item mats (to_nat i) l in
          within-more n 1 1 1 (2 ^ 30) 1 (matrix_at n 1 mats i) (omega arith)
          (subst (IsWithin n 1 1) (sym (matrix_at-item n 1 mats (to_nat i) m.0 l m.1 i refl))
          (subst (λ u. IsWithin n 1 1 (matrix_of G.value n 1 1 u.entries.items)) (sym m.1) (s.single (to_nat i) m.0 l).within))
