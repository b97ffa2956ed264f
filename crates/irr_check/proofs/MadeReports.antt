-- Representations of one row, made for tests.
--   limited_singles      matrices of one entry are within the limits
--   RootsSoFar           the first k numbers of a row of powers of z
--   roots-none, roots-more, limited_roots
--   two_pushed, all_two  lists of two
use Rattle.std.proofs.Common.{◌≡◌, sym, ◌∙◌, ap, subst, refl, ℕ, ◌+◌, ◌^◌, ◌<◌, List, [], ◌∷◌, ◌++◌, length, length-append, map, All, arith}
use Rattle.std.proofs.lemmas.List.Elements.{All-nil, All-push}
use Rattle.std.proofs.lemmas.List.{get_or-map}
use Rattle.irr_algebra.specs.Fin.{Fin, to_nat}
use Rattle.irr_algebra.proofs.Indices.{to_nat-lt}
use Rattle.irr_number.specs.Number.{Number, numbers}
use Rattle.irr_canonical.specs.RootSum.{IsRootSum}
use Rattle.irr_canonical.proofs.RootSums.{IsRootSum-more}
use Rattle.irr_cyc.specs.declared.scalars.Scalar.{Ghosts}
use Rattle.irr_mat.specs.declared.matrices.Mat.{Mat}
use Rattle.irr_mat.specs.Entries.{matrix_of}
use Rattle.irr_mat.specs.Size.{IsWithin}
use Rattle.irr_mat.proofs.Bounds.{within-more}
use Rattle.irr_rep.specs.Defects.{IsLimited}
use Rattle.irr_rep.specs.Family.{matrix_at}
use Rattle.irr_rep.proofs.Families.{matrix_at-item}
use Rattle.irr_rep.proofs.SingleEntries.{SinglesSoFar, item}
use Rattle.irr_char.specs.Rows.{row_of}
use Rattle.irr_report.specs.Limits.{IsLimitedRow}

module _ {S : Type 0} {G : Ghosts S} (n : ℕ) where
  pub limited_singles : (h : ℕ) (mats : List (Mat S G)) → SinglesSoFar n h mats → IsLimited n h 1 1 mats
  limited_singles h mats s = record {
    shape = record {
      count = s.count;
      positive = omega arith;
      rows = λ k d l. (s.single k d l).rows;
      cols = λ k d l. (s.single k d l).cols;
      orders = λ k d l. (s.single k d l).order;
    };
    few = omega arith;
    limited = omega arith;
    within = within;
  }
    where
      within : (i : Fin h) → IsWithin n (2 ^ 30) 1 (matrix_at n 1 mats i)
      within i =
          let l : to_nat i < length mats = subst (λ k. to_nat i < k) (sym s.count) (to_nat-lt i) in
          let m = item mats (to_nat i) l in
          within-more n 1 1 1 (2 ^ 30) 1 (matrix_at n 1 mats i) (omega arith)
          (subst (IsWithin n 1 1) (sym (matrix_at-item n 1 mats (to_nat i) m.0 l m.1 i refl))
          (subst (λ u. IsWithin n 1 1 (matrix_of G.value n 1 1 u.entries.items)) (sym m.1) (s.single (to_nat i) m.0 l).within))

module _ {S : Type 0} (order : S → ℕ) (value : (m : ℕ) → S → Number m) (n : ℕ) where
  pub record RootsSoFar (k : ℕ) (row : List S) : Type 0 where
    pub count : length row ≡ k
    pub orders : All (λ x. order x ≡ n) row
    pub roots : All (λ x. IsRootSum n 1 1 (value n x)) row

  pub roots-none : (row : List S) → row ≡ [] → RootsSoFar 0 row
  roots-none row e = record {
    count = ap length e;
    orders = subst (All (λ x. order x ≡ n)) (sym e) (All-nil (λ x. order x ≡ n));
    roots = subst (All (λ x. IsRootSum n 1 1 (value n x))) (sym e) (All-nil (λ x. IsRootSum n 1 1 (value n x)));
  }

  pub roots-more : (k : ℕ) (row after : List S) (x : S) → RootsSoFar k row → after ≡ row ++ x ∷ [] → order x ≡ n → IsRootSum n 1 1 (value n x)
      → RootsSoFar (k + 1) after
  roots-more k row after x s e o r = record {
    count = ap length e ∙ length-append row (x ∷ []) ∙ ap (λ j. j + 1) s.count;
    orders = subst (All (λ y. order y ≡ n)) (sym e) (All-push (λ y. order y ≡ n) row x s.orders o);
    roots = subst (All (λ y. IsRootSum n 1 1 (value n y))) (sym e) (All-push (λ y. IsRootSum n 1 1 (value n y)) row x s.roots r);
  }

  pub limited_roots : (h : ℕ) (row : List S) → RootsSoFar h row → IsLimitedRow order value n h 1 row
  limited_roots h row s = record { count = s.count; orders = s.orders; within = within }
    where
      within : (i : Fin h) → IsRootSum n (2 ^ 30) 1 (row_of n (map (value n) row) i)
      within i =
          let l : to_nat i < length row = subst (λ k. to_nat i < k) (sym s.count) (to_nat-lt i) in
          let m = item row (to_nat i) l in
          IsRootSum-more n (2 ^ 30) (omega arith)
          (subst (IsRootSum n 1 1) (sym (get_or-map (value n) row (to_nat i) m.0 (numbers n).zero l)) (s.roots (to_nat i) m.0 l))

pub two_pushed : {A : Type 0} (xs ys zs : List A) (a b : A) → xs ≡ [] → ys ≡ xs ++ a ∷ [] → zs ≡ ys ++ b ∷ [] → zs ≡ a ∷ b ∷ []
two_pushed xs ys zs a b e f g = g ∙ ap (λ l. l ++ b ∷ []) (f ∙ ap (λ l. l ++ a ∷ []) e)

pub all_two : {A : Type 0} (P : A → Type 0) (a b : A) → P a → P b → All P (a ∷ b ∷ [])
all_two P a b p q = All-push P (a ∷ []) b (All-push P [] a (All-nil P) p) q
