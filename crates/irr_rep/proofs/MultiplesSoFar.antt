-- The matrices of a family times a number, one after another.
--   IsMultipleSoFar                                  the first k of them
--   multiples-none, multiples-more, multiples-all
use Rattle.std.proofs.Common.{◌≡◌, sym, ◌∙◌, ap, subst, refl, ℕ, ◌+◌, ◌<◌, ◌⊎◌, inl, inr, List, [], ◌∷◌, ◌++◌, length, length-append, get_or, arith}
use Rattle.std.proofs.Math.Seq.{get_or-append_seam}
use Rattle.std.proofs.lemmas.Bool.{cases_lt}
use Rattle.std.proofs.lemmas.List.{get_or_append_left, get_or_default}
use Rattle.irr_algebra.specs.Fin.{Fin, to_nat}
use Rattle.irr_algebra.specs.Matrix.{scale}
use Rattle.irr_algebra.specs.Ring.{whole}
use Rattle.irr_algebra.proofs.Indices.{from_nat, to_nat-from_nat, to_nat-lt}
use Rattle.irr_number.specs.Number.{numbers}
use Rattle.irr_cyc.specs.declared.scalars.Scalar.{Ghosts}
use Rattle.irr_mat.specs.declared.matrices.Mat.{Mat}
use Rattle.irr_rep.specs.Family.{HasShape, matrix_at}
use Rattle.irr_rep.specs.Defects.{AreMultiples, IsMatrix}
use Rattle.irr_rep.proofs.Families.{matrix_at-item}
use Rattle.irr_rep.proofs.SingleEntries.{item}

module _ {S : Type 0} {G : Ghosts S} (d q : ℕ) (mats : List (Mat S G)) where
  -- m is the matrix at the place i, times q
  abbrev pub IsMultiple : {h : ℕ} (n : ℕ) → Fin h → Mat S G → Type 0
  IsMultiple n i m = IsMatrix n d (scale (numbers n) (whole (numbers n) q) (matrix_at n d mats i)) m

  pub record AreMultiplesSoFar (k : ℕ) (xs : List (Mat S G)) : Type 0 where
    pub count : length xs ≡ k
    pub each : (n h : ℕ) → HasShape n h d mats → (i : Fin h) (m : Mat S G) → to_nat i < k → m ≡ get_or xs (to_nat i) m → IsMultiple n i m

  pub multiples-none : (xs : List (Mat S G)) → xs ≡ [] → AreMultiplesSoFar 0 xs
  multiples-none xs e = record { count = ap length e; each = λ n h s i m l is. absurd (omega arith) }

  pub multiples-more : (k : ℕ) (xs after : List (Mat S G)) (x : Mat S G) → AreMultiplesSoFar k xs → after ≡ xs ++ x ∷ []
      → ((n h : ℕ) → HasShape n h d mats → (i : Fin h) → to_nat i ≡ k → IsMultiple n i x) → AreMultiplesSoFar (k + 1) after
  multiples-more k xs after x f e last = record {
    count = ap length e ∙ length-append xs (x ∷ []) ∙ ap (λ j. j + 1) f.count;
    each = λ n h s i m l is. at n h s i m (is ∙ ap (λ ys. get_or ys (to_nat i) m) e) (before (to_nat i) l);
  }
    where
      before : (i : ℕ) → i < k + 1 → (i < k) ⊎ (i ≡ k)
      before i l = elim (cases_lt i k) [
        | inl a ↦ inl a
        | inr b ↦ inr (omega (arith, b, l))
      ]

      at : (n h : ℕ) → HasShape n h d mats → (i : Fin h) (m : Mat S G) → m ≡ get_or (xs ++ x ∷ []) (to_nat i) m → (to_nat i < k) ⊎ (to_nat i ≡ k)
          → IsMultiple n i m
      at n h s i m is (inl l) = f.each n h s i m l (is ∙ get_or_append_left xs (x ∷ []) m (to_nat i) (subst (λ j. to_nat i < j) (sym f.count) l))
      at n h s i m is (inr b) = subst (IsMultiple n i)
          (sym (is ∙ ap (λ j. get_or (xs ++ x ∷ []) j m) (b ∙ sym f.count) ∙ get_or-append_seam xs x [] m)) (last n h s i b)

  pub multiples-all : (k : ℕ) (xs : List (Mat S G)) → AreMultiplesSoFar k xs → k ≡ length mats → (n h : ℕ) → HasShape n h d mats
      → AreMultiples n h d q mats xs
  multiples-all k xs f e n h s = record {
    shape = record {
      count = full;
      positive = s.positive;
      rows = λ j m l. (single j m l).rows;
      cols = λ j m l. (single j m l).cols;
      orders = λ j m l. (single j m l).order;
    };
    multiple = λ i.
        let l : to_nat i < length xs = subst (λ j. to_nat i < j) (sym full) (to_nat-lt i) in
        let m = item xs (to_nat i) l in
        matrix_at-item n d xs (to_nat i) m.0 l m.1 i refl ∙ (f.each n h s i m.0 (subst (λ j. to_nat i < j) f.count l) m.1).value;
  }
    where
      full : length xs ≡ h
      full = f.count ∙ e ∙ s.count

      single : (j : ℕ) (m : Mat S G) (l : j < length xs) → IsMultiple n (from_nat h j (subst (λ k. j < k) full l)) (get_or xs j m)
      single j m l =
          let b : j < h = subst (λ k. j < k) full l in
          f.each n h s (from_nat h j b) (get_or xs j m) (subst (λ u. u < k) (sym (to_nat-from_nat h j b)) (subst (λ u. j < u) f.count l))
          (get_or_default xs j m (get_or xs j m) l ∙ ap (λ u. get_or xs u (get_or xs j m)) (sym (to_nat-from_nat h j b)))
