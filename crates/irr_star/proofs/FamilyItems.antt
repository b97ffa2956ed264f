-- Matrices of a family, made one after another.
--   MatricesSoFar            the first k of h matrices
--   matrices_none, matrices_more     none, and one more
--   small_family             all of them are those of a small family
--   family_item              the matrix of a small family at a place
use Rattle.std.proofs.Common.{◌≡◌, sym, ◌∙◌, ap, subst, refl, ℕ, ◌+◌, ◌<◌, ◌⊎◌, inl, inr, List, [], ◌∷◌, ◌++◌, length}
use Rattle.std.proofs.Common.{get_or, length-append, arith}
use Rattle.std.proofs.Math.Seq.{get_or-append_seam}
use Rattle.std.proofs.lemmas.Bool.{cases_lt}
use Rattle.std.proofs.lemmas.List.{get_or_append_left, get_or_default}
use Rattle.irr_algebra.specs.Fin.{Fin, to_nat}
use Rattle.irr_algebra.specs.Matrix.{Matrix}
use Rattle.irr_algebra.proofs.Indices.{from_nat, to_nat-from_nat, to_nat-lt}
use Rattle.irr_number.specs.Number.{numbers}
use Rattle.irr_cyc.specs.declared.scalars.Scalar.{Ghosts}
use Rattle.irr_mat.specs.declared.matrices.Mat.{Mat}
use Rattle.irr_rep.specs.declared.family.Family.{Family}
use Rattle.irr_rep.specs.Defects.{IsMatrix}
use Rattle.irr_rep.specs.Family.{HasShape, matrix_at}
use Rattle.irr_rep.proofs.Families.{matrix_at-item}
use Rattle.irr_rep.proofs.MatrixForms.{item-matrix}
use Rattle.irr_star.specs.Sizes.{IsSmallFamily}

before_or_at : (a k : ℕ) → a < k + 1 → (a < k) ⊎ (a ≡ k)
before_or_at a k l = elim (cases_lt a k) [ inl m ↦ inl m | inr m ↦ inr (omega (arith, l, m)) ]

-- the first k items of a list are as P says
pub record ItemsSoFar {A : Type 0} {h : ℕ} (P : Fin h → A → Type 0) (k : ℕ) (xs : List A) : Type 0 where
  pub count : length xs ≡ k
  pub item : (i : Fin h) (e : A) → to_nat i < k → P i (get_or xs (to_nat i) e)

module _ {A : Type 0} {h : ℕ} (P : Fin h → A → Type 0) where
  pub items_none : (xs : List A) → xs ≡ [] → ItemsSoFar P 0 xs
  items_none xs e = record { count = ap length e; item = λ i d l. absurd (omega arith) }

  pub items_more : (k : ℕ) (xs after : List A) (x : A) → ItemsSoFar P k xs → after ≡ xs ++ x ∷ [] →
      ((i : Fin h) → to_nat i ≡ k → P i x)
      → ItemsSoFar P (k + 1) after
  items_more k xs after x s e is = record {
    count = ap length e ∙ length-append xs (x ∷ []) ∙ ap (λ j. j + 1) s.count;
    item = λ i d l. subst (λ ys. P i (get_or ys (to_nat i) d)) (sym e) (at i d (before_or_at (to_nat i) k l));
  }
    where
      at : (i : Fin h) (d : A) → (to_nat i < k) ⊎ (to_nat i ≡ k) → P i (get_or (xs ++ x ∷ []) (to_nat i) d)
      at i d (inl l) = subst (P i) (sym (get_or_append_left xs (x ∷ []) d (to_nat i)
          (subst (λ m. to_nat i < m) (sym s.count) l))) (s.item i d l)
      at i d (inr q) = subst (P i) (sym (ap (λ m. get_or (xs ++ x ∷ []) m d) (q ∙ sym s.count)
          ∙ get_or-append_seam xs x [] d)) (is i q)

pub item_of : {A : Type 0} (xs : List A) (k : ℕ) → k < length xs → (x : A) × (x ≡ get_or xs k x)
item_of [] k l = absurd (omega arith)
item_of (y ∷ ys) k l = (get_or (y ∷ ys) k y, sym (get_or_default (y ∷ ys) k (get_or (y ∷ ys) k y) y l))

module _ {S : Type 0} {G : Ghosts S} (n d : ℕ) {h : ℕ} (f : Fin h → Matrix (numbers n) d d) where
  abbrev pub MatricesSoFar : ℕ → List (Mat S G) → Type 0
  MatricesSoFar k mats = ItemsSoFar (λ i m. IsMatrix n d (f i) m) k mats

  pub matrices_none : (mats : List (Mat S G)) → mats ≡ [] → MatricesSoFar 0 mats
  matrices_none mats e = items_none (λ i m. IsMatrix n d (f i) m) mats e

  pub matrices_more : (k : ℕ) (mats after : List (Mat S G)) (m : Mat S G) → MatricesSoFar k mats
      → after ≡ mats ++ m ∷ []
      → ((i : Fin h) → to_nat i ≡ k → IsMatrix n d (f i) m) → MatricesSoFar (k + 1) after
  matrices_more k mats after m s e is = items_more (λ i m. IsMatrix n d (f i) m) k mats after m s e is

  module _ (mats : List (Mat S G)) (s : MatricesSoFar h mats) where
    at_index : (k : ℕ) (e : Mat S G) (l : k < length mats) → (i : Fin h) × IsMatrix n d (f i) (get_or mats k e)
    at_index k e l =
        let below : k < h = subst (λ j. k < j) s.count l in
        let i = from_nat h k below in
        (i, subst (λ j. IsMatrix n d (f i) (get_or mats j e)) (to_nat-from_nat h k below) (s.item i e (to_nat-lt i)))

    pub matrices_shape : 0 < d → HasShape n h d mats
    matrices_shape positive = record {
      count = s.count;
      positive = positive;
      rows = λ k e l. (at_index k e l).1.rows;
      cols = λ k e l. (at_index k e l).1.cols;
      orders = λ k e l. (at_index k e l).1.order;
    }

    pub matrices_at : (i : Fin h) → matrix_at n d mats i ≡ f i
    matrices_at i =
        let l : to_nat i < length mats = subst (λ k. to_nat i < k) (sym s.count) (to_nat-lt i) in
        let m = item_of mats (to_nat i) l in
        matrix_at-item n d mats (to_nat i) m.0 l m.1 i refl
        ∙ (subst (IsMatrix n d (f i)) (sym m.1) (s.item i m.0 (to_nat-lt i))).value

module _ {S : Type 0} {G : Ghosts S} (M : ℕ) {h d : ℕ} (D : Fin h → Matrix (numbers M) d d) where
  -- a family with the sizes of another one, and all its matrices
  pub small_family : (f made : Family S G) → IsSmallFamily M D f → made.dim ≡ f.dim
      → MatricesSoFar M d D h made.mats.items → IsSmallFamily M D made
  small_family f made is same s = record {
    size = same ∙ is.size;
    shape = matrices_shape M d D made.mats.items s is.shape.positive;
    matrices = matrices_at M d D made.mats.items s;
    few = is.few;
    denominator = is.denominator;
    small = is.small;
    entries = is.entries;
  }

  pub family_item : (f : Family S G) → IsSmallFamily M D f → (k : ℕ) (m : Mat S G) → k < length f.mats.items
      → m ≡ get_or f.mats.items k m
      → (q : Fin h) → to_nat q ≡ k → IsMatrix M d (D q) m
  family_item f is k m l e q place = subst (λ a. IsMatrix M d a m) (is.matrices q)
      (item-matrix M d f.mats.items k m l e is.shape q place)
